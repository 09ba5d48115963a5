-- What the code of a stretch answers on each of its paths, over plain lists and numbers. Assumes nothing.
use Prim.Native.Nat.{ℕ, ◌+◌, ◌-◌, ◌^◌, ◌≤◌, ◌<◌}
use mathlib.Core.Path.{◌≡◌}
use mathlib.Core.Bool.{false, ◌&&◌}
use mathlib.Core.List.{List}
use borrow.Author.Tests.{lt-ltb, le-ltb, eq-eqb, ne_eqb}
use lib.Dec.{eqb, leb, ltb, leb-suc-suc}
use lib.ListN.{length, get_or, set}
use Rattle.ahead_theory.specs.Locals.{fast_work}
use Rattle.stretch.specs.declared.Stage.{Stage}
use Rattle.stretch.specs.Stages.{fast_of, fits_for}

-- ---- a work step
module _ (tops : List ℕ) (last bound : ℕ) (rest queue : List ℕ) (at : Stage) where
  module _ (none : get_or rest at.place 0 ≡ 0) where
    pub stays_at_last : at.place ≡ last → fast_of rest queue at ≡ fast_work tops last bound (fast_of rest queue at)
    unfolding fast_work
    stays_at_last e = rw (eq-eqb (get_or rest at.place 0) 0 none, eq-eqb at.place last e)

    pub carries_one : (at.place ≡ last → ⊥)
        → fast_of (set rest at.place (get_or tops at.place 0)) queue
        (record { place = at.place + 1; tail = at.tail; steps = at.steps + 1 })
        ≡ fast_work tops last bound (fast_of rest queue at)
    unfolding fast_work
    carries_one n = rw (eq-eqb (get_or rest at.place 0) 0 none, ne_eqb at.place last n)

  module _ (some : get_or rest at.place 0 ≡ 0 → ⊥) where
    pub appends_one : at.tail < bound
        → fast_of (set rest at.place (get_or rest at.place 0 - 1)) (set queue at.tail at.place)
        (record { place = 1; tail = at.tail + 1; steps = at.steps + 1 })
        ≡ fast_work tops last bound (fast_of rest queue at)
    unfolding fast_work
    appends_one l = rw (ne_eqb (get_or rest at.place 0) 0 some, lt-ltb at.tail bound l)

    pub stays_full : bound ≤ at.tail → fast_of rest queue at ≡ fast_work tops last bound (fast_of rest queue at)
    unfolding fast_work
    stays_full l = rw (ne_eqb (get_or rest at.place 0) 0 some, le-ltb at.tail bound l)

-- ---- whether a stretch fits
module _ (last c limit : ℕ) (tops rest left bytes : List ℕ) (at : Stage) (done : ℕ) (out : List ℕ) where
  pub fits_none : length out < done → false ≡ fits_for last c limit tops rest left bytes at done out
  unfolding fits_for
  fits_none l = rw (lt-ltb (length out) done l)

  pub fits_some : done ≤ length out
      → (((eqb (length tops) 256 && (eqb (length rest) 256 && (eqb (length left) 256 && eqb (length bytes) 256)))
      && ((leb 1 last && ltb last 256)
      && (leb at.place last && (leb c 32 && (leb limit 1024 && leb at.steps (2 ^ 63))))))
      && leb limit (length out - done))
      ≡ fits_for last c limit tops rest left bytes at done out
  unfolding fits_for
  fits_some l = rw (le-ltb (length out) done l, leb-suc-suc last 255)
