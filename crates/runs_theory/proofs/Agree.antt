-- What both engines write is held to the list, and so to each other: two controllers, one on each, send their motors the same
-- moves.
use Prim.Native.Nat.{ℕ, zero, suc, ◌+◌, ◌-◌, ◌*◌, ◌≤◌, ◌<◌}
use Rattle.std.proofs.Math.Decide.{dec_lt}
use Rattle.std.proofs.Common.{zero-add, add-one, sym, ◌∙◌}
use native.Mathlib.Omega.{arith}
use Rattle.std.specs.Prelude.{◌≡◌, refl, Bool, true, length}
use Rattle.std.proofs.Math.Path.{ap, subst}
use mathlib.Core.List.{List, [], ◌∷◌, ◌++◌}
use borrow.Author.Tests.{lt-ltb, le-ltb}
use Rattle.gray_theory.specs.Answers.{Answer, given, refused}
use Rattle.gray_theory.specs.MoveBytes.{move_byte}
use Rattle.gray_theory.specs.Changes.{change}
use Rattle.gray_theory.specs.Radices.{digits, size}
use Rattle.gray_theory.proofs.Sizes.{size_pos}
use Rattle.gray_theory.specs.Locks.{unlocked}
use Rattle.gray_theory.specs.Engines.{Event, move_at, Handed, after, answer_of}
use Rattle.gray_theory.specs.RunCalls.{Stop, nothing, end, refusal, Ran, run_from, run_makes, run_with}
use Rattle.gray_theory.proofs.SingleCalls.{run_in_range_is_made}
use Rattle.gray_theory.specs.RunLaws.{Moved}
use Rattle.gray_theory.proofs.RunLaws.{moved_none, moved_more, all_made, ends_there, refused_there}
use Rattle.ahead_theory.specs.States as walks
use Rattle.ahead_theory.specs.Calls as ahead
use Rattle.ahead_theory.proofs.Openings as ahead-opens
use Rattle.ahead_theory.proofs.WorkAhead.{fresh_walks_work_ahead, fresh_walks_stay_in_range}
use Rattle.towers_theory.specs.States as games
use Rattle.towers_theory.specs.Calls as towers
use Rattle.towers_theory.proofs.Openings as towers-opens
use Rattle.towers_theory.proofs.DisksWalk.{disks-walk_the_list}
use Rattle.runs_theory.specs.MoveCalls.{opened_run, walk_moves_call, disk_moves_call, list_moves}
use Rattle.runs_theory.specs.Agree.{writes_first, Halts, Halts.ends, Halts.refuses, StopsAt}

-- one move more at the end
more_moves : (ms : List ℕ) (j t : ℕ)
    → list_moves ms j (suc t) ≡ list_moves ms j t ++ (move_byte (change ms (j + suc t)).digit (change ms (j + suc t)).down ∷ [])
unfolding list_moves
more_moves ms j zero = let z : suc j ≡ j + 1 = omega arith in ap (λ (i : ℕ). move_byte (change ms i).digit (change ms i).down ∷ []) z
more_moves ms j (suc t) =
    let z : suc j + suc t ≡ j + suc (suc t) = omega arith in
    ap (λ (l : List ℕ). move_byte (change ms (suc j)).digit (change ms (suc j)).down ∷ l)
    (more_moves ms (suc j) t
    ∙ ap (λ (i : ℕ). list_moves ms (suc j) t ++ (move_byte (change ms i).digit (change ms i).down ∷ [])) z)

module _ {S : Type 0} (call : S → Handed S Event) (ms : List ℕ) (r : ℕ) (s : S) (d : ℕ) (stop : Stop) (run : StopsAt call ms r s d stop) where
  -- the calls before call d write the list's moves
  moved_so_far : (k : ℕ) → k < d → Moved call s k (list_moves ms r k)
  unfolding list_moves
  moved_so_far zero h = moved_none call s
  moved_so_far (suc k) h =
      let here : suc k - 1 ≡ k = omega arith in
      let says : (call (after call s k)).answer ≡ given (move_at ms (r + suc k))
      = ap (λ (i : ℕ). (call (after call s i)).answer) (sym here) ∙ run.moves (suc k) (omega arith) h in
      subst (λ (l : List ℕ). Moved call s (suc k) l)
      (sym (more_moves ms r k))
      (subst (λ (i : ℕ). Moved call s i (list_moves ms r k ++ (move_byte (change ms (r + suc k)).digit (change ms (r + suc k)).down ∷ [])))
      (add-one k)
      (moved_more call s k (list_moves ms r k) (change ms (r + suc k)) _ (move_byte (change ms (r + suc k)).digit (change ms (r + suc k)).down)
      (moved_so_far k (omega arith))
      says
      refl))

  -- fewer calls than d: all of them move
  pub run_all : (t : ℕ) → t < d → run_from call s t ≡ record { state = after call s t; bytes = list_moves ms r t; stop = nothing }
  run_all t h = all_made call s t t (list_moves ms r t) (moved_so_far t h) refl

  -- call d is reached
  run_halted : (t : ℕ)
      → d ≤ t
      → run_from call s t ≡ record { state = (call (after call s (d - 1))).state; bytes = list_moves ms r (d - 1); stop = stop }
  run_halted t h = by run.halts
    where
      last : Ran S
      last = record { state = (call (after call s (d - 1))).state; bytes = list_moves ms r (d - 1); stop = stop }

      with : Stop → Ran S
      with x = record { state = (call (after call s (d - 1))).state; bytes = list_moves ms r (d - 1); stop = x }

      one : 1 ≤ d
      one = run.from_one

      by : Halts (answer_of call s d) stop → run_from call s t ≡ last
      by (ends says is) =
          let o = one in
          ends_there call s (d - 1) t (list_moves ms r (d - 1)) (moved_so_far (d - 1) (omega arith)) (omega arith) says
          ∙ ap with (sym is)
      by (refuses k says is) =
          let o = one in
          refused_there call s (d - 1) t (list_moves ms r (d - 1)) (moved_so_far (d - 1) (omega arith)) (omega arith) k says
          ∙ ap with (sym is)

  -- what an opening and the run after it write
  pub writes_first_lem : (in_range : S → Bool)
      → in_range s ≡ true
      → (t : ℕ) (out : List ℕ)
      → opened_run (given tt) (run_with in_range call s t out) out ≡ writes_first ms r d stop t out
  unfolding run_with
  writes_first_lem in_range ranged t out =
      elim (dec_lt (length out) t) [
        | yes short ↦ rw (ranged, lt-ltb (length out) t short)
        | no fits ↦
            elim (dec_lt t d) [
              | yes less ↦ rw (ranged, le-ltb (length out) t (omega (arith, fits)), run_all t less, lt-ltb t d less)
              | no more ↦
                  let h : d ≤ t = omega (arith, more) in
                  rw (ranged, le-ltb (length out) t (omega (arith, fits)), run_halted t h, le-ltb t d h)
            ]
      ]

-- ---- the buffered engine
-- from the start
from_start : (ms : List ℕ) (j : ℕ) → ◌≡◌ {A = Answer Event} (given (move_at ms j)) (given (move_at ms (0 + j)))
from_start ms j = ap (λ (i : ℕ). given (move_at ms i)) (sym (zero-add j))

module _ (radices : List ℕ) (c : ℕ) (accepted : (ahead.open_of ahead.closed_walk radices c).answer ≡ given tt) where
  abbrev ms : List ℕ
  ms = digits radices

  abbrev walk : walks.Walk
  walk = (ahead.open_of ahead.closed_walk radices c).state

  walk_writes : (d : ℕ) (stop : Stop) → StopsAt ahead.step_of ms 0 walk d stop → (t : ℕ) (out : List ℕ)
      → walk_moves_call radices c t out ≡ writes_first ms 0 d stop t out
  unfolding walk_moves_call after
  walk_writes d stop run t out =
      ap (λ (a : Answer Unit). opened_run a (ahead.run_of walk t out) out) accepted
      ∙ writes_first_lem ahead.step_of ms 0 walk d stop run walks.in_range
      ((fresh_walks_stay_in_range ahead.closed_walk radices c accepted).stays_in_range 0)
      t
      out

  -- with half of the moving digits' number of places, rounded up, the run ends at call N
  ends_at_N : length (unlocked ms) ≤ 2 * c → StopsAt ahead.step_of ms 0 walk (size ms) end
  ends_at_N places =
      let walks = (fresh_walks_work_ahead ahead.closed_walk radices c accepted).never_dry places in
      record {
        from_one = size_pos ms ((ahead-opens.opens_exactly ahead.closed_walk radices c).0 accepted).survey.one;
        moves = λ j a b. (walks.moves j a b).answers ∙ from_start ms j;
        halts = ends (walks.end (size ms) (omega arith)) refl;
      }

  -- With half of n places, rounded up, the buffered engine writes the list's moves 1 to N − 1, or as many of them as are asked
  -- for; it says end exactly where more are asked for.
  pub walk-moves_are_the_lists : length (unlocked ms) ≤ 2 * c → (t : ℕ) (out : List ℕ)
      → walk_moves_call radices c t out ≡ writes_first ms 0 (size ms) end t out
  walk-moves_are_the_lists places = walk_writes (size ms) end (ends_at_N places)

  -- With fewer places there is a d from 1 to N: it writes the list's moves 1 to d − 1, or as many of them as are asked for, and
  -- where more are asked for it has stopped with 10.
  pub walk-moves-run_dry : 2 * c < length (unlocked ms)
      → (d : ℕ)
      × (1 ≤ d)
      × (d ≤ size ms)
      × ((t : ℕ) (out : List ℕ) → walk_moves_call radices c t out ≡ writes_first ms 0 d (refusal 10) t out)
  walk-moves-run_dry few =
      let (d, dries) = (fresh_walks_work_ahead ahead.closed_walk radices c accepted).dry_within_N few in (
        d,
        dries.from_one,
        dries.within_N,
        walk_writes d (refusal 10)
            (record {
              from_one = dries.from_one;
              moves = λ j x y. (dries.moves j x y).answers ∙ from_start ms j;
              halts = refuses 10 (dries.dry d (omega arith)) refl;
            }),
      )

  -- A run of t moves of a fresh walk with places enough, t at most N − 1, makes them all: its bytes are the list's first t
  -- changes, the state is that after t calls, and nothing is said of the end.
  pub fresh-run_writes_the_list : length (unlocked ms) ≤ 2 * c → (t : ℕ) (out : List ℕ)
      → t ≤ size ms - 1
      → t ≤ length out
      → ahead.run_of walk t out
      ≡ run_makes (record { state = after ahead.step_of walk t; bytes = list_moves ms 0 t; stop = nothing }) out
  unfolding after
  fresh-run_writes_the_list places t out h fits =
      let run = ends_at_N places in
      let one = run.from_one in
      run_in_range_is_made walks.in_range ahead.step_of walk t out
      ((fresh_walks_stay_in_range ahead.closed_walk radices c accepted).stays_in_range 0)
      fits
      ∙ ap (λ (r : Ran walks.Walk). run_makes r out) (run_all ahead.step_of ms 0 walk (size ms) end run t (omega arith))

-- A refused opening gives its number, and nothing is written.
pub refused_walks_write_nothing : (radices : List ℕ) (c k : ℕ)
    → (ahead.open_of ahead.closed_walk radices c).answer ≡ refused k
    → (t : ℕ) (out : List ℕ)
    → walk_moves_call radices c t out ≡ record { answer = refused k; out = out }
unfolding walk_moves_call
refused_walks_write_nothing radices c k e t out =
    ap (λ (a : Answer Unit). opened_run a (ahead.run_of (ahead.open_of ahead.closed_walk radices c).state t out) out) e

-- ---- the disk engine
-- It writes the list's moves 1 to N − 1 of every survey that it opens, or as many of them as are asked for; it says end exactly
-- where more are asked for.
pub disk_moves_are_the_lists : (radices : List ℕ)
    → (towers.open_of towers.closed_towers radices).answer ≡ given tt
    → (t : ℕ) (out : List ℕ)
    → disk_moves_call radices t out ≡ writes_first (digits radices) 0 (size (digits radices)) end t out
unfolding disk_moves_call after
disk_moves_are_the_lists radices accepted t out =
    let ms = digits radices in
    let opened = towers.open_of towers.closed_towers radices in
    let walks = disks-walk_the_list towers.closed_towers radices accepted in
    ap (λ (a : Answer Unit). opened_run a (towers.run_of opened.state t out) out) accepted
    ∙ writes_first_lem towers.step_of ms 0 opened.state (size ms) end
    (record {
      from_one = size_pos ms ((towers-opens.opens_exactly towers.closed_towers radices).0 accepted).survey.one;
      moves = λ j a b. (walks.moves j a b).answers ∙ from_start ms j;
      halts = ends (walks.end (size ms) (omega arith)).answers refl;
    })
    games.in_range
    (walks.stays_in_range 0)
    t
    out

pub refused_disks_write_nothing : (radices : List ℕ) (k : ℕ)
    → (towers.open_of towers.closed_towers radices).answer ≡ refused k
    → (t : ℕ) (out : List ℕ)
    → disk_moves_call radices t out ≡ record { answer = refused k; out = out }
unfolding disk_moves_call
refused_disks_write_nothing radices k e t out =
    ap (λ (a : Answer Unit). opened_run a (towers.run_of (towers.open_of towers.closed_towers radices).state t out) out) e
