-- Filling ahead from a rank: work steps until the queue is full or holds the end entry reach it within their bound, and what the
-- buffer then holds follows from the rank.
use Prim.Native.Nat.{ℕ, zero, suc, ◌+◌, ◌-◌, ◌*◌, ◌/◌, ◌%◌, ◌≤◌, ◌<◌}
use Rattle.std.proofs.Math.Decide.{dec_lt}
use Rattle.std.proofs.Common.{add-zero, zero-add, sym, subst, ◌∙◌}
use native.Mathlib.Omega.{arith}
use Rattle.std.specs.Prelude.{◌≡◌, Bool, false, List, [], ◌∷◌, ◌++◌, eqb, ltb}
use Rattle.std.proofs.Math.Path.{refl, ap, ap₂}
use Rattle.std.proofs.Math.Bool.{true, cond, not, and-eq-true_iff}
use borrow.Author.Tests.{eq-eqb, ne_eqb, lt-ltb, ltb-true}
use Rattle.std.proofs.Math.ListN.{length, get_or}
use Rattle.gray_theory.specs.Bools.{impossible}
use Rattle.gray_theory.specs.Radices.{size, mixed_digits}
use Rattle.gray_theory.specs.Changes.{ruler}
use Rattle.gray_theory.specs.Costs.{cost}
use Rattle.gray_theory.proofs.Bounds.{cost_burst}
use Rattle.gray_theory.proofs.Sizes.{quotient_below}
use Rattle.gray_theory.proofs.Rulers.{ruler_pos, ruler_at_end, word_at-moves, moves_within}
use Rattle.gray_theory.proofs.Members.{length-word_at}
use Rattle.gray_theory.specs.Arrays.{filled}
use Rattle.gray_theory.proofs.Filled.{get_d_filled}
use Rattle.gray_theory.specs.Directions.{all_below}
use Rattle.gray_theory.proofs.DigitRanges.{all_below_each, each_all_below}
use Rattle.ahead_theory.specs.States.{Producer, places}
use Rattle.ahead_theory.specs.Work.{Work, work}
use Rattle.ahead_theory.proofs.Entries.{cost_mono}
use Rattle.ahead_theory.specs.Pickups.{unfilled, fillable, fill, fill_steps, uncounted, filled_at}
use Rattle.ahead_theory.specs.Positions.{Worked, Worked.carried, Worked.appended, Worked.idled, Worked.spent, gained}
use Rattle.ahead_theory.proofs.Positions.{Buffered, Position, steps_at, one, work_position, work_steps, paid, Ahead, ahead_full, ahead_whole}
use Rattle.ahead_theory.specs.Canonical.{entries, producer_at}
use Rattle.ahead_theory.proofs.Canonical.{length-entries, same_producer, does}
use Rattle.ahead_theory.proofs.RunRanges.{get_d_entries}
use Rattle.ahead_theory.proofs.Rounds.{work_is}
use Rattle.ahead_theory.proofs.Capacity.{work_within}
use Rattle.ahead_theory.specs.Filling.{Reach, Reach.to_capacity, Reach.to_end, reach}

-- ---- the start
-- below N the last place of the counter is 0
mixed_last : (ms : List ℕ) (r : ℕ) → r < size ms → mixed_digits (places ms) r ≡ mixed_digits ms r ++ (0 ∷ [])
unfolding mixed_digits
mixed_last [] r h = let z : r % 2 ≡ 0 = unfold size in omega arith in rw z
mixed_last (m ∷ ms) r h = ap (λ (l : List ℕ). r % m ∷ l) (mixed_last ms (r / m) (quotient_below m ms r h))

-- the buffer before any filling
pub unfilled_is : (ms : List ℕ) (r : ℕ) → r < size ms → unfilled ms r ≡ producer_at ms 0 r 0 0
unfolding entries
unfilled_is ms r h =
    same_producer
    (ap (filled 49 0) (sym (mixed_last ms r h)) ∙ ap (λ (j : ℕ). filled 49 0 (mixed_digits (places ms) j)) (sym (add-zero r)))
    refl refl refl refl

pub reaches : (ms : List ℕ) (c t : ℕ) → t < size ms → Reach ms c t (reach ms c t)
reaches ms c t below = go (ltb (size ms - t) c) refl
  where
    go : (b : Bool) → ltb (size ms - t) c ≡ b → Reach ms c t (cond b (size ms - t) c)
    go true e = let h = ltb-true (size ms - t) c e in to_end (omega arith) (omega arith)
    go false e =
        elim (dec_lt (size ms - t) c) [
          | yes h ↦ impossible (let z = lt-ltb (size ms - t) c h in cc)
          | no h ↦ to_capacity refl (omega arith)
        ]

pub reach_fits : {ms : List ℕ} {c t q : ℕ} → Reach ms c t q → (q ≤ c) × (t + q ≤ size ms)
reach_fits (to_capacity full within) = (omega arith, within)
reach_fits (to_end end fits) = (fits, omega arith)

module _ (ms : List ℕ) (c : ℕ) (v : Buffered ms c) (t : ℕ) (below : t < size ms) where
  -- the entries queued, as the state has them
  entry_at : (s k p i : ℕ) → i < k → get_or (producer_at ms s t k p).queue i 0 ≡ ruler ms (suc (t + i))
  entry_at s k p i h =
      let l = length-entries ms t k in
      get_d_filled 32 0 (entries ms t k) i 0 (omega arith) ∙ get_d_entries ms t k i h

  -- before the end entry, and with a place free, filling goes on
  goes_on : (s k p : ℕ) → k < c → t + k < size ms → fillable ms c (producer_at ms s t k p) ≡ true
  unfolding fillable
  goes_on s k p room more =
      (and-eq-true_iff (ltb k c) (all_below k (λ i. not (eqb (get_or (producer_at ms s t k p).queue i 0) (length ms + 1))))).1 (
        lt-ltb k c room,
        each_all_below k (λ i. not (eqb (get_or (producer_at ms s t k p).queue i 0) (length ms + 1)))
            (λ i h.
            let e = entry_at s k p i h in
            let inside = moves_within (word_at-moves ms (t + i) (omega arith)) in
            let long = length-word_at ms (t + i) in
            rw (ne_eqb (get_or (producer_at ms s t k p).queue i 0) (length ms + 1) (λ z. omega arith))),
      )

  -- at its reach it stops
  stops : (s q p : ℕ) → Reach ms c t q → fillable ms c (producer_at ms s t q p) ≡ false
  unfolding fillable
  stops s q p far = go (fillable ms c (producer_at ms s t q p)) refl
    where
      never : fillable ms c (producer_at ms s t q p) ≡ true → Reach ms c t q → ⊥
      never e (to_capacity full within) =
          let (room, no_end) = (and-eq-true_iff (ltb q c) (all_below q (λ i. not (eqb (get_or (producer_at ms s t q p).queue i 0) (length ms + 1))))).0 e in
          let h = ltb-true q c room in
          absurd (omega arith)
      never e (to_end end fits) =
          let (room, no_end) = (and-eq-true_iff (ltb q c) (all_below q (λ i. not (eqb (get_or (producer_at ms s t q p).queue i 0) (length ms + 1))))).0 e in
          let here = all_below_each q (λ i. not (eqb (get_or (producer_at ms s t q p).queue i 0) (length ms + 1))) no_end (q - 1) (omega arith) in
          let last : suc (t + (q - 1)) ≡ size ms = omega arith in
          let entry : get_or (producer_at ms s t q p).queue (q - 1) 0 ≡ length ms + 1 =
          (let a = entry_at s q p (q - 1) (omega arith) in
          let b = ap (ruler ms) last in
          let z = ruler_at_end ms (one ms v.two) in
          omega arith) in
          impossible (let y = eq-eqb (get_or (producer_at ms s t q p).queue (q - 1) 0) (length ms + 1) entry in cc)

      go : (b : Bool) → fillable ms c (producer_at ms s t q p) ≡ b → fillable ms c (producer_at ms s t q p) ≡ false
      go true e = absurd (never e far)
      go false e = e

  -- a queue at its reach is left alone
  rests : (f s q : ℕ) → Reach ms c t q → fill ms c f (producer_at ms s t q 0) ≡ producer_at ms s t q 0
  unfolding fill
  rests zero s q far = refl
  rests (suc f) s q far =
      ap (λ (b : Bool). cond b (fill ms c f (work ms c (producer_at ms s t q 0))) (producer_at ms s t q 0)) (stops s q 0 far)

  -- before its reach every work step is useful
  pub useful_step : {k p : ℕ} {e : Work} {k' p' : ℕ} (q : ℕ)
      → q ≤ c
      → t + q ≤ size ms
      → k < q
      → Worked ms c t k p e k' p'
      → (gained e ≡ 1) × (k' ≤ q)
  unfolding gained
  useful_step q fits within more (carried h) = (refl, omega arith)
  useful_step q fits within more (appended h room lasts) = (refl, more)
  useful_step q fits within more (idled h full) = absurd (omega arith)
  useful_step q fits within more (spent h) = absurd (omega arith)

  -- g useful steps are left: with as many at least, filling comes to its reach
  fill_reaches : (f g s k p q : ℕ)
      → Reach ms c t q
      → Position ms c t k p
      → k ≤ q
      → cost ms (t + q) ≡ steps_at ms t k p + g
      → g ≤ f
      → fill ms c f (producer_at ms s t k p) ≡ producer_at ms (s + g) t q 0
  unfolding fill
  fill_reaches f zero s k p q far at here e fuel =
      let last = paid v.two at (t + q) (omega arith) in
      let same : k ≡ q = omega arith in
      let costs = ap (λ (j : ℕ). cost ms (t + j)) same in
      let none : p ≡ 0 = omega arith in
      ap₂ (λ (j o : ℕ). fill ms c f (producer_at ms s t j o)) same none
      ∙ rests f s q far
      ∙ ap (λ (n : ℕ). producer_at ms n t q 0) (sym (add-zero s))
  fill_reaches zero (suc g) s k p q far at here e fuel = absurd (omega arith)
  fill_reaches (suc f) (suc g) s k p q far at here e fuel =
      let (fits, within) = reach_fits far in
      elim (dec_lt k q) [
        | no h ↦
            let same : k ≡ q = omega arith in
            let costs = ap (λ (j : ℕ). cost ms (t + j)) same in
            absurd (omega arith)
        | yes more ↦
            let (w, k', p', d) = does ms c v s t k p at in
            let (one_step, less) = useful_step q fits within more d.numbers in
            let steps = work_steps v.two d.numbers in
            let count : s + gained w + g ≡ s + suc g = omega arith in
            ap (λ (b : Bool). cond b (fill ms c f (work ms c (producer_at ms s t k p))) (producer_at ms s t k p)) (goes_on s k p (omega arith) (omega arith))
            ∙ ap (fill ms c f) (work_is d)
            ∙ fill_reaches f g (s + gained w) k' p' q far (work_position at d.numbers) less (omega arith) (omega arith)
            ∙ ap (λ (n : ℕ). producer_at ms n t q 0) count
      ]

  -- ---- filling from rank t
  pub start : Position ms c t 0 0
  start = record { fits = omega arith; carries = ruler_pos ms (suc (t + 0)); held = omega arith }

  some_of : (q : ℕ) → Reach ms c t q → 0 < q
  some_of q (to_capacity full within) = let pos = v.place in omega arith
  some_of q (to_end end fits) = omega arith

  pub reach_some : 0 < reach ms c t
  reach_some = some_of (reach ms c t) (reaches ms c t below)

  -- the useful steps of filling
  abbrev fill_cost : ℕ
  fill_cost = cost ms (t + reach ms c t) - cost ms t

  -- it comes to the fewer of c and N − t entries, with no carry pending, within fewer work steps than its bound; more make no
  -- difference
  pub fill_is : (f : ℕ) → fill_steps ms c ≤ suc f → fill ms c f (unfilled ms t) ≡ producer_at ms fill_cost t (reach ms c t) 0
  fill_is f fuel =
      let far = reaches ms c t below in
      let (fits, within) = reach_fits far in
      let some = reach_some in
      let here = ap (cost ms) (add-zero t) in
      let more = cost_mono ms (one ms v.two) t (reach ms c t) in
      let burst = cost_burst ms v.two t (reach ms c t) some in
      ap (fill ms c f) (unfilled_is ms t below)
      ∙ fill_reaches f fill_cost 0 0 0 (reach ms c t) far start (omega arith) (omega arith) (omega arith)
      ∙ ap (λ (n : ℕ). producer_at ms n t (reach ms c t) 0) (zero-add fill_cost)

  -- the bound is never the reason to stop: the queue is full or holds the end entry
  pub fill-ends : fillable ms c (fill ms c (fill_steps ms c) (unfilled ms t)) ≡ false
  fill-ends =
      ap (fillable ms c) (fill_is (fill_steps ms c) (omega arith))
      ∙ stops fill_cost (reach ms c t) 0 (reaches ms c t below)

  -- what a picked-up walk begins with
  pub filled_ahead_lem : filled_at ms c t ≡ producer_at ms 0 t (reach ms c t) 0
  filled_ahead_lem =
      ap uncounted (fill_is (fill_steps ms c) (omega arith))

  pub filled_position : Position ms c t (reach ms c t) 0
  filled_position =
      let (fits, within) = reach_fits (reaches ms c t below) in
      record { fits = fits; carries = ruler_pos ms (suc (t + reach ms c t)); held = omega arith }

  -- it is ahead, with places for half of the digits
  pub ahead_filled : length ms ≤ 2 * c → Ahead ms t 0 (steps_at ms t (reach ms c t) 0)
  ahead_filled enough = by (reaches ms c t below)
    where
      by : {q : ℕ} → Reach ms c t q → Ahead ms t 0 (steps_at ms t q 0)
      by {q} (to_capacity full within) = subst (λ (k : ℕ). Ahead ms t 0 (steps_at ms t k 0)) (sym full) (ahead_full ms c t 0 v enough)
      by {q} (to_end end fits) = ahead_whole ms c t q 0 v (omega arith)

-- ---- capacity
-- after each work step of filling the queue holds at most c entries
pub fill_within : (ms : List ℕ) (c f : ℕ) (p : Producer) → p.queued ≤ c → (fill ms c f p).queued ≤ c
unfolding fill
fill_within ms c zero p h = h
fill_within ms c (suc f) p h = by (fillable ms c p) (fill_within ms c f (work ms c p) (work_within ms c p h))
  where
    by : (b : Bool) → (fill ms c f (work ms c p)).queued ≤ c → (cond b (fill ms c f (work ms c p)) p).queued ≤ c
    by true more = more
    by false more = h
