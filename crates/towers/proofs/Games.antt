-- What the moves of the game come to on each path of their code, and what a search for a disk has found, over plain numbers and
-- tests. Assumes nothing.
use Prim.Native.Nat.{ℕ, ◌+◌, ◌-◌, ◌%◌, ◌≤◌, ◌<◌}
use native.Mathlib.Decide.{dec_lt, ℕ_discrete}
use native.Mathlib.Numerals.{add-one}
use native.Mathlib.Omega.{arith}
use mathlib.Core.Path.{◌≡◌, refl, sym, ap, ◌∙◌}
use mathlib.Core.Bool.{Bool, true, false, cond, ◌&&◌, not, and-eq-true_iff}
use mathlib.Core.Option as theory
use Rattle.std.specs.Prelude.{Option, Some, None}
use borrow.Author.Tests.{eq-eqb, ne_eqb, eqb-true, leb-true, lt-ltb, le-ltb}
use lib.Dec.{eqb, leb}
use Rattle.gray_theory.specs.Bools.{impossible}
use Rattle.gray_theory.specs.Words.{even}
use Rattle.gray_theory.specs.Directions.{moved_from, turned_at, digit_in_range}
use Rattle.gray_theory.proofs.DigitRanges.{digit_says}
use Rattle.digit.specs.Advances.{advanced_from}
use Rattle.digit.proofs.Advances.{digit_advanced}
use Rattle.digit.proofs.Laws.{room_below, room_above}
use Rattle.towers_theory.specs.Choices.{side_peg, on_pair, sweeping, smallest}
use Rattle.towers_theory.specs.Calls.{turn_by, peg_after}
use Rattle.towers.specs.Stages.{found}
use Rattle.towers_theory.proofs.Smallest.{smallest-none, smallest_some}

-- ---- three pegs
module _ (turn m a : ℕ) where
  -- notch 0 is not the last one
  pub left_pair : 2 ≤ m → turn ≡ 0 → not (eqb a (m - 1)) ≡ on_pair turn (side_peg m a)
  left_pair two z =
      rw (eq-eqb turn 0 z)
      (by (eqb a 0) (eqb a (m - 1)) (λ e. let first = eqb-true a 0 e in ne_eqb a (m - 1) (λ last. omega arith)))
    where
      by : (b c : Bool) → (b ≡ true → c ≡ false) → not c ≡ on_pair 0 (cond b 0 (cond c 2 1))
      by true true apart = impossible (cc (apart refl))
      by true false apart = refl
      by false true apart = refl
      by false false apart = refl

  pub right_pair : (turn ≡ 0 → ⊥) → not (eqb a 0) ≡ on_pair turn (side_peg m a)
  right_pair nz = rw (ne_eqb turn 0 nz) (by (eqb a 0) (eqb a (m - 1)))
    where
      by : (b c : Bool) → not b ≡ on_pair 1 (cond b 0 (cond c 2 1))
      by true c = refl
      by false true = refl
      by false false = refl

-- ---- the move of a digit
module _ (m a : ℕ) (down : Bool) (stands : leb 2 m && digit_in_range m a down ≡ true) where
  two : 2 ≤ m
  two = leb-true 2 m ((and-eq-true_iff (leb 2 m) (digit_in_range m a down)).0 stands).0

  ranged : digit_in_range m a down ≡ true
  ranged = ((and-eq-true_iff (leb 2 m) (digit_in_range m a down)).0 stands).1

  pub room_down : down ≡ true → 1 ≤ a
  room_down = room_below m a down two ranged

  pub room_up : down ≡ false → a + 1 < m
  room_up = room_above m a down two ranged

  goes : (d : Bool) (turned : Bool)
      → down ≡ d
      → turned ≡ turned_at m (moved_from a d) d
      → record { digit = moved_from a d; down = turned } ≡ advanced_from m a down
  goes d turned e f =
      ap (λ b. record { digit = moved_from a d; down = b }) f
      ∙ sym (ap (λ b. record { digit = moved_from a b; down = turned_at m (moved_from a b) b }) e)
      ∙ sym (digit_advanced m a down stands)

  pub goes_down : down ≡ true → record { digit = a - 1; down = not (eqb a 1) } ≡ advanced_from m a down
  goes_down d =
      let low = room_down d in
      let below = (digit_says m a down ranged).below in
      goes true (not (eqb a 1)) d
      (elim (ℕ_discrete a 1) [
        | yes e ↦ let end : a - 1 ≡ 0 = omega arith in rw (eq-eqb a 1 e, eq-eqb (a - 1) 0 end)
        | no n ↦ rw (ne_eqb a 1 n, ne_eqb (a - 1) 0 (λ z. omega arith), ne_eqb (a - 1) (m - 1) (λ z. omega arith))
      ])

  pub goes_up : down ≡ false → record { digit = a + 1; down = eqb (a + 2) m } ≡ advanced_from m a down
  goes_up d =
      let high = room_up d in
      goes false (eqb (a + 2) m) d
      (elim (ℕ_discrete (a + 2) m) [
        | yes e ↦
            let end : a + 1 ≡ m - 1 = omega arith in
            rw (eq-eqb (a + 2) m e, ne_eqb (a + 1) 0 (λ z. omega arith), eq-eqb (a + 1) (m - 1) end)
        | no n ↦ rw (ne_eqb (a + 2) m n, ne_eqb (a + 1) 0 (λ z. omega arith), ne_eqb (a + 1) (m - 1) (λ z. n (omega arith)))
      ])

-- ---- the ring
module _ (m i peg : ℕ) where
  pub back_from_0 : (i + 1) % 2 ≡ 0 → peg ≡ 0 → m ≡ peg_after m i peg
  back_from_0 e z = rw (← add-one i, eq-eqb ((i + 1) % 2) 0 e, eq-eqb peg 0 z)

  pub back_by_one : (i + 1) % 2 ≡ 0 → (peg ≡ 0 → ⊥) → peg - 1 ≡ peg_after m i peg
  back_by_one e nz = rw (← add-one i, eq-eqb ((i + 1) % 2) 0 e, ne_eqb peg 0 nz)

  pub on_from_last : ((i + 1) % 2 ≡ 0 → ⊥) → peg ≡ m → 0 ≡ peg_after m i peg
  on_from_last o t = rw (← add-one i, ne_eqb ((i + 1) % 2) 0 o, eq-eqb peg m t)

  pub on_by_one : ((i + 1) % 2 ≡ 0 → ⊥) → (peg ≡ m → ⊥) → peg + 1 ≡ peg_after m i peg
  on_by_one o nt = rw (← add-one i, ne_eqb ((i + 1) % 2) 0 o, ne_eqb peg m nt)

-- ---- the search for the smallest disk
-- no disk below i has passed the test
abbrev pub NoneBelow : ℕ → (ℕ → Bool) → Type 0
NoneBelow i test = (k : ℕ) → k < i → test k ≡ false

module _ (test : ℕ → Bool) where
  pub none_first : NoneBelow 0 test
  none_first k h = absurd (omega arith)

  pub none_more : (i : ℕ) → NoneBelow i test → test i ≡ false → NoneBelow (i + 1) test
  none_more i before e k h =
      elim (dec_lt k i) [
        | yes p ↦ before k p
        | no q ↦ let at : k ≡ i = omega arith in rw at e
      ]

module _ (n : ℕ) (test : ℕ → Bool) where
  pub found_here : (i : ℕ) → i < n → test i ≡ true → NoneBelow i test → found (Some i) ≡ smallest n test
  found_here i h e before = sym (smallest_some n test i h e before)

  pub found_none : NoneBelow n test → found None ≡ smallest n test
  found_none before = sym (smallest-none n test before)

-- on a ring, in a sweep and after it
module _ (m turn : ℕ) (other : theory.Option ℕ) where
  pub first_found : turn < m - 1 → found (Some 0) ≡ cond (sweeping m turn) (theory.some 0) other
  first_found h = rw (lt-ltb turn (m - 1) h)

  pub other_found : (i : Option ℕ) → m - 1 ≤ turn → found i ≡ other → found i ≡ cond (sweeping m turn) (theory.some 0) other
  other_found i h e = e ∙ sym (ap (λ b. cond b (theory.some 0) other) (le-ltb turn (m - 1) h))

-- ---- which game is played, by the rest that the code tests
module _ (m : ℕ) where
  pub odd_rest : (m % 2 ≡ 0 → ⊥) → not (even m) ≡ true
  odd_rest nz = ap not (ne_eqb (m % 2) 0 nz)

  pub no_rest : m % 2 ≡ 0 → not (even m) ≡ false
  no_rest z = ap not (eq-eqb (m % 2) 0 z)

-- ---- the turn
pub one_of_two : (odd : Bool) (m turn : ℕ) → turn < cond odd 2 m → odd ≡ true → turn ≤ 1
one_of_two true m turn h e = omega arith
one_of_two false m turn h e = impossible (cc)

pub other_pair : (odd : Bool) (m turn : ℕ) → odd ≡ true → 1 - turn ≡ turn_by odd m turn
other_pair odd m turn e = rw e

pub sweep_on : (odd : Bool) (m turn : ℕ) → odd ≡ false → turn < m - 1 → turn + 1 ≡ turn_by odd m turn
sweep_on odd m turn e h = rw (e, lt-ltb turn (m - 1) h)

pub sweep_over : (odd : Bool) (m turn : ℕ) → odd ≡ false → m - 1 ≤ turn → 0 ≡ turn_by odd m turn
sweep_over odd m turn e h = rw (e, le-ltb turn (m - 1) h)
