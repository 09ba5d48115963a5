-- What a turn of each loop adds, over plain lists and numbers. Assumes nothing.
use Prim.Native.Nat.{ℕ, suc, ◌+◌, ◌-◌, ◌*◌, ◌/◌, ◌%◌, ◌≤◌, ◌<◌, min}
use native.Mathlib.Nat.{mod-lt, add_comm, add-zero}
use native.Mathlib.Numerals.{add-one}
use native.Mathlib.Decide.{dec_le, dec_lt}
use native.Mathlib.Omega.{arith}
use mathlib.Core.Path.{◌≡◌, sym, ap, ap₂, ◌∙◌}
use mathlib.Core.Bool.{Bool, true, false, ◌&&◌, cond, and-eq-true_iff}
use mathlib.Core.List.{List, [], ◌∷◌, ◌++◌, append-nil, reverse-cons}
use borrow.Author.Tests.{eq-eqb, ne_eqb, le-leb, lt-leb}
use lib.Bits.{bit_and, bit_or, and_mask, or_shifted_r, or_zero_r}
use lib.Dec.{eqb, leb}
use lib.ListN.{length, get_or, take, set, replicate, length-append, length-reverse, get_or-append}
use lib.Seq.{take-append-le, get_or_at, take-suc, length-take-le}
use mir.Val.{bool_byte}
use Rattle.gray_theory.specs.MoveBytes.{move_byte, move_digit, move_down}
use Rattle.gray_theory.specs.Radices.{digits}
use Rattle.gray_theory.specs.Directions.{moved_from, turned_at, digit_in_range}
use Rattle.digit.specs.Advances.{advanced_from}
use Rattle.digit.proofs.Advances.{digit_advanced}
use Rattle.gray_theory.specs.Locks.{moving}
use Rattle.gray_theory.proofs.Unlocked.{length-moving, unlocked_most, moving_more, found_at, found_more_lem}
use Rattle.gray_theory.proofs.DigitRanges.{digit_says}
use Rattle.gray_theory.specs.Arrays.{filled}
use Rattle.gray_theory.proofs.Filled.{fill_all, filled_whole, filled-append}
use Rattle.gray_theory.specs.Bools.{impossible}

-- ---- move bytes
pub masked : (b : ℕ) → bit_and b 127 ≡ move_digit b
unfolding move_digit
masked b = and_mask b 7

pub packed : (d : ℕ) (down : Bool) → bit_or (bit_and d 127) (bool_byte down * 128 % 256) ≡ move_byte d down
unfolding move_byte
packed d true =
    ap (λ x. bit_or x 128) (and_mask d 7) ∙ or_shifted_r 1 7 (d % 128) (mod-lt d (omega arith)) ∙ add_comm 128 (d % 128)
packed d false = ap (λ x. bit_or x 0) (and_mask d 7) ∙ or_zero_r (d % 128) ∙ sym (add-zero (d % 128))

pub shifted : (b : ℕ) → b < 256 → eqb (b / 128) 1 ≡ move_down b
unfolding move_down
shifted b h =
    elim (dec_le 128 b) [
      | yes p ↦ eq-eqb (b / 128) 1 (omega arith) ∙ sym (le-leb 128 b p)
      | no n ↦ ne_eqb (b / 128) 1 (λ e. omega arith) ∙ sym (lt-leb 128 b (omega arith))
    ]

-- ---- advanced
-- a digit that goes down is not at 0, and one that goes up is not at m − 1
module _ (m a : ℕ) (down : Bool) (two : 2 ≤ m) (stands : digit_in_range m a down ≡ true) where
  pub room_below : down ≡ true → 1 ≤ a
  room_below d =
      let away : a ≡ 0 → ⊥ = λ z. impossible (cc ((digit_says m a down stands).up_at_0 z)) in
      omega arith

  pub room_above : down ≡ false → a + 1 < m
  room_above d =
      let s = digit_says m a down stands in
      let away : a ≡ m - 1 → ⊥ = λ t. impossible (cc (s.down_at_top two t)) in
      omega arith

  pub advance_made : (to : ℕ) → to ≡ moved_from a down → record { digit = to; down = turned_at m to down } ≡ advanced_from m a down
  advance_made to e =
      ap (λ t. record { digit = t; down = turned_at m t down }) e
      ∙ sym (digit_advanced m a down ((and-eq-true_iff (leb 2 m) (digit_in_range m a down)).1 (le-leb 2 m two, stands)))

-- ---- moving
-- digit i + 1 is to come, after the first i
module _ (l : List ℕ) (i : ℕ) (digit : i < length l) where
  pub moving_few : length (moving (take i l)) ≤ i
  moving_few =
      let long = length-moving (take i l) in
      let few = unlocked_most (take i l) in
      let part = length-take-le i l (omega arith) in
      omega arith

  next : moving (take (i + 1) l) ≡ moving (take i l) ++ cond (leb 2 (get_or l i 0)) ((i + 1) ∷ []) []
  next =
      rw (add-one i, take-suc l i 0 digit)
      (moving_more (take i l) (get_or l i 0)
      ∙ ap (λ (k : ℕ). moving (take i l) ++ cond (leb 2 (get_or l i 0)) (suc k ∷ []) []) (length-take-le i l (omega arith)))

  -- it moves, or it does not
  pub joins : 2 ≤ get_or l i 0 → moving (take (i + 1) l) ≡ moving (take i l) ++ ((i + 1) ∷ [])
  joins h = next ∙ ap (λ b. moving (take i l) ++ cond b ((i + 1) ∷ []) []) (le-leb 2 (get_or l i 0) h)

  pub stays : get_or l i 0 < 2 → moving (take (i + 1) l) ≡ moving (take i l)
  stays h =
      next
      ∙ ap (λ b. moving (take i l) ++ cond b ((i + 1) ∷ []) []) (lt-leb 2 (get_or l i 0) h)
      ∙ append-nil (moving (take i l))

  -- those of the first i stand in an array of 48 places
  module _ (count : ℕ) (to : List ℕ) (many : count ≡ length (moving (take i l))) (stand : to ≡ filled 48 0 (moving (take i l))) where
    pub gathers : 2 ≤ get_or l i 0
        → i < 48
        → (count + 1 ≡ length (moving (take (i + 1) l))) × (set to count (i + 1) ≡ filled 48 0 (moving (take (i + 1) l)))
    gathers h place =
        let few = moving_few in
        rw (joins h) (
          simp length-append (omega arith),
          ap₂ (λ (d : List ℕ) (k : ℕ). set d k (i + 1)) stand many ∙ filled-append 48 0 (moving (take i l)) (i + 1) (omega arith),
        )

    pub gathers_none : get_or l i 0 < 2
        → (count ≡ length (moving (take (i + 1) l))) × (to ≡ filled 48 0 (moving (take (i + 1) l)))
    gathers_none h = rw (stays h) (many, stand)

  -- those of the first i have been met, and it is known whether they are the ones held
  module _
      (held : List ℕ) (met : ℕ) (ok : Bool) (many : met ≡ length (moving (take i l))) (right : ok ≡ found_at (moving (take i l)) held)
    where
      pub meets : 2 ≤ get_or l i 0
          → (met + 1 ≡ length (moving (take (i + 1) l)))
          × (ok && eqb (get_or held met 0) (i + 1) ≡ found_at (moving (take (i + 1) l)) held)
      meets h =
          rw (joins h) (
            simp length-append (omega arith),
            ap₂ (λ t k. t && eqb (get_or held k 0) (i + 1)) right many ∙ sym (found_more_lem (moving (take i l)) held (i + 1)),
          )

      pub meets_none : get_or l i 0 < 2
          → (met ≡ length (moving (take (i + 1) l))) × (ok ≡ found_at (moving (take (i + 1) l)) held)
      meets_none h = rw (stays h) (many, right)

-- ---- reversed
-- all digits stand there, or as many as there are places
pub fill_ended : (k : ℕ) (l out : List ℕ) (i : ℕ)
    → i ≡ min k (length l)
    → out ≡ take i l ++ replicate (k - i) 0
    → out ≡ take k (filled k 0 l)
fill_ended k l out i last f =
    elim (dec_le (length l) k) [
      | yes p ↦ fill_all k 0 l out i (omega arith) f ∙ sym (filled_whole k 0 l p)
      | no q ↦
          let at : i ≡ k = omega arith in
          let none : k - i ≡ 0 = omega arith in
          f
          ∙ ap₂ (λ j n. take j l ++ replicate n 0) at none
          ∙ append-nil (take k l)
          ∙ sym (take-append-le k l (replicate (k - length l) 0) (omega arith))
    ]

-- digit i + 1 is the byte that stands i before the last
pub digit_at : (l : List ℕ) (i : ℕ) → i < length l → get_or l (length l - 1 - i) 0 ≡ get_or (digits l) i 0
digit_at [] i h = absurd (omega arith)
digit_at (a ∷ l) i h =
    let long = length-reverse l in
    elim (dec_lt i (length l)) [
      | yes p ↦
          let at : suc (length l) - 1 - i ≡ suc (length l - 1 - i) = omega arith in
          rw (at, reverse-cons a l, get_or-append (digits l) (a ∷ []) 0 i (omega arith)) (digit_at l i p)
      | no q ↦
          let at : suc (length l) - 1 - i ≡ 0 = omega arith in
          rw (at, reverse-cons a l, get_or_at (digits l) a [] 0 i (omega arith))
    ]
