-- Every sluice with more than one notch moves: when each of them does so for the first time. A locked one never does.
use Rattle.std.specs.Prelude.{ℕ, zero, suc, ◌-◌, ◌*◌, ◌/◌, ◌%◌, ◌≤◌, ◌<◌, ◌≡◌, Bool, true, false, List, [], ◌∷◌, leb, length, get_or, take}
use Rattle.std.proofs.Math.Nat.{mul-mod_right, mul-div_cancel_left, mod-one}
use Rattle.std.proofs.Common.{mod-eq_of_lt, le-mul_of_pos_right, mul-le-mul_left, mul-suc, arith, sym, ap, ◌∙◌, leb-true}
use Rattle.std.proofs.Math.Decide.{ℕ_discrete}
use Rattle.std.proofs.Math.Bool.{and-eq-true_iff}
use Rattle.gray_theory.specs.Radices.{size, all_from}
use Rattle.gray_theory.specs.Changes.{Change, change, ruler}
use Rattle.gray_theory.proofs.Sizes.{size_pos}
use Rattle.gray_theory.specs.Words.{member}
use Rattle.gray_theory.proofs.Members.{member_is_word_at}
use Rattle.gray_theory.proofs.Rulers.{ruler_carry, ruler_no_carry, ruler_pos, change_is_ruler}
use Rattle.gray_theory.specs.Directions.{digit_in_range}
use Rattle.gray_theory.proofs.DigitRanges.{digit_says}
use Rattle.gray_theory.specs.Indexed.{downs_at}
use Rattle.gray_theory.proofs.Turns.{walk_in_range}

-- the ruler function at the product of the radices below digit i + 1, if that moves
first_ruler : (ms : List ℕ) (i : ℕ) → all_from 1 ms ≡ true → i < length ms → 2 ≤ get_or ms i 0 → ruler ms (size (take i ms)) ≡ suc i
unfolding all_from size
first_ruler [] i e h two = absurd (omega arith)
first_ruler (m ∷ ms) zero e h two = ruler_no_carry m ms 1 0 (mod-eq_of_lt (omega arith))
first_ruler (m ∷ ms) (suc i) e h two =
    let (first, others) = (and-eq-true_iff (leb 1 m) (all_from 1 ms)).0 e in
    let one = leb-true 1 m first in
    let p = size (take i ms) in
    ruler_carry m ms (m * p) (mul-mod_right m p)
    ∙ ap (λ (n : ℕ). suc (ruler ms n)) (mul-div_cancel_left p (omega arith))
    ∙ ap suc (first_ruler ms i others (omega arith) two)

-- that product is at least 1 and below N
first_within : (ms : List ℕ) (i : ℕ)
    → all_from 1 ms ≡ true
    → i < length ms
    → 2 ≤ get_or ms i 0
    → (1 ≤ size (take i ms)) × (size (take i ms) < size ms)
unfolding all_from size
first_within [] i e h two = absurd (omega arith)
first_within (m ∷ ms) zero e h two =
    let (first, others) = (and-eq-true_iff (leb 1 m) (all_from 1 ms)).0 e in
    let least = le-mul_of_pos_right m (size_pos ms others) in
    (omega arith, omega arith)
first_within (m ∷ ms) (suc i) e h two =
    let (first, others) = (and-eq-true_iff (leb 1 m) (all_from 1 ms)).0 e in
    let one = leb-true 1 m first in
    let (some, below) = first_within ms i others (omega arith) two in
    let p = size (take i ms) in
    let more = mul-le-mul_left m below in
    let least = le-mul_of_pos_right m some in
    let next = mul-suc m p in
    (omega arith, omega (arith, more, next, one))

-- Every digit that is not locked moves: digit i + 1 at change m_1 .. m_i, which is one of the list's.
pub every_digit_moves : (ms : List ℕ) (i : ℕ)
    → all_from 1 ms ≡ true
    → i < length ms
    → 2 ≤ get_or ms i 0
    → (1 ≤ size (take i ms)) × (size (take i ms) < size ms) × ((change ms (size (take i ms))).digit ≡ suc i)
every_digit_moves ms i e h two =
    let (one, below) = first_within ms i e h two in
    let p = size (take i ms) in
    let j : suc (p - 1) ≡ p = omega arith in
    let says = (change_is_ruler ms (p - 1) (omega (arith, below))).0 in
    (one, below, ap (λ (k : ℕ). (change ms k).digit) (sym j) ∙ ap (λ (c : Change). c.digit) says ∙ ap (ruler ms) j ∙ first_ruler ms i e h two)

-- ---- locked digits
-- the ruler function names a digit of radix at least 2
ruler-moves : (ms : List ℕ) (j i : ℕ) → all_from 1 ms ≡ true → i < length ms → ruler ms j ≡ suc i → 2 ≤ get_or ms i 0
unfolding all_from
ruler-moves [] j i e h named = absurd (omega arith)
ruler-moves (m ∷ ms) j i e h named =
    let (first, others) = (and-eq-true_iff (leb 1 m) (all_from 1 ms)).0 e in
    let one = leb-true 1 m first in
    elim (ℕ_discrete (j % m) 0) [
      | yes z ↦ let r = ruler_carry m ms j z in let pos = ruler_pos ms (j / m) in later i h (omega arith) (λ o l s. ruler-moves ms (j / m) o others l s)
      | no ne ↦
          let b : j % m ≡ suc (j % m - 1) = omega arith in
          let r = ruler_no_carry m ms j (j % m - 1) b in
          here i (omega arith) (λ (z : m ≡ 1). ne (rw z (mod-one j))) one
    ]
  where
    here : (i : ℕ) → i ≡ 0 → (m ≡ 1 → ⊥) → 1 ≤ m → 2 ≤ get_or (m ∷ ms) i 0
    here zero z other one = omega arith
    here (suc i) z other one = absurd (omega arith)

    later : (i : ℕ)
        → i < suc (length ms)
        → suc (ruler ms (j / m)) ≡ suc i
        → ((o : ℕ) → o < length ms → ruler ms (j / m) ≡ suc o → 2 ≤ get_or ms o 0)
        → 2 ≤ get_or (m ∷ ms) i 0
    later zero h s slower = let pos = ruler_pos ms (j / m) in absurd (omega arith)
    later (suc i) h s slower = slower i (omega arith) (omega arith)

-- No change of the list is of a locked digit.
pub locked_digits_never_move : (ms : List ℕ) (j i : ℕ)
    → all_from 1 ms ≡ true
    → i < length ms
    → get_or ms i 0 ≡ 1
    → 1 ≤ j
    → j < size ms
    → (change ms j).digit ≡ suc i
    → ⊥
locked_digits_never_move ms zero i e h locked one below named = absurd (omega arith)
locked_digits_never_move ms (suc j) i e h locked one below named =
    let says = (change_is_ruler ms j below).0 in
    let two = ruler-moves ms (suc j) i e h (sym (ap (λ (c : Change). c.digit) says) ∙ named) in
    absurd (omega arith)

-- A locked digit of a state in range stands at notch 0, and its direction is up.
pub locked_digits_rest : (a : ℕ) (down : Bool) → digit_in_range 1 a down ≡ true → (a ≡ 0) × (down ≡ false)
locked_digits_rest a down e =
    let s = digit_says 1 a down e in
    let below = s.below in
    let shut : a ≡ 0 = omega arith in
    (shut, s.up_at_0 shut)

-- Every setting of the list has 0 there, and the walk from the start keeps its direction.
pub locked_digits_stay_shut : (ms : List ℕ) (r i : ℕ)
    → all_from 1 ms ≡ true
    → r < size ms
    → i < length ms
    → get_or ms i 0 ≡ 1
    → (get_or (member ms r) i 0 ≡ 0) × (get_or (downs_at ms r) i false ≡ false)
locked_digits_stay_shut ms r i e below h locked =
    let stands = rw locked at (walk_in_range ms e r i h) in
    rw (member_is_word_at ms r below) (locked_digits_rest _ _ stands)
