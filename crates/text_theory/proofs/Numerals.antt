-- What is written in decimal is read back as the same number, has no leading zero and, below 10^k, at most k digits.
use Rattle.std.specs.Prelude.{ℕ, zero, suc, ◌+◌, ◌-◌, ◌*◌, ◌/◌, ◌%◌, ◌^◌, ◌≤◌, ◌<◌, ◌≡◌, refl, true, List, [], ◌∷◌, ◌++◌, length, get_or}
use Rattle.std.proofs.Common.{arith, pow-suc, sym, ap, ◌∙◌, lt-ltb, le-ltb, le-leb, length-append}
use Rattle.std.proofs.Math.Decide.{dec_lt}
use Rattle.std.proofs.Math.Bool.{and-eq-true_iff}
use Rattle.std.proofs.Math.ListN.{get_or-append}
use Rattle.text_theory.specs.Decimals.{glyph, is_digit, decimal_in, decimal, all_digits, value_from, value}

-- ---- the two cases of a number
one_digit : (k n : ℕ) → n < 10 → decimal_in (suc k) n ≡ glyph n ∷ []
unfolding decimal_in
one_digit k n h = rw (lt-ltb n 10 h) refl

digits_more_lem : (k n : ℕ) → 10 ≤ n → decimal_in (suc k) n ≡ decimal_in k (n / 10) ++ (glyph (n % 10) ∷ [])
unfolding decimal_in
digits_more_lem k n h = rw (le-ltb n 10 h) refl

-- more turns change nothing
enough : (k l n : ℕ) → n < k → n < l → decimal_in k n ≡ decimal_in l n
enough zero l n h i = absurd (omega arith)
enough (suc k) zero n h i = absurd (omega arith)
enough (suc k) (suc l) n h i =
    elim (dec_lt n 10) [
      | yes p ↦ one_digit k n p ∙ sym (one_digit l n p)
      | no q ↦
          digits_more_lem k n (omega arith)
          ∙ ap (λ ds. ds ++ (glyph (n % 10) ∷ [])) (enough k l (n / 10) (omega arith) (omega arith))
          ∙ sym (digits_more_lem l n (omega arith))
    ]

pub decimal_below_ten : (n : ℕ) → n < 10 → decimal n ≡ glyph n ∷ []
unfolding decimal
decimal_below_ten n h = one_digit n n h

pub decimal_from_ten : (n : ℕ) → 10 ≤ n → decimal n ≡ decimal (n / 10) ++ (glyph (n % 10) ∷ [])
unfolding decimal
decimal_from_ten n h =
    digits_more_lem n n h
    ∙ ap (λ ds. ds ++ (glyph (n % 10) ∷ [])) (enough n (suc (n / 10)) (n / 10) (omega arith) (omega arith))

-- what holds of numbers below 10 and, if it holds of the tenth part, of the number, holds of all: `most` bounds the number
by_digits : (P : ℕ → Type 0)
    → ((n : ℕ) → n < 10 → P n)
    → ((n : ℕ) → 10 ≤ n → P (n / 10) → P n)
    → (most n : ℕ) → n < most → P n
by_digits P one more zero n h = absurd (omega arith)
by_digits P one more (suc most) n h =
    elim (dec_lt n 10) [
      | yes p ↦ one n p
      | no q ↦ more n (omega arith) (by_digits P one more most (n / 10) (omega arith))
    ]

-- ---- read back
value_snoc : (v d : ℕ) (ds : List ℕ) → value_from v (ds ++ (d ∷ [])) ≡ value_from v ds * 10 + (d - 48)
unfolding value_from
value_snoc v d [] = refl
value_snoc v d (b ∷ ds) = value_snoc (v * 10 + (b - 48)) d ds

pub decimal_reads_back : (n : ℕ) → value (decimal n) ≡ n
unfolding value_from
decimal_reads_back n =
    by_digits (λ n. value (decimal n) ≡ n)
    (λ n h. rw (decimal_below_ten n h) (omega arith))
    (λ n h e. rw (decimal_from_ten n h, value_snoc 0 (glyph (n % 10)) (decimal (n / 10)), e) (omega arith))
    (suc n) n (omega arith)

glyph_is_digit : (d : ℕ) → d < 10 → is_digit (glyph d) ≡ true
glyph_is_digit d h = rw (le-leb 48 (48 + d) (omega arith), le-leb (48 + d) 57 (omega arith)) refl

digits_snoc : (d : ℕ) (ds : List ℕ) → all_digits ds ≡ true → d < 10 → all_digits (ds ++ (glyph d ∷ [])) ≡ true
unfolding all_digits
digits_snoc d [] e h = rw (glyph_is_digit d h) refl
digits_snoc d (b ∷ ds) e h =
    let (first, others) = (and-eq-true_iff (is_digit b) (all_digits ds)).0 e in
    rw (first, digits_snoc d ds others h) refl

pub decimal_is_digits : (n : ℕ) → all_digits (decimal n) ≡ true
unfolding all_digits
decimal_is_digits n =
    by_digits (λ n. all_digits (decimal n) ≡ true)
    (λ n h. rw (decimal_below_ten n h, glyph_is_digit n h) refl)
    (λ n h e. rw (decimal_from_ten n h) (digits_snoc (n % 10) (decimal (n / 10)) e (omega arith)))
    (suc n) n (omega arith)

-- ---- no leading zero, and one digit at least
pub decimal-not-empty : (n : ℕ) → 0 < length (decimal n)
decimal-not-empty n =
    by_digits (λ n. 0 < length (decimal n))
    (λ n h. rw (decimal_below_ten n h) (omega arith))
    (λ n h e. rw (decimal_from_ten n h) (omega (arith, length-append (decimal (n / 10)) (glyph (n % 10) ∷ []))))
    (suc n) n (omega arith)

pub decimal_has_no_leading_zero : (n : ℕ) → 0 < n → glyph 0 < get_or (decimal n) 0 0
decimal_has_no_leading_zero n =
    by_digits (λ n. 0 < n → glyph 0 < get_or (decimal n) 0 0)
    (λ n h some. rw (decimal_below_ten n h) (omega arith))
    (λ n h e some.
    rw (decimal_from_ten n h, get_or-append (decimal (n / 10)) (glyph (n % 10) ∷ []) 0 0 (decimal-not-empty (n / 10)))
    (e (omega arith)))
    (suc n) n (omega arith)

-- ---- how long
pub decimal-length : (k n : ℕ) → n < 10 ^ suc k → length (decimal n) ≤ suc k
decimal-length zero n h = rw (decimal_below_ten n (omega arith)) (omega arith)
decimal-length (suc k) n h =
    let power = pow-suc 10 (suc k) in
    elim (dec_lt n 10) [
      | yes p ↦ rw (decimal_below_ten n p) (omega arith)
      | no q ↦
          rw (decimal_from_ten n (omega arith))
          (omega (arith, decimal-length k (n / 10) (omega arith), length-append (decimal (n / 10)) (glyph (n % 10) ∷ [])))
    ]
