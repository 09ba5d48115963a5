-- The digits of a field of a line: the number that they were written for is read from them, and they are written for the number
-- that was read from them.
use Rattle.std.specs.Prelude.{ℕ, zero, suc, ◌+◌, ◌-◌, ◌*◌, ◌/◌, ◌%◌, ◌^◌, ◌<◌, ◌≡◌, refl, true, List, [], ◌∷◌, leb, length}
use Rattle.std.proofs.Common.{arith, pow-suc, div-one, sym, ap, ap₂, ◌∙◌, leb-true, le-leb}
use Rattle.std.proofs.Math.Nat.{div-div-eq-div-mul, div-eq_of_lt}
use Rattle.std.proofs.Math.Bool.{and-eq-true_iff}
use Rattle.text_theory.specs.Decimals.{glyph, is_digit, all_digits, value_from, value}
use Rattle.tides_theory.specs.Lines.{digits_of}

pub glyph_is_digit : (v : ℕ) → is_digit (glyph (v % 10)) ≡ true
glyph_is_digit v = rw (le-leb 48 (48 + v % 10) (omega arith), le-leb (48 + v % 10) 57 (omega arith)) refl

next_power : (v k : ℕ) → v / 10 ^ suc k ≡ v / 10 ^ k / 10
next_power v k = ap (λ p. v / p) (pow-suc 10 k) ∙ sym (div-div-eq-div-mul v (10 ^ k) 10)

-- ---- read from what was written
-- the low digits of a number behind its high ones
low_digits-read : (k v : ℕ) → value_from (v / 10 ^ k) (digits_of k v) ≡ v
unfolding digits_of value_from
low_digits-read zero v = div-one v
low_digits-read (suc k) v =
    let tenth = next_power v k in
    let high : v / 10 ^ suc k * 10 + (glyph (v / 10 ^ k % 10) - 48) ≡ v / 10 ^ k = omega arith in
    ap (λ w. value_from w (digits_of k v)) high ∙ low_digits-read k v

pub digits-read_back : (k v : ℕ) → v < 10 ^ k → value (digits_of k v) ≡ v
digits-read_back k v h = ap (λ w. value_from w (digits_of k v)) (sym (div-eq_of_lt h)) ∙ low_digits-read k v

-- ---- written for what was read
-- one digit more: what stands before it, and the digit
before_digit : (w b : ℕ) → is_digit b ≡ true → ((w * 10 + (b - 48)) / 10 ≡ w) × (glyph ((w * 10 + (b - 48)) % 10) ≡ b)
before_digit w b e =
    let (low, high) = (and-eq-true_iff (leb 48 b) (leb b 57)).0 e in
    let least = leb-true 48 b low in
    let most = leb-true b 57 high in
    omega arith

high-digits-kept : (w : ℕ) (bs : List ℕ) → all_digits bs ≡ true → value_from w bs / 10 ^ length bs ≡ w
unfolding all_digits value_from
high-digits-kept w [] e = div-one w
high-digits-kept w (b ∷ bs) e =
    let (first, others) = (and-eq-true_iff (is_digit b) (all_digits bs)).0 e in
    let v = w * 10 + (b - 48) in
    next_power (value_from v bs) (length bs)
    ∙ ap (λ n. n / 10) (high-digits-kept v bs others)
    ∙ (before_digit w b first).0

low_digits-written : (w : ℕ) (bs : List ℕ) → all_digits bs ≡ true → digits_of (length bs) (value_from w bs) ≡ bs
unfolding all_digits value_from digits_of
low_digits-written w [] e = refl
low_digits-written w (b ∷ bs) e =
    let (first, others) = (and-eq-true_iff (is_digit b) (all_digits bs)).0 e in
    let v = w * 10 + (b - 48) in
    ap₂ (λ c cs. c ∷ cs)
    (ap (λ n. glyph (n % 10)) (high-digits-kept v bs others) ∙ (before_digit w b first).1)
    (low_digits-written v bs others)

pub digits-written_back : (bs : List ℕ) → all_digits bs ≡ true → digits_of (length bs) (value bs) ≡ bs
digits-written_back bs e = low_digits-written 0 bs e
