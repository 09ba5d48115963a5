-- Laws for loops over the bytes of a word, the slowest digit first: what is tested and ranked of the first i bytes.
use Rattle.std.specs.Prelude.{ℕ, ◌+◌, ◌-◌, ◌*◌, ◌/◌, ◌%◌, ◌^◌, ◌≤◌, ◌<◌, ◌≡◌, refl, Bool, true, false, not, cond, ◌&&◌, List, eqb, length, get_or, take}
use Rattle.std.proofs.Common.{arith, ap, ap₂, ◌∙◌, eqb-true, eq-eqb, ne_eqb, take_all}
use Rattle.std.proofs.Math.Path.{sym}
use Rattle.std.proofs.lemmas.Bool.{eqb-false}
use Rattle.std.proofs.Math.Arith.{digits_lt}
use Rattle.std.proofs.Math.Dec.{ltb}
use Rattle.gray_theory.specs.Answers.{given, refused}
use Rattle.gray_theory.specs.Radices.{digits, size, all_from}
use Rattle.gray_theory.specs.Words.{even, is_word, reflect, rank}
use Rattle.gray_theory.proofs.Digits.{digits_more_lem, size_taken, word_long, digit_below}
use Rattle.gray_theory.proofs.Ranks.{reflect_below, rank_below}
use Rattle.gray_theory.specs.Calls.{size_call, rank_call}
use Rattle.gray_theory.proofs.Refusals.{radices_accepted}
use Rattle.gray_theory.proofs.Bools.{never_true}

-- ---- two digits as one
-- the parity of a rank, one digit further on: the digit's own after an even rank, the other after an odd one
even-kept : (p m a : ℕ) → even p ≡ true → even (p * m + a) ≡ even a
even-kept p m a e =
    let halves : p ≡ 2 * (p / 2) = let z = eqb-true (p % 2) 0 e in omega arith in
    let twice : p * m ≡ 2 * (p / 2) * m = ap (λ (x : ℕ). x * m) halves in
    let same : (p * m + a) % 2 ≡ a % 2 = omega arith in
    ap (λ (x : ℕ). eqb x 0) same

even_turned : (p m a : ℕ) → a < m → even p ≡ false → even (p * m + (m - 1 - a)) ≡ not (even a)
even_turned p m a h e = go (even a) refl
  where
    halves : p ≡ 2 * (p / 2) + 1
    halves = let z = eqb-false (p % 2) 0 e in omega arith

    twice : p * m ≡ (2 * (p / 2) + 1) * m
    twice = ap (λ (x : ℕ). x * m) halves

    go : (b : Bool) → even a ≡ b → even (p * m + (m - 1 - a)) ≡ not b
    go true t =
        let z = eqb-true (a % 2) 0 t in
        let u = twice in
        ne_eqb ((p * m + (m - 1 - a)) % 2) 0 (λ f. absurd (omega arith))
    go false t =
        let z = eqb-false (a % 2) 0 t in
        let u = twice in
        eq-eqb ((p * m + (m - 1 - a)) % 2) 0 (omega arith)

-- the faster digit from either end, after a slower one from the same end or the other
kept : (p m l a x : ℕ) → (p * m + a) * l + x ≡ p * (m * l) + (a * l + x)
kept p m l a x = omega arith

turned : (p m l a x : ℕ) → a < m → x < l → (p * m + (m - 1 - a)) * l + (l - 1 - x) ≡ p * (m * l) + (m * l - 1 - (a * l + x))
turned p m l a x h j =
    let d = m - 1 - a in
    let whole : m ≡ a + d + 1 = omega arith in
    let wide : m * l ≡ (a + d + 1) * l = ap (λ (y : ℕ). y * l) whole in
    omega arith

other_end : (l b : ℕ) (c : Bool) → b < l → cond (not c) b (l - 1 - b) ≡ l - 1 - cond c b (l - 1 - b)
other_end l b true h = refl
other_end l b false h = omega arith

-- two digits are ranked as one would be whose radix is the product of theirs: the one that is their rank among themselves
pub two_as_one : (p m a l b : ℕ)
    → a < m
    → b < l
    → (p * m + reflect m p a) * l + reflect l (p * m + reflect m p a) b
    ≡ p * (m * l) + reflect (m * l) p (a * l + reflect l a b)
two_as_one p m a l b h j = go (even p) refl
  where
    go : (t : Bool) → even p ≡ t
        → (p * m + cond t a (m - 1 - a)) * l + reflect l (p * m + cond t a (m - 1 - a)) b
        ≡ p * (m * l) + cond t (a * l + reflect l a b) (m * l - 1 - (a * l + reflect l a b))
    go true e = rw (even-kept p m a e) (kept p m l a (reflect l a b))
    go false e =
        rw (even_turned p m a h e, other_end l b (even a) j) (turned p m l a (reflect l a b) h (reflect_below l a b j))

-- and it is below that radix
pub two_below : (m a l b : ℕ) → a < m → b < l → a * l + reflect l a b < m * l
two_below m a l b h j = digits_lt h (reflect_below l a b j)

-- ---- one digit more
module _ (l w : List ℕ) (same : length w ≡ length l) where
  pub below_more : (i : ℕ) (ok : Bool)
      → i < length l
      → ok ≡ is_word (digits (take i l)) (digits (take i w))
      → ltb (get_or w i 0) (get_or l i 0) && ok ≡ is_word (digits (take (i + 1) l)) (digits (take (i + 1) w))
  unfolding is_word
  below_more i ok h e =
      rw (digits_more_lem l i h, digits_more_lem w i (omega arith)) (ap (λ t. ltb (get_or w i 0) (get_or l i 0) && t) e)

  pub rank_more : (i p m a b : ℕ)
      → i < length l
      → m ≡ get_or l i 0
      → a ≡ get_or w i 0
      → p ≡ rank (digits (take i l)) (digits (take i w))
      → b ≡ reflect m p a
      → p * m + b ≡ rank (digits (take (i + 1) l)) (digits (take (i + 1) w))
  unfolding rank
  rank_more i p m a b h em ea ep eb = rw (digits_more_lem l i h, digits_more_lem w i (omega arith), eb, em, ea, ep)

  -- ---- all of them
  pub below_all : (i : ℕ) (ok : Bool)
      → length l ≤ i
      → ok ≡ is_word (digits (take i l)) (digits (take i w))
      → ok ≡ is_word (digits l) (digits w)
  below_all i ok h e = e ∙ ap₂ (λ t u. is_word (digits t) (digits u)) (take_all i l h) (take_all i w (omega arith))

  pub rank_all : (i p : ℕ) → length l ≤ i → p ≡ rank (digits (take i l)) (digits (take i w)) → p ≡ rank (digits l) (digits w)
  rank_all i p h e = e ∙ ap₂ (λ t u. rank (digits t) (digits u)) (take_all i l h) (take_all i w (omega arith))

-- a rank of the slowest digits is below N, so nothing overflows
pub rank_small : (l w : List ℕ) (i : ℕ)
    → is_word (digits (take i l)) (digits (take i w)) ≡ true
    → all_from 1 (digits l) ≡ true
    → size (digits l) ≤ 2 ^ 62
    → rank (digits (take i l)) (digits (take i w)) < 2 ^ 62
rank_small l w i one least limit =
    let below = rank_below (digits (take i l)) (digits (take i w)) one in
    let part = size_taken l i least in
    omega arith

-- ---- no word
-- of another length than the radices
pub too_long_or_short : (l w : List ℕ) → (length w ≡ length l → ⊥) → is_word (digits l) (digits w) ≡ false
too_long_or_short l w n = never_true (is_word (digits l) (digits w)) (λ e. n (word_long l w e))

-- with a digit that is not below its radix
pub not_below : (l w : List ℕ) (i : ℕ) → i < length l → get_or l i 0 ≤ get_or w i 0 → is_word (digits l) (digits w) ≡ false
not_below l w i h over =
    never_true (is_word (digits l) (digits w)) (λ e. let below = digit_below l w i h e in absurd (omega arith))

-- ---- what a call answers once its radices are accepted
module _ (l w : List ℕ) (n : ℕ) (size_is : size_call l ≡ given n) where
  pub word_refused : is_word (digits l) (digits w) ≡ false → refused 8 ≡ rank_call l w
  unfolding rank_call
  word_refused e = sym (radices_accepted l n _ size_is ∙ rw e)

  pub word_ranked : is_word (digits l) (digits w) ≡ true → given (rank (digits l) (digits w)) ≡ rank_call l w
  unfolding rank_call
  word_ranked e = sym (radices_accepted l n _ size_is ∙ rw e)
