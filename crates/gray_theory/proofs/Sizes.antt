-- Laws of radices and their product, with digit 1 first.
use Rattle.std.specs.Prelude.{ℕ, zero, suc, ◌+◌, ◌*◌, ◌/◌, ◌%◌, ◌≤◌, ◌<◌, ◌≡◌, refl, ◌↔◌, Bool, true, false, ◌&&◌, List, [], ◌∷◌, ◌++◌, leb, length, get_or, take}
use Rattle.std.proofs.Common.{div-lt_iff_lt-mul, le-mul_of_pos_right, mul_assoc, mul_comm, mul-pos, mul-zero, one-mul, zero-mul, arith, sym, ap, ◌∙◌, leb-true, leb-false, le-leb}
use Rattle.std.proofs.Math.Bool.{and-eq-true_iff, and_assoc}
use Rattle.std.proofs.Math.Arith.{mod-mul}
use Rattle.gray_theory.specs.Radices.{size, all_from}
use Rattle.gray_theory.specs.Bools.{impossible}

-- ---- radices that are large enough
pub all_from-append : (k : ℕ) (a b : List ℕ) → all_from k (a ++ b) ≡ all_from k a && all_from k b
unfolding all_from
all_from-append k [] b = refl
all_from-append k (m ∷ a) b = ap (λ t. leb k m && t) (all_from-append k a b) ∙ sym (and_assoc (leb k m) (all_from k a) (all_from k b))

pub all_from_weaker : (k j : ℕ) (ms : List ℕ) → j ≤ k → all_from k ms ≡ true → all_from j ms ≡ true
unfolding all_from
all_from_weaker k j [] h e = refl
all_from_weaker k j (m ∷ ms) h e =
    let (first, others) = (and-eq-true_iff (leb k m) (all_from k ms)).0 e in
    let b : k ≤ m = leb-true k m first in
    rw (le-leb j m (omega arith)) (all_from_weaker k j ms h others)

pub all_from-take : (k i : ℕ) (ms : List ℕ) → all_from k ms ≡ true → all_from k (take i ms) ≡ true
unfolding all_from
all_from-take k zero ms e = refl
all_from-take k (suc i) [] e = refl
all_from-take k (suc i) (m ∷ ms) e =
    let (first, others) = (and-eq-true_iff (leb k m) (all_from k ms)).0 e in
    rw first (all_from-take k i ms others)

pub radix_least : (k : ℕ) (ms : List ℕ) (i : ℕ) → all_from k ms ≡ true → i < length ms → k ≤ get_or ms i 0
unfolding all_from
radix_least k [] i e h = absurd (omega arith)
radix_least k (m ∷ ms) zero e h = leb-true k m ((and-eq-true_iff (leb k m) (all_from k ms)).0 e).0
radix_least k (m ∷ ms) (suc i) e h = radix_least k ms i ((and-eq-true_iff (leb k m) (all_from k ms)).0 e).1 (omega arith)

pub radix_two : (ms : List ℕ) (i : ℕ) → all_from 2 ms ≡ true → i < length ms → 2 ≤ get_or ms i 0
unfolding all_from
radix_two [] i two h = absurd (omega arith)
radix_two (m ∷ ms) zero two h = leb-true 2 m ((and-eq-true_iff (leb 2 m) (all_from 2 ms)).0 two).0
radix_two (m ∷ ms) (suc i) two h = radix_two ms i ((and-eq-true_iff (leb 2 m) (all_from 2 ms)).0 two).1 (omega arith)

-- ---- the product
pub size-append : (a b : List ℕ) → size (a ++ b) ≡ size a * size b
unfolding size
size-append [] b = sym (one-mul (size b))
size-append (m ∷ a) b = ap (λ n. m * n) (size-append a b) ∙ sym (mul_assoc m (size a) (size b))

pub size_pos : (ms : List ℕ) → all_from 1 ms ≡ true → 0 < size ms
unfolding all_from size
size_pos [] e = omega arith
size_pos (m ∷ ms) e =
    let (first, others) = (and-eq-true_iff (leb 1 m) (all_from 1 ms)).0 e in
    mul-pos (leb-true 1 m first) (size_pos ms others)

-- a radix that is 0 makes it 0
pub size_none : (ms : List ℕ) → all_from 1 ms ≡ false → size ms ≡ 0
unfolding all_from size
size_none [] e = impossible (cc)
size_none (m ∷ ms) e = go (leb 1 m) refl (λ f. size_none ms f)
  where
    go : (b : Bool) → leb 1 m ≡ b → (all_from 1 ms ≡ false → size ms ≡ 0) → m * size ms ≡ 0
    go true t rest = ap (λ (n : ℕ). m * n) (rest (ap (λ b. b && all_from 1 ms) (sym t) ∙ e)) ∙ mul-zero m
    go false t rest = let none : m ≡ 0 = let u = leb-false 1 m t in omega arith in rw none (zero-mul (size ms))

-- a factor of a product that is above something is not 0
pub pos_of_lt_mul : (i n m : ℕ) → i < n * m → 0 < m
pos_of_lt_mul i n zero h = absurd (omega arith)
pos_of_lt_mul i n (suc m) h = omega arith

-- the first radix of a system with a word, or a rank, is not 0
pub first_pos : (m : ℕ) (ms : List ℕ) (r : ℕ) → r < size (m ∷ ms) → 0 < m
unfolding size
first_pos m ms r h = pos_of_lt_mul r (size ms) m (omega (arith, mul_comm m (size ms)))

-- the quotient of a rank is a rank of the slower digits
pub quotient_below : (m : ℕ) (ms : List ℕ) (r : ℕ) → r < size (m ∷ ms) → r / m < size ms
unfolding size
quotient_below m ms r h =
    let f : r < size ms * m = omega (arith, mul_comm m (size ms)) in
    (div-lt_iff_lt-mul (pos_of_lt_mul r (size ms) m f)).1 f

-- m P divides j exactly if m divides it, and P the quotient
pub divides_product : (j m P : ℕ) → 0 < m → 0 < P → (j % (m * P) ≡ 0) ↔ ((j % m ≡ 0) × (j / m % P ≡ 0))
divides_product j m P pos posP =
    let e : j % (m * P) ≡ j / m % P * m + j % m = ap (λ (n : ℕ). j % n) (mul_comm m P) ∙ mod-mul j posP pos in
    let least : j / m % P ≤ j / m % P * m = le-mul_of_pos_right (j / m % P) pos in
    (λ z. (omega arith, omega arith), λ h. let t = ap (λ (n : ℕ). n * m) h.1 in let f = h.0 in omega arith)
