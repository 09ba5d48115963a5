-- Laws for loops over lent bytes: what the first i bytes, the slowest i digits, say of the digits.
use Rattle.std.specs.Prelude.{ℕ, suc, ◌+◌, ◌-◌, ◌*◌, ◌≤◌, ◌<◌, ◌≡◌, refl, true, ◌&&◌, List, [], ◌∷◌, ◌++◌, leb, ltb, length, get_or, take, drop}
use Rattle.std.proofs.Common.{le-mul_of_pos_right, mul_comm, add-one, arith, sym, ap, ap₂, ◌∙◌, take-append-drop, length-drop, take-suc}
use Rattle.std.proofs.Math.Bool.{and-eq-true_iff, and_assoc}
use Rattle.std.proofs.lemmas.List.{reverse-append, length-reverse}
use borrow.Author.Tests.{leb-true, ltb-true}
use Rattle.gray_theory.specs.Radices.{digits, size, all_from}
use Rattle.gray_theory.specs.Words.{is_word}
use Rattle.gray_theory.specs.Bools.{impossible}
use Rattle.gray_theory.proofs.Sizes.{size_pos, all_from-append, size-append}

-- ---- the digits of a part
-- one byte more is one faster digit
pub digits_more_lem : (l : List ℕ) (i : ℕ) → i < length l → digits (take (i + 1) l) ≡ get_or l i 0 ∷ digits (take i l)
digits_more_lem l i h = rw (add-one i) (ap digits (take-suc l i 0 h) ∙ reverse-append (take i l) (get_or l i 0 ∷ []))

digits_split : (l : List ℕ) (i : ℕ) → digits l ≡ digits (drop i l) ++ digits (take i l)
digits_split l i = ap digits (sym (take-append-drop i l)) ∙ reverse-append (take i l) (drop i l)

-- ---- lists one after another
is_word-append : (a u b v : List ℕ) → length a ≡ length u → is_word (a ++ b) (u ++ v) ≡ is_word a u && is_word b v
unfolding is_word
is_word-append [] [] b v e = refl
is_word-append [] (x ∷ u) b v e = absurd (omega arith)
is_word-append (m ∷ a) [] b v e = absurd (omega arith)
is_word-append (m ∷ a) (x ∷ u) b v e =
    ap (λ t. ltb x m && t) (is_word-append a u b v (omega arith)) ∙ sym (and_assoc (ltb x m) (is_word a u) (is_word b v))

pub is_word-length : (ms w : List ℕ) → is_word ms w ≡ true → length ms ≡ length w
unfolding is_word
is_word-length [] [] e = refl
is_word-length [] (a ∷ w) e = impossible (cc)
is_word-length (m ∷ ms) [] e = impossible (cc)
is_word-length (m ∷ ms) (a ∷ w) e = ap suc (is_word-length ms w ((and-eq-true_iff (ltb a m) (is_word ms w)).0 e).1)

-- ---- the slowest i digits
-- every radix is at least k: those of the first i bytes, those of the rest, and each
all_from_parts : (k : ℕ) (l : List ℕ) (i : ℕ)
    → all_from k (digits l) ≡ true
    → (all_from k (digits (drop i l)) ≡ true) × (all_from k (digits (take i l)) ≡ true)
all_from_parts k l i e =
    (and-eq-true_iff (all_from k (digits (drop i l))) (all_from k (digits (take i l)))).0
    (sym (all_from-append k (digits (drop i l)) (digits (take i l))) ∙ ap (all_from k) (sym (digits_split l i)) ∙ e)

pub radix_from : (k : ℕ) (l : List ℕ) (i : ℕ) → i < length l → all_from k (digits l) ≡ true → k ≤ get_or l i 0
radix_from k l i h e =
    unfold all_from in
    leb-true k (get_or l i 0)
    ((and-eq-true_iff (leb k (get_or l i 0)) (all_from k (digits (take i l)))).0 (ap (all_from k) (sym (digits_more_lem l i h)) ∙ (all_from_parts k l (i + 1) e).1)).0

-- the product of the slowest i radices is at most the whole product
pub size_taken : (l : List ℕ) (i : ℕ) → all_from 1 (digits l) ≡ true → size (digits (take i l)) ≤ size (digits l)
size_taken l i e =
    let whole : size (digits l) ≡ size (digits (take i l)) * size (digits (drop i l)) =
    ap size (digits_split l i) ∙ size-append (digits (drop i l)) (digits (take i l)) ∙ mul_comm (size (digits (drop i l))) (size (digits (take i l))) in
    let least = le-mul_of_pos_right (size (digits (take i l))) (size_pos (digits (drop i l)) (all_from_parts 1 l i e).0) in
    omega arith

-- the slowest i digits of a word are a word
pub is_word_taken : (l w : List ℕ) (i : ℕ)
    → is_word (digits l) (digits w) ≡ true
    → is_word (digits (take i l)) (digits (take i w)) ≡ true
is_word_taken l w i e =
    let long = is_word-length (digits l) (digits w) e in
    let a = length-reverse l in
    let b = length-reverse w in
    let c = length-reverse (drop i l) in
    let d = length-reverse (drop i w) in
    let f = length-drop i l in
    let g = length-drop i w in
    let same : length (digits (drop i l)) ≡ length (digits (drop i w)) = c ∙ f ∙ ap (λ (n : ℕ). n - i) (sym a ∙ long ∙ b) ∙ sym g ∙ sym d in
    ((and-eq-true_iff (is_word (digits (drop i l)) (digits (drop i w))) (is_word (digits (take i l)) (digits (take i w)))).0
    (sym (is_word-append (digits (drop i l)) (digits (drop i w)) (digits (take i l)) (digits (take i w)) same)
    ∙ ap₂ is_word (sym (digits_split l i)) (sym (digits_split w i))
    ∙ e)).1

-- a word has as many bytes as the radices, and each is below its radix
pub word_long : (l w : List ℕ) → is_word (digits l) (digits w) ≡ true → length w ≡ length l
word_long l w e =
    let long = is_word-length (digits l) (digits w) e in
    let a = length-reverse l in
    let b = length-reverse w in
    omega arith

pub digit_below : (l w : List ℕ) (i : ℕ) → i < length l → is_word (digits l) (digits w) ≡ true → get_or w i 0 < get_or l i 0
digit_below l w i h e =
    let long = word_long l w e in
    unfold is_word in
    ltb-true (get_or w i 0) (get_or l i 0)
    ((and-eq-true_iff (ltb (get_or w i 0) (get_or l i 0)) (is_word (digits (take i l)) (digits (take i w)))).0
    (ap₂ is_word (sym (digits_more_lem l i h)) (sym (digits_more_lem w i (omega arith))) ∙ is_word_taken l w (i + 1) e)).0
