-- The rank of a word is its place in the list, and the list holds every word exactly once.
use Rattle.std.specs.Prelude.{ℕ, ◌+◌, ◌-◌, ◌*◌, ◌/◌, ◌%◌, ◌<◌, ◌≡◌, refl, Bool, true, false, cond, List, [], ◌∷◌, ltb}
use Rattle.std.proofs.Common.{div-add-mod', mod-lt, mul_comm, sym, ap, ◌∙◌, ltb-true, lt-ltb}
use native.Mathlib.Omega.{arith}
use Rattle.std.proofs.Math.Bool.{and-eq-true_iff}
use Rattle.std.proofs.Math.Arith.{digits_lt, digits_div, digits_mod}
use Rattle.gray_theory.specs.Radices.{size}
use Rattle.gray_theory.specs.Words.{even, member, is_word, reflect, rank}
use Rattle.gray_theory.specs.Indexed.{word_at}
use Rattle.gray_theory.proofs.Members.{member_is_word_at}
use Rattle.gray_theory.proofs.Sizes.{quotient_below, first_pos}
use Rattle.gray_theory.specs.Bools.{impossible}

-- ---- one digit: to reflect is to keep it below its radix, and twice is to leave it
cond_below : (m a : ℕ) (b : Bool) → a < m → cond b a (m - 1 - a) < m
cond_below m a true h = h
cond_below m a false h = omega arith

pub reflect_below : (m p a : ℕ) → a < m → reflect m p a < m
reflect_below m p a h = cond_below m a (even p) h

cond-twice : (m a : ℕ) (b : Bool) → a < m → cond b (cond b a (m - 1 - a)) (m - 1 - cond b a (m - 1 - a)) ≡ a
cond-twice m a true h = refl
cond-twice m a false h = omega arith

reflect-twice : (m p a : ℕ) → a < m → reflect m p (reflect m p a) ≡ a
reflect-twice m p a h = cond-twice m a (even p) h

-- ---- the index form
rank_of_word_at : (ms : List ℕ) (r : ℕ) → r < size ms → rank ms (word_at ms r) ≡ r
unfolding rank word_at
rank_of_word_at [] r h = unfold size in omega arith
rank_of_word_at (m ∷ ms) r h =
    let ih : rank ms (word_at ms (r / m)) ≡ r / m = rank_of_word_at ms (r / m) (quotient_below m ms r h) in
    let b : r % m < m = mod-lt r (first_pos m ms r h) in
    ap (λ (p : ℕ). p * m + reflect m p (reflect m (r / m) (r % m))) ih
    ∙ ap (λ (a : ℕ). r / m * m + a) (reflect-twice m (r / m) (r % m) b)
    ∙ div-add-mod' r m

pub rank_below : (ms w : List ℕ) → is_word ms w ≡ true → rank ms w < size ms
unfolding is_word rank size
rank_below [] w e = omega arith
rank_below (m ∷ ms) [] e = impossible (cc)
rank_below (m ∷ ms) (a ∷ w) e =
    let (first, others) = (and-eq-true_iff (ltb a m) (is_word ms w)).0 e in
    rw
    (mul_comm m (size ms))
    (digits_lt (rank_below ms w others) (reflect_below m (rank ms w) a (ltb-true a m first)))

pub word_at_of_rank : (ms w : List ℕ) → is_word ms w ≡ true → word_at ms (rank ms w) ≡ w
unfolding is_word rank word_at
word_at_of_rank [] [] e = refl
word_at_of_rank [] (a ∷ w) e = impossible (cc)
word_at_of_rank (m ∷ ms) [] e = impossible (cc)
word_at_of_rank (m ∷ ms) (a ∷ w) e =
    let (first, others) = (and-eq-true_iff (ltb a m) (is_word ms w)).0 e in
    let below : a < m = ltb-true a m first in
    let b : reflect m (rank ms w) a < m = reflect_below m (rank ms w) a below in
    rw
    (digits_div (rank ms w) b, digits_mod (rank ms w) b, reflect-twice m (rank ms w) a below, word_at_of_rank ms w others)

word_at_is_word : (ms : List ℕ) (r : ℕ) → r < size ms → is_word ms (word_at ms r) ≡ true
unfolding is_word word_at
word_at_is_word [] r h = refl
word_at_is_word (m ∷ ms) r h =
    rw
    (lt-ltb (reflect m (r / m) (r % m)) m (reflect_below m (r / m) (r % m) (mod-lt r (first_pos m ms r h))))
    (word_at_is_word ms (r / m) (quotient_below m ms r h))

-- ---- the list
-- each member is a word, and its rank is its place
pub rank_of_member : (ms : List ℕ) (r : ℕ) → r < size ms → (is_word ms (member ms r) ≡ true) × (rank ms (member ms r) ≡ r)
rank_of_member ms r h = rw (member_is_word_at ms r h) (word_at_is_word ms r h, rank_of_word_at ms r h)

-- each word is the member of its rank
pub member_of_rank : (ms w : List ℕ) → is_word ms w ≡ true → (rank ms w < size ms) × (member ms (rank ms w) ≡ w)
member_of_rank ms w e =
    (rank_below ms w e, member_is_word_at ms (rank ms w) (rank_below ms w e) ∙ word_at_of_rank ms w e)

-- each word stands in the list exactly once
pub stands_once : (ms w : List ℕ) → is_word ms w ≡ true
    → (r : ℕ) × (r < size ms) × (member ms r ≡ w) × ((s : ℕ) → s < size ms → member ms s ≡ w → s ≡ r)
stands_once ms w e = (
  rank ms w,
  (member_of_rank ms w e).0,
  (member_of_rank ms w e).1,
  λ s h same. sym (rank_of_member ms s h).1 ∙ ap (rank ms) same,
)
