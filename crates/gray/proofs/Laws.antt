-- What a turn of each loop adds, and what a stage's answer says, over plain lists and numbers. Assumes nothing.
use Prim.Native.Nat.{ℕ, zero, suc, ◌+◌, ◌-◌, ◌*◌, ◌/◌, ◌%◌, ◌^◌, ◌≤◌, ◌<◌}
use native.Mathlib.Nat.{le_trans, mul-le-mul, mul_comm, pow-le-pow_right, pow-succ'}
use native.Mathlib.Numerals.{add-one}
use native.Mathlib.Nat.{div-lt_iff_lt-mul, le-div_iff_mul-le}
use native.Mathlib.Omega.{arith}
use mathlib.Core.Path.{◌≡◌, refl, sym, ap, ap₂, subst, ◌∙◌}
use mathlib.Core.Bool.{not, Bool, true, false, ◌&&◌, ◌||◌, and-false}
use mathlib.Core.List.{List, ◌∷◌, ◌++◌, reverse-cons, reverse-append}
use borrow.Author.Tests.{lt-ltb, le-ltb, le-leb, lt-leb, ltb-true, ltb-false}
use lib.Dec.{eqb, leb, ltb}
use lib.ListN.{length, get_or, set, take, drop, length-take, length-reverse}
use lib.Seq.{take_all, take-add, drop-cons, lt-length-set, get_or-set_same, drop-set-lt, append_snoc}
use Rattle.gray_theory.specs.Answers.{given, refused}
use Rattle.gray_theory.specs.Radices.{digits, bytes, size, all_from, wrong_count}
use Rattle.gray_theory.specs.Calls.{size_call, rank_call, word_call}
use Rattle.gray_theory.specs.Faults.{Fault.count, Fault.radix, Fault.many, Fault.none}
use Rattle.gray_theory.proofs.Faults.{lowest_fault_is_given}
use Rattle.gray_theory.proofs.Refusals.{accepted, radices_accepted}
use Rattle.std.specs.Prelude.{Option, Some, None}
use Rattle.std.specs.Option.{ok_or}
use Rattle.std.specs.Bool.{MatchBool}
use Rattle.std.specs.List.{AllWithin, HoldsAt}
use Rattle.gray.specs.Enums.{answer_as}
use Rattle.gray.specs.declared.Refusal.TheVariants.{Word}
use Rattle.gray.specs.Stages.{product_as, Multiplied, digit_as, two_as, pair_as, place_as}
use Rattle.gray_theory.specs.Words.{is_word, reflect, rank, member}
use Rattle.gray_theory.specs.Indexed.{word_at}
use Rattle.gray_theory.proofs.Members.{member_is_word_at, length-word_at}
use Rattle.gray_theory.proofs.Digits.{digits_more_lem, radix_from, size_taken}
use Rattle.gray_theory.proofs.Ranking.{two_as_one, two_below, below_more, below_all, rank_more, rank_all, not_below, word_refused, word_ranked}
use Rattle.gray_theory.proofs.Sizes.{size-append, size_pos, size_none}
use Rattle.gray_theory.specs.Bools.{impossible}
use Rattle.gray_theory.proofs.Bools.{never_true, never_false}

-- ---- none_zero
pub tested_more : (k : ℕ) (l : List ℕ) (i : ℕ) (ok : Bool)
    → i < length l
    → ok ≡ all_from k (digits (take i l))
    → leb k (get_or l i 0) && ok ≡ all_from k (digits (take (i + 1) l))
unfolding all_from
tested_more k l i ok h e = rw (digits_more_lem l i h) (ap (λ t. leb k (get_or l i 0) && t) e)

-- each radix by itself, and all of them
tested_to : (k : ℕ) (l : List ℕ) (i : ℕ) → i ≤ length l → AllWithin (λ m. k ≤ m) l 0 (length l) → true ≡ all_from k (digits (take i l))
unfolding all_from
tested_to k l zero h w = refl
tested_to k l (suc i) h w =
    sym (ap (λ t. t && true) (le-leb k (get_or l i 0) (w i 0 (omega arith) (omega arith))))
    ∙ tested_more k l i true (omega arith) (tested_to k l i (omega arith) w)
    ∙ ap (λ j. all_from k (digits (take j l))) (add-one i)

pub tested_by_each : (l : List ℕ) (r : Bool)
    → MatchBool r (AllWithin (λ m. 1 ≤ m) l 0 (length l)) ((i : ℕ) × (i < length l) × HoldsAt (λ m. m < 1) l i)
    → r ≡ all_from 1 (digits l)
tested_by_each l true w = tested_to 1 l (length l) (omega arith) w ∙ ap (λ t. all_from 1 (digits t)) (take_all (length l) l (omega arith))
tested_by_each l false (i, h, low) =
    sym
    (never_true (all_from 1 (digits l))
    (λ e. let least = radix_from 1 l i h e in let none : get_or l i 0 < 1 = low 0 in absurd (omega arith)))

-- ---- products within 2^62 and over it
pub within : (n : ℕ) → n ≤ 2 ^ 62 → Some n ≡ product_as n
within n h = rw (le-ltb (2 ^ 62) n h)

pub over : (n : ℕ) → 2 ^ 62 < n → None ≡ product_as n
over n h = rw (lt-ltb (2 ^ 62) n h)

within_says : (n q : ℕ) → product_as n ≡ Some q → (q ≡ n) × (q ≤ 2 ^ 62)
within_says n q e = go (ltb (2 ^ 62) n) refl
  where
    go : (b : Bool) → ltb (2 ^ 62) n ≡ b → (q ≡ n) × (q ≤ 2 ^ 62)
    go true t = impossible (cc)
    go false t = let same : q ≡ n = cc in let small = ltb-false (2 ^ 62) n t in (same, omega arith)

over-says : (n : ℕ) → product_as n ≡ None → 2 ^ 62 < n
over-says n e = go (ltb (2 ^ 62) n) refl
  where
    go : (b : Bool) → ltb (2 ^ 62) n ≡ b → 2 ^ 62 < n
    go true t = ltb-true (2 ^ 62) n t
    go false t = impossible (cc)

-- so is the product of numbers whose bounds' product is
pub bounded : (p q a b : ℕ) → p ≤ a → q ≤ b → a * b ≤ 2 ^ 62 → p * q ≤ 2 ^ 62
bounded p q a b h k small = le_trans (mul-le-mul h k) small

-- the division tells whether a product is over
pub divided_over : (p q : ℕ) → 0 < q → 2 ^ 62 / q < p → 2 ^ 62 < p * q
divided_over p q pos h = (div-lt_iff_lt-mul pos).0 h

pub divided_within : (p q : ℕ) → 0 < q → p ≤ 2 ^ 62 / q → p * q ≤ 2 ^ 62
divided_within p q pos h = (le-div_iff_mul-le pos).0 h

-- ---- product_of_few
pub size_more : (l : List ℕ) (i m p : ℕ)
    → i < length l
    → m ≡ get_or l i 0
    → p ≡ size (digits (take i l))
    → m * p ≡ size (digits (take (i + 1) l))
unfolding size
size_more l i m p h e f = rw (digits_more_lem l i h, e, f)

pub few_more : (i m p : ℕ) → m < 256 → p ≤ 255 ^ i → m * p ≤ 255 ^ (i + 1)
few_more i m p h k =
    let next : 255 ^ (i + 1) ≡ 255 * 255 ^ i = rw (add-one i) (pow-succ' 255 i) in
    let below : m ≤ 255 = omega arith in
    let t = mul-le-mul below k in
    omega arith

pub few_fit : (i : ℕ) → i ≤ 8 → 255 ^ i < 2 ^ 64
few_fit i h = let t : 255 ^ i ≤ 255 ^ 8 = pow-le-pow_right (omega arith) h in omega arith

-- ---- product_of
-- p is the product of the slowest i radices, and within 2^62; the others are so many times eight
pub record Taken (l : List ℕ) (p i : ℕ) : Type 0 where
  pub count : i ≤ length l
  pub eights : (length l - i) % 8 ≡ 0
  pub whole : p ≡ size (digits (take i l))
  pub limit : p ≤ 2 ^ 62

pub taken_first : (l : List ℕ) (p : ℕ)
    → let i = length l % 8 in
    p ≡ size (digits (take i l))
    → p ≤ 255 ^ length (take i l)
    → Taken l p i
taken_first l p e h =
    let i = length l % 8 in
    let long = length-take i l in
    let few : length (take i l) ≤ 7 = omega arith in
    let t : 255 ^ length (take i l) ≤ 255 ^ 7 = pow-le-pow_right (omega arith) few in
    record { count = omega arith; eights = omega arith; whole = e; limit = omega arith }

module _ (l : List ℕ) (p q i : ℕ) (so : Taken l p i) (more : i < length l) where
  pub eight_more : i + 8 ≤ length l
  eight_more = let t = so.eights in omega arith

  module _ (next : q ≡ size (digits (take (i + 8 - i) (drop i l)))) where
    multiplied : p * q ≡ size (digits (take (i + 8) l))
    multiplied =
        let eight : i + 8 - i ≡ 8 = omega arith in
        let parts : digits (take (i + 8) l) ≡ digits (take 8 (drop i l)) ++ digits (take i l) =
        ap digits (take-add i 8 l) ∙ reverse-append (take i l) (take 8 (drop i l)) in
        mul_comm p q
        ∙ ap₂ (λ (x y : ℕ). x * y) (next ∙ ap (λ k. size (digits (take k (drop i l)))) eight) so.whole
        ∙ sym (ap size parts ∙ size-append (digits (take 8 (drop i l))) (digits (take i l)))

    pub taken_more : (r : ℕ) → product_as (p * q) ≡ Some r → Taken l r (i + 8)
    taken_more r w =
        let said = within_says (p * q) r w in
        let t = so.eights in
        record { count = eight_more; eights = omega arith; whole = said.0 ∙ multiplied; limit = said.1 }

    pub taken_over : product_as (p * q) ≡ None → all_from 1 (digits l) ≡ true → 2 ^ 62 < size (digits l)
    taken_over o least =
        let large = over-says (p * q) o in
        let part = size_taken l (i + 8) least in
        let same = multiplied in
        omega arith

pub taken_all : (l : List ℕ) (p i : ℕ) → Taken l p i → length l ≤ i → (p ≡ size (digits l)) × (p ≤ 2 ^ 62)
taken_all l p i so h = (so.whole ∙ ap (λ t. size (digits t)) (take_all i l h), so.limit)

-- ---- size
module _ (l : List ℕ) where
  same_count : (eqb (length l) 0 || ltb 48 (length l)) ≡ wrong_count (digits l)
  same_count = ap (λ n. eqb n 0 || ltb 48 n) (sym (length-reverse l))

  pub count_refused : (eqb (length l) 0 || ltb 48 (length l)) ≡ true → refused 2 ≡ size_call l
  unfolding size_call
  count_refused e = sym (lowest_fault_is_given (digits l) (count (sym same_count ∙ e)) (given (size (digits l))))

  module _ (counted : (eqb (length l) 0 || ltb 48 (length l)) ≡ false) where
    pub radix_refused : all_from 1 (digits l) ≡ false → refused 3 ≡ size_call l
    unfolding size_call
    radix_refused f = sym (lowest_fault_is_given (digits l) (radix (sym same_count ∙ counted) (ap not f)) (given (size (digits l))))

    module _ (r : Option ℕ) (made : Multiplied l r) where
      -- a product that is 0 has a radix that is 0, and one that is not has none
      pub zero_refused : (n : ℕ) → r ≡ Some n → n ≡ 0 → refused 3 ≡ size_call l
      zero_refused n e nil =
          let same = (subst (Multiplied l) e made).0 in
          radix_refused (never_true (all_from 1 (digits l)) (λ f. let some = size_pos (digits l) f in absurd (omega arith)))

      pub size_refused : r ≡ None → all_from 1 (digits l) ≡ true → refused 4 ≡ size_call l
      unfolding size_call
      size_refused e f =
          let over = lt-ltb (2 ^ 62) (size (digits l)) (subst (Multiplied l) e made f) in
          sym (lowest_fault_is_given (digits l) (many (sym same_count ∙ counted) (ap not f) over) (given (size (digits l))))

      pub size_given : (n : ℕ) → r ≡ Some n → (n ≡ 0 → ⊥) → given n ≡ size_call l
      unfolding size_call
      size_given n e some =
          let (same, within) = subst (Multiplied l) e made in
          let small = le-ltb (2 ^ 62) (size (digits l)) (omega arith) in
          let least = never_false (all_from 1 (digits l)) (λ f. some (same ∙ size_none (digits l) f)) in
          ap given same
          ∙ sym (lowest_fault_is_given (digits l) (none (sym same_count ∙ counted) (ap not least) small) (given (size (digits l))))

-- ---- digit_at and pair_at
pub digit_is_below : (m a : ℕ) → a < m → Some (m, a) ≡ digit_as m a
digit_is_below m a h = rw (lt-ltb a m h)

pub digit_is_wrong : (m a : ℕ) → m ≤ a → None ≡ digit_as m a
digit_is_wrong m a h = rw (le-ltb a m h)

below_says : (m a x y : ℕ) → digit_as m a ≡ Some (x, y) → (x ≡ m) × (y ≡ a) × (a < m)
below_says m a x y e = go (ltb a m) refl
  where
    go : (b : Bool) → ltb a m ≡ b → (x ≡ m) × (y ≡ a) × (a < m)
    go true t = let same : ◌≡◌ {A = ℕ × ℕ} (x, y) (m, a) = cc in (ap (λ p. p.0) same, ap (λ p. p.1) same, ltb-true a m t)
    go false t = impossible (cc)

wrong_says : (m a : ℕ) → digit_as m a ≡ None → ltb a m ≡ false
wrong_says m a e = go (ltb a m) refl
  where
    go : (b : Bool) → ltb a m ≡ b → ltb a m ≡ false
    go true t = impossible (cc)
    go false t = t

module _ (l w : List ℕ) (i : ℕ) where
  pub slow_wrong : digit_as (get_or l i 0) (get_or w i 0) ≡ None → None ≡ pair_as l w i
  slow_wrong e = rw (wrong_says (get_or l i 0) (get_or w i 0) e)

  pub fast_wrong : digit_as (get_or l (i + 1) 0) (get_or w (i + 1) 0) ≡ None → None ≡ pair_as l w i
  fast_wrong e = rw (wrong_says (get_or l (i + 1) 0) (get_or w (i + 1) 0) e, and-false (ltb (get_or w i 0) (get_or l i 0)))

  module _ (m a k b : ℕ)
      (slow : digit_as (get_or l i 0) (get_or w i 0) ≡ Some (m, a))
      (fast : digit_as (get_or l (i + 1) 0) (get_or w (i + 1) 0) ≡ Some (k, b)) where
    pub fast_below : b < k
    fast_below = let (e, f, h) = below_says (get_or l (i + 1) 0) (get_or w (i + 1) 0) k b fast in omega arith

    pub two_fit : get_or l i 0 < 256 → get_or l (i + 1) 0 < 256 → (m * k < 2 ^ 16) × (a * k + reflect k a b < 2 ^ 16)
    two_fit g h =
        let (d, e, below) = below_says (get_or l i 0) (get_or w i 0) m a slow in
        let (f, _, _) = below_says (get_or l (i + 1) 0) (get_or w (i + 1) 0) k b fast in
        let high : m ≤ 255 = omega arith in
        let low : k ≤ 255 = omega arith in
        let t = mul-le-mul high low in
        let r = two_below m a k b (omega arith) fast_below in
        (omega arith, omega arith)

    pub two_given : (r : ℕ) → r ≡ reflect k a b → Some (m * k, a * k + r) ≡ pair_as l w i
    two_given r same =
        let (d, e, slower) = below_says (get_or l i 0) (get_or w i 0) m a slow in
        let (f, g, faster) = below_says (get_or l (i + 1) 0) (get_or w (i + 1) 0) k b fast in
        rw (lt-ltb (get_or w i 0) (get_or l i 0) slower, lt-ltb (get_or w (i + 1) 0) (get_or l (i + 1) 0) faster, same, d, e, f, g)

-- ---- place_of
-- the slowest i bytes are digits below their radices, and p is their rank; the others are so many times two
pub record RankedTo (l w : List ℕ) (i p : ℕ) : Type 0 where
  pub count : i ≤ length l
  pub pairs : (length l - i) % 2 ≡ 0
  pub one : is_word (digits (take i l)) (digits (take i w)) ≡ true
  pub whole : p ≡ rank (digits (take i l)) (digits (take i w))

two_says : (m a k b x y : ℕ)
    → two_as m a k b ≡ Some (x, y)
    → (ltb a m ≡ true) × (ltb b k ≡ true) × (x ≡ m * k) × (y ≡ a * k + reflect k a b)
two_says m a k b x y e = go (ltb a m) (ltb b k) refl refl
  where
    go : (s t : Bool) → ltb a m ≡ s → ltb b k ≡ t
        → (ltb a m ≡ true) × (ltb b k ≡ true) × (x ≡ m * k) × (y ≡ a * k + reflect k a b)
    go true true f g =
        let same : ◌≡◌ {A = ℕ × ℕ} (x, y) (m * k, a * k + reflect k a b) = cc in
        (f, g, ap (λ p. p.0) same, ap (λ p. p.1) same)
    go true false f g = impossible (cc)
    go false t f g = impossible (cc)

pub ranked_none : (l w : List ℕ) (i p : ℕ) → i ≡ 0 → p ≡ 0 → length l % 2 ≡ i → RankedTo l w i p
unfolding is_word rank
ranked_none l w i p e f g = rw (e, f) (record { count = omega arith; pairs = omega arith; one = refl; whole = refl })

module _ (l w : List ℕ) (same : length w ≡ length l) where
  -- one digit more
  pub ranked_first : (i p m : ℕ) → i ≡ 1 → length l % 2 ≡ i → digit_as (get_or l 0 0) (get_or w 0 0) ≡ Some (m, p) → RankedTo l w i p
  unfolding is_word rank
  ranked_first i p m e odd first =
      let (f, g, below) = below_says (get_or l 0 0) (get_or w 0 0) m p first in
      let some : 0 < length l = omega arith in
      let one = below_more l w same 0 true some refl in
      let whole = rank_more l w same 0 0 m p p some f g refl refl in
      let alone : 0 * m + p ≡ p = omega arith in
      rw
      e
      (record {
        count = omega arith;
        pairs = omega arith;
        one = sym one ∙ ap (λ t. t && true) (lt-ltb (get_or w 0 0) (get_or l 0 0) below);
        whole = sym alone ∙ whole;
      })

  -- two digits more
  module _ (i p x y : ℕ) (so : RankedTo l w i p) (more : i < length l) where
    pub pair_more : i + 1 < length l
    pair_more = let t = so.pairs in omega arith

    module _ (pair : pair_as l w i ≡ Some (x, y)) where
      told : (ltb (get_or w i 0) (get_or l i 0) ≡ true) × (ltb (get_or w (i + 1) 0) (get_or l (i + 1) 0) ≡ true)
          × (x ≡ get_or l i 0 * get_or l (i + 1) 0)
          × (y ≡ get_or w i 0 * get_or l (i + 1) 0 + reflect (get_or l (i + 1) 0) (get_or w i 0) (get_or w (i + 1) 0))
      told = two_says (get_or l i 0) (get_or w i 0) (get_or l (i + 1) 0) (get_or w (i + 1) 0) x y pair

      pub pair_below : y < x
      pair_below =
          let (slow, fast, f, g) = told in
          rw (f, g) (two_below _ _ _ _ (ltb-true _ _ slow) (ltb-true _ _ fast))

      pub ranked_pair : (b : ℕ) → b ≡ reflect x p y → RankedTo l w (i + 2) (p * x + b)
      ranked_pair b e =
          let (slow, fast, f, g) = told in
          let t = so.pairs in
          let two : i + 1 + 1 ≡ i + 2 = omega arith in
          let one = sym (ap (λ t. t && true) slow) ∙ below_more l w same i true more (sym so.one) in
          let both = sym (ap (λ t. t && true) fast) ∙ below_more l w same (i + 1) true pair_more one in
          let first = rank_more l w same i p _ _ _ more refl refl so.whole refl in
          let second = rank_more l w same (i + 1) _ _ _ _ pair_more refl refl first refl in
          record {
            count = omega arith;
            pairs = omega arith;
            one = rw (sym two) (sym both);
            whole = rw (sym two, e, f, g) (sym (two_as_one p _ _ _ _ (ltb-true _ _ slow) (ltb-true _ _ fast)) ∙ second);
          }

  pub pair_wrong : (i : ℕ) → i + 1 < length l → pair_as l w i ≡ None → is_word (digits l) (digits w) ≡ false
  pair_wrong i h e = go (ltb (get_or w i 0) (get_or l i 0)) (ltb (get_or w (i + 1) 0) (get_or l (i + 1) 0)) refl refl
    where
      go : (s t : Bool) → ltb (get_or w i 0) (get_or l i 0) ≡ s → ltb (get_or w (i + 1) 0) (get_or l (i + 1) 0) ≡ t → is_word (digits l) (digits w) ≡ false
      go true true f g = impossible (cc)
      go true false f g = not_below l w (i + 1) h (ltb-false _ _ g)
      go false t f g = not_below l w i (omega arith) (ltb-false _ _ f)

  pub ranked_all : (i p : ℕ) → RankedTo l w i p → length l ≤ i → Some p ≡ place_as l w
  ranked_all i p so h =
      let one = below_all l w same i true h (sym so.one) in
      rw (sym one) (ap Some (rank_all l w same i p h so.whole))

pub no_place : (l w : List ℕ) → is_word (digits l) (digits w) ≡ false → None ≡ place_as l w
no_place l w e = rw e

pub wrong_over : (m a : ℕ) → digit_as m a ≡ None → m ≤ a
wrong_over m a e = ltb-false a m (wrong_says m a e)

-- ---- rank
pub rank_answered : (l w : List ℕ) (n : ℕ) → size_call l ≡ given n → answer_as (ok_or (place_as l w) Word) ≡ rank_call l w
rank_answered l w n size_is = go (is_word (digits l) (digits w)) refl
  where
    go : (b : Bool) → is_word (digits l) (digits w) ≡ b → answer_as (ok_or (place_as l w) Word) ≡ rank_call l w
    go true f = rw f (word_ranked l w n size_is f)
    go false f = rw f (word_refused l w n size_is f)

-- ---- put_word
drop_stored : (out : List ℕ) (i a : ℕ) → i < length out → drop i (set out i a) ≡ a ∷ drop (suc i) out
drop_stored out i a h =
    drop-cons (set out i a) i 0 (lt-length-set out i a h)
    ∙ rw (get_or-set_same out i a 0 h, drop-set-lt (suc i) out i a (omega arith))

-- a turn moves one digit from the word that is still to be written to the bytes that are there
pub put_more : (l out whole : List ℕ) (j q m a : ℕ)
    → 0 < j
    → j ≤ length l
    → length l ≤ length out
    → m ≡ get_or l (j - 1) 0
    → a ≡ reflect m (q / m) (q % m)
    → bytes (word_at (digits (take j l)) q) ++ drop j out ≡ whole
    → bytes (word_at (digits (take (j - 1) l)) (q / m)) ++ drop (j - 1) (set out (j - 1) a) ≡ whole
unfolding word_at
put_more l out whole j q m a pos h room em ea e =
    let i = j - 1 in
    let next : j ≡ i + 1 = omega arith in
    let nexts : j ≡ suc i = omega arith in
    let w = word_at (digits (take i l)) (q / m) in
    let split : word_at (digits (take j l)) q ≡ a ∷ w =
    ap (λ k. word_at (digits (take k l)) q) next ∙ ap (λ ds. word_at ds q) (digits_more_lem l i (omega arith)) ∙ rw (ea, em) in
    ap (λ r. bytes w ++ r) (drop_stored out i a (omega arith))
    ∙ sym (append_snoc (bytes w) a (drop (suc i) out))
    ∙ ap (λ b. b ++ drop (suc i) out) (sym (reverse-cons a w))
    ∙ ap₂ (λ d k. bytes d ++ drop k out) (sym split) (sym nexts)
    ∙ e

pub put_all : (l out whole : List ℕ) (i q : ℕ) → i ≤ 0 → bytes (word_at (digits (take i l)) q) ++ drop i out ≡ whole → out ≡ whole
unfolding word_at
put_all l out whole zero q h e = e
put_all l out whole (suc i) q h e = absurd (omega arith)

-- ---- word
pub word_long_as : (l : List ℕ) (r : ℕ) → length l ≡ length (bytes (word_at (digits l) r))
word_long_as l r =
    let a = length-reverse (word_at (digits l) r) in
    let b = length-word_at (digits l) r in
    let c = length-reverse l in
    omega arith

word_count : (l : List ℕ) (r : ℕ) → r < size (digits l) → length l ≡ length (bytes (member (digits l) r))
word_count l r h = word_long_as l r ∙ ap (λ w. length (bytes w)) (sym (member_is_word_at (digits l) r h))

module _ (l : List ℕ) (n r : ℕ) (size_is : size_call l ≡ given n) where
  pub rank_refused : (room : ℕ) → n ≤ r → word_call l r room ≡ refused 8
  unfolding word_call
  rank_refused room h =
      let same = (accepted l n size_is).whole in
      radices_accepted l n _ size_is ∙ rw (le-leb (size (digits l)) r (omega arith))

  pub room_refused : (room : ℕ) → r < n → room < length l → word_call l r room ≡ refused 9
  unfolding word_call
  room_refused room h short =
      let same = (accepted l n size_is).whole in
      let long = word_count l r (omega arith) in
      radices_accepted l n _ size_is
      ∙ rw (lt-leb (size (digits l)) r (omega arith), lt-ltb room (length (bytes (member (digits l) r))) (omega arith))

  pub word_given : (room : ℕ) → r < n → length l ≤ room → word_call l r room ≡ given (bytes (word_at (digits l) r))
  unfolding word_call
  word_given room h fits =
      let same = (accepted l n size_is).whole in
      let below : r < size (digits l) = omega arith in
      let long = word_count l r below in
      radices_accepted l n _ size_is
      ∙ rw (lt-leb (size (digits l)) r below, le-ltb room (length (bytes (member (digits l) r))) (omega arith))
      (ap (λ w. given (bytes w)) (member_is_word_at (digits l) r below))
