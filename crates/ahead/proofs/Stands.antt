-- Laws for standing at a word: its digits of the rank and its directions, one after the other. Assumes nothing.
use Prim.Native.Nat.{ℕ, suc, ◌+◌, ◌-◌, ◌*◌, ◌/◌, ◌%◌, ◌≤◌, ◌<◌}
use native.Mathlib.Nat.{div-one, mod-one, add-zero}
use native.Mathlib.Numerals.{add-one}
use native.Mathlib.Decide.{ℕ_discrete}
use native.Mathlib.Omega.{arith}
use mathlib.Core.Path.{◌≡◌, refl, sym, ap, ap₂, ◌∙◌}
use mathlib.Core.Bool.{Bool, true, false, cond, not, ◌&&◌, and-eq-true_iff, not-not}
use mathlib.Core.List.{List, [], ◌∷◌, ◌++◌, append-nil}
use borrow.Author.Tests.{ltb-true, eq-eqb, ne_eqb}
use lib.Arith.{digits_div, digits_mod}
use lib.Dec.{leb, ltb, eqb}
use lib.ListN.{length, get_or, drop, set, replicate, length-append, drop_of_length-le}
use lib.Seq.{drop-cons, append_snoc}
use Rattle.gray_theory.specs.Radices.{mixed_digits}
use Rattle.gray_theory.specs.Words.{even, is_word, reflect, rank}
use Rattle.gray_theory.proofs.Digits.{is_word-length}
use Rattle.gray_theory.proofs.Ranks.{reflect_below}
use Rattle.gray_theory.proofs.Increments.{even-suc}
use Rattle.gray_theory.specs.Arrays.{filled}
use Rattle.gray_theory.proofs.Filled.{filled-append, length-filled}
use Rattle.gray_theory.specs.Locks.{unlocked}
use Rattle.gray_theory.proofs.Unlocked.{Lock, Lock.free, Lock.locked, lock}
use Rattle.gray_theory.specs.Indexed.{downs_at}
use Rattle.ahead.specs.Pickups.{Standable, Stood}

-- ---- the direction of one digit, by the rank of the slower ones and its own digit of the rank: that of the walk from the start
directed : (m p b : ℕ) → b < m → cond (eqb (b + 1) m) (even p) (not (even p)) ≡ not (even (suc (p * m + b) / m))
directed m p b h =
    elim (ℕ_discrete (b + 1) m) [
      | yes e ↦
          rw (eq-eqb (b + 1) m e)
          (sym (not-not (even p)) ∙ sym (ap not (even-suc p)) ∙ by_quotient (suc p) 0 (omega arith) (omega arith))
      | no e ↦ rw (ne_eqb (b + 1) m e) (by_quotient p (suc b) (omega arith) (omega arith))
    ]
  where
    by_quotient : (k r : ℕ) → suc (p * m + b) ≡ k * m + r → r < m → not (even k) ≡ not (even (suc (p * m + b) / m))
    by_quotient k r e h = sym (ap (λ n. not (even n)) (ap (λ n. n / m) e ∙ digits_div k h))

-- ---- the parity of the slower digits' rank, by that of the rank and the digit itself
slower_parity : (m p a : ℕ) → a < m → ((p * m + reflect m p a) % 2 + a % 2) % 2 ≡ p % 2
slower_parity m p a h =
    elim (ℕ_discrete (p % 2) 0) [
      | yes z ↦
          let half : p ≡ 2 * (p / 2) = omega arith in
          let double : p * m ≡ 2 * (p / 2 * m) = ap (λ n. n * m) half ∙ omega arith in
          rw (eq-eqb (p % 2) 0 z) (omega arith)
      | no z ↦
          let half : p ≡ 2 * (p / 2) + 1 = omega arith in
          let double : p * m ≡ 2 * (p / 2 * m) + m = ap (λ n. n * m) half ∙ omega arith in
          rw (ne_eqb (p % 2) 0 z) (omega arith)
    ]

-- ---- all of them
-- i digits are done; the rank of the others, of which p is the parity, gives their digits of the rank and directions
pub record Standing (radices word : List ℕ) (r : ℕ) (counter : List ℕ) (downs : List Bool) (p place i : ℕ) : Type 0 where
  pub counted : List ℕ
  pub towards : List Bool
  pub counts : mixed_digits (unlocked radices) r ≡ counted ++ mixed_digits (unlocked (drop i radices)) (rank (drop i radices) (drop i word))
  pub directions : downs_at radices r ≡ towards ++ downs_at (drop i radices) (rank (drop i radices) (drop i word))
  pub proper : is_word (drop i radices) (drop i word) ≡ true
  pub parity : p ≡ rank (drop i radices) (drop i word) % 2
  pub counter_is : counter ≡ filled 49 0 counted
  pub downs_are : downs ≡ filled 48 false towards
  pub place_is : place ≡ length counted
  pub i_is : i ≡ length towards
  pub few : place ≤ i
  pub within : i ≤ length radices
  pub same : length radices ≡ length word
  pub most : length radices ≤ 48

-- a 0 after the counter's digits makes no difference
pub zero-filled : (l : List ℕ) → length l < 49 → filled 49 0 (l ++ (0 ∷ [])) ≡ filled 49 0 l
zero-filled l h =
    let left : suc (49 - length (l ++ (0 ∷ []))) ≡ 49 - length l = simp length-append (omega arith) in
    append_snoc l 0 (replicate (49 - length (l ++ (0 ∷ []))) 0) ∙ ap (λ k. l ++ replicate k 0) left

-- one digit more, b in the rank, which has a place if it is not locked
record Counted (m : ℕ) (rest : List ℕ) (left b : ℕ) (counted : List ℕ) : Type 0 where
  more : List ℕ
  counts : counted ++ mixed_digits (unlocked (m ∷ rest)) left ≡ more ++ mixed_digits (unlocked rest) (left / m)
  stored : set (filled 49 0 counted) (length counted) b ≡ filled 49 0 more
  long : length counted + cond (leb 2 m) 1 0 ≡ length more

counted_more : (m : ℕ) (rest : List ℕ) (left b : ℕ) (counted : List ℕ)
    → left % m ≡ b
    → length counted < 49
    → Lock m
    → Counted m rest left b counted
unfolding mixed_digits unlocked
counted_more m rest left b counted e h (free moves two) =
    record {
      more = counted ++ (b ∷ []);
      counts = rw (moves, e) (sym (append_snoc counted b (mixed_digits (unlocked rest) (left / m))));
      stored = filled-append 49 0 counted b h;
      long = rw moves (sym (length-append counted (b ∷ [])));
    }
counted_more m rest left b counted e h (locked rests one) =
    let zero : b ≡ 0 = sym e ∙ rw one (mod-one left) in
    let same : left / m ≡ left = rw one (div-one left) in
    record {
      more = counted;
      counts = rw (rests, same);
      stored = rw zero (filled-append 49 0 counted 0 h ∙ zero-filled counted h);
      long = rw rests (add-zero (length counted));
    }

-- the digit that comes next, and the rank p of those after it
record Next (m a : ℕ) (radices word : List ℕ) (i p : ℕ) : Type 0 where
  radix_is : drop i radices ≡ m ∷ drop (i + 1) radices
  below : a < m
  others : is_word (drop (i + 1) radices) (drop (i + 1) word) ≡ true
  rank_is : rank (drop i radices) (drop i word) ≡ p * m + reflect m p a

-- what a turn finds of a digit: the parity of the slower ones' rank p, its own digit of the rank, b, and its direction
record Found (m left p parity b : ℕ) (down : Bool) : Type 0 where
  is_parity : parity ≡ p % 2
  quotient : left / m ≡ p
  digit : left % m ≡ b
  direction : down ≡ leb 2 m && not (even (suc left / m))

found : (m a left p old parity b : ℕ) (down : Bool)
    → a < m
    → left ≡ p * m + reflect m p a
    → old ≡ left % 2
    → parity ≡ (old + a % 2) % 2
    → b ≡ reflect m parity a
    → down ≡ leb 2 m && cond (eqb (b + 1) m) (even parity) (not (even parity))
    → Found m left p parity b down
found m a left p old parity b down below whole was e f d =
    let is_parity : parity ≡ p % 2 = e ∙ ap (λ k. (k + a % 2) % 2) (was ∙ ap (λ k. k % 2) whole) ∙ slower_parity m p a below in
    let halves : parity % 2 ≡ p % 2 = omega arith in
    let same : even parity ≡ even p = ap (λ k. eqb k 0) halves in
    let b_is : b ≡ reflect m p a = f ∙ ap (λ t. cond t a (m - 1 - a)) same in
    let small : reflect m p a < m = reflect_below m p a below in
    record {
      is_parity = is_parity;
      quotient = ap (λ k. k / m) whole ∙ digits_div p small;
      digit = ap (λ k. k % m) whole ∙ digits_mod p small ∙ sym b_is;
      direction =
          d
          ∙ ap₂ (λ k t. leb 2 m && cond (eqb (k + 1) m) t (not t)) b_is same
          ∙ ap (λ t. leb 2 m && t) (directed m p (reflect m p a) small)
          ∙ ap (λ k. leb 2 m && not (even (suc k / m))) (sym whole);
    }

module _ (radices word : List ℕ) (r : ℕ) where
  pub stand_begun : (counter : List ℕ) (downs : List Bool) (p : ℕ)
      → Standable radices word r counter downs
      → p ≡ r % 2
      → Standing radices word r counter downs p 0 0
  stand_begun counter downs p ok e =
      let same = is_word-length radices word ok.there.proper in
      record {
        counted = [];
        towards = [];
        counts = ap (mixed_digits (unlocked radices)) ok.there.ranks;
        directions = ap (downs_at radices) ok.there.ranks;
        proper = ok.there.proper;
        parity = e ∙ ap (λ n. n % 2) ok.there.ranks;
        counter_is = ok.no_counts;
        downs_are = ok.all_up;
        place_is = refl;
        i_is = refl;
        few = omega arith;
        within = omega arith;
        same = same;
        most = ok.most;
      }

  module _ (counter : List ℕ) (downs : List Bool) (p place i : ℕ) (s : Standing radices word r counter downs p place i) where
    abbrev m : ℕ
    m = get_or radices i 0

    abbrev a : ℕ
    a = get_or word i 0

    abbrev rest : List ℕ
    rest = drop (i + 1) radices

    -- the rank of the digits that are left, and of all but the next
    abbrev left : ℕ
    left = rank (drop i radices) (drop i word)

    abbrev slower : ℕ
    slower = rank rest (drop (i + 1) word)

    next_digit : i < length radices → Next m a radices word i slower
    unfolding is_word rank
    next_digit h =
        let same = s.same in
        let radix_is : drop i radices ≡ m ∷ rest = drop-cons radices i 0 h ∙ ap (λ k. m ∷ drop k radices) (sym (add-one i)) in
        let digit_is : drop i word ≡ a ∷ drop (i + 1) word =
        drop-cons word i 0 (omega arith) ∙ ap (λ k. a ∷ drop k word) (sym (add-one i)) in
        let here : is_word (m ∷ rest) (a ∷ drop (i + 1) word) ≡ true = ap₂ is_word (sym radix_is) (sym digit_is) ∙ s.proper in
        let (first, others) = (and-eq-true_iff (ltb a m) (is_word rest (drop (i + 1) word))).0 here in
        record {
          radix_is = radix_is;
          below = ltb-true a m first;
          others = others;
          rank_is = ap₂ rank radix_is digit_is;
        }

    pub digit_below : i < length radices → a < m
    digit_below h = (next_digit h).below

    pub small : p < 2
    small = let e = s.parity in omega arith

    -- there is a place for one more
    room : i < length radices → (length s.counted < 49) × (length s.towards < 48)
    room h =
        let few = s.few in
        let most = s.most in
        let places = s.place_is in
        let many = s.i_is in
        (omega arith, omega arith)

    extended : (p' b : ℕ) (down : Bool) (next : ℕ)
        → i < length radices
        → Next m a radices word i slower
        → Found m left slower p' b down
        → Counted m rest left b s.counted
        → next ≡ place + cond (leb 2 m) 1 0
        → Standing radices word r (set counter place b) (set downs i down) p' next (i + 1)
    unfolding downs_at
    extended p' b down next h g f c n =
        record {
          counted = c.more;
          towards = s.towards ++ (down ∷ []);
          counts =
              s.counts
              ∙ ap (λ l. s.counted ++ mixed_digits (unlocked l) left) g.radix_is
              ∙ c.counts
              ∙ ap (λ k. c.more ++ mixed_digits (unlocked rest) k) f.quotient;
          directions =
              s.directions
              ∙ ap (λ l. s.towards ++ downs_at l left) g.radix_is
              ∙ ap₂ (λ t k. s.towards ++ t ∷ downs_at rest k) (sym f.direction) f.quotient
              ∙ sym (append_snoc s.towards down (downs_at rest slower));
          proper = g.others;
          parity = f.is_parity;
          counter_is = ap₂ (λ l k. set l k b) s.counter_is s.place_is ∙ c.stored;
          downs_are = ap₂ (λ l k. set l k down) s.downs_are s.i_is ∙ filled-append 48 false s.towards down (room h).1;
          place_is = n ∙ ap (λ k. k + cond (leb 2 m) 1 0) s.place_is ∙ c.long;
          i_is = ap (λ k. k + 1) s.i_is ∙ sym (length-append s.towards (down ∷ []));
          few = rw n (past_most (leb 2 m) s.few);
          within = omega arith;
          same = s.same;
          most = s.most;
        }
      where
        past_most : (b : Bool) → place ≤ i → place + cond b 1 0 ≤ i + 1
        past_most true h = omega arith
        past_most false h = omega arith

    pub stand_more : i < length radices
        → (p' b : ℕ) (down : Bool) (next : ℕ)
        → p' ≡ (p + a % 2) % 2
        → b ≡ reflect m p' a
        → down ≡ leb 2 m && cond (eqb (b + 1) m) (even p') (not (even p'))
        → next ≡ place + cond (leb 2 m) 1 0
        → Standing radices word r (set counter place b) (set downs i down) p' next (i + 1)
    stand_more h p' b down next e t d n =
        let g = next_digit h in
        let below = g.below in
        let f = found m a left slower p p' b down below g.rank_is s.parity e t d in
        extended p' b down next h g f (counted_more m rest left b s.counted f.digit (room h).0 (lock m (omega arith))) n

    pub counter_long : length counter ≡ 49
    counter_long =
        let few = s.few in
        let within = s.within in
        let most = s.most in
        let places = s.place_is in
        ap length s.counter_is ∙ length-filled 49 0 s.counted (omega arith)

    pub downs_long : length downs ≡ 48
    downs_long =
        let within = s.within in
        let most = s.most in
        let many = s.i_is in
        ap length s.downs_are ∙ length-filled 48 false s.towards (omega arith)

    pub stand_ended : length radices ≤ i → Stood radices r counter downs
    unfolding mixed_digits unlocked downs_at
    stand_ended h =
        let none : drop i radices ≡ [] = drop_of_length-le radices h in
        record {
          counts =
              s.counter_is
              ∙ ap (filled 49 0)
              (sym (s.counts ∙ ap (λ l. s.counted ++ mixed_digits (unlocked l) left) none ∙ append-nil s.counted));
          directions =
              s.downs_are
              ∙ ap (filled 48 false) (sym (s.directions ∙ ap (λ l. s.towards ++ downs_at l left) none ∙ append-nil s.towards));
        }
