-- Laws of tests over all numbers below n, and of a digit that stands in range and moves.
use Rattle.std.specs.Prelude.{ℕ, zero, suc, ◌+◌, ◌-◌, ◌≤◌, ◌<◌, ◌≡◌, refl, Bool, true, false, ◌&&◌, not, List, eqb, ltb, leb, length, get_or, set}
use Rattle.std.proofs.Math.Decide.{dec_lt, ℕ_discrete}
use Rattle.std.proofs.Common.{add-one, arith, ap, ap₂, ◌∙◌, lt-ltb, ltb-true, le-leb, leb-true, eq-eqb, eqb-true, ne_eqb, get_or-set_same, get_or-set_other}
use Rattle.std.proofs.Math.Bool.{and-eq-true_iff, and-false}
use Rattle.std.proofs.lemmas.Bool.{not-true, not-false}
use Rattle.gray_theory.specs.Directions.{moved_from, turned_at, word_moved, downs_moved, all_below, digit_in_range, digits_in_range}
use Rattle.gray_theory.specs.Bools.{impossible}

-- ---- a test over all numbers below n
pub all_below_each : (n : ℕ) (test : ℕ → Bool) → all_below n test ≡ true → (i : ℕ) → i < n → test i ≡ true
unfolding all_below
all_below_each zero test e i h = absurd (omega arith)
all_below_each (suc n) test e i h =
    let (lower, last) = (and-eq-true_iff (all_below n test) (test n)).0 e in
    elim (dec_lt i n) [
      | yes p ↦ all_below_each n test lower i p
      | no q ↦ let at : i ≡ n = omega arith in rw at last
    ]

pub each_all_below : (n : ℕ) (test : ℕ → Bool) → ((i : ℕ) → i < n → test i ≡ true) → all_below n test ≡ true
unfolding all_below
each_all_below zero test each = refl
each_all_below (suc n) test each =
    (and-eq-true_iff (all_below n test) (test n)).1 (each_all_below n test (λ i h. each i (omega arith)), each n (omega arith))

pub all_below_same : (n : ℕ) (f g : ℕ → Bool) → ((i : ℕ) → i < n → f i ≡ g i) → all_below n f ≡ all_below n g
unfolding all_below
all_below_same zero f g same = refl
all_below_same (suc n) f g same = ap₂ ◌&&◌ (all_below_same n f g (λ i h. same i (omega arith))) (same n (omega arith))

-- a test gathered over all numbers below n, one after another
pub tested_none : (test : ℕ → Bool) → true ≡ all_below 0 test
unfolding all_below
tested_none test = refl

pub tested_more : (test : ℕ → Bool) (ok next : Bool) (i : ℕ)
    → ok ≡ all_below i test
    → next ≡ test i
    → ok && next ≡ all_below (i + 1) test
unfolding all_below
tested_more test ok next i e f = rw (add-one i) (ap₂ ◌&&◌ e f)

pub tested_all : (test : ℕ → Bool) (ok : Bool) (i n : ℕ) → i ≤ n → n ≤ i → ok ≡ all_below i test → ok ≡ all_below n test
tested_all test ok i n h k e = let same : i ≡ n = omega arith in e ∙ ap (λ (j : ℕ). all_below j test) same

-- ---- one digit
-- what it says that notch a and its direction are in range
pub record DigitRange (m a : ℕ) (down : Bool) : Type 0 where
  pub below : a < m
  pub up_at_0 : a ≡ 0 → down ≡ false
  pub down_at_top : 2 ≤ m → a ≡ m - 1 → down ≡ true

pub digit_says : (m a : ℕ) (down : Bool) → digit_in_range m a down ≡ true → DigitRange m a down
digit_says m a down e =
    let (lower, top) = (and-eq-true_iff (ltb a m && not (eqb a 0 && down)) (not (leb 2 m && eqb a (m - 1) && not down))).0 e in
    let (below, bottom) = (and-eq-true_iff (ltb a m) (not (eqb a 0 && down))).0 lower in
    record {
      below = ltb-true a m below;
      up_at_0 = λ z. not-true down (rw (eq-eqb a 0 z) at bottom);
      down_at_top = λ two z. not-false down (not-true (not down) (rw (le-leb 2 m two, eq-eqb a (m - 1) z) at top));
    }

pub says_digit : (m a : ℕ) (down : Bool) → DigitRange m a down → digit_in_range m a down ≡ true
says_digit m a true s =
    rw (lt-ltb a m s.below, ne_eqb a 0 (λ z. impossible (cc (s.up_at_0 z))), and-false)
says_digit m a false s =
    rw (lt-ltb a m s.below, and-false, not_top (leb 2 m) (eqb a (m - 1)) (λ two top. impossible (cc (s.down_at_top (leb-true 2 m two) (eqb-true a (m - 1) top)))))
  where
    not_top : (b t : Bool) → (b ≡ true → t ≡ true → ⊥) → not (b && t && true) ≡ true
    not_top true true h = absurd (h refl refl)
    not_top true false h = refl
    not_top false t h = refl

-- a digit that has come to notch b, turned where it must be, stands in range
turned_in_range : (m b : ℕ) (down : Bool)
    → b < m
    → (b ≡ 0 → down ≡ true)
    → (b ≡ m - 1 → down ≡ false)
    → (b ≡ 0 → b ≡ m - 1 → ⊥)
    → DigitRange m b (turned_at m b down)
turned_in_range m b down below at-0 at_top apart =
    elim (ℕ_discrete b 0) [
      | yes z ↦ record { below = below; up_at_0 = λ y. rw (eq-eqb b 0 z, at-0 z); down_at_top = λ two t. absurd (apart z t) }
      | no nz ↦
          elim (ℕ_discrete b (m - 1)) [
            | yes t ↦
                let down_then : turned_at m b down ≡ true = rw (ne_eqb b 0 nz, eq-eqb b (m - 1) t, at_top t) in
                record { below = below; up_at_0 = λ z. absurd (nz z); down_at_top = λ two y. down_then }
            | no nt ↦ record { below = below; up_at_0 = λ z. absurd (nz z); down_at_top = λ two t. absurd (nt t) }
          ]
    ]

-- a digit that moves in its direction, and turns where it must, stands in range again
digit_moves_in_range : (m a : ℕ) (down : Bool)
    → 2 ≤ m
    → digit_in_range m a down ≡ true
    → digit_in_range m (moved_from a down) (turned_at m (moved_from a down) down) ≡ true
digit_moves_in_range m a true two e =
    let s = digit_says m a true e in
    let off_0 : a ≡ 0 → ⊥ = λ z. impossible (cc (s.up_at_0 z)) in
    says_digit m (a - 1) (turned_at m (a - 1) true)
    (turned_in_range m (a - 1) true (omega arith) (λ z. refl) (λ t. absurd (off_0 (omega arith))) (λ z t. omega arith))
digit_moves_in_range m a false two e =
    let s = digit_says m a false e in
    let off_top : a ≡ m - 1 → ⊥ = λ t. impossible (cc (s.down_at_top two t)) in
    says_digit m (a + 1) (turned_at m (a + 1) false)
    (turned_in_range m (a + 1) false (omega arith) (λ z. absurd (omega arith)) (λ t. refl) (λ z t. omega arith))

-- ---- all digits
-- one digit's notch and direction are replaced by others in range: all digits stand in range
digits-set_in_range : (n : ℕ) (radices word : List ℕ) (downs : List Bool) (i a : ℕ) (down : Bool)
    → n ≤ length word
    → n ≤ length downs
    → digit_in_range (get_or radices i 0) a down ≡ true
    → digits_in_range n radices word downs ≡ true
    → digits_in_range n radices (set word i a) (set downs i down) ≡ true
digits-set_in_range n radices word downs i a down lw ld stands e =
    each_all_below n (λ j. digit_in_range (get_or radices j 0) (get_or (set word i a) j 0) (get_or (set downs i down) j false))
    (λ j h.
    elim (ℕ_discrete j i) [
      | yes at ↦ rw (at, get_or-set_same word i a 0 (omega arith), get_or-set_same downs i down false (omega arith)) stands
      | no other ↦
          rw (get_or-set_other word i j a 0 other, get_or-set_other downs i j down false other)
          (all_below_each n (λ k. digit_in_range (get_or radices k 0) (get_or word k 0) (get_or downs k false)) e j h)
    ])

-- one of digits in range moves: all are in range again
pub digits_move_in_range : (n : ℕ) (radices word : List ℕ) (downs : List Bool) (i : ℕ)
    → i < n
    → n ≤ length word
    → n ≤ length downs
    → 2 ≤ get_or radices i 0
    → digits_in_range n radices word downs ≡ true
    → digits_in_range n radices (word_moved word downs i) (downs_moved radices word downs i) ≡ true
digits_move_in_range n radices word downs i h lw ld two e =
    let here = all_below_each n (λ k. digit_in_range (get_or radices k 0) (get_or word k 0) (get_or downs k false)) e i h in
    digits-set_in_range n radices word downs i (moved_from (get_or word i 0) (get_or downs i false))
    (turned_at (get_or radices i 0) (moved_from (get_or word i 0) (get_or downs i false)) (get_or downs i false))
    lw
    ld
    (digit_moves_in_range (get_or radices i 0) (get_or word i 0) (get_or downs i false) two here)
    e
