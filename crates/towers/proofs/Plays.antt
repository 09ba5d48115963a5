-- The game's test: each radix is held against that of the last disk, and that says it of all. Assumes nothing.
use Prim.Native.Nat.{ℕ, zero, suc, ◌≤◌, ◌<◌}
use native.Mathlib.Decide.{dec_le}
use native.Mathlib.Omega.{arith}
use mathlib.Core.Path.{◌≡◌, refl, sym, ap, ◌∙◌}
use mathlib.Core.Bool.{Bool, true, false, cond, ◌&&◌, ◌||◌, not, and-eq-true_iff}
use mathlib.Core.List.{List, [], ◌∷◌}
use borrow.Author.Tests.{le-leb, lt-ltb, le-ltb, eq-eqb, eqb-true, not-false}
use lib.Dec.{eqb, leb, ltb}
use lib.ListN.{length, get_or}
use Rattle.gray_theory.specs.Bools.{impossible}
use Rattle.gray_theory.specs.Radices.{all_from}
use Rattle.gray_theory.specs.Words.{even}
use Rattle.gray_theory.specs.Locks.{unlocked}
use Rattle.gray_theory.proofs.Unlocked.{moving_digit, unlocked_two}
use Rattle.gray_theory.proofs.Sizes.{radix_two}
use Rattle.gray_theory.specs.Directions.{all_below}
use Rattle.gray_theory.proofs.DigitRanges.{all_below_each, each_all_below}
use Rattle.towers_theory.specs.States.{all_odd, common, even_and_equal, all_even_and_equal}
use Rattle.towers_theory.proofs.InRange.{odd_by, common_by}
use Rattle.towers.specs.Stages.{last_radix, plays}

-- the test of the counts of the digits that move, as document 01 has it
abbrev pub playable_counts : List ℕ → Bool
playable_counts ms = all_odd ms || all_even_and_equal ms

-- ---- the radix that tells the game: it is odd where all of them are, and else the common one
pub record Leads (ms : List ℕ) (m : ℕ) : Type 0 where
  pub odd : all_odd ms ≡ not (even m)
  pub ring : all_odd ms ≡ false → common ms ≡ m
  pub positive : 0 < m

none_odd : all_odd [] ≡ true
unfolding all_odd all_below
none_odd = refl

pub last_leads : (ms : List ℕ) → all_from 2 ms ≡ true → playable_counts ms ≡ true → Leads ms (last_radix ms)
last_leads [] two e = record { odd = none_odd; ring = λ ring. impossible (cc none_odd); positive = omega arith }
last_leads (m ∷ ms) two e =
    let least = radix_two (m ∷ ms) (length ms) two (omega arith) in
    record {
      odd = odd_by (m ∷ ms) e (length ms) (omega arith);
      ring = common_by (m ∷ ms) e (length ms) (omega arith);
      positive = omega arith;
    }

-- ---- one radix
-- what the test says of a digit that moves
by_odd : (few same game radix : Bool)
    → (few || (same || (game && radix))) ≡ true
    → few ≡ false
    → game ≡ true
    → (same ≡ true → radix ≡ true)
    → radix ≡ true
by_odd true same game radix p f e s = impossible (cc)
by_odd false true game radix p f e s = s refl
by_odd false false true radix p f e s = p
by_odd false false false radix p f e s = impossible (cc)

by_even : (few same game radix : Bool) → (few || (same || (game && radix))) ≡ true → few ≡ false → game ≡ false → same ≡ true
by_even true same game radix p f e = impossible (cc)
by_even false true game radix p f e = refl
by_even false false true radix p f e = impossible (cc)
by_even false false false radix p f e = impossible (cc)

module _ (m r : ℕ) where
  plays_odd : plays m r ≡ true → 2 ≤ r → not (even m) ≡ true → not (even r) ≡ true
  plays_odd p two e =
      by_odd (ltb r 2) (eqb r m) (not (even m)) (not (even r)) p (le-ltb r 2 two) e
      (λ same. ap (λ k. not (even k)) (eqb-true r m same) ∙ e)

  plays-even : plays m r ≡ true → 2 ≤ r → not (even m) ≡ false → r ≡ m
  plays-even p two e = eqb-true r m (by_even (ltb r 2) (eqb r m) (not (even m)) (not (even r)) p (le-ltb r 2 two) e)

  locked_plays : r < 2 → plays m r ≡ true
  locked_plays few = ap (λ b. b || (eqb r m || (not (even m) && not (even r)))) (lt-ltb r 2 few)

  like-plays : r ≡ m → plays m r ≡ true
  like-plays same = first (ltb r 2) (eqb r m) (not (even m) && not (even r)) (eq-eqb r m same)
    where
      first : (a b c : Bool) → b ≡ true → (a || (b || c)) ≡ true
      first true b c e = refl
      first false true c e = refl
      first false false c e = impossible (cc)

  odd_plays : not (even m) ≡ true → not (even r) ≡ true → plays m r ≡ true
  odd_plays e f = last (ltb r 2) (eqb r m) (not (even m)) (not (even r)) e f
    where
      last : (a b c d : Bool) → c ≡ true → d ≡ true → (a || (b || (c && d))) ≡ true
      last true b c d e f = refl
      last false true c d e f = refl
      last false false true d e f = f
      last false false false d e f = impossible (cc)

-- ---- all of them
-- a digit that moves is among the disks
disk_of : (ms : List ℕ) (i : ℕ)
    → i < length ms
    → 2 ≤ get_or ms i 0
    → (j : ℕ) × (j < length (unlocked ms)) × (get_or (unlocked ms) j 0 ≡ get_or ms i 0)
unfolding unlocked
disk_of [] i h two = absurd (omega arith)
disk_of (m ∷ ms) zero h two = rw (le-leb 2 m two) (0, omega arith, refl)
disk_of (m ∷ ms) (suc i) h two = let (j, inside, same) = disk_of ms i (omega arith) two in by (leb 2 m) j inside same
  where
    by : (b : Bool) (j : ℕ)
        → j < length (unlocked ms)
        → get_or (unlocked ms) j 0 ≡ get_or ms i 0
        → (k : ℕ)
        × (k < length (cond b (m ∷ unlocked ms) (unlocked ms)))
        × (get_or (cond b (m ∷ unlocked ms) (unlocked ms)) k 0 ≡ get_or ms i 0)
    by true j inside same = (suc j, omega arith, same)
    by false j inside same = (j, inside, same)

same_test : (a b : Bool) → (a ≡ true → b ≡ true) → (b ≡ true → a ≡ true) → a ≡ b
same_test true b to from = sym (to refl)
same_test false true to from = from refl
same_test false false to from = refl

module _ (ms : List ℕ) (one : all_from 1 ms ≡ true) where
  abbrev last : ℕ
  last = last_radix (unlocked ms)

  abbrev each : Bool
  each = all_below (length ms) (λ i. plays last (get_or ms i 0))

  -- each plays: so do the disks, and they are all odd or all like the last
  module _ (e : each ≡ true) where
    disk_plays : (i : ℕ)
        → i < length (unlocked ms)
        → (plays last (get_or (unlocked ms) i 0) ≡ true) × (2 ≤ get_or (unlocked ms) i 0)
    disk_plays i h =
        let d = moving_digit ms one i h in (
          ap (plays last) (sym d.radix) ∙ all_below_each (length ms) (λ j. plays last (get_or ms j 0)) e d.index d.within,
          radix_two (unlocked ms) i (unlocked_two ms) h,
        )

    play_odd : not (even last) ≡ true → all_odd (unlocked ms) ≡ true
    unfolding all_odd
    play_odd odd =
        each_all_below (length (unlocked ms)) (λ i. not (even (get_or (unlocked ms) i 0)))
        (λ i h. let (p, two) = disk_plays i h in plays_odd last (get_or (unlocked ms) i 0) p two odd)

    play_even : not (even last) ≡ false → all_even_and_equal (unlocked ms) ≡ true
    unfolding all_even_and_equal
    play_even ring =
        each_all_below (length (unlocked ms)) (λ i. even_and_equal (common (unlocked ms)) (get_or (unlocked ms) i 0))
        (λ i h.
        let (p, two) = disk_plays i h in
        let (q, least) = disk_plays 0 (omega arith) in
        let here = plays-even last (get_or (unlocked ms) i 0) p two ring in
        let first = plays-even last (get_or (unlocked ms) 0 0) q least ring in
        (and-eq-true_iff (even (get_or (unlocked ms) i 0)) (eqb (get_or (unlocked ms) i 0) (common (unlocked ms)))).1 (
          ap (λ k. even k) here ∙ not-false (even last) ring,
          eq-eqb (get_or (unlocked ms) i 0) (common (unlocked ms)) (here ∙ sym first),
        ))

    each_playable : playable_counts (unlocked ms) ≡ true
    each_playable = go (not (even last)) refl
      where
        either : (a b : Bool) → b ≡ true → (a || b) ≡ true
        either true b f = refl
        either false b f = f

        go : (odd : Bool) → not (even last) ≡ odd → playable_counts (unlocked ms) ≡ true
        go true f = ap (λ b. b || all_even_and_equal (unlocked ms)) (play_odd f)
        go false f = either (all_odd (unlocked ms)) (all_even_and_equal (unlocked ms)) (play_even f)

  -- the counts are right: each plays
  playable_each : playable_counts (unlocked ms) ≡ true → each ≡ true
  unfolding all_odd all_even_and_equal
  playable_each e =
      each_all_below (length ms) (λ i. plays last (get_or ms i 0))
      (λ i h.
      elim (dec_le 2 (get_or ms i 0)) [
        | no few ↦ locked_plays last (get_or ms i 0) (omega arith)
        | yes two ↦
            let (j, inside, same) = disk_of ms i h two in
            by i j (all_odd (unlocked ms)) refl inside same
      ])
    where
      leads : Leads (unlocked ms) last
      leads = last_leads (unlocked ms) (unlocked_two ms) e

      by : (i j : ℕ) (odd : Bool)
          → all_odd (unlocked ms) ≡ odd
          → j < length (unlocked ms)
          → get_or (unlocked ms) j 0 ≡ get_or ms i 0
          → plays last (get_or ms i 0) ≡ true
      by i j true f inside same =
          odd_plays last (get_or ms i 0) (sym leads.odd ∙ f)
          (ap (λ k. not (even k)) (sym same) ∙ sym (odd_by (unlocked ms) e j inside) ∙ f)
      by i j false f inside same =
          like-plays last (get_or ms i 0) (sym same ∙ sym (common_by (unlocked ms) e j inside f) ∙ leads.ring f)

  pub counts_played : each ≡ playable_counts (unlocked ms)
  counts_played = same_test each (playable_counts (unlocked ms)) each_playable playable_each
