-- The range rule part by part.
use Rattle.std.specs.Prelude.{ℕ, ◌≤◌, ◌<◌, ◌≡◌, refl, Bool, false, cond, ◌&&◌, ◌||◌, List, [], ◌∷◌, eqb, leb, length, get_or}
use Rattle.std.proofs.Common.{arith, ap}
use Rattle.std.proofs.Math.Path.{sym}
use Rattle.std.proofs.Math.Bool.{true, not, and-eq-true_iff}
use borrow.Author.Tests.{lt-ltb, ltb-true, le-leb, leb-true, eqb-true}
use Rattle.gray_theory.specs.Bools.{impossible}
use Rattle.gray_theory.specs.Words.{even}
use Rattle.gray_theory.specs.Directions.{all_below}
use Rattle.gray_theory.specs.DirectedWords.{word_in_range}
use Rattle.gray_theory.specs.WordRanges.{WordRange}
use Rattle.gray_theory.proofs.WordRanges.{says-word, word-says, ranged_moving, DigitThere, digit_there}
use Rattle.gray_theory.proofs.DigitRanges.{all_below_each, each_all_below}
use Rattle.towers_theory.specs.States.{Towers, all_odd, common, even_and_equal, all_even_and_equal, open_check, Openable, survey, disks, turn_in_range, pegs_in_range, in_range}
use Rattle.towers_theory.proofs.Openings.{openable}

-- ---- the counts
or-says : (a b : Bool) → (a || b) ≡ true → a ≡ false → b ≡ true
or-says true b e f = impossible (cc)
or-says false b e f = e

-- any disk tells which game is played
by_one : (odd even-equal one : Bool)
    → (odd || even-equal) ≡ true
    → (odd ≡ true → not one ≡ true)
    → (even-equal ≡ true → one ≡ true)
    → odd ≡ not one
by_one true even-equal one e f g = sym (f refl)
by_one false even-equal one e f g = sym (ap not (g e))

module _ (ms : List ℕ) (e : (all_odd ms || all_even_and_equal ms) ≡ true) (i : ℕ) (h : i < length ms) where
  pub odd_by : all_odd ms ≡ not (even (get_or ms i 0))
  unfolding all_odd all_even_and_equal
  odd_by =
      by_one (all_odd ms) (all_even_and_equal ms) (even (get_or ms i 0)) e
      (λ o. all_below_each (length ms) (λ i. not (even (get_or ms i 0))) o i h)
      (λ q.
      ((and-eq-true_iff (even (get_or ms i 0)) (eqb (get_or ms i 0) (common ms))
      ).0
      (all_below_each (length ms) (λ i. even_and_equal (common ms) (get_or ms i 0)) q i h)
      ).0)

  -- where they are not all odd, its count is the common one
  pub common_by : all_odd ms ≡ false → common ms ≡ get_or ms i 0
  unfolding all_even_and_equal
  common_by ring =
      let equal = or-says (all_odd ms) (all_even_and_equal ms) e ring in
      sym
      (eqb-true (get_or ms i 0) (common ms)
      ((and-eq-true_iff (even (get_or ms i 0)) (eqb (get_or ms i 0) (common ms))
      ).0
      (all_below_each (length ms) (λ i. even_and_equal (common ms) (get_or ms i 0)) equal i h)
      ).1)

-- with no disk the counts are all odd
pub some_disk : (ms : List ℕ) → all_odd ms ≡ false → 0 < length ms
unfolding all_odd all_below
some_disk [] e = impossible (cc)
some_disk (m ∷ ms) e = omega arith

-- ---- the range rule for a state, part by part
pub record Ranged (s : Towers) : Type 0 where
  pub word : WordRange open_check s.directed
  pub turns : s.turn < cond (all_odd (disks s)) 2 (common (disks s))
  pub within : all_odd (disks s) ≡ false → (i : ℕ) → i < length (disks s) → get_or s.pegs i 0 ≤ common (disks s)

says-or : (a b : Bool) → (a ≡ false → b ≡ true) → (a || b) ≡ true
says-or true b f = refl
says-or false b f = f refl

module _ (s : Towers) where
  abbrev on_ring : ℕ → Bool
  on_ring i = leb (get_or s.pegs i 0) (common (disks s))

  pub says_range : Ranged s → in_range s ≡ true
  unfolding in_range
  says_range r =
      let ms = disks s in
      let turns = lt-ltb s.turn (cond (all_odd ms) 2 (common ms)) r.turns in
      let within : pegs_in_range ms s.pegs ≡ true =
      says-or (all_odd ms) (all_below (length ms) on_ring)
      (λ e. each_all_below (length ms) on_ring (λ i h. le-leb (get_or s.pegs i 0) (common ms) (r.within e i h))) in
      rw (says-word open_check s.directed r.word, turns, within)

  pub range_says : in_range s ≡ true → Ranged s
  unfolding in_range
  range_says e =
      let ms = disks s in
      let word = word_in_range open_check s.directed in
      let turns = turn_in_range ms s.turn in
      let (two, p) = (and-eq-true_iff (word && turns) (pegs_in_range ms s.pegs)).0 e in
      let (one, t) = (and-eq-true_iff word turns).0 two in
      record {
        word = word-says open_check s.directed one;
        turns = ltb-true s.turn (cond (all_odd ms) 2 (common ms)) t;
        within = λ f i h.
            leb-true (get_or s.pegs i 0) (common ms)
            (all_below_each (length ms) on_ring (or-says (all_odd ms) (all_below (length ms) on_ring) p f) i h);
      }

  module _ (r : Ranged s) where
    pub survey_openable : Openable (survey s)
    survey_openable = openable (survey s) r.word.opens

    pub disk_digit : length s.directed.radices ≡ 48 → (i : ℕ) → i < s.directed.moving.count → DigitThere s.directed i
    disk_digit long =
        digit_there s.directed long r.word.most survey_openable.survey.one (ranged_moving open_check s.directed r.word)
