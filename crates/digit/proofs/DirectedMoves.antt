-- A digit's notch and direction, written as the call that moves it gives them: what both engines keep is then as their definitions
-- say, and so is the event that they answer.
use Rattle.std.specs.Prelude.{ℕ, ◌+◌, ◌-◌, ◌≤◌, ◌<◌, ◌≡◌, true, false, ◌&&◌, List, leb, get_or, set}
use native.Mathlib.Omega.{arith}
use Rattle.std.proofs.Common.{ap₂, ◌∙◌, le-leb}
use Rattle.gray_theory.specs.Answers.{Answer}
use Rattle.gray_theory.specs.Directions.{moved_from, digit_in_range}
use Rattle.gray_theory.specs.DirectedWords.{DirectedWord, Rooms, digit_moved, event_by}
use Rattle.gray_theory.specs.Engines.{moved}
use Rattle.gray_theory.specs.WordRanges.{WordRange}
use Rattle.gray_theory.proofs.WordRanges.{digit_tested, entry_written}
use Rattle.digit.specs.declared.Directed.{Directed}
use Rattle.digit.specs.Advances.{onward, advanced_from}
use Rattle.digit.proofs.Advances.{digit_advanced}

-- digit k, at index i, in range and not locked
module _
    (check : List ℕ → Answer Unit) (d : DirectedWord) (r : WordRange check d) (rooms : Rooms d)
    (i k : ℕ) (number : i + 1 ≡ k) (within : i < d.n) (two : 2 ≤ get_or d.radices i 0)
  where
    pub digit_moves : leb 2 (get_or d.radices i 0) && digit_in_range (get_or d.radices i 0) (get_or d.word i 0) (get_or d.downs i false) ≡ true
    digit_moves = ap₂ ◌&&◌ (le-leb 2 (get_or d.radices i 0) two) (digit_tested check d r i within)

    module _ (to : Directed) (e : to ≡ advanced_from (get_or d.radices i 0) (get_or d.word i 0) (get_or d.downs i false)) where
      gone : to ≡ onward (get_or d.radices i 0) (get_or d.word i 0) (get_or d.downs i false)
      gone = e ∙ digit_advanced (get_or d.radices i 0) (get_or d.word i 0) (get_or d.downs i false) digit_moves

      pub written_is_moved :
          record {
            radices = d.radices;
            n = d.n;
            moving = d.moving;
            word = set d.word i to.digit;
            downs = set d.downs i to.down;
          }
          ≡ digit_moved d k
      unfolding digit_moved
      written_is_moved = let index : k - 1 ≡ i = omega arith in rw (index, gone)

      pub written_is_named : moved (record { digit = k; down = get_or d.downs i false }) to.digit ≡ event_by d k
      unfolding digit_moved
      written_is_named =
          let index : k - 1 ≡ i = omega arith in
          let most = r.most in
          let long = rooms.word in
          rw
          (index, gone, entry_written d.word d.n i (moved_from (get_or d.word i 0) (get_or d.downs i false)) within (omega arith))
