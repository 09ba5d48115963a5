-- Made-up states, which hold the range rule and the rules of a call to document 01 where the theorem about whole games does not
-- reach. Lists have digit 1 first.
use Rattle.std.specs.Prelude.{ℕ, ◌≡◌, Bool, true, false, List, [], ◌∷◌, map}
use Rattle.std.proofs.Math.Option.{none, some}
use Rattle.gray_theory.specs.Answers.{given}
use Rattle.gray_theory.specs.Arrays.{filled}
use Rattle.gray_theory.specs.DirectedWords.{directed_on}
use Rattle.gray_theory.specs.Engines.{moved, ended}
use Rattle.towers_theory.specs.States.{Towers, in_range}
use Rattle.towers_theory.specs.Choices.{peg_of, chosen}
use Rattle.towers_theory.specs.Calls.{step_of}

-- ---- made-up states
-- on a survey, with this word and these directions, turn and pegs
abbrev game : List ℕ → List ℕ → List Bool → ℕ → List ℕ → Towers
game ms word downs turn pegs = record {
  directed = directed_on ms (filled 48 0 word) (filled 48 false downs);
  turn = turn;
  pegs = filled 48 0 pegs;
}

-- on the counts 5, 1, 3, and on 4, 1, 4, whose ring has pegs 0 to 4. Digit 2 is locked, so that disks 1 and 2 are those of
-- digits 1 and 3
abbrev pub on_three : List ℕ → List Bool → ℕ → List ℕ → Towers
on_three word downs turn pegs = game (5 ∷ 1 ∷ 3 ∷ []) word downs turn pegs

abbrev pub on_ring : List ℕ → List Bool → ℕ → List ℕ → Towers
on_ring word downs turn pegs = game (4 ∷ 1 ∷ 4 ∷ []) word downs turn pegs

-- ---- the range rule, at its bounds and one past them
pub record GameRange : Type 0 where
  -- for odd counts the turn is 0 or 1, and nothing is asked of the pegs
  pub turns_on_three : map (λ t. in_range (on_three [] [] t [])) (0 ∷ 1 ∷ 2 ∷ []) ≡ true ∷ true ∷ false ∷ []
  pub pegs_on_three : in_range (on_three [] [] 0 (9 ∷ 9 ∷ 9 ∷ [])) ≡ true
  -- for even ones the turn is 0 to m − 1, and each disk's peg 0 to m; nothing is asked of what stands behind the disks
  pub turns_on_the_ring : map (λ t. in_range (on_ring [] [] t [])) (0 ∷ 3 ∷ 4 ∷ []) ≡ true ∷ true ∷ false ∷ []
  pub pegs_on_the_ring : map (λ pegs. in_range (on_ring [] [] 0 pegs)) ((4 ∷ 4 ∷ []) ∷ (5 ∷ 0 ∷ []) ∷ (0 ∷ 5 ∷ []) ∷ (0 ∷ 0 ∷ 5 ∷ []) ∷ [])
      ≡ true ∷ false ∷ false ∷ true ∷ []
  -- the word and the directions as in the buffered engine: not so a notch at its radix, a direction up at the top, a locked
  -- digit off 0; and counts that the disk engine cannot be opened on
  pub words_in_range : map in_range
      (on_three (4 ∷ 0 ∷ 2 ∷ []) (true ∷ false ∷ true ∷ []) 0 []
      ∷ on_three (5 ∷ 0 ∷ 2 ∷ []) (true ∷ false ∷ true ∷ []) 0 []
      ∷ on_three (4 ∷ 0 ∷ 2 ∷ []) (true ∷ false ∷ false ∷ []) 0 []
      ∷ on_three (4 ∷ 1 ∷ 2 ∷ []) (true ∷ false ∷ true ∷ []) 0 []
      ∷ game (4 ∷ 1 ∷ 2 ∷ []) [] [] 0 []
      ∷ [])
      ≡ true ∷ false ∷ false ∷ false ∷ false ∷ []

-- ---- three pegs
abbrev aside_left : Towers
aside_left = on_three [] [] 1 (7 ∷ 8 ∷ [])

abbrev aside_right : Towers
aside_right = on_three (4 ∷ 0 ∷ 2 ∷ []) (true ∷ false ∷ true ∷ []) 0 []

pub record OnThreePegs : Type 0 where
  -- disk 1 is on the left peg at notch 0, on the right at 4, else in the middle; disk 2 on the right at 2
  pub pegs_by_notches : map (λ a. peg_of (on_three (a ∷ 0 ∷ 2 ∷ []) [] 0 []) 0) (0 ∷ 1 ∷ 3 ∷ 4 ∷ []) ≡ 0 ∷ 1 ∷ 1 ∷ 2 ∷ []
  pub peg_of_disk_2 : map (λ a. peg_of (on_three (0 ∷ 0 ∷ a ∷ []) [] 0 []) 1) (0 ∷ 1 ∷ 2 ∷ []) ≡ 0 ∷ 1 ∷ 2 ∷ []
  -- the smallest on left and middle, turn 0, and on middle and right, turn 1: with the disks left and right, right and left,
  -- both in the middle, both right, both left
  pub chosen_on_three : map (λ t. map (λ word. chosen (on_three word [] t []))
      ((0 ∷ 0 ∷ 2 ∷ []) ∷ (4 ∷ 0 ∷ 0 ∷ []) ∷ (2 ∷ 0 ∷ 1 ∷ []) ∷ (4 ∷ 0 ∷ 2 ∷ []) ∷ (0 ∷ 0 ∷ 0 ∷ []) ∷ []))
      (0 ∷ 1 ∷ [])
      ≡ (some 0 ∷ some 1 ∷ some 0 ∷ none ∷ some 0 ∷ []) ∷ (some 1 ∷ some 0 ∷ some 0 ∷ some 0 ∷ none ∷ []) ∷ []
  -- a locked digit is no disk: on 1, 3, with the one disk on the right peg, there is none on the left pair
  pub locked_is_no_disk : chosen (game (1 ∷ 3 ∷ []) (0 ∷ 2 ∷ []) [] 0 []) ≡ none
  -- disk 2 moves its digit, which is digit 3: up to the top, where it turns. The turn is the other pair's; the pegs of the
  -- array stay
  pub disk_2_on_three : step_of (on_three (4 ∷ 0 ∷ 1 ∷ []) (true ∷ []) 0 (7 ∷ 8 ∷ []))
      ≡ record {
        state = on_three (4 ∷ 0 ∷ 2 ∷ []) (true ∷ false ∷ true ∷ []) 1 (7 ∷ 8 ∷ []);
        answer = given (moved (record { digit = 3; down = false }) 2);
      }
  -- and disk 1 its own, down to 3, with the right pair's turn
  pub disk_1_on_three : step_of (on_three (4 ∷ 0 ∷ 0 ∷ []) (true ∷ []) 1 [])
      ≡ record { state = on_three (3 ∷ 0 ∷ 0 ∷ []) (true ∷ []) 0 []; answer = given (moved (record { digit = 1; down = true }) 3) }
  -- no disk on the pair: the end, and the state stays, turn included
  pub ends_on_three : map step_of (aside_left ∷ aside_right ∷ [])
      ≡ record { state = aside_left; answer = given ended } ∷ record { state = aside_right; answer = given ended } ∷ []

-- ---- the ring
abbrev stacked : Towers
stacked = on_ring [] [] 3 (2 ∷ 2 ∷ [])

pub record OnTheRing : Type 0 where
  -- in its sweep disk 1 goes clockwise, from peg 4 on to peg 0, and the turn grows by 1, up to m − 1
  pub sweeps_on_the_ring : map step_of (on_ring (1 ∷ []) [] 1 (4 ∷ 4 ∷ []) ∷ on_ring (3 ∷ []) (true ∷ []) 2 (1 ∷ 3 ∷ []) ∷ [])
      ≡ record { state = on_ring (2 ∷ []) [] 2 (0 ∷ 4 ∷ []); answer = given (moved (record { digit = 1; down = false }) 2) }
      ∷ record { state = on_ring (2 ∷ []) (true ∷ []) 3 (2 ∷ 3 ∷ []); answer = given (moved (record { digit = 1; down = true }) 2) }
      ∷ []
  -- after it disk 2 goes the other way, from peg 0 on to peg 4, and the turn is 0 again; it moves digit 3
  pub disk_2_on_the_ring : map step_of (on_ring [] [] 3 (2 ∷ 0 ∷ []) ∷ on_ring [] [] 3 (2 ∷ 4 ∷ []) ∷ [])
      ≡ record { state = on_ring (0 ∷ 0 ∷ 1 ∷ []) [] 0 (2 ∷ 4 ∷ []); answer = given (moved (record { digit = 3; down = false }) 1) }
      ∷ record { state = on_ring (0 ∷ 0 ∷ 1 ∷ []) [] 0 (2 ∷ 3 ∷ []); answer = given (moved (record { digit = 3; down = false }) 1) }
      ∷ []
  -- with all disks on one peg there is none on another: the end, and the state stays, turn included
  pub ends_on_the_ring : step_of stacked ≡ record { state = stacked; answer = given ended }
  -- three disks, on 4, 4, 4, after the sweep: the smallest top disk that is not on the peg of disk 1
  pub chosen_on_the_ring : map (λ pegs. chosen (game (4 ∷ 4 ∷ 4 ∷ []) [] [] 3 pegs))
      ((1 ∷ 2 ∷ 3 ∷ []) ∷ (1 ∷ 3 ∷ 3 ∷ []) ∷ (1 ∷ 1 ∷ 3 ∷ []) ∷ (1 ∷ 0 ∷ 1 ∷ []) ∷ (1 ∷ 1 ∷ 0 ∷ []) ∷ (1 ∷ 1 ∷ 1 ∷ []) ∷ [])
      ≡ some 1 ∷ some 1 ∷ some 2 ∷ some 1 ∷ some 2 ∷ none ∷ []
