-- What both engines have in common: their answers, and runs of calls in which each call gets the state that the one before it
-- handed back.
use Rattle.std.specs.Prelude.{ℕ, zero, suc, ◌-◌, ◌≡◌, true, false, List}
use Rattle.gray_theory.specs.Answers.{Answer, given, refused}
use Rattle.gray_theory.specs.Words.{member, notch_of}
use Rattle.gray_theory.specs.Changes.{Change, Moves, change}

-- what an accepted call of an engine says: the change that it made and the notch that its digit has come to (document 02, "A move
-- names the notch it reaches"), or that the walk has ended
pub data Event : Type 0 where
  moved : Change → ℕ → Event
  ended : Event

-- ---- calls on a state
-- what a call hands back: the state and its answer
pub record Handed (S A : Type 0) : Type 0 where
  pub state : S
  pub answer : Answer A

-- a refusal: the state as it came
abbrev pub refused_with : {S A : Type 0} → ℕ → S → Handed S A
refused_with k s = record { state = s; answer = refused k }

-- an opening: refused, it hands back the state as it came; accepted, the state that it opens, whatever came
abbrev pub open_with : {S : Type 0} → S → S → Answer Unit → Handed S Unit
open_with s opened (given u) = record { state = opened; answer = given u }
open_with s opened (refused k) = refused_with k s

-- the state after t calls from s
unfoldable pub after : {S : Type 0} → (S → Handed S Event) → S → ℕ → S
after call s zero = s
after call s (suc t) = (call (after call s t)).state

-- what call j answers, for j from 1
abbrev pub answer_of : {S : Type 0} → (S → Handed S Event) → S → ℕ → Answer Event
answer_of call s j = (call (after call s (j - 1))).answer

-- a change that leads to a word, and the notch that its digit has come to there
abbrev pub moved_to : Change → List ℕ → Event
moved_to c w = moved c (notch_of w c.digit)

-- move j of the list: change j, to the setting of rank j
abbrev pub move_at : List ℕ → ℕ → Event
move_at ms j = moved_to (change ms j) (member ms j)

-- call j names change j: it answers that digit and direction, and the notch, and hands back the setting of rank j
pub record Names {S : Type 0} (call : S → Handed S Event) (setting : S → List ℕ) (ms : List ℕ) (s : S) (j : ℕ) : Type 0 where
  pub answers : answer_of call s j ≡ given (move_at ms j)
  pub hands_back : setting (after call s j) ≡ member ms j

-- a move names the notch that it reaches: the digit's entry in the word after it, one more than the entry before on the way up, one
-- less on the way down; and it is one of the word's digits, and the only one that moves
pub record NamesNotch (c : Change) (notch : ℕ) (before after : List ℕ) : Type 0 where
  pub reached : notch_of after c.digit ≡ notch
  pub up : c.down ≡ false → notch ≡ suc (notch_of before c.digit)
  pub down : c.down ≡ true → notch_of before c.digit ≡ suc notch
  pub alone : Moves c.digit c.down before after
