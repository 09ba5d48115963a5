-- What the stages of the rank answer: definitions that only this crate's private functions cite.
use Rattle.std.specs.Prelude.{ℕ, ◌^◌, ◌≤◌, ◌≡◌, Bool, true, cond, List, Result, Ok, Err}
use Rattle.gray_theory.specs.Radices.{digits, size, all_from}
use Rattle.gray_theory.specs.Words.{is_word}
use Rattle.gray.specs.declared.Refusal.{Refusal}
use Rattle.gray.specs.declared.Refusal.TheVariants.{Word}

-- refusal 8 of a setting that is none
abbrev pub checked_as : Bool → Result Unit Refusal
checked_as isOne = cond isOne (Ok tt) (Err Word)

-- radices and a word that have passed every check
pub record Rankable (radices word : List ℕ) : Type 0 where
  pub one : is_word (digits radices) (digits word) ≡ true
  pub least : all_from 1 (digits radices) ≡ true
  pub limit : size (digits radices) ≤ 2 ^ 62
