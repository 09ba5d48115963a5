-- What the writing of a line says: one that is written fits the output, and one that is refused does not.
use Rattle.std.specs.Prelude.{ℕ, ◌≤◌, ◌<◌, ◌≡◌, Bool, true, false, cond, List, ◌++◌, ltb, length, drop}
use Rattle.std.proofs.Math.Path.{refl}
use Rattle.std.proofs.Common.{sym, ◌∙◌, ltb-true, ltb-false}
use Rattle.gray_theory.specs.Answers.{Answer, given, refused, byte_count, output_after, Wrote}
use Rattle.gray_theory.specs.Bools.{impossible}
use Rattle.text_theory.specs.Lines.{line_text, line_call}
use Rattle.text_theory.specs.declared.Line.{Line}

pub record LineWritten (text before after : List ℕ) (k : ℕ) : Type 0 where
  pub long : k ≡ length text
  pub fits : length text ≤ length before
  pub leaves : after ≡ text ++ drop (length text) before

written_with : (t : Bool) (text before after : List ℕ) (k : ℕ) → ltb (length before) (length text) ≡ t
    → given k ≡ byte_count (cond t (refused 9) (given text))
    → after ≡ output_after (cond t (refused 9) (given text)) before
    → LineWritten text before after k
written_with true text before after k e answers leaves = impossible (cc)
written_with false text before after k e answers leaves =
    record { long = cc; fits = ltb-false (length before) (length text) e; leaves = leaves }

unwritten_with : (t : Bool) (text before after : List ℕ) (k : ℕ) → ltb (length before) (length text) ≡ t
    → refused k ≡ byte_count (cond t (refused 9) (given text))
    → after ≡ output_after (cond t (refused 9) (given text)) before
    → (length before < length text) × (after ≡ before)
unwritten_with true text before after k e answers leaves = (ltb-true (length before) (length text) e, leaves)
unwritten_with false text before after k e answers leaves = impossible (cc)

module _ (line : Line) (word before after : List ℕ) (answer : Answer ℕ) (wrote : Wrote (line_call line word) answer before after) where
  pub line_written : (k : ℕ) → answer ≡ given k → LineWritten (line_text line word) before after k
  unfolding line_call
  line_written k e =
      written_with (ltb (length before) (length (line_text line word))) (line_text line word) before after k refl
      (sym e ∙ wrote.answers)
      wrote.leaves

  pub line_refused : (k : ℕ) → answer ≡ refused k → (length before < length (line_text line word)) × (after ≡ before)
  unfolding line_call
  line_refused k e =
      unwritten_with (ltb (length before) (length (line_text line word))) (line_text line word) before after k refl
      (sym e ∙ wrote.answers)
      wrote.leaves
