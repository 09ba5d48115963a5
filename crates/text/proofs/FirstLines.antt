-- The first line for a line of counts: what the proof of `survey_line` cites.
use Prim.Native.Nat.{ℕ, ◌≤◌, ◌<◌}
use mathlib.Core.Path.{◌≡◌, sym, ap, ◌∙◌}
use mathlib.Core.Bool.{cond}
use mathlib.Core.List.{List}
use borrow.Author.Tests.{lt-ltb, le-ltb}
use lib.ListN.{length}
use Rattle.gray_theory.specs.Answers.{number_of}
use Rattle.gray_theory.specs.Calls.{size_call}
use Rattle.std.specs.Prelude.{Result, Ok, Err}
use Rattle.gray.specs.Enums.{answer_as}
use Rattle.gray.specs.declared.Refusal.{Refusal}
use Rattle.text_theory.specs.Lines.{sized_line, survey_line}
use Rattle.text_theory.specs.declared.Line.TheVariants.{Refused, Long, Sizes}

module _ (radices : List ℕ) (o : Result ℕ Refusal) (says : answer_as o ≡ size_call radices) where
  pub refused_line : (k : Refusal) (n : ℕ) → o ≡ Err k → n ≡ number_of (answer_as o) → Refused n ≡ survey_line radices
  unfolding survey_line
  refused_line k n is number =
      ap Refused (number ∙ ap (λ q. number_of (answer_as q)) is)
      ∙ ap (sized_line (length radices)) (sym (ap answer_as is) ∙ says)

  pub long_line : (total : ℕ) → o ≡ Ok total → 4096 < total → Long ≡ survey_line radices
  unfolding survey_line
  long_line total is h =
      ap (λ t. cond t Long (Sizes (length radices) total)) (sym (lt-ltb 4096 total h))
      ∙ ap (sized_line (length radices)) (sym (ap answer_as is) ∙ says)

  pub sizes_line : (total : ℕ) → o ≡ Ok total → total ≤ 4096 → Sizes (length radices) total ≡ survey_line radices
  unfolding survey_line
  sizes_line total is h =
      ap (λ t. cond t Long (Sizes (length radices) total)) (sym (le-ltb 4096 total h))
      ∙ ap (sized_line (length radices)) (sym (ap answer_as is) ∙ says)
