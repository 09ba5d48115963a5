-- Laws for a call that checks its radices by `size`, or them and a capacity by `survey_size`: what it passes on where they are refused.
use Rattle.std.specs.Prelude.{ℕ, ◌≡◌, List, Result, Err}
use Rattle.std.proofs.Common.{sym, ap, ◌∙◌}
use Rattle.gray_theory.specs.Answers.{Answer, refused}
use Rattle.gray_theory.specs.Radices.{digits, of_radices}
use Rattle.gray_theory.specs.Capacities.{of_survey}
use Rattle.gray_theory.specs.Calls.{size_call, survey_call}
use Rattle.gray_theory.proofs.Refusals.{radices_refused, survey_refused_alike}
use Rattle.gray.specs.Enums.{refusal_number, answer_as}
use Rattle.gray.specs.declared.Refusal.{Refusal}

-- a caller of `size` that is refused passes the refusal on
pub passed_on : {A : Type 0} (l : List ℕ) (rest : Answer A) (o : Result ℕ Refusal) (r : Refusal)
    → answer_as o ≡ size_call l
    → o ≡ Err r
    → refused (refusal_number r) ≡ of_radices (digits l) rest
passed_on l rest o r e f = sym (radices_refused l (refusal_number r) rest (sym e ∙ ap answer_as f))

-- and so does a caller of `survey_size`
pub survey_passed_on : {A : Type 0} (l : List ℕ) (c : ℕ) (rest : Answer A) (o : Result ℕ Refusal) (r : Refusal)
    → answer_as o ≡ survey_call l c
    → o ≡ Err r
    → refused (refusal_number r) ≡ of_survey (digits l) c rest
survey_passed_on l c rest o r e f = sym (survey_refused_alike l c rest (refusal_number r) (sym e ∙ ap answer_as f))
