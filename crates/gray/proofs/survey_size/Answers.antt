-- `gray::survey_size` meets its contract: the radices are checked first, then the capacity. Assumes nothing.
use mathlib.Core.Path.{◌≡◌, sym, ap, ◌∙◌}
use Rattle.gray_theory.specs.Answers.{given}
use Rattle.gray_theory.specs.Calls.{size_call, survey_call}
use Rattle.gray_theory.proofs.Refusals.{capacity_refused, capacity_accepted}
use Rattle.gray.specs.Enums.{answer_as}
use Rattle.gray.proofs.Passing.{passed_on}
use Rattle.gray.proofs.survey_size.Goals as goal
use Rattle.gray.proofs.survey_size.Goals.{In-Ok}

-- what is known once the radices are accepted

size_is : (c : In-Ok) → size_call c.args.radices.now ≡ given c.in-Ok.total
size_is c = sym c.size-counted.ensures ∙ ap answer_as c.in-Ok.is

pub returns-in_default : goal.returns-in_default
unfolding survey_call
returns-in_default c = rw c.in_default.is (passed_on _ _ _ _ c.size-counted.ensures c.in_default.is)

pub returns-then-capacity : goal.returns-then-capacity
returns-then-capacity c = capacity_refused _ c.args.capacity _ (size_is (goal.at.returns-then-capacity c).In-Ok) c.if-capacity.true

pub returns : goal.returns
returns c = capacity_accepted _ c.args.capacity _ (size_is (goal.at.returns c).In-Ok) c.if-capacity.false
