-- `reader::digit` meets its contract: below, above and within the digits. Assumes nothing.
use Rattle.std.proofs.Common.{arith}
use Rattle.std.proofs.lemmas.Grind.{common_steps}
use Rattle.std.proofs.lemmas.Bool.Decides.{nat_tests}
use Rattle.reader.specs.Stages.{digit_at}
use Rattle.reader.proofs.digit.Goals as goal

pub returns-in-48-to-57 : goal.returns-in-48-to-57
unfolding digit_at
returns-in-48-to-57 c = grind (arith, common_steps, nat_tests)

pub returns-in_default : goal.returns-in_default
unfolding digit_at
returns-in_default c = grind (arith, common_steps, nat_tests)

pub returns-in_default-2 : goal.returns-in_default-2
unfolding digit_at
returns-in_default-2 c = grind (arith, common_steps, nat_tests)
