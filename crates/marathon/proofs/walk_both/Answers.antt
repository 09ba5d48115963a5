-- `marathon::walk_both` meets its contract: a survey that is accepted has at most 48 places. Assumes nothing.
use Rattle.std.proofs.Common.{◌≤◌, length, sym, ap, ◌∙◌}
use Rattle.gray.specs.Enums.{answer_as}
use Rattle.gray_theory.proofs.Refusals.{accepted}
use Rattle.marathon.proofs.walk_both.Goals as goal
use Rattle.marathon.proofs.walk_both.Goals.{In_ok-total}

-- what both walks ask for
fits : (c : In_ok-total) → length c.args.radices.now ≤ 48
fits c = (accepted _ _ (sym c.size.ensures ∙ ap answer_as c.in_ok-total.was)).most

pub walk-requires : goal.walk-requires
walk-requires c = fits (goal.at.walk-requires c).In_ok-total

pub walk-requires-2 : goal.walk-requires-2
walk-requires-2 c = fits (goal.at.walk-requires-2 c).In_ok-total
