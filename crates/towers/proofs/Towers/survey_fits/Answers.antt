-- `towers::Towers::survey_fits` meets its contract: each stage's test is a part of the range rule. Assumes nothing.
use mathlib.Core.Path.{sym, ◌∙◌}
use Rattle.towers.specs.Structs.{towers_as}
use Rattle.towers.proofs.Ranges.{digits-over, radices_refused, moving_decides}
use Rattle.towers.proofs.Towers.survey_fits.Goals as goal

pub returns-then-self-gt-MOST : goal.returns-then-self-gt-MOST
returns-then-self-gt-MOST c = digits-over (towers_as c.args.self) c.if-self-gt-MOST.true

pub returns-then-is_err : goal.returns-then-is_err
returns-then-is_err c =
    radices_refused (towers_as c.args.self) _ c.from-n.ensures _ c.size.ensures (sym c.is_err.ensures.value ∙ c.if-is_err.true)

pub returns : goal.returns
returns c =
    moving_decides (towers_as c.args.self) _ c.from-n.ensures _ _ c.if-self-gt-MOST.false c.size.ensures
    (sym c.is_err.ensures.value ∙ c.if-is_err.false)
    c.moving_in_range.ensures
