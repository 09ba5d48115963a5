-- `tides::calls::may_begin` meets its contract. Assumes nothing.
use mathlib.Core.Path.{sym, ap, ◌∙◌}
use Rattle.gray_theory.specs.Answers.{given}
use Rattle.tides_theory.proofs.Accepting.{begun_as}
use Rattle.tides.proofs.Answered.{refused_by, passes}
use Rattle.tides.proofs.calls.may_begin.Goals as goal

pub returns-in_default : goal.returns-in_default
returns-in_default c =
    sym ((refused_by _ _ _ _ c.pass-passed.ensures c.unwrap_err.ensures).begins c.args.minute)

pub returns : goal.returns
returns c =
    let p = passes _ _ _ _ c.pass-passed.ensures c.in-Ok.is in
    ap given p.allows ∙ sym (begun_as _ _ p.accepted)
