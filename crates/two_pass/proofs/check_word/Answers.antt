-- `two_pass::check_word` meets its contract. Assumes nothing.
use mathlib.Core.Path.{sym, ap}
use Rattle.two_pass.specs.Stages.{checked_as}
use Rattle.gray_theory.proofs.Ranking.{too_long_or_short}
use Rattle.two_pass.proofs.check_word.Goals as goal

pub returns-then-word-radices : goal.returns-then-word-radices
returns-then-word-radices c =
    sym (ap checked_as (too_long_or_short c.args.radices.now c.args.word.now c.if-word-radices.true))
