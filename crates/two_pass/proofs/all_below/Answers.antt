-- `two_pass::all_below` meets its contract: after i turns it has tested the slowest i digits. Assumes nothing.
use mathlib.Core.Path.{refl}
use Rattle.gray_theory.specs.Words.{is_word}
use Rattle.gray_theory.proofs.Ranking.{below_more}
use Rattle.two_pass.proofs.all_below.Goals as goal

pub loop-i-init : goal.loop-i-init
loop-i-init c = unfold is_word in refl

pub loop-i-preserved : goal.loop-i-preserved
loop-i-preserved c =
    below_more _ _ c.requires _ _ c.loop-i-test.true c.loop-i.invariant
