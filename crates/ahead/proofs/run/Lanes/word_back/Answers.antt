-- `ahead::run::Lanes::word_back` meets its contract: after i turns the first i of the digits that move are given back. Assumes
-- nothing.
use Rattle.ahead.proofs.Loads.{word_more, word_all}
use Rattle.ahead.proofs.run.Lanes.word_back.Goals as goal

pub loop-i-preserved : goal.loop-i-preserved
loop-i-preserved c = word_more _ _ _ _ _ _ _ c.requires _ _ _ _ _ _ c.loop-i-test.true c.loop-i.invariant c.from-d.ensures c.move_down-down.ensures c.to_go.ensures

pub returns : goal.returns
returns c = word_all _ _ _ _ _ _ _ c.requires _ _ _ c.loop-i-test.false c.loop-i.invariant
