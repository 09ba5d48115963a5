-- `ahead::run::Lanes::word_back` meets its contract: after i turns the first i of the digits that move are given back. Assumes
-- nothing.
use Rattle.ahead.proofs.Loads.{WordTo}
use Rattle.ahead.proofs.run.Lanes.word_back.Given as goal

abbrev pub invariant-loop-i : goal.invariant-loop-i
invariant-loop-i l = WordTo l.count l.numbers l.self.tops l.self.left l.self.bytes l.initial.word l.initial.downs l.i l.word l.downs
