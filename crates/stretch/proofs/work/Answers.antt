-- `stretch::work` meets its contract. Assumes nothing.
use Rattle.stretch.proofs.Paths.{stays_at_last, carries_one, appends_one, stays_full}
use Rattle.stretch.proofs.work.Goals as goal

pub returns-then-place-last : goal.returns-then-place-last
returns-then-place-last c = stays_at_last _ _ _ _ _ _ c.if-b-eq0.true c.if-place-last.true

pub returns-then-b-eq0 : goal.returns-then-b-eq0
returns-then-b-eq0 c = carries_one _ _ _ _ _ _ c.if-b-eq0.true c.if-place-last.false

pub returns-then-tail-bound : goal.returns-then-tail-bound
returns-then-tail-bound c = appends_one _ _ _ _ _ _ c.if-b-eq0.false c.if-tail-bound.true

pub returns : goal.returns
returns c = stays_full _ _ _ _ _ _ c.if-b-eq0.false c.if-tail-bound.false
