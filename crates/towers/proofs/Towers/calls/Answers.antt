-- `towers::Towers::calls` meets its contract: after k turns the local arrays are those of the state after k calls. Assumes
-- nothing.
use Rattle.towers.proofs.Runs.{begun, made_all, ended_there, again}
use Rattle.towers.proofs.Towers.calls.Goals as goal

pub loop-k-init : goal.loop-k-init
loop-k-init c = begun _ _ c.requires.0 _ _ c.requires.1

pub returns-in_default : goal.returns-in_default
returns-in_default c =
    let p = c.requires in
    ended_there _ _ p.0 _ _ p.1 _ _ _ c.loop-k.invariant _ c.loop-k-test.true c.in_default.ensures

pub loop-k-preserved : goal.loop-k-preserved
loop-k-preserved c =
    let p = c.requires in
    again _ _ p.0 _ _ p.1 _ _ _ c.loop-k.invariant _ _ c.loop-k-test.true c.in-Some.ensures p.0.told

pub returns : goal.returns
returns c =
    let p = c.requires in
    made_all _ _ p.0 _ _ p.1 _ _ _ c.loop-k.invariant c.loop-k-test.false
