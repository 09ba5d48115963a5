-- `stretch::run_calls` meets its contract: the loop goes on as the model does, call by call. Assumes nothing.
use borrow.Author.Rules.{rules}
use Rattle.stretch.proofs.Running.{begun, full, dried, ended_there, again}
use Rattle.stretch.proofs.run_calls.Goals as goal

pub loop-k-init : goal.loop-k-init
loop-k-init c = begun _ _ _ _ _ _ _ _ _ _ _ c.requires (search rules)

pub returns-in-End : goal.returns-in-End
returns-in-End c = ended_there _ _ _ _ _ _ _ _ _ _ _ _ _ _ _ _ _ _ c.loop-k.invariant c.loop-k-test.true _ _ _ _ _ _ c.call-called.ensures c.in-End.is

pub returns-in-Dry : goal.returns-in-Dry
returns-in-Dry c = dried _ _ _ _ _ _ _ _ _ _ _ _ _ _ _ _ _ _ c.loop-k.invariant c.loop-k-test.true _ _ _ _ _ _ c.call-called.ensures c.in-Dry.is

pub loop-k-preserved : goal.loop-k-preserved
loop-k-preserved c = again _ _ _ _ _ _ _ _ _ _ _ _ _ _ _ _ _ _ c.loop-k.invariant c.loop-k-test.true _ _ _ _ _ _ c.call-called.ensures _ c.in-Moved.is

pub returns : goal.returns
returns c = full _ _ _ _ _ _ _ _ _ _ _ _ _ _ _ _ _ _ c.loop-k.invariant c.loop-k-test.false
