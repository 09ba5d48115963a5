-- `ahead::Walk::filled` meets its contract: each turn makes a useful work step, until the buffer is full. Assumes nothing.
use Rattle.ahead_theory.specs.States.{Arrays}
use Rattle.ahead.specs.Structs.{walk_as}
use Rattle.ahead.proofs.Fills.{fill-begun, fill_workable, fill_more, fill_less, fill_ended}
use borrow.Author.Rules.{rules}
use Rattle.ahead.proofs.Walk.filled.Goals as goal
use Rattle.ahead.proofs.Walk.filled.Goals.{Start}

lengths : (c : Start) → Arrays (walk_as c.args.self)
lengths c = search rules

pub loop-at-init : goal.loop-at-init
loop-at-init c = fill-begun (walk_as c.args.self) _ c.requires (lengths (goal.at.loop-at-init c).Start)

pub work-at-requires : goal.work-at-requires
work-at-requires c =
    fill_workable (walk_as c.args.self) _ c.requires (lengths (goal.at.work-at-requires c).Start) c.loop-at.counter c.loop-at.queue c.loop-at.at c.loop-at.invariant

pub loop-at-smaller : goal.loop-at-smaller
loop-at-smaller c =
    fill_less (walk_as c.args.self) _ c.requires (lengths (goal.at.loop-at-smaller c).Start) _ _ _ c.loop-at.invariant c.loop-at-test.true _ _ _ c.work-at.ensures

pub loop-at-preserved : goal.loop-at-preserved
loop-at-preserved c =
    fill_more (walk_as c.args.self) _ c.requires (lengths (goal.at.loop-at-preserved c).Start) _ _ _ c.loop-at.invariant c.loop-at-test.true _ _ _ c.work-at.ensures

pub returns : goal.returns
returns c =
    fill_ended (walk_as c.args.self) _ c.requires (lengths (goal.at.returns c).Start) _ _ _ c.loop-at.invariant c.loop-at-test.false
