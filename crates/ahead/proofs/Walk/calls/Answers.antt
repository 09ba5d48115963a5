-- `ahead::Walk::calls` meets its contract: after each stretch the arrays stand for the state after the calls so far. Assumes
-- nothing.
use Prim.Native.Nat.{◌+◌, ◌≤◌}
use native.Mathlib.Omega.{arith}
use mathlib.Core.Path.{ap, ◌∙◌}
use Rattle.ahead_theory.specs.States.{Arrays}
use Rattle.ahead.specs.Structs.{walk_as}
use Rattle.ahead.proofs.Calls.{stop_none, stop_end, calls_begun, unloadable, made_within, calls_more, calls_fewer}
use borrow.Author.Rules.{rules}
use Rattle.ahead.proofs.Walk.calls.Goals as goal
use Rattle.ahead.proofs.Walk.calls.Goals.{Start}

lengths : (c : Start) → Arrays (walk_as c.args.self)
lengths c = search rules

pub loop-done-init : goal.loop-done-init
loop-done-init c =
    calls_begun _ _ _ c.requires (lengths (goal.at.loop-done-init c).Start) _ _ _ _ _ _ c.load.ensures c.from.ensures c.from-2.ensures

pub overflow_add-done : goal.overflow_add-done
overflow_add-done c =
    let h : c.loop-done.done + c.run-ran.result.made ≤ c.args.limit =
    made_within _ _ _ _ _ _ _ _ _ _ _ _ c.loop-done.invariant _ (stop_none c.loop-done.stop _ c.is_none.ensures) c.loop-done-test.true _ c.min.ensures _ _ (ap (λ x. x + 1) c.from-last.ensures) c.from-c.ensures _ _ _ _ _ c.run-ran.ensures in
    omega arith

pub loop-done-smaller : goal.loop-done-smaller
loop-done-smaller c =
    calls_fewer _ _ _ _ _ _ _ _ _ _ _ _ c.loop-done.invariant _ (stop_none c.loop-done.stop _ c.is_none.ensures) c.loop-done-test.true _ c.min.ensures _ _ (ap (λ x. x + 1) c.from-last.ensures) c.from-c.ensures _ _ _ _ _ c.run-ran.ensures

pub loop-done-preserved : goal.loop-done-preserved
loop-done-preserved c =
    calls_more _ _ _ _ _ _ _ _ _ _ _ _ c.loop-done.invariant _ (stop_none c.loop-done.stop _ c.is_none.ensures) c.loop-done-test.true _ c.min.ensures _ _ (ap (λ x. x + 1) c.from-last.ensures) c.from-c.ensures _ _ _ _ _ c.run-ran.ensures

pub unload-walk-requires : goal.unload-walk-requires
unload-walk-requires c = unloadable _ _ _ _ _ _ _ _ _ _ _ _ c.loop-done.invariant _ (c.eq.ensures ∙ stop_end c.loop-done.stop)
