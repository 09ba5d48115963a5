-- `ahead::Walk::run` meets its contract: each path is one course of a run. Assumes nothing.
use mathlib.Core.Path.{sym, ◌∙◌}
use Rattle.gray_theory.proofs.SingleCalls.{run_out_of_range_is_refused, run_into_shorter_memory_is_refused}
use Rattle.ahead.proofs.Calls.{run_unmoved, run_halted}
use Rattle.ahead.proofs.Walk.run.Goals as goal

pub returns-then-not-in_range : goal.returns-then-not-in_range
returns-then-not-in_range c = sym (run_out_of_range_is_refused _ _ _ _ _ (sym c.in_range.ensures ∙ c.if-not-in_range.true))

pub returns-then-out-t : goal.returns-then-out-t
returns-then-out-t c = sym (run_into_shorter_memory_is_refused _ _ _ _ _ (sym c.in_range.ensures ∙ c.if-not-in_range.false) c.if-out-t.true)

pub returns-then-t-self : goal.returns-then-t-self
returns-then-t-self c = run_unmoved _ _ _ (sym c.in_range.ensures ∙ c.if-not-in_range.false) c.if-out-t.false c.if-t-self.true _ c.unmoved.ensures

pub returns : goal.returns
returns c = run_halted _ _ _ (sym c.in_range.ensures ∙ c.if-not-in_range.false) c.if-out-t.false _ _ c.room-room.ensures c.min-limit.ensures _ _ _ _ c.calls-called.ensures _ c.outcome-answer.ensures
