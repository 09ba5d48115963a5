-- `stretch::call` meets its contract: each path is one course of a call. Assumes nothing.
use mathlib.Core.Path.{ap, ◌∙◌}
use Rattle.ahead_theory.specs.Locals.{fast_work}
use Rattle.stretch.proofs.Calls.{workable_again, back_fits, runs_dry, comes_to_the_end, moves_one}
use Rattle.stretch.proofs.call.Goals as goal

pub work-twice-requires : goal.work-twice-requires
work-twice-requires c = workable_again _ _ _ _ _ _ _ _ _ c.requires _ _ _ c.work-once.ensures

pub undo-requires : goal.undo-requires
undo-requires c = back_fits _ _ _ _ _ _ _ _ _ c.requires _ _ _ (c.work-twice.ensures ∙ ap (fast_work _ _ _) c.work-once.ensures)

pub returns-then-twice-k : goal.returns-then-twice-k
returns-then-twice-k c = runs_dry _ _ _ _ _ _ _ _ _ c.requires _ _ _ (c.work-twice.ensures ∙ ap (fast_work _ _ _) c.work-once.ensures) c.if-twice-k.true _ c.undo.ensures

pub returns-then-e-last : goal.returns-then-e-last
returns-then-e-last c = comes_to_the_end _ _ _ _ _ _ _ _ _ c.requires _ _ _ (c.work-twice.ensures ∙ ap (fast_work _ _ _) c.work-once.ensures) c.if-twice-k.false _ c.from-e.ensures c.if-e-last.true

pub returns : goal.returns
returns c = moves_one _ _ _ _ _ _ _ _ _ c.requires _ _ _ (c.work-twice.ensures ∙ ap (fast_work _ _ _) c.work-once.ensures) c.if-twice-k.false _ c.from-e.ensures c.if-e-last.false _ _ _ c.advance-byte.ensures
