-- `ahead::work::Places::work` meets its contract: each path is one kind of work step. Assumes nothing.
use native.Mathlib.Omega.{arith}
use Rattle.ahead.proofs.Steps.{radix_pos, run_out_idle, carried, count_room, appended, full_idle}
use Rattle.ahead.proofs.work.Places.work.Goals as goal

pub returns-then-place-self : goal.returns-then-place-self
returns-then-place-self c =
    run_out_idle _ _ _ _ _ _ _ _ c.requires _ c.from-i.ensures c.if-place-self.true

pub overflow_sub-radix_at : goal.overflow_sub-radix_at
overflow_sub-radix_at c = radix_pos _ _ _ _ _ _ _ _ c.requires _ c.radix_at.ensures

pub returns-then-b-radix_at : goal.returns-then-b-radix_at
returns-then-b-radix_at c =
    carried _ _ _ _ _ _ _ _ c.requires _ c.from-i.ensures _ c.if-place-self.false
    c.radix_at.ensures
    c.if-b-radix_at.true

pub overflow_add-counter : goal.overflow_add-counter
overflow_add-counter c =
    let ok = c.requires in
    let on = c.if-place-self.false in
    let room = count_room _ _ _ _ _ _ _ _ ok _ c.from-i.ensures _ on c.radix_at.ensures c.if-b-radix_at.false in
    omega arith

pub returns-then-queued-self : goal.returns-then-queued-self
returns-then-queued-self c =
    appended _ _ _ _ _ _ _ _ c.requires _ c.from-i.ensures _ c.if-place-self.false
    c.radix_at.ensures
    c.if-b-radix_at.false
    _
    c.from.ensures
    c.if-queued-self.true

pub returns : goal.returns
returns c =
    full_idle _ _ _ _ _ _ _ _ c.requires _ c.from-i.ensures _ c.if-place-self.false
    c.radix_at.ensures
    c.if-b-radix_at.false
    c.if-queued-self.false
