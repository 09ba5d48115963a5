-- `gray::product_of` meets its contract: p is the product of the slowest i radices, and within 2^62, at first and after each
-- turn. Assumes nothing.
use Prim.Native.Nat.{◌+◌}
use native.Mathlib.Omega.{arith}
use mathlib.Core.Path.{sym, ◌∙◌}
use Rattle.gray.proofs.Laws.{Taken, taken_first, taken_more, taken_over, taken_all}
use Rattle.gray.proofs.product_of.Goals as goal
use Rattle.gray.proofs.product_of.Goals.{In_ok-p}

-- eight radices more
taken : (c : In_ok-p) → Taken c.args.radices.now c.in_ok-p.p (c.loop-i.i + 8)
taken c = taken_more _ _ _ _ c.loop-i.invariant c.loop-i-test.true c.product_of_few.ensures.0 _ (sym c.times.ensures ∙ c.in_ok-p.was)

pub loop-i-init : goal.loop-i-init
loop-i-init c = taken_first _ _ c.product_of_few-p.ensures.0 c.product_of_few-p.ensures.1

pub returns-in_err-p : goal.returns-in_err-p
returns-in_err-p c =
    rw
    c.from_residual.ensures
    (taken_over _ _ _ _ c.loop-i.invariant c.loop-i-test.true c.product_of_few.ensures.0 (sym c.times.ensures ∙ c.in_err-p.was))

pub loop-i-preserved : goal.loop-i-preserved
loop-i-preserved c = taken (goal.at.loop-i-preserved c).In_ok-p

pub returns-in_ok-p : goal.returns-in_ok-p
returns-in_ok-p c = taken_all _ _ _ (taken (goal.at.returns-in_ok-p c).In_ok-p) (omega arith)
