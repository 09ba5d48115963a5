-- `gray::product_of_few` meets its contract: after i turns p is the product of the slowest i radices, and i bytes hold it.
-- Assumes nothing.
use mathlib.Core.Path.{refl}
use native.Mathlib.Omega.{arith}
use Rattle.gray_theory.specs.Radices.{size}
use Rattle.gray.proofs.Laws.{size_more, few_more}
use Rattle.gray.proofs.product_of_few.Goals as goal

pub loop-m-init : goal.loop-m-init
unfolding size
loop-m-init c = (omega arith, refl, omega arith)

pub loop-m-preserved : goal.loop-m-preserved
loop-m-preserved c = (
  omega arith,
  size_more _ _ _ _ c.loop-m-test.true c.from-p.ensures c.loop-m.invariant.1,
  few_more _ _ _ (omega (arith, c.type_inv.radices c.loop-m.m-index, c.from-p.ensures)) c.loop-m.invariant.2,
)
