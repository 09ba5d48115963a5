-- `gray::product_of` meets its contract: p is the product of the slowest i radices, and within 2^62, at first and after each
-- turn. Assumes nothing.
use Rattle.gray.proofs.Laws.{Taken}
use Rattle.gray.proofs.product_of.Given as goal

abbrev pub invariant-loop-i : goal.invariant-loop-i
invariant-loop-i l = Taken l.radices l.p l.i
