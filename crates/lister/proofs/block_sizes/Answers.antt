-- `lister::block_sizes` meets its contract: the entries from i on are there, and q is the one that comes next. Assumes nothing.
use native.Mathlib.Omega.{arith}
use mathlib.Core.Path.{refl}
use Rattle.lister.proofs.Tables.{tabled_none, tabled_more, tabled_short}
use Rattle.lister.proofs.block_sizes.Goals as goal

pub loop-i-init : goal.loop-i-init
loop-i-init c = tabled_none _ _ refl

pub overflow_mul-q : goal.overflow_mul-q
overflow_mul-q c =
    let short = tabled_short _ _ _ _ _ c.loop-i.invariant c.loop-i-test.true c.requires.1 c.from-q.ensures in
    omega arith

pub loop-i-preserved : goal.loop-i-preserved
loop-i-preserved c =
    tabled_more _ _ _ _ _ c.loop-i.invariant c.loop-i-test.true c.requires.0 c.from-q.ensures
