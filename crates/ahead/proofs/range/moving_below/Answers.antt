-- `ahead::range::moving_below` meets its contract: after i turns the first i places are tested. Assumes nothing.
use Prim.Native.Nat.{◌-◌}
use mathlib.Core.Path.{◌≡◌, sym, ap, ◌∙◌}
use native.Mathlib.Omega.{arith}
use lib.Dec.{ltb}
use lib.ListN.{get_or}
use Rattle.gray_theory.proofs.DigitRanges.{tested_none, tested_more}
use Rattle.gray_theory.specs.Unlocked.{looked_up}
use Rattle.gray_theory.proofs.Unlocked.{looked_up_at}
use Rattle.ahead.proofs.range.moving_below.Goals as goal

pub loop-i-init : goal.loop-i-init
loop-i-init c = (omega arith, tested_none _)

pub loop-i-preserved : goal.loop-i-preserved
loop-i-preserved c =
    let a = c.args in
    let inside = c.loop-i-test.true in
    let radix : get_or a.radices.now (c.from-d.result - 1) 0 ≡ get_or (looked_up a.radices.now a.numbers.now) c.loop-i.i 0 =
    ap (λ k. get_or a.radices.now (k - 1) 0) c.from-d.ensures ∙ sym (looked_up_at a.radices.now a.numbers.now c.loop-i.i inside) in
    (omega arith, tested_more _ _ _ _ c.loop-i.invariant.1 (ap (ltb (get_or a.counter.now c.loop-i.i 0)) radix))
