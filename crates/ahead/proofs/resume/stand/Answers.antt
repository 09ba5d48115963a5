-- `ahead::resume::stand` meets its contract: after i turns the first i digits are done. Assumes nothing.
use Prim.Native.Nat.{◌<◌}
use native.Mathlib.Omega.{arith}
use mathlib.Core.Path.{refl}
use lib.ListN.{get_or}
use Rattle.ahead.proofs.Stands.{stand_begun, stand_more, stand_ended, digit_below}
use Rattle.ahead.proofs.resume.stand.Goals as goal

pub loop-i-init : goal.loop-i-init
loop-i-init c = stand_begun _ _ _ _ _ _ c.requires refl

pub overflow_sub-m : goal.overflow_sub-m
overflow_sub-m c =
    let l : get_or c.args.word.now c.loop-i.i 0 < get_or c.args.radices.now c.loop-i.i 0 =
    digit_below _ _ _ _ _ _ _ _ c.loop-i.invariant c.loop-i-test.true in
    omega arith

pub to_go-b-requires : goal.to_go-b-requires
to_go-b-requires c =
    let l : get_or c.args.word.now c.loop-i.i 0 < get_or c.args.radices.now c.loop-i.i 0 =
    digit_below _ _ _ _ _ _ _ _ c.loop-i.invariant c.loop-i-test.true in
    λ e. omega arith

pub loop-i-preserved : goal.loop-i-preserved
loop-i-preserved c =
    stand_more _ _ _ _ _ _ _ _ c.loop-i.invariant c.loop-i-test.true _ _ _ _ refl c.to_go-b.ensures c.goes_down.ensures c.past-place.ensures

pub returns : goal.returns
returns c = stand_ended _ _ _ _ _ _ _ _ c.loop-i.invariant c.loop-i-test.false
