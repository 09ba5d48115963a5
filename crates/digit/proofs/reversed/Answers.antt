-- `digit::reversed` meets its contract: after i turns the i fastest digits stand at the start. Assumes nothing.
use Prim.Native.Nat.{◌<◌}
use native.Mathlib.Omega.{arith}
use lib.ListN.{length, length-reverse}
use Rattle.gray_theory.specs.Radices.{digits}
use Rattle.gray_theory.proofs.Filled.{fill_more}
use Rattle.digit.proofs.Laws.{fill_ended, digit_at}
use Rattle.digit.proofs.reversed.Goals as goal

pub loop-i-preserved : goal.loop-i-preserved
loop-i-preserved c =
    let l = c.args.bytes.now in
    let i = c.loop-i.i in
    let digit : i < length l = omega arith in
    let long : i < length (digits l) = rw (length-reverse l) digit in
    fill_more 48 0 (digits l) c.loop-i.out i _ (omega arith) long (digit_at l i digit) c.loop-i.invariant

pub returns : goal.returns
returns c =
    let l = c.args.bytes.now in
    let long = length-reverse l in
    fill_ended 48 (digits l) c.loop-i.out c.loop-i.i (omega arith) c.loop-i.invariant
