-- `reader::number` meets its contract: what all bytes say is what those from i on say behind the value of the first i. Assumes
-- nothing.
use mathlib.Core.Path.{sym, ap, ◌∙◌}
use Prim.Native.Nat.{◌+◌, ◌*◌, ◌^◌, ◌<◌}
use Rattle.std.proofs.Common.{arith, rules}
use lib.ListN.{drop_of_length-le}
use Rattle.reader.proofs.Numbers.{number_from, none_read, begun, ended, unread, turn, too_large}
use Rattle.reader.proofs.number.Goals as goal

pub returns-then-is_empty : goal.returns-then-is_empty
returns-then-is_empty c = sym (none_read c.args.bytes.now (search rules))

pub loop-byte-init : goal.loop-byte-init
loop-byte-init c = (omega arith, begun c.args.bytes.now (search rules))

pub returns-in_err-d : goal.returns-in_err-d
returns-in_err-d c =
    c.from_residual.ensures
    ∙ unread c.args.bytes.now _ c.loop-byte.byte-index c.loop-byte-test.true c.loop-byte.invariant.1 (sym c.digit.ensures ∙ c.in_err-d.was)

pub returns-in_err-checked_mul : goal.returns-in_err-checked_mul
returns-in_err-checked_mul c =
    let over : ¬ (c.loop-byte.value * 10 < 2 ^ 64) = c.in_err-checked_mul.ensures in
    c.from_residual-in_err-checked_mul.ensures
    ∙ too_large c.args.bytes.now _ c.loop-byte.byte-index c.loop-byte-test.true c.loop-byte.invariant.1 c.in_ok-d.d
    (sym c.digit.ensures ∙ c.in_ok-d.was) (omega arith)

pub returns-in_err-value : goal.returns-in_err-value
returns-in_err-value c =
    let over : ¬ (c.in_ok-checked_mul.field-0 + c.in_ok-d.d < 2 ^ 64) = c.in_err-value.ensures in
    let tens = c.in_ok-checked_mul.ensures in
    c.from_residual-in_err-value.ensures
    ∙ too_large c.args.bytes.now _ c.loop-byte.byte-index c.loop-byte-test.true c.loop-byte.invariant.1 c.in_ok-d.d
    (sym c.digit.ensures ∙ c.in_ok-d.was) (omega arith)

pub loop-byte-preserved : goal.loop-byte-preserved
loop-byte-preserved c =
    let tens = c.in_ok-checked_mul.ensures in
    let sum = c.in_ok-value.ensures in (
      omega arith,
      rw (sum.1, tens.1)
          (turn c.args.bytes.now _ c.loop-byte.byte-index c.loop-byte-test.true c.loop-byte.invariant.1 c.in_ok-d.d
          (sym c.digit.ensures ∙ c.in_ok-d.was)),
    )

pub returns : goal.returns
returns c =
    let bytes = c.args.bytes.now in
    sym
    (c.loop-byte.invariant.1
    ∙ ap (number_from c.loop-byte.value) (drop_of_length-le bytes c.loop-byte-test.false)
    ∙ ended c.loop-byte.value c.loop-byte.invariant.0)
