-- `text::Text::put_decimal` meets its contract: the tenth part's digits, and then the last one. Assumes nothing.
use native.Mathlib.Omega.{arith}
use Rattle.text_theory.proofs.Numerals.{decimal-not-empty}
use Rattle.text.proofs.Putting.{tenth_length, digit_put, last-put}
use Rattle.text.proofs.Text.+put_decimal.Goals as goal

pub push-requires : goal.push-requires
push-requires t c = omega (arith, decimal-not-empty c.args.n)

pub returns-then-n-lt10 : goal.returns-then-n-lt10
returns-then-n-lt10 t c = digit_put c.args.n c.if-n-lt10.true c.push.ensures

pub put_decimal-requires : goal.put_decimal-requires
put_decimal-requires t c = (omega arith, omega (arith, tenth_length c.args.n c.if-n-lt10.false))

pub push-requires-2 : goal.push-requires-2
push-requires-2 t c = omega (arith, tenth_length c.args.n c.if-n-lt10.false, c.put_decimal.ensures.ends)

pub returns : goal.returns
returns t c = last-put c.args.n c.if-n-lt10.false c.put_decimal.ensures c.push-2.ensures
