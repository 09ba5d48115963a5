-- `text::Text::put_number` meets its contract: 2^64 is below 10^20. Assumes nothing.
use native.Mathlib.Omega.{arith}
use Rattle.text_theory.proofs.Numerals.{decimal-length}
use Rattle.text.proofs.Text.put_number.Goals as goal

pub put_decimal-requires : goal.put_decimal-requires
put_decimal-requires c = omega (arith, decimal-length 19 c.args.n (omega arith))

pub returns-clause-upper_bound : goal.returns-clause-upper_bound
returns-clause-upper_bound c = omega (arith, c.put_decimal.ensures.ends, decimal-length 19 c.args.n (omega arith))
