-- `text::survey_line` meets its contract: each answer of `size` has its line. Assumes nothing.
use Rattle.text.proofs.FirstLines.{refused_line, long_line, sizes_line}
use Rattle.text.proofs.survey_line.Goals as goal

pub returns-in_default : goal.returns-in_default
returns-in_default c = refused_line _ _ c.size-counted.ensures _ _ c.in_default.is c.number.ensures

pub returns-then-total-gt-MOST : goal.returns-then-total-gt-MOST
returns-then-total-gt-MOST c = long_line _ _ c.size-counted.ensures _ c.in-Ok.is c.if-total-gt-MOST.true

pub returns : goal.returns
returns c = sizes_line _ _ c.size-counted.ensures _ c.in-Ok.is c.if-total-gt-MOST.false
