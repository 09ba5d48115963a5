-- `reader::Reader::end_line` meets its contract: a line without a byte has no count. Assumes nothing.
use mathlib.Core.Path.{sym, ap, ◌∙◌}
use mathlib.Core.Bool.{cond}
use Rattle.reader.specs.Readers.{in_phase, field_read, line_read}
use Rattle.reader.specs.declared.Phase.TheVariants.{Ended}
use Rattle.reader.proofs.Reader.end_line.Goals as goal

pub returns-then-self : goal.returns-then-self
unfolding line_read
returns-then-self c =
    let r = c.args.self in
    c.in_phase.ensures ∙ ap (λ t. cond t (in_phase Ended r) (field_read r Ended)) (sym c.if-self.true)

pub returns : goal.returns
unfolding line_read
returns c =
    let r = c.args.self in
    c.end_field.ensures ∙ ap (λ t. cond t (in_phase Ended r) (field_read r Ended)) (sym c.if-self.false)
