-- `reader::as_count` meets its contract: a count is a number of at most three digits, up to 255. Assumes nothing.
use mathlib.Core.Path.{sym, ◌∙◌}
use Rattle.reader.proofs.Readings.{no_number, as_byte}
use Rattle.reader.proofs.as_count.Goals as goal

pub returns-in_err-value : goal.returns-in_err-value
returns-in_err-value c =
    c.from_residual.ensures ∙ no_number c.args.field.now (sym c.number.ensures ∙ c.in_err-value.was)

pub returns : goal.returns
returns c =
    let is = c.in_ok-value.was in
    c.ok.ensures.value
    ∙ as_byte c.args.field.now c.in_ok-value.value c.try_from.result c.requires (sym c.number.ensures ∙ is) c.try_from.ensures
