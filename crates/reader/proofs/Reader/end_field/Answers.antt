-- `reader::Reader::end_field` meets its contract: a field is a count or it is not. Assumes nothing.
use mathlib.Core.Path.{◌∙◌}
use Rattle.reader.proofs.Readings.{field_unread, field_counted}
use Rattle.reader.proofs.Reader.end_field.Goals as goal

pub returns-in-Some : goal.returns-in-Some
returns-in-Some c = c.keep.ensures ∙ field_counted c.args.self c.args.next c.in-Some.value (cc)

pub returns-in-None : goal.returns-in-None
returns-in-None c = c.in_phase.ensures ∙ field_unread c.args.self c.args.next (cc)
