-- `reader::Reader::more` meets its contract: a newline, a space or a byte of a field. Assumes nothing.
use mathlib.Core.Path.{◌∙◌}
use Rattle.reader.proofs.Readings.{newline-read, space-read, other_read}
use Rattle.reader.proofs.Reader.more.Goals as goal

pub returns-then-byte-eq10 : goal.returns-then-byte-eq10
returns-then-byte-eq10 c = c.end_line.ensures ∙ newline-read _ _ c.if-byte-eq10.true

pub returns-then-byte-eq32 : goal.returns-then-byte-eq32
returns-then-byte-eq32 c = c.end_field.ensures ∙ space-read _ _ c.if-byte-eq10.false c.if-byte-eq32.true

pub returns : goal.returns
returns c = c.byte.ensures ∙ other_read _ _ c.if-byte-eq10.false c.if-byte-eq32.false
