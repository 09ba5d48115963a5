-- `reader::Reader::byte` meets its contract: a field has room for three bytes. Assumes nothing.
use borrow.Author.Rules.{rules}
use borrow.Author.Tests.{lt-ltb}
use mathlib.Core.Path.{refl, sym, ◌∙◌}
use Rattle.reader.specs.Readers.{byte_read}
use Rattle.reader.proofs.Readings.{full}
use Rattle.reader.proofs.Reader.byte.Goals as goal

pub returns-then-self-ge3 : goal.returns-then-self-ge3
returns-then-self-ge3 c = c.in_phase.ensures ∙ sym (full c.args.self c.args.byte c.if-self-ge3.true)

pub returns : goal.returns
unfolding byte_read
returns c = rw (c.from.ensures, lt-ltb c.args.self.digits 3 (search rules)) refl
