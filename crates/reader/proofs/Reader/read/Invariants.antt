-- `reader::Reader::read` meets its contract: what is left to read is what follows the bytes so far. Assumes nothing.
use mathlib.Core.Path.{◌≡◌}
use lib.ListN.{drop}
use Rattle.reader.specs.Readers.{read}
use Rattle.reader.proofs.Reader.read.Given as goal

abbrev pub invariant-loop-byte : goal.invariant-loop-byte
invariant-loop-byte l = read l.fn.self l.bytes ≡ read l.reader (drop l.byte-index l.bytes)
