-- `reader::number` meets its contract: what all bytes say is what the next ones say behind the value of those before. Assumes
-- nothing.
use Prim.Native.Nat.{◌^◌, ◌<◌}
use mathlib.Core.Path.{◌≡◌}
use lib.ListN.{drop}
use Rattle.reader.specs.Parsing.{number_of}
use Rattle.reader.proofs.Numbers.{number_from}
use Rattle.reader.proofs.number.Given as goal

abbrev pub invariant-loop-byte : goal.invariant-loop-byte
invariant-loop-byte l = (l.value < 2 ^ 64) × (number_of l.bytes ≡ number_from l.value (drop l.byte-index l.bytes))
