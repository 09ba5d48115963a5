-- What `walk` prints through document 01's buffer.
use Rattle.std.specs.Prelude.{ℕ, ◌≤◌, ◌≡◌, List, length}
use Rattle.std.proofs.Common.{arith}
use Rattle.std.proofs.lemmas.List.{length-replicate}
use Rattle.text_theory.specs.Output.{output}
use Rattle.reader.specs.Readers.{fresh_reader, read, reader_input}
use Rattle.pages_theory.specs.Pages.{begun, buffer, written}
use Rattle.pages_theory.proofs.Printed.{wide_pages_hold_every_line}
use Rattle.pages.proofs.Whole.{walk_prints_the_output}

-- The buffer of document 01, 4,096 zero bytes, holds every line.
pub through_the_buffer : (input : List ℕ) (turns : ℕ) → 4098 ≤ turns
    → written turns (begun (reader_input (read fresh_reader input))) buffer ≡ output input
through_the_buffer input turns many =
    walk_prints_the_output input turns buffer
    (wide_pages_hold_every_line (reader_input (read fresh_reader input)) (length buffer) (simp length-replicate (omega arith)))
    (omega arith)
