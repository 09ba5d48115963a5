-- `text::Text::put_sizes` meets its contract: three pieces, one after another. Assumes nothing.
use mathlib.Core.List.{◌++◌}
use Rattle.text_theory.specs.Ascii.{ascii}
use Rattle.text_theory.specs.Decimals.{decimal}
use Rattle.text_theory.specs.Lines.{line_text}
use Rattle.text.proofs.Putting.{and_then, same_text, sizes_text}
use Rattle.text.proofs.Text.put_sizes.Goals as goal

pub returns-clause-put : goal.returns-clause-put
unfolding line_text
returns-clause-put c =
    let args = c.args in
    same_text (sizes_text (ascii "sluices " ++ decimal args.n) (ascii " settings ") (decimal args.size))
    (and_then (and_then c.put_counted.ensures.put c.put_counted-2.ensures.put) c.end_line.ensures)
