-- `text::Text::put_move` meets its contract: four pieces, one after another. Assumes nothing.
use mathlib.Core.Path.{ap}
use mathlib.Core.List.{◌++◌}
use Rattle.text_theory.specs.Ascii.{ascii}
use Rattle.text_theory.specs.Decimals.{decimal}
use Rattle.text_theory.specs.Lines.{direction_text}
use Rattle.text.proofs.Putting.{and_then, same_text}
use Rattle.text.proofs.Text.put_move.Goals as goal

pub returns-clause-put : goal.returns-clause-put
returns-clause-put c =
    same_text
    (ap (λ digit. ascii " " ++ decimal digit ++ ascii " " ++ direction_text c.args.down ++ ascii "\n") c.from.ensures)
    (and_then (and_then (and_then c.put_counted.ensures.put c.put.ensures) c.put_direction.ensures.put) c.end_line.ensures)
