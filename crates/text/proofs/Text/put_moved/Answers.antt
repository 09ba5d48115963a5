-- `text::Text::put_moved` meets its contract: a rank with its setting, and a move. Assumes nothing.
use mathlib.Core.List.{◌++◌}
use Rattle.text_theory.specs.Ascii.{ascii}
use Rattle.text_theory.specs.Decimals.{decimal}
use Rattle.text_theory.specs.Lines.{setting_text, direction_text, line_text}
use Rattle.text.proofs.Putting.{and_then, same_text, regroup}
use Rattle.text.proofs.Text.put_moved.Goals as goal

pub returns-clause-put : goal.returns-clause-put
unfolding line_text
returns-clause-put c =
    let args = c.args in
    same_text
    (regroup (decimal args.rank ++ ascii " " ++ setting_text args.setting.now) (ascii " ") (decimal args.digit) (ascii " ")
    (direction_text args.down)
    (ascii "\n"))
    (and_then c.put_ranked.ensures.put c.put_move.ensures.put)
