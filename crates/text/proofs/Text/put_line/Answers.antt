-- `text::Text::put_line` meets its contract: each kind of line is put by its own function. Assumes nothing.
use Prim.Native.Nat.{ℕ}
use mathlib.Core.Path.{◌≡◌, sym, ap}
use mathlib.Core.List.{List, ◌++◌}
use Rattle.text_theory.specs.Ascii.{ascii}
use Rattle.text_theory.specs.Decimals.{decimal}
use Rattle.text_theory.specs.Lines.{line_text}
use Rattle.text_theory.specs.declared.Line.{Line}
use Rattle.text.specs.declared.Text.{Text}
use Rattle.text.specs.Stages.{Put}
use Rattle.text.proofs.Putting.{same_text}
use Rattle.text.proofs.Text.put_line.Goals as goal

-- what is put is the line's text, if it is that of the kind that the line has
said : (word : List ℕ) {line l : Line} {o p : Text} → line ≡ l → Put (line_text l word) o p
    → Put (line_text line word) o p
said word is so = same_text (ap (λ line. line_text line word) (sym is)) so

pub returns-in-Unread-clause-put : goal.returns-in-Unread-clause-put
unfolding line_text
returns-in-Unread-clause-put c = said _ c.in-Unread.is c.put.ensures

pub returns-in-Refused-clause-put : goal.returns-in-Refused-clause-put
unfolding line_text
returns-in-Refused-clause-put c =
    said _ c.in-Refused.is
    (same_text (ap (λ k. ascii "refused " ++ decimal k ++ ascii "\n") c.from.ensures) c.put_named.ensures.put)

pub returns-in-Long-clause-put : goal.returns-in-Long-clause-put
unfolding line_text
returns-in-Long-clause-put c = said _ c.in-Long.is c.put-in-Long.ensures

pub returns-in-Sizes-clause-put : goal.returns-in-Sizes-clause-put
unfolding line_text
returns-in-Sizes-clause-put c = said _ c.in-Sizes.is c.put_sizes.ensures.put

pub returns-in-End-clause-put : goal.returns-in-End-clause-put
unfolding line_text
returns-in-End-clause-put c = said _ c.in-End.is c.put_named-in-End.ensures.put
