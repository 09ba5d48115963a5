-- `text::Text::put_start` meets its contract: two pieces, one after the other. Assumes nothing.
use Rattle.text_theory.specs.Lines.{line_text}
use Rattle.text.proofs.Putting.{and_then}
use Rattle.text.proofs.Text.put_start.Goals as goal

pub returns-clause-put : goal.returns-clause-put
unfolding line_text
returns-clause-put c = and_then c.put_ranked.ensures.put c.put.ensures
