-- `text::write_line` meets its contract: the line is made first, and then there is room for it or there is not. Assumes
-- nothing.
use mathlib.Core.Path.{◌≡◌, ap, ◌∙◌}
use borrow.Author.Rules.{rules}
use Prim.Native.Nat.{min}
use mathlib.Core.List.{◌++◌}
use lib.ListN.{length, take, drop}
use Rattle.text_theory.specs.Lines.{line_text}
use Rattle.text.specs.Stages.{Put}
use Rattle.text.proofs.Putting.{same_text, shown, line_refused, line_written}
use Rattle.text.proofs.write_line.Goals as goal
use Rattle.text.proofs.write_line.Goals.{After-put_line}

-- the line as it was made
made : (c : After-put_line)
    → let args = c.args in
    Put (line_text args.line (take args.n args.word)) c.empty-text.result c.put_line.new.self
made c =
    let args = c.args in
    let long : length args.word ≡ 48 = search rules in
    same_text
    (ap (λ k. line_text args.line (take k args.word)) (c.min.ensures ∙ ap (λ k. min k 48) c.from.ensures)
    ∙ ap (line_text args.line) (shown args.n args.word long))
    c.put_line.ensures.put

pub returns-then-out-text : goal.returns-then-out-text
returns-then-out-text c =
    let args = c.args in
    line_refused args.line (take args.n args.word) c.empty-text.ensures (made (goal.at.returns-then-out-text c).After-put_line)
    args.out.now
    c.if-out-text.true

pub returns : goal.returns
returns c =
    let args = c.args in
    line_written args.line (take args.n args.word) c.empty-text.ensures (made (goal.at.returns c).After-put_line)
    args.out.now
    c.if-out-text.false
    (ap (λ l. l ++ drop c.put_line.new.self.len args.out.now) c.copy_from_slice.ensures.after)
