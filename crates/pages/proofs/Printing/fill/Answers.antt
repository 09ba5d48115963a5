-- `pages::Printing::fill` meets its contract: line after line, the page holds what it should. Assumes nothing.
use mathlib.Core.Path.{sym, ap, ◌∙◌}
use Rattle.gray.specs.Enums.{answer_as}
use Rattle.pages.proofs.Fillings.{fill-full, fill_ended, fill_again, fill_grows}
use Rattle.pages.proofs.Printing.fill.Goals as goal

pub returns-in_default : goal.returns-in_default
returns-in_default c =
    fill-full _ _ _ _ _ c.loop-k.invariant _ _ c.write-written.ensures _ (ap answer_as c.in_default.is)

pub returns-then-is_last : goal.returns-then-is_last
returns-then-is_last c =
    fill_ended _ _ _ _ _ c.loop-k.invariant _ _ c.write-written.ensures _ (ap answer_as c.in-Ok.is)
    (sym c.is_last.ensures ∙ c.if-is_last.true)

pub loop-k-smaller : goal.loop-k-smaller
loop-k-smaller c =
    fill_grows _ _ _ _ _ c.loop-k.invariant _ _ c.write-written.ensures _ (ap answer_as c.in-Ok.is)

pub loop-k-preserved : goal.loop-k-preserved
loop-k-preserved c =
    fill_again _ _ _ _ _ c.loop-k.invariant _ _ c.write-written.ensures _ (ap answer_as c.in-Ok.is)
    (sym c.is_last.ensures ∙ c.if-is_last.false) _ c.behind-printing.ensures
