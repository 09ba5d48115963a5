-- `pages::of_survey` meets its contract: the opening is the one that the definition names. Assumes nothing.
use mathlib.Core.Path.{ap, ap₂, ◌∙◌}
use Rattle.gray_theory.specs.Engines.{Handed}
use Rattle.gray_theory.specs.Locks.{MovingDigits}
use Rattle.ahead_theory.specs.States.{Walk}
use Rattle.ahead_theory.specs.Calls.{open_of}
use Rattle.pages_theory.specs.Pages.{half_of, printing_of}
use Rattle.pages_theory.proofs.WalkLines.{counted_among_48}
use Rattle.text_theory.specs.declared.Line.{Line}
use Rattle.pages.proofs.of_survey.Goals as goal

pub returns : goal.returns
unfolding printing_of
returns c =
    let radices = c.args.radices.now in
    let walk = ap (λ (h : Handed Walk Unit). h.state) c.open.ensures
    ∙ ap₂ (λ w k. (open_of w radices k).state) c.closed.ensures
    (c.half.ensures ∙ ap (λ (v : MovingDigits). half_of v.count) c.moving-moving.ensures)
    ∙ counted_among_48 radices in
    ap₂ (λ (l : Line) (w : Walk). record { line = l; walk = w }) c.survey_line.ensures walk
