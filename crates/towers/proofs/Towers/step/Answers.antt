-- `towers::Towers::step` meets its contract: the disk that is chosen moves. Assumes nothing.
use mathlib.Core.Path.{refl, sym, ◌∙◌}
use borrow.Author.Rules.{rules}
use Rattle.towers_theory.specs.States.{Arrays}
use Rattle.towers.specs.Structs.{towers_as}
use Rattle.towers.proofs.Steps.{refused_faulty, walk-over, moves_disk, chosen_within}
use Rattle.towers.proofs.Towers.step.Goals as goal
use Rattle.towers.proofs.Towers.step.Goals.{Start}

lengths : (c : Start) → Arrays (towers_as c.args.self)
lengths c = search rules

pub returns-then-not-in_range : goal.returns-then-not-in_range
returns-then-not-in_range c = refused_faulty _ (sym c.in_range.ensures ∙ c.if-not-in_range.true)

pub returns-in_default : goal.returns-in_default
returns-in_default c = walk-over _ (sym c.in_range.ensures ∙ c.if-not-in_range.false) c.in_default.ensures

pub advance-requires : goal.advance-requires
advance-requires c =
    let ranged = sym c.in_range.ensures ∙ c.if-not-in_range.false in
    (ranged, chosen_within _ (lengths (goal.at.advance-requires c).Start) ranged _ refl _ c.in-Some.ensures)

pub returns : goal.returns
returns c = c.advance.ensures ∙ moves_disk _ (sym c.in_range.ensures ∙ c.if-not-in_range.false) _ c.in-Some.ensures
