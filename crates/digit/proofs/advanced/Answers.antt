-- `digit::advanced` meets its contract: a digit in range has a notch to move to. Assumes nothing.
use Rattle.std.proofs.lemmas.Grind.{common_steps}
use native.Mathlib.Omega.{arith}
use mathlib.Core.Path.{◌≡◌, sym, ap, ◌∙◌}
use Rattle.gray_theory.specs.Directions.{moved_from}
use Rattle.digit.specs.Advances.{advanced_from}
use Rattle.digit.proofs.Laws.{advance_made}
use Rattle.digit.proofs.advanced.Goals as goal
use Rattle.digit.proofs.advanced.Goals.{else-down, then-down}

pub returns-then-m-lt2 : goal.returns-then-m-lt2
unfolding advanced_from
returns-then-m-lt2 c = grind (arith, common_steps)

pub returns-then-not-in_range : goal.returns-then-not-in_range
unfolding advanced_from
returns-then-not-in_range c = grind (arith, common_steps)

pub returns : goal.returns
returns c =
    let a = c.args.a in
    let down = c.args.down in
    let to : c.if-down.to ≡ moved_from a down =
    elim c.if-down.branch [ then-down w ↦ w.to-is ∙ sym (ap (moved_from a) w.if-down.true) | else-down w ↦ w.to-is ∙ sym (ap (moved_from a) w.if-down.false) ] in
    c.turned.ensures
    ∙ advance_made c.args.m a down c.if-m-lt2.false (sym c.in_range.ensures ∙ c.if-not-in_range.false) c.if-down.to to
