-- `towers::Towers::in_range` meets its contract: each stage's test is a part of the range rule. Assumes nothing.
use mathlib.Core.Path.{sym, ◌∙◌}
use borrow.Author.Rules.{rules}
use Rattle.towers_theory.specs.States.{Towers, Arrays}
use Rattle.towers.specs.Structs.{towers_as}
use Rattle.towers.proofs.Ranges.{fits_says, survey_wrong, pairs_tested, ring_tested}
use Rattle.towers.proofs.Games.{odd_rest, no_rest}
use Rattle.towers.proofs.Towers.in_range.Goals as goal
use Rattle.towers.proofs.Towers.in_range.Goals.{Start}

abbrev state : Start → Towers
state c = towers_as c.args.self

lengths : (c : Start) → Arrays (state c)
lengths c = search rules

pub returns-then-not-survey_fits : goal.returns-then-not-survey_fits
returns-then-not-survey_fits c = survey_wrong (towers_as c.args.self) (sym c.survey_fits.ensures ∙ c.if-not-survey_fits.true)

pub returns-then-odd : goal.returns-then-odd
returns-then-odd c =
    pairs_tested (towers_as c.args.self) (lengths (goal.at.returns-then-odd c).Start)
    (fits_says _ (sym c.survey_fits.ensures ∙ c.if-not-survey_fits.false)) _ c.last_radix-m.ensures _ _
    c.digits_in_range-notches.ensures
    c.radices_play-played.ensures
    (odd_rest _ c.if-odd.true)

pub returns : goal.returns
returns c =
    ring_tested (towers_as c.args.self) (lengths (goal.at.returns c).Start)
    (fits_says _ (sym c.survey_fits.ensures ∙ c.if-not-survey_fits.false)) _ c.last_radix-m.ensures _ _
    c.digits_in_range-notches.ensures
    c.radices_play-played.ensures
    _
    (no_rest _ c.if-odd.false)
    c.pegs_within.ensures
