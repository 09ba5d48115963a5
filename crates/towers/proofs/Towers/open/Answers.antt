-- `towers::Towers::open` meets its contract: a stage that refuses hands the state back, and what passes every stage opens.
-- Assumes nothing.
use mathlib.Core.Path.{◌≡◌, sym, ap, ◌∙◌}
use mathlib.Core.Bool.{not}
use native.Mathlib.Omega.{arith}
use borrow.Author.Rules.{rules}
use lib.Seq.{length-take-le}
use Rattle.gray_theory.specs.Answers.{given}
use Rattle.gray_theory.specs.Calls.{size_call}
use Rattle.digit.specs.Moving.{moving_as}
use Rattle.gray.specs.Enums.{answer_as}
use Rattle.gray_theory.proofs.Refusals.{accepted}
use Rattle.gray.proofs.Passing.{passed_on}
use Rattle.towers_theory.specs.States.{Arrays}
use Rattle.towers.specs.Structs.{towers_as}
use Rattle.towers.proofs.Ranges.{CountsTested, opening_refused, array_room, fresh_fits, counts_tested, counts_refused, opening_given}
use Rattle.towers.proofs.Towers.open.Goals as goal
use Rattle.towers.proofs.Towers.open.Goals.{In-Ok, After-fresh-towers, After-radices_play}

-- what is known once the radices are accepted
size_is : (c : In-Ok) → size_call c.args.radices.now ≡ given c.in-Ok.field-0
size_is c = sym c.size-counted.ensures ∙ ap answer_as c.in-Ok.is

lengths : (c : After-fresh-towers) → Arrays (towers_as c.fresh-towers.result)
lengths c = search rules

-- and once the counts are tested
tested : (c : After-radices_play)
    → size_call c.args.radices.now ≡ given c.in-Ok.field-0
    → Arrays (towers_as c.fresh-towers.result)
    → CountsTested c.args.radices.now (towers_as c.fresh-towers.result) c.radices_play.result
tested c size long =
    counts_tested _ _ size _ c.reversed-digits.ensures (moving_as c.moving-moving.result)
    c.moving-moving.ensures
    (towers_as c.fresh-towers.result)
    c.fresh-towers.ensures
    long
    _
    c.last_radix-m.ensures
    _
    c.radices_play.ensures

pub returns-in_default : goal.returns-in_default
returns-in_default c =
    let a = c.args in
    opening_refused (towers_as a.self) a.radices.now _
    (passed_on _ _ _ _ c.size-counted.ensures (search rules))

pub slice_bounds-digits-end : goal.slice_bounds-digits-end
slice_bounds-digits-end c = array_room _ _ (size_is (goal.at.slice_bounds-digits-end c).In-Ok) _ c.reversed-digits.ensures

pub slice_bounds-moving-end : goal.slice_bounds-moving-end
slice_bounds-moving-end c =
    sym (length-take-le _ _ (array_room _ _ (size_is (goal.at.slice_bounds-moving-end c).In-Ok) _ c.reversed-digits.ensures))

pub overflow_cast-n : goal.overflow_cast-n
overflow_cast-n c =
    let most = (accepted c.args.radices.now _ (size_is (goal.at.overflow_cast-n c).In-Ok)).most in
    omega arith

pub last_radix-m-requires : goal.last_radix-m-requires
last_radix-m-requires c =
    fresh_fits _ _ (size_is (goal.at.last_radix-m-requires c).In-Ok) _ c.reversed-digits.ensures (moving_as c.moving-moving.result)
    c.moving-moving.ensures
    (towers_as c.fresh-towers.result)
    c.fresh-towers.ensures

pub returns-then-not-radices_play : goal.returns-then-not-radices_play
returns-then-not-radices_play c =
    let at = goal.at.returns-then-not-radices_play c in
    counts_refused _ _ _ _ (tested at.After-radices_play (size_is at.In-Ok) (lengths at.After-fresh-towers))
    (ap not c.if-not-radices_play.true)

pub returns : goal.returns
returns c =
    let at = goal.at.returns c in
    opening_given _ _ _ _ (tested at.After-radices_play (size_is at.In-Ok) (lengths at.After-fresh-towers))
    (ap not c.if-not-radices_play.false)
