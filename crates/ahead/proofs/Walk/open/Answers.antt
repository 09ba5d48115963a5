-- `ahead::Walk::open` meets its contract: what the checks refuse hands the state back, and what passes them opens. Assumes
-- nothing.
use Prim.Native.Nat.{◌≤◌}
use native.Mathlib.Omega.{arith}
use mathlib.Core.Path.{◌≡◌, sym, ap, ◌∙◌}
use lib.ListN.{length}
use lib.Seq.{length-take-le}
use Rattle.digit.specs.Moving.{moving_as}
use Rattle.gray_theory.specs.Radices.{digits}
use Rattle.gray_theory.specs.Capacities.{Openable}
use Rattle.gray_theory.proofs.Refusals.{survey_call_given}
use Rattle.gray.specs.Enums.{answer_as}
use Rattle.gray.proofs.Passing.{survey_passed_on}
use Rattle.ahead.specs.Structs.{walk_as}
use Rattle.ahead.proofs.Openings.{few_digits, opening_refused, opening_given}
use borrow.Author.Rules.{rules}
use Rattle.ahead.proofs.Walk.open.Goals as goal
use Rattle.ahead.proofs.Walk.open.Goals.{In-Ok}

-- what is known once the checks are passed
opens : (c : In-Ok) → Openable (digits c.args.radices.now) c.args.capacity
opens c = (survey_call_given c.args.radices.now c.args.capacity _ (sym c.survey_size-counted.ensures ∙ ap answer_as c.in-Ok.is)).0

few : (c : In-Ok) → length c.args.radices.now ≤ 48
few c = few_digits c.args.radices.now _ (opens c)

pub returns-in_default : goal.returns-in_default
returns-in_default c =
    opening_refused (walk_as c.args.self) c.args.radices.now c.args.capacity _
    (survey_passed_on c.args.radices.now c.args.capacity _ _ _ c.survey_size-counted.ensures c.unwrap_err.ensures)

-- the digits stand in an array
pub slice_bounds-digits-end : goal.slice_bounds-digits-end
slice_bounds-digits-end c =
    let most = few (goal.at.slice_bounds-digits-end c).In-Ok in
    let room : length c.reversed-digits.result ≡ 48 = search rules in
    omega arith

pub slice_bounds-moving-end : goal.slice_bounds-moving-end
slice_bounds-moving-end c =
    let most = few (goal.at.slice_bounds-moving-end c).In-Ok in
    let room : length c.reversed-digits.result ≡ 48 = search rules in
    sym (length-take-le _ _ (omega arith))

pub overflow_cast-n : goal.overflow_cast-n
overflow_cast-n c = let most = few (goal.at.overflow_cast-n c).In-Ok in omega arith

pub overflow_cast-capacity : goal.overflow_cast-capacity
overflow_cast-capacity c = let most = (opens (goal.at.overflow_cast-capacity c).In-Ok).capacity in omega arith

pub returns : goal.returns
returns c =
    opening_given (walk_as c.args.self) c.args.radices.now c.args.capacity (opens (goal.at.returns c).In-Ok) (walk_as c.fresh-walk.result) _
    (moving_as c.moving-moving.result)
    c.reversed-digits.ensures
    c.moving-moving.ensures
    c.fresh-walk.ensures
