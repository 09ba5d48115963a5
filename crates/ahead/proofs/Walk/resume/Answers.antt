-- `ahead::Walk::resume` meets its contract: what the checks refuse hands the state back, and what passes them is picked up at
-- its rank. Assumes nothing.
use Prim.Native.Nat.{◌≤◌}
use native.Mathlib.Omega.{arith}
use mathlib.Core.Path.{◌≡◌, sym, ap, ◌∙◌}
use mathlib.Core.Bool.{true}
use lib.ListN.{length}
use lib.Seq.{length-take-le}
use Rattle.digit.specs.Moving.{moving_as}
use Rattle.gray_theory.specs.Radices.{digits, size}
use Rattle.gray_theory.specs.Words.{is_word, rank}
use Rattle.gray_theory.specs.Capacities.{Openable}
use Rattle.gray_theory.proofs.Refusals.{survey_call_given}
use Rattle.gray.specs.Enums.{answer_as}
use Rattle.gray.proofs.Passing.{survey_passed_on}
use Rattle.ahead.specs.Structs.{walk_as}
use Rattle.ahead.proofs.Openings.{ranked_on, ranked_through, few_digits, resuming_refused}
use Rattle.ahead.proofs.Resumes.{Resumable, rank_within, stands_at, resume_unfilled, resuming_given}
use borrow.Author.Rules.{rules}
use Rattle.ahead.proofs.Walk.resume.Goals as goal
use Rattle.ahead.proofs.Walk.resume.Goals.{In-Ok, In-Ok-ranked, After-reversed-notches}

-- where the survey passes its checks, and where the word does
opens : (c : In-Ok) → Openable (digits c.args.radices.now) c.args.capacity × (c.in-Ok.total ≡ size (digits c.args.radices.now))
opens c = survey_call_given c.args.radices.now c.args.capacity _ (sym c.survey_size-counted.ensures ∙ ap answer_as c.in-Ok.is)

surveyed : (c : In-Ok-ranked) → Openable (digits c.args.radices.now) c.args.capacity × (c.in-Ok.total ≡ size (digits c.args.radices.now))
surveyed c = survey_call_given c.args.radices.now c.args.capacity _ (sym c.survey_size-counted.ensures ∙ ap answer_as c.in-Ok.is)

ranks : (c : In-Ok-ranked)
    → (is_word (digits c.args.radices.now) (digits c.args.word.now) ≡ true)
    × (c.in-Ok-ranked.rank ≡ rank (digits c.args.radices.now) (digits c.args.word.now))
ranks c = ranked_through c.args.radices.now c.args.capacity (surveyed c).0 c.args.word.now _ c.rank-ranked.ensures _ c.in-Ok-ranked.is

few : (c : In-Ok-ranked) → length c.args.radices.now ≤ 48
few c = few_digits c.args.radices.now _ (surveyed c).0

pub returns-in_default : goal.returns-in_default
returns-in_default c =
    resuming_refused (walk_as c.args.self) c.args.radices.now c.args.capacity c.args.word.now _
    (survey_passed_on c.args.radices.now c.args.capacity _ _ _ c.survey_size-counted.ensures c.unwrap_err.ensures)

pub returns-in_default-ranked : goal.returns-in_default-ranked
returns-in_default-ranked c =
    resuming_refused (walk_as c.args.self) c.args.radices.now c.args.capacity c.args.word.now _
    (ranked_on c.args.radices.now c.args.capacity (opens (goal.at.returns-in_default-ranked c).In-Ok).0 c.args.word.now _ c.rank-ranked.ensures _ c.unwrap_err-in_default-ranked.ensures)

-- the digits stand in an array
pub slice_bounds-digits-end : goal.slice_bounds-digits-end
slice_bounds-digits-end c =
    let most = few (goal.at.slice_bounds-digits-end c).In-Ok-ranked in
    let room : length c.reversed-digits.result ≡ 48 = search rules in
    omega arith

pub slice_bounds-moving-end : goal.slice_bounds-moving-end
slice_bounds-moving-end c =
    let most = few (goal.at.slice_bounds-moving-end c).In-Ok-ranked in
    let room : length c.reversed-digits.result ≡ 48 = search rules in
    sym (length-take-le _ _ (omega arith))

-- once the arrays are made
made : (c : After-reversed-notches)
    → (Openable (digits c.args.radices.now) c.args.capacity × (c.in-Ok.total ≡ size (digits c.args.radices.now)))
    → ((is_word (digits c.args.radices.now) (digits c.args.word.now) ≡ true)
    × (c.in-Ok-ranked.rank ≡ rank (digits c.args.radices.now) (digits c.args.word.now)))
    → Resumable c.args.radices.now c.args.word.now c.args.capacity c.in-Ok.total c.in-Ok-ranked.rank c.reversed-digits.result (moving_as c.moving-moving.result)
    c.reversed-notches.result
made c survey word = record {
  opens = survey.0;
  whole = survey.1;
  proper = word.0;
  ranks = word.1;
  radices_is = c.reversed-digits.ensures;
  moving_is = c.moving-moving.ensures;
  notches_is = c.reversed-notches.ensures;
}

pub overflow_cast-n : goal.overflow_cast-n
overflow_cast-n c = let most = few (goal.at.overflow_cast-n c).In-Ok-ranked in omega arith

pub overflow_cast-capacity : goal.overflow_cast-capacity
overflow_cast-capacity c = let most = (surveyed (goal.at.overflow_cast-capacity c).In-Ok-ranked).0.capacity in omega arith

pub unfilled-standing-requires : goal.unfilled-standing-requires
unfilled-standing-requires c =
    let there = (goal.at.unfilled-standing-requires c).In-Ok-ranked in
    stands_at _ _ _ _ _ _ _ _ (made (goal.at.unfilled-standing-requires c).After-reversed-notches (surveyed there) (ranks there))

pub overflow_sub-total : goal.overflow_sub-total
overflow_sub-total c =
    let there = (goal.at.overflow_sub-total c).In-Ok-ranked in
    rank_within _ _ _ _ _ _ _ _ (made (goal.at.overflow_sub-total c).After-reversed-notches (surveyed there) (ranks there))

pub filled-walk-requires : goal.filled-walk-requires
filled-walk-requires c =
    let there = (goal.at.filled-walk-requires c).In-Ok-ranked in
    resume_unfilled _ _ _ _ _ _ _ _ (made (goal.at.filled-walk-requires c).After-reversed-notches (surveyed there) (ranks there)) (walk_as c.unfilled-standing.result) c.unfilled-standing.ensures _ c.min-entries.ensures

pub returns : goal.returns
returns c =
    let there = (goal.at.returns c).In-Ok-ranked in
    resuming_given _ _ _ _ _ _ _ _ (made (goal.at.returns c).After-reversed-notches (surveyed there) (ranks there)) (walk_as c.unfilled-standing.result) c.unfilled-standing.ensures _ _ c.filled-walk.ensures
