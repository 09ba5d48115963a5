-- `ahead::Walk::in_range` meets its contract: each stage's test is a part of the range rule. Assumes nothing.
use Prim.Native.Nat.{ℕ, ◌≤◌}
use mathlib.Core.Path.{◌≡◌, sym, ap, ap₂, ◌∙◌}
use native.Mathlib.Omega.{arith}
use borrow.Author.Rules.{rules}
use lib.ListN.{length, take}
use lib.Seq.{length-take-le}
use Rattle.gray_theory.specs.Answers.{given}
use Rattle.gray_theory.specs.Calls.{survey_call}
use Rattle.gray_theory.specs.Capacities.{Openable}
use Rattle.gray_theory.specs.Radices.{size}
use Rattle.std.specs.Prelude.{Result}
use Rattle.gray.specs.Enums.{answer_as}
use Rattle.gray.specs.declared.Refusal.{Refusal}
use Rattle.ahead_theory.specs.States.{Walk, survey, Arrays}
use Rattle.ahead.specs.Structs.{walk_as}
use Rattle.ahead.specs.Stages.{Known}
use Rattle.ahead.proofs.Ranges.{moving_most, digits-over, survey_fails, survey_passes, survey_within, not_open, moving_fail, queue_over, state_tested, entries_lent}
use Rattle.ahead.proofs.Walk.in_range.Goals as goal
use Rattle.ahead.proofs.Walk.in_range.Goals.{Start, Else-not-moving_in_range}

lengths : (c : Start) → Arrays (walk_as c.args.self)
lengths c = search rules

-- what is said of a state's survey and capacity, which the code has made lengths
survey-says : (w : Walk) (len c : ℕ) (o : Result ℕ Refusal)
    → len ≡ w.directed.n
    → c ≡ w.capacity
    → answer_as o ≡ survey_call (take len w.directed.radices) c
    → survey_call (survey w) w.capacity ≡ answer_as o
survey-says w len c o l m says = ap₂ (λ k m. survey_call (take k w.directed.radices) m) (sym l) (sym m) ∙ sym says

-- what is known once they are accepted, and the digits that move are tested
survey_is : (c : Else-not-moving_in_range) → survey_call (survey (walk_as c.args.self)) c.args.self.capacity ≡ given c.in-Ok.total
survey_is c =
    survey-says (walk_as c.args.self) _ _ _ c.from.ensures c.from-2.ensures c.survey_size-counted.ensures ∙ ap answer_as c.in-Ok.is

within_limits : (c : Else-not-moving_in_range)
    → Openable (survey (walk_as c.args.self)) c.args.self.capacity × (c.in-Ok.total ≡ size (survey (walk_as c.args.self)))
within_limits c = survey_within _ _ _ (survey_is c)

known : (c : Else-not-moving_in_range) → Known (walk_as c.args.self).directed
known c = record {
  most = c.if-n-gt-MOST.false;
  one = (within_limits c).0.survey.one;
  moving = sym c.moving_in_range.ensures ∙ c.if-not-moving_in_range.false;
}

pub returns-then-n-gt-MOST : goal.returns-then-n-gt-MOST
returns-then-n-gt-MOST c = digits-over (walk_as c.args.self) c.if-n-gt-MOST.true

pub returns-in_default : goal.returns-in_default
returns-in_default c =
    not_open (walk_as c.args.self)
    (survey_fails (survey (walk_as c.args.self)) c.args.self.capacity _
    (survey-says (walk_as c.args.self) _ _ _ c.from.ensures c.from-2.ensures c.survey_size-counted.ensures ∙ ap answer_as c.in_default.is))

pub returns-then-c-queued : goal.returns-then-c-queued
returns-then-c-queued c = queue_over (walk_as c.args.self) c.if-c-queued.true

pub returns-then-not-moving_in_range : goal.returns-then-not-moving_in_range
returns-then-not-moving_in_range c =
    moving_fail (walk_as c.args.self) (sym c.moving_in_range.ensures ∙ c.if-not-moving_in_range.true)

pub entries_in_range-entries-requires : goal.entries_in_range-entries-requires
entries_in_range-entries-requires c =
    let tested = (goal.at.entries_in_range-entries-requires c).Else-not-moving_in_range in
    let a = lengths (goal.at.entries_in_range-entries-requires c).Start in
    moving_most _ a.directed (known tested)

-- the entries that are held stand in the queue
held : (c : Else-not-moving_in_range) → Arrays (walk_as c.args.self) → c.args.self.producer.at.queued ≤ length c.args.self.producer.queue
held c a =
    let most = (within_limits c).0.capacity in
    let fits = c.if-c-queued.false in
    let long = a.queue in
    omega arith

pub slice_bounds-queue-end : goal.slice_bounds-queue-end
slice_bounds-queue-end c =
    let room = held (goal.at.slice_bounds-queue-end c).Else-not-moving_in_range (lengths (goal.at.slice_bounds-queue-end c).Start) in
    omega (arith, c.from-3.ensures)

pub slice_bounds-entries_in_range-end : goal.slice_bounds-entries_in_range-end
slice_bounds-entries_in_range-end c =
    let room = held (goal.at.slice_bounds-entries_in_range-end c).Else-not-moving_in_range (lengths (goal.at.slice_bounds-entries_in_range-end c).Start) in
    sym (length-take-le _ _ (omega (arith, c.from-3.ensures)))

pub counter_in_range-requires : goal.counter_in_range-requires
counter_in_range-requires c = known (goal.at.counter_in_range-requires c).Else-not-moving_in_range

pub is_place-requires : goal.is_place-requires
is_place-requires c =
    moving_most _ (lengths (goal.at.is_place-requires c).Start).directed (known (goal.at.is_place-requires c).Else-not-moving_in_range)

pub within-requires : goal.within-requires
within-requires c =
    let (opens, whole) = within_limits (goal.at.within-requires c).Else-not-moving_in_range in
    let limit = opens.survey.limit in
    omega arith

pub returns : goal.returns
returns c =
    let tested = (goal.at.returns c).Else-not-moving_in_range in
    let fits = held tested (lengths (goal.at.returns c).Start) in
    let room : c.from-3.result ≤ length c.args.self.producer.queue = omega (arith, c.from-3.ensures) in
    state_tested (walk_as c.args.self) _ _ _ _ _ _ (lengths (goal.at.returns c).Start) (known tested)
    (survey_passes (survey (walk_as c.args.self)) c.args.self.capacity _ (survey_is tested))
    c.if-c-queued.false
    c.digits_in_range-notches.ensures
    c.counter_in_range.ensures
    c.is_place.ensures
    (entries_lent _ _ _ c.args.self.producer.queue _ c.from-3.ensures room c.entries_in_range-entries.ensures)
    (within_limits tested).1
    c.within.ensures
