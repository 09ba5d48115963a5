-- `ahead::Walk::step` meets its contract: both work steps keep the range rule, and each path is one course of a call. Assumes
-- nothing.
use native.Mathlib.Omega.{arith}
use mathlib.Core.Path.{◌≡◌, sym, ap, ◌∙◌}
use mathlib.Core.Bool.{true}
use borrow.Author.Rules.{rules}
use Rattle.ahead_theory.specs.States.{Producer, Walk, moving_radices, in_range, Arrays}
use Rattle.ahead_theory.specs.Work.{work}
use Rattle.ahead_theory.specs.Calls.{once, twice}
use Rattle.ahead_theory.proofs.InRange.{Reached, range_says, reached_none}
use Rattle.ahead.specs.Structs.{walk_as}
use Rattle.ahead.specs.Stages.{moving_of}
use Rattle.ahead.proofs.Ranges.{ranged_known, moving_count, moving_most, moving-numbers, moving_radices_lem}
use Rattle.ahead.proofs.Steps.{refused_faulty, already_over, reached_by, workable, entry_pos, to_move, refused_dry, ends, moves_digit}
use Rattle.ahead.proofs.Walk.step.Goals as goal
use Rattle.ahead.proofs.Walk.step.Goals.{Start}

lengths : (c : Start) → Arrays (walk_as c.args.self)
lengths c = search rules

-- ---- what the two work steps of a call leave
module _ (w : Walk) (ranged : in_range w ≡ true) (a : Arrays w) where
  -- the radices that they look up are those of the digits that move
  looked-up : moving_of w.directed.radices w.directed.moving.digits w.directed.moving.count ≡ moving_radices w
  looked-up = moving_radices_lem w.directed a.directed (ranged_known w (range_says w ranged))

  reached-0 : Reached w 0 w.producer
  reached-0 = reached_none w (range_says w ranged) a.counter a.queue

  module _ (one : Producer) (first : one ≡ work (moving_of w.directed.radices w.directed.moving.digits w.directed.moving.count) w.capacity w.producer) where
    once_is : one ≡ once w
    once_is = first ∙ ap (λ l. work l w.capacity w.producer) looked-up

    reached-1 : Reached w 1 one
    reached-1 = reached_by w (range_says w ranged) a 0 w.producer one reached-0 once_is

    module _ (two : Producer) (second : two ≡ work (moving_of w.directed.radices w.directed.moving.digits w.directed.moving.count) w.capacity one) where
      second_is : two ≡ work (moving_radices w) w.capacity one
      second_is = second ∙ ap (λ l. work l w.capacity one) looked-up

      twice_is : two ≡ twice w
      twice_is = second_is ∙ ap (work (moving_radices w) w.capacity) once_is

      reached-2 : Reached w 2 two
      reached-2 = reached_by w (range_says w ranged) a 1 one two reached-1 second_is

pub returns-then-not-in_range : goal.returns-then-not-in_range
returns-then-not-in_range c = refused_faulty _ (sym c.in_range.ensures ∙ c.if-not-in_range.true)

pub returns-then-self : goal.returns-then-self
returns-then-self c = already_over _ (sym c.in_range.ensures ∙ c.if-not-in_range.false) c.if-self.true

pub work-once-requires : goal.work-once-requires
work-once-requires c =
    let ok : in_range (walk_as c.args.self) ≡ true = sym c.in_range.ensures ∙ c.if-not-in_range.false in
    let a = lengths (goal.at.work-once-requires c).Start in
    workable _ (range_says _ ok) a 0 _ _ _ (reached-0 _ ok a) (omega arith)

pub work-twice-requires : goal.work-twice-requires
work-twice-requires c =
    let ok : in_range (walk_as c.args.self) ≡ true = sym c.in_range.ensures ∙ c.if-not-in_range.false in
    let a = lengths (goal.at.work-twice-requires c).Start in
    workable _ (range_says _ ok) a 1 _ _ _ (reached-1 _ ok a _ c.work-once.ensures) (omega arith)

pub returns-then-twice-eq0 : goal.returns-then-twice-eq0
returns-then-twice-eq0 c =
    let ok : in_range (walk_as c.args.self) ≡ true = sym c.in_range.ensures ∙ c.if-not-in_range.false in
    let a = lengths (goal.at.returns-then-twice-eq0 c).Start in
    refused_dry _ ok c.if-self.false _ _ _ (twice_is _ ok a _ c.work-once.ensures _ c.work-twice.ensures) c.if-twice-eq0.true

-- ---- the removal
pub overflow_add-count : goal.overflow_add-count
overflow_add-count c =
    let ok : in_range (walk_as c.args.self) ≡ true = sym c.in_range.ensures ∙ c.if-not-in_range.false in
    let a = lengths (goal.at.overflow_add-count c).Start in
    let few = moving_most (walk_as c.args.self).directed a.directed (ranged_known _ (range_says _ ok)) in
    omega arith

pub returns-then-k-count : goal.returns-then-k-count
returns-then-k-count c =
    let ok : in_range (walk_as c.args.self) ≡ true = sym c.in_range.ensures ∙ c.if-not-in_range.false in
    let a = lengths (goal.at.returns-then-k-count c).Start in
    c.end.ensures
    ∙ ends _ ok c.if-self.false _ _ _ (twice_is _ ok a _ c.work-once.ensures _ c.work-twice.ensures) c.if-twice-eq0.false _ c.shifted.ensures
    c.if-k-count.true

-- the oldest entry is turned back into a digit's number
pub digit_at-requires : goal.digit_at-requires
digit_at-requires c =
    let ok : in_range (walk_as c.args.self) ≡ true = sym c.in_range.ensures ∙ c.if-not-in_range.false in
    let a = lengths (goal.at.digit_at-requires c).Start in
    let known = ranged_known _ (range_says _ ok) in
    let (low, high) =
    entry_pos _ (range_says _ ok) a 2 _ _ _ (reached-2 _ ok a _ c.work-once.ensures _ c.work-twice.ensures) c.if-twice-eq0.false in
    let many = moving_count (walk_as c.args.self).directed a.directed known in
    let not_last = c.if-k-count.false in
    (moving-numbers (walk_as c.args.self).directed a.directed known, low, omega arith)

pub advance-requires : goal.advance-requires
advance-requires c =
    let ok : in_range (walk_as c.args.self) ≡ true = sym c.in_range.ensures ∙ c.if-not-in_range.false in
    let a = lengths (goal.at.advance-requires c).Start in
    to_move _ (range_says _ ok) a 2 _ _ _ (reached-2 _ ok a _ c.work-once.ensures _ c.work-twice.ensures) c.if-twice-eq0.false c.if-k-count.false _ c.digit_at.ensures

pub returns : goal.returns
returns c =
    let ok : in_range (walk_as c.args.self) ≡ true = sym c.in_range.ensures ∙ c.if-not-in_range.false in
    let a = lengths (goal.at.returns c).Start in
    c.advance.ensures
    ∙ moves_digit _ ok c.if-self.false _ _ _ (twice_is _ ok a _ c.work-once.ensures _ c.work-twice.ensures) c.if-twice-eq0.false _ c.shifted.ensures
    c.if-k-count.false
    _
    c.digit_at.ensures
