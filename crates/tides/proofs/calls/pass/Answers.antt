-- `tides::calls::pass` meets its contract: the course is that of the lines before `line`, and the day that of the last of them.
-- Assumes nothing.
use Rattle.std.specs.Bool.{◌==◌}
use Prim.Native.Nat.{◌*◌, ◌≤◌, ◌<◌}
use native.Mathlib.Omega.{arith}
use mathlib.Core.Path.{◌≡◌, sym, ap, subst, ◌∙◌}
use mathlib.Core.Bool.{true, false}
use mathlib.Core.List.{[]}
use borrow.Author.Tests.{not-true, not-false, eqb-true}
use lib.ListN.{length, get_or, take, drop}
use Rattle.gray_theory.specs.Bools.{impossible}
use Rattle.tides_theory.specs.Lines.{is_line}
use Rattle.tides.specs.Stages.{Right}
use Rattle.tides.proofs.Cuts.{piece}
use Rattle.tides.proofs.line.Dates.{first_right}
use Rattle.tides.proofs.Courses.{begun, again, Said, said, unsaid, no_lines, unread_at, disorder, passed}
use Rattle.tides.proofs.calls.pass.Goals as goal
use Rattle.tides.proofs.calls.pass.Goals.{In-loop-line, In-Some, After-loop-line}

-- the line that is read stands in the file
stands : (c : In-loop-line) → 19 * c.loop-line.line-index < length c.args.file.now
stands c = let few = c.as_chunks.ensures.front_len in let more = c.loop-line-test.true in omega arith

there : (c : In-loop-line)
    → get_or c.as_chunks.result.0.now c.loop-line.line-index [] ≡ take 19 (drop (19 * c.loop-line.line-index) c.args.file.now)
there c =
    let few = c.as_chunks.ensures.front_len in
    let more = c.loop-line-test.true in
    ap (λ ls. get_or ls c.loop-line.line-index []) c.as_chunks.ensures.front
    ∙ piece 19 _ c.loop-line.line-index c.args.file.now [] (omega arith)

-- and what it said
told : (c : In-Some) → Said (get_or c.as_chunks.result.0.now c.loop-line.line-index []) c.in-Some.tide
told c = said _ _ (sym c.read_line.ensures ∙ c.in-Some.is)

-- no line is left
ended : (c : After-loop-line) → length c.args.file.now ≤ 19 * c.loop-line.line-index
ended c =
    let few = c.as_chunks.ensures.front_len in
    let none = c.loop-line-test.false in
    let whole = c.loop-line.invariant.0.whole in
    let inside = c.loop-line.invariant.0.inside in
    omega arith

pub returns-then-not-is_empty : goal.returns-then-not-is_empty
returns-then-not-is_empty c =
    no_lines c.args.file.now c.args.minute
    (λ whole.
    let none : length c.as_chunks.result.1.now ≡ 0 = c.as_chunks.ensures.back_len ∙ whole in
    let z : false ≡ true = c.if-not-is_empty.ensures ∙ ap (λ n. n == 0) none in
    impossible (cc))

pub loop-line-init : goal.loop-line-init
loop-line-init c = (
  begun c.args.file.now c.args.minute c.fresh-course.result c.fresh-course.ensures
      (sym c.as_chunks.ensures.back_len ∙ eqb-true _ _ (sym c.if-not-is_empty.ensures)),
  subst Right (sym c.first-day.ensures) first_right,
)

pub returns-in_default : goal.returns-in_default
returns-in_default c =
    let at = (goal.at.returns-in_default c).In-loop-line in
    let no = unsaid _ (sym c.read_line.ensures ∙ c.in_default.is) in
    unread_at _ _ _ c.loop-line.course c.loop-line.invariant.0 (stands at) (ap is_line (sym (there at)) ∙ no)

pub then-course-requires : goal.then-course-requires
then-course-requires c =
    let t = c.loop-line.invariant.0 in
    let small = t.small in
    let few = t.few in
    let inside = t.inside in
    let line = told (goal.at.then-course-requires c).In-Some in
    let bound = line.bound in
    record { next_bound = small; tide_bound = omega arith; few = omega arith }

pub loop-line-preserved : goal.loop-line-preserved
loop-line-preserved c =
    let at = (goal.at.loop-line-preserved c).In-loop-line in
    let line = told (goal.at.loop-line-preserved c).In-Some in (
      again _ _ _ _ c.loop-line.course _ _ _ c.loop-line.invariant.0 (there at) (stands at) (omega arith) line
          c.then-course.ensures,
      line.right,
    )

pub returns-then-not-course : goal.returns-then-not-course
returns-then-not-course c =
    disorder _ _ _ c.loop-line.course c.loop-line.invariant.0 (ended (goal.at.returns-then-not-course c).After-loop-line)
    (not-true c.loop-line.course.ordered c.if-not-course.true)

pub returns : goal.returns
returns c =
    passed _ _ _ c.loop-line.course c.loop-line.invariant.0 (ended (goal.at.returns c).After-loop-line)
    (not-false c.loop-line.course.ordered c.if-not-course.false)
