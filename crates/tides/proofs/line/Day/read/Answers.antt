-- `tides::line::Day::read` meets its contract: each test is one of those of `dated`. Assumes nothing.
use mathlib.Core.Path.{sym, ap, ◌∙◌}
use mathlib.Core.Bool.{and-false}
use Rattle.tides.specs.Stages.{date_marks, date_ones, date_ranged, start_in, fields_of}
use Rattle.tides.proofs.line.Answered.{failed, passed, all_pass}
use Rattle.tides.proofs.line.Dates.{undated, dated_as}
use Rattle.tides.proofs.line.Day.read.Goals as goal
use Rattle.tides.proofs.line.Day.read.Goals.{then-not-date_marked-via-then-not-date_marked, then-not-date_marked-via-else-not-date_marked+then-not-date_digits}

pub returns-then-not-date_marked : goal.returns-then-not-date_marked
returns-then-not-date_marked c =
    elim c.then-not-date_marked.branch [
      | then-not-date_marked-via-then-not-date_marked w ↦ undated _ (rw (failed c.date_marked.ensures w.if-not-date_marked.true))
      | then-not-date_marked-via-else-not-date_marked+then-not-date_digits w ↦
          undated _ (rw (failed w.date_digits.ensures w.if-not-date_digits.true, and-false))
    ]

pub returns-then-not-date_in_range : goal.returns-then-not-date_in_range
returns-then-not-date_in_range c =
    let range = failed c.date_in_range.ensures c.if-not-date_in_range.true in
    undated _ (rw (← c.of-fields.ensures, range, and-false))

pub returns : goal.returns
returns c =
    let line = c.args.line.now in
    let start = c.start.ensures ∙ ap start_in c.of-fields.ensures in
    dated_as line _
    (all_pass (date_marks line) (date_ones line) (date_ranged (fields_of line))
    (passed c.date_marked.ensures c.if-not-date_marked.false)
    (passed c.date_digits.ensures c.if-not-date_digits.false)
    (sym (ap date_ranged c.of-fields.ensures) ∙ passed c.date_in_range.ensures c.if-not-date_in_range.false))
    (λ i. record { head = c.word_at.ensures i; tail = c.word_at-2.ensures i; start = start i })
