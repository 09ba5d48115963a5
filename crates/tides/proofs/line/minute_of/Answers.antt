-- `tides::line::minute_of` meets its contract: the numbers of a line are in their ranges. Assumes nothing.
use mathlib.Core.Path.{◌≡◌, ap, ◌∙◌}
use mathlib.Core.Bool.{true}
use Rattle.tides.specs.Stages.{date_ranged, time_ranged}
use Rattle.tides.proofs.line.Ranges.{date_ranged_says, time_ranged_says, minute_fits}
use Rattle.tides.proofs.line.Readings.{line_ranged, line_minute}
use Rattle.tides.proofs.line.minute_of.Goals as goal
use Rattle.tides.proofs.line.minute_of.Goals.{After-of-fields}

-- the tests of the ranges
ranges : (c : After-of-fields) → (date_ranged c.of-fields.result ≡ true) × (time_ranged c.of-fields.result ≡ true)
ranges c =
    let (date, time) = line_ranged c.args.line.now c.requires in
    (ap date_ranged c.of-fields.ensures ∙ date, ap time_ranged c.of-fields.ensures ∙ time)

pub start-requires : goal.start-requires
start-requires c = (ranges (goal.at.start-requires c).After-of-fields).0

pub time-requires : goal.time-requires
time-requires c = (ranges (goal.at.time-requires c).After-of-fields).1

pub overflow_add-result : goal.overflow_add-result
overflow_add-result c =
    let fields = c.of-fields.result in
    let (date, time) = ranges (goal.at.overflow_add-result c).After-of-fields in
    record {
      fits = rw (c.start.ensures, c.time.ensures)
          (minute_fits fields (date_ranged_says fields date) (time_ranged_says fields time));
    }

pub returns : goal.returns
returns c = rw (c.start.ensures, c.time.ensures, c.of-fields.ensures) (line_minute c.args.line.now c.requires)
