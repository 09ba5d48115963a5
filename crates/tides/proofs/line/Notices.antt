-- What the numbers of a line say, as a notice: it is in range exactly if they are in their ranges.
use Prim.Native.Nat.{◌+◌, ◌-◌, ◌≤◌}
use native.Mathlib.Omega.{arith}
use mathlib.Core.Path.{◌≡◌, refl}
use mathlib.Core.Bool.{Bool, true}
use borrow.Author.Tests.{leb-true, le-leb}
use lib.Dec.{leb}
use Rattle.tides_theory.specs.Calendar.{exists, days_in_month}
use Rattle.tides_theory.specs.Lines.{Notice, in_range}
use Rattle.tides_theory.proofs.Days.{Exists, exists-says}
use Rattle.tides.specs.declared.line.Fields.{Fields}
use Rattle.tides.specs.Stages.{date_ranged, time_ranged, date_in}
use Rattle.tides.proofs.line.Answered.{all_five}
use Rattle.tides.proofs.line.Ranges.{length_bound, length_is, DateRanged, TimeRanged}
use Rattle.tides.proofs.line.Ranges.{date_ranged_shown, time_ranged_shown}

-- ---- in range
-- what a notice in range says
pub record InRange (n : Notice) : Type 0 where
  pub from : 2000 ≤ n.date.year
  pub to : n.date.year ≤ 2099
  pub day : Exists n.date
  pub hour_bound : n.hour ≤ 23
  pub minute_bound : n.minute ≤ 59

pub in_range_says : (n : Notice) → in_range n ≡ true → InRange n
unfolding in_range
in_range_says n e =
    let y = n.date.year in
    let (a, b, x, h, m) =
    all_five (leb 2000 y) (leb y 2099) (exists n.date) (leb n.hour 23) (leb n.minute 59) e in
    record {
      from = leb-true 2000 y a;
      to = leb-true y 2099 b;
      day = exists-says n.date x;
      hour_bound = leb-true n.hour 23 h;
      minute_bound = leb-true n.minute 59 m;
    }

-- and back
in_range_shown : (n : Notice) → InRange n → in_range n ≡ true
unfolding in_range
in_range_shown n r =
    let d = n.date in
    let e = r.day in
    rw (
      le-leb 2000 d.year r.from,
      le-leb d.year 2099 r.to,
      le-leb 1 d.month e.from_january,
      le-leb d.month 12 e.to_december,
      le-leb 1 d.day e.from_first,
      le-leb d.day (days_in_month d.year d.month) e.to_last,
      le-leb n.hour 23 r.hour_bound,
      le-leb n.minute 59 r.minute_bound,
    ) refl

-- no month has more than 31 days
pub day_bound : (n : Notice) → InRange n → n.date.day ≤ 31
day_bound n r =
    let k = n.date.year - 2000 in
    let m = n.date.month in
    let same : 2000 + k ≡ n.date.year = omega arith in
    let long = rw same at (length_is k m (omega arith) (omega arith) (omega arith)) in
    omega (arith, length_bound k m)

-- ---- the notice of some numbers
abbrev pub notice_of : Fields → Bool → Notice
notice_of f high = record { date = date_in f; hour = f.hour - 528; minute = f.minute - 528; high = high }

-- it is in range if they are in their ranges,
pub ranged_in_range : (f : Fields) (high : Bool) → DateRanged f → TimeRanged f → in_range (notice_of f high) ≡ true
ranged_in_range f high r t =
    let long = length_is (f.years - 528) (f.month - 528) (omega arith) (omega arith) (omega arith) in
    in_range_shown (notice_of f high) (record {
      from = omega arith;
      to = omega arith;
      day = record { from_january = omega arith; to_december = omega arith; from_first = omega arith; to_last = omega arith };
      hour_bound = omega arith;
      minute_bound = omega arith;
    })

-- and they are if it is and none of them is below 0
pub record FromZero (f : Fields) : Type 0 where
  pub years : 528 ≤ f.years
  pub month : 528 ≤ f.month
  pub day : 528 ≤ f.day
  pub hour : 528 ≤ f.hour
  pub minute : 528 ≤ f.minute

pub in_range_ranged : (f : Fields) (high : Bool) → FromZero f → in_range (notice_of f high) ≡ true
    → (date_ranged f ≡ true) × (time_ranged f ≡ true)
in_range_ranged f high z e =
    let r = in_range_says (notice_of f high) e in
    let long = length_is (f.years - 528) (f.month - 528) (omega arith) (omega arith) (omega arith) in (
      date_ranged_shown f (record {
        years = record { from = omega arith; to = omega arith };
        month = record { from = omega arith; to = omega arith };
        day = record { from = omega arith; to = omega arith };
        short = length_bound (f.years - 528) (f.month - 528);
      }),
      time_ranged_shown f (record {
        hour = record { from = omega arith; to = omega arith };
        minute = record { from = omega arith; to = omega arith };
      }),
    )
