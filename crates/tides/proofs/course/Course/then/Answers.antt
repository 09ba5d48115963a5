-- `tides::course::Course::then` meets its contract: a low water behind a high water closes a window. Assumes nothing.
use Rattle.std.specs.Prelude.{Option, Some, None}
use Rattle.std.specs.Option.{option_eq}
use mathlib.Core.Path.{◌≡◌, refl, sym, ap, ap₂, ◌∙◌}
use mathlib.Core.Bool.{◌&&◌, not}
use denote.Enum.Bare.{sameb}
use Rattle.tides.specs.contracts.line.WaterPartialEq.TheImpl.{eq-value}
use Rattle.tides.specs.contracts.line.Water.{the_type}
use Rattle.tides.specs.declared.line.Water.{Water}
use Rattle.tides.specs.declared.line.Water.TheVariants.{High, Low}
use Rattle.tides.specs.Stages.{last_is, is_low, closes, course_then}
use Rattle.tides.proofs.course.Course.then.Goals as goal
use Rattle.tides.proofs.course.Course.then.Goals.{After-eq-2}

-- what `==` says
last_same : (last : Option Water) (w : Water) → option_eq eq-value.it last (Some w) ≡ last_is last w
last_same None w = refl
last_same (Some High) High = refl
last_same (Some High) Low = refl
last_same (Some Low) High = refl
last_same (Some Low) Low = refl

low_same : (w : Water) → sameb the_type w Low ≡ is_low w
low_same High = refl
low_same Low = refl

-- whether the letters differ, and whether they close a window
differ : (c : After-eq-2) → c.ne.result ≡ not (last_is c.args.self.last c.args.tide.water)
differ c = c.ne.ensures ∙ ap not (last_same c.args.self.last c.args.tide.water)

closing : (c : After-eq-2) → (c.eq.result && c.eq-2.result) ≡ closes c.args.self c.args.tide.water
closing c =
    ap₂ ◌&&◌ (c.eq.ensures ∙ last_same c.args.self.last High) (c.eq-2.ensures ∙ low_same c.args.tide.water)

pub returns-then-eq : goal.returns-then-eq
unfolding course_then
returns-then-eq c =
    let at = (goal.at.returns-then-eq c).After-eq-2 in
    rw (sym (closing at) ∙ c.if-eq.true, differ at, c.within.ensures) refl

pub returns : goal.returns
unfolding course_then
returns c =
    let at = (goal.at.returns c).After-eq-2 in
    rw (sym (closing at) ∙ c.if-eq.false, differ at) refl
