-- `tides::line::Fields::date_in_range` meets its contract: the ranges are tested one by one. Assumes nothing.
use Prim.Native.Nat.{◌-◌}
use native.Mathlib.Omega.{arith}
use mathlib.Core.Path.{◌≡◌, refl, sym, ◌∙◌}
use mathlib.Core.Bool.{Bool, true, false, ◌&&◌, and-eq-true_iff}
use Rattle.gray_theory.specs.Bools.{impossible}
use Rattle.tides.specs.Stages.{among, length_of, date_ranged}
use Rattle.tides.proofs.line.Answered.{failed, passed}
use Rattle.tides.proofs.line.Ranges.{length_bound}
use Rattle.tides.proofs.line.Fields.date_in_range.Goals as goal
use Rattle.tides.proofs.line.Fields.date_in_range.Goals.{Joined-among, then-among, else-among}

-- the first two tests
two : (c : Joined-among) → c.if-among.value ≡ (among c.args.self.years 0 99 && among c.args.self.month 1 12)
two c =
    elim c.if-among.branch [
      | then-among w ↦ rw (passed c.among.ensures w.if-among.true) (w.value-is ∙ w.among-then-among.ensures)
      | else-among w ↦ rw (failed c.among.ensures w.if-among.false) (w.value-is ∙ w.if-among.false)
    ]

and_false_before : (a b d : Bool) → (a && b) ≡ false → (a && b && d) ≡ false
and_false_before true true d e = impossible (cc)
and_false_before true false d e = refl
and_false_before false b d e = refl

pub among-requires-then-among-2 : goal.among-requires-then-among-2
among-requires-then-among-2 c =
    let self = c.args.self in
    let short = length_bound (self.years - 528) (self.month - 528) in
    let same = c.month_length.ensures in
    (omega arith, omega arith)

pub returns-then-among-2 : goal.returns-then-among-2
unfolding date_ranged
returns-then-among-2 c =
    let both = sym (two (goal.at.returns-then-among-2 c).Joined-among) ∙ c.if-among-2.true in
    let (years, month) = (and-eq-true_iff (among c.args.self.years 0 99) (among c.args.self.month 1 12)).0 both in
    rw (years, month, ← c.month_length.ensures) c.among-then-among-2.ensures

pub returns-else-among-2 : goal.returns-else-among-2
unfolding date_ranged
returns-else-among-2 c =
    let self = c.args.self in
    let both = sym (two (goal.at.returns-else-among-2 c).Joined-among) ∙ c.if-among-2.false in
    let day = among self.day 1 (length_of (self.years - 528) (self.month - 528)) in
    c.if-among-2.false ∙ sym (and_false_before (among self.years 0 99) (among self.month 1 12) day both)
