-- `text::Text::put_notch` meets its contract: a notch has at most three digits. Assumes nothing.
use Prim.Native.Nat.{◌≤◌}
use mathlib.Core.Path.{ap}
use mathlib.Core.Bool.{Bool, true, false, cond}
use mathlib.Core.List.{[], ◌++◌}
use native.Mathlib.Omega.{arith}
use lib.ListN.{length}
use Rattle.text_theory.specs.Ascii.{ascii}
use Rattle.text_theory.specs.Decimals.{decimal}
use Rattle.text_theory.proofs.Numerals.{decimal-length}
use Rattle.text.specs.Stages.{Put}
use Rattle.text.proofs.Putting.{put-none, and_then, same_text}
use Rattle.text.proofs.Text.put_notch.Goals as goal
use Rattle.text.proofs.Text.put_notch.Goals.{After-from, then-not-first, else-not-first}

-- a point, or nothing
point : (c : After-from) → Put (cond c.args.first [] (ascii ".")) c.args.self.now c.if-not-first.self
point c =
    elim c.if-not-first.branch [
      | then-not-first w ↦ rw (w.self-is, w.if-not-first.true) w.put.ensures
      | else-not-first w ↦ rw (w.self-is, w.if-not-first.false) (put-none c.args.self.now)
    ]

point_short : (first : Bool) → length (cond first [] (ascii ".")) ≤ 1
point_short true = omega arith
point_short false = omega arith

pub put_decimal-requires : goal.put_decimal-requires
put_decimal-requires c =
    let pointed = point (goal.at.put_decimal-requires c).After-from in
    omega (arith, pointed.ends, point_short c.args.first, decimal-length 2 c.from.result (omega arith))

pub returns-clause-put : goal.returns-clause-put
returns-clause-put c =
    same_text (ap (λ notch. cond c.args.first [] (ascii ".") ++ decimal notch) c.from.ensures)
    (and_then (point (goal.at.returns-clause-put c).After-from) c.put_decimal.ensures)

pub returns-clause-upper_bound : goal.returns-clause-upper_bound
returns-clause-upper_bound c =
    let pointed = point (goal.at.returns-clause-upper_bound c).After-from in
    omega (arith, pointed.ends, point_short c.args.first, c.put_decimal.ensures.ends, decimal-length 2 c.from.result (omega arith))
