-- `ahead::range::places_below` meets its contract: after i turns the first i places are tested. Assumes nothing.
use mathlib.Core.Path.{◌≡◌, refl}
use lib.Dec.{ltb}
use lib.ListN.{length, get_or}
use native.Mathlib.Omega.{arith}
use borrow.Author.Rules.{rules}
use Rattle.gray_theory.proofs.DigitRanges.{tested_none}
use Rattle.gray_theory.proofs.Gathers.{gathered_more, gathered}
use Rattle.ahead.proofs.range.places_below.Goals as goal

pub loop-i-init : goal.loop-i-init
loop-i-init c = (omega arith, refl, tested_none _)

pub loop-i-preserved : goal.loop-i-preserved
loop-i-preserved c =
    let a = c.args in
    (omega arith, omega arith, gathered_more a.n (λ x j. ltb (get_or a.counter j 0) (get_or a.radices j 0)) _ _ _ _ c.loop-i.invariant.1 c.loop-i.invariant.2 c.below-ok.ensures)

pub returns : goal.returns
returns c =
    let a = c.args in
    let long : length a.radices ≡ 48 = search rules in
    gathered a.n a.radices (λ x j. ltb (get_or a.counter j 0) (get_or a.radices j 0)) _ _ long c.loop-i.invariant.0 c.loop-i-test.false c.loop-i.invariant.2
