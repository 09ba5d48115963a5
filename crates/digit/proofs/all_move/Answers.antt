-- `digit::all_move` meets its contract: after i turns the first i places are tested. Assumes nothing.
use mathlib.Core.Path.{◌≡◌, refl}
use mathlib.Core.Bool.{◌&&◌}
use lib.Dec.{eqb, leb}
use lib.ListN.{length, get_or}
use borrow.Author.Rules.{rules}
use native.Mathlib.Omega.{arith}
use Rattle.gray_theory.proofs.DigitRanges.{tested_none}
use Rattle.gray_theory.proofs.Gathers.{gathered_more, gathered}
use Rattle.digit.proofs.all_move.Goals as goal

pub loop-i-init : goal.loop-i-init
loop-i-init c = (refl, tested_none _)

pub loop-i-preserved : goal.loop-i-preserved
loop-i-preserved c =
    let a = c.args in
    (omega arith, gathered_more a.n (λ x j. leb 2 (get_or a.radices j 0) && eqb (get_or a.held j 0) x) _ _ _ _ c.loop-i.invariant.0 c.loop-i.invariant.1 c.moves-ok.ensures)

pub returns : goal.returns
returns c =
    let a = c.args in
    let long : length a.radices ≡ 48 = search rules in
    gathered a.n a.radices (λ x j. leb 2 (get_or a.radices j 0) && eqb (get_or a.held j 0) x) _ c.loop-i.i long (omega arith) c.loop-i-test.false c.loop-i.invariant.1
