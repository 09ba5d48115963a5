-- `digit::moving_in_range` meets its contract. Assumes nothing.
use Prim.Native.Nat.{◌+◌, ◌≤◌}
use mathlib.Core.Path.{◌≡◌, ap, ◌∙◌}
use mathlib.Core.Bool.{◌&&◌, and-eq-true_iff}
use native.Mathlib.Omega.{arith}
use borrow.Author.Rules.{rules}
use borrow.Author.Tests.{leb-true, eqb-true}
use lib.Dec.{leb, eqb}
use lib.ListN.{length, get_or}
use lib.Seq.{length-take-le}
use Rattle.gray_theory.specs.Directions.{all_below}
use Rattle.gray_theory.proofs.Unlocked.{all_in_range_lem}
use Rattle.digit.specs.Moving.{moving_as}
use Rattle.digit.proofs.moving_in_range.Goals as goal

pub returns-then-stored-n : goal.returns-then-stored-n
returns-then-stored-n c =
    let a = c.args in
    let (all, most) = (and-eq-true_iff (eqb a.stored.count a.n) (leb a.n 48)).0 c.if-stored-n.true in
    let short = leb-true a.n 48 most in
    let long : length a.radices ≡ 48 = search rules in
    let room : a.n ≤ length a.radices = omega arith in
    c.all_move.ensures
    ∙ ap (λ k. all_below k (λ i. leb 2 (get_or a.radices i 0) && eqb (get_or a.stored.digits i 0) (i + 1))) (length-take-le a.n a.radices room)
    ∙ all_in_range_lem a.radices a.n (moving_as a.stored) room (eqb-true a.stored.count a.n all)
