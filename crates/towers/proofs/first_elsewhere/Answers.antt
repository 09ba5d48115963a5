-- `towers::first_elsewhere` meets its contract: before index i all disks are on disk 1's peg. Assumes nothing.
use mathlib.Core.Path.{ap}
use mathlib.Core.Bool.{not}
use native.Mathlib.Omega.{arith}
use borrow.Author.Tests.{ne_eqb}
use lib.Dec.{eqb}
use lib.ListN.{length, get_or}
use Rattle.towers.proofs.Games.{found_here, found_none}
use Rattle.towers.proofs.first_elsewhere.Goals as goal

pub returns-then-pegs-i : goal.returns-then-pegs-i
returns-then-pegs-i c =
    let l = c.args.pegs.now in
    found_here _ (λ k. not (eqb (get_or l k 0) (get_or l 0 0))) _
    c.loop-i-test.true
    (ap not (ne_eqb _ _ c.if-pegs-i.true))
    c.loop-i.invariant

pub returns : goal.returns
returns c =
    let l = c.args.pegs.now in
    found_none (length l) (λ k. not (eqb (get_or l k 0) (get_or l 0 0))) (λ k h. c.loop-i.invariant k (omega arith))
