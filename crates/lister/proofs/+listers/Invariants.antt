-- The measure of `up`, `down`, `block` and `remaining` falls with the digits that remain, three times for each. The invariant of
-- both loops is `Along`.
use Prim.Native.Nat.{◌-◌, ◌*◌}
use mathlib.Core.Bool.{true, false}
use lib.ListN.{length, get_or}
use Rattle.lister.proofs.Blocks.{Along}
use Rattle.lister.proofs.+listers.Given as goal

abbrev pub decreases-up : goal.decreases-up
decreases-up l = 3 * (length l.radices.now - l.i)

abbrev pub decreases-down : goal.decreases-down
decreases-down l = 3 * (length l.radices.now - l.i)

abbrev pub decreases-block : goal.decreases-block
decreases-block l = 3 * (length l.radices.now - l.i) - 1

abbrev pub decreases-remaining : goal.decreases-remaining
decreases-remaining l = 3 * (length l.radices.now - l.i) - 2

abbrev pub invariant-up-loop-a : goal.invariant-up-loop-a
invariant-up-loop-a l =
    Along false l.radices l.i l.initial.w.skip l.initial.w.left l.initial.w.at l.initial.word l.initial.out l.word l.out l.a
    l.w.skip l.w.left l.w.at

abbrev pub invariant-down-loop-a : goal.invariant-down-loop-a
invariant-down-loop-a l =
    Along true l.radices l.i l.initial.w.skip l.initial.w.left l.initial.w.at l.initial.word l.initial.out l.word l.out
    (get_or l.radices l.i 0 - l.a) l.w.skip l.w.left l.w.at
