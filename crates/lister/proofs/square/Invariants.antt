-- `lister::square` meets its contract: it is a lister of the last two digits. The invariant of its loop is `Along` of a word
-- that is stored nowhere, with digit a in its place, and `Turns` says what a turn does to it. Assumes nothing.
use Prim.Native.Nat.{◌-◌}
use lib.ListN.{length, set}
use Rattle.lister.proofs.Blocks.{Along}
use Rattle.lister.proofs.square.Given as goal

abbrev pub invariant-loop-u : goal.invariant-loop-u
invariant-loop-u l =
    let whole = set l.word (length l.radices - 3) l.a in
    Along l.down l.radices l.i l.initial.w.skip l.initial.w.left l.initial.w.at whole l.initial.out whole l.out l.u l.w.skip l.w.left l.w.at
