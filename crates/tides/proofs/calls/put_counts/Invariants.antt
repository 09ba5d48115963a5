-- `tides::calls::put_counts` meets its contract: behind i windows their counts are written. Assumes nothing.
use Rattle.std.proofs.Common.{◌≡◌, ◌+◌, ◌*◌, length}
use Rattle.tides.proofs.Writing.{Put, start}
use Rattle.tides.proofs.calls.put_counts.Given as goal

abbrev pub invariant-loop-i : goal.invariant-loop-i
invariant-loop-i l =
    Put l.fn.file l.initial.out l.out (start l.fn.file + 38 * l.i) l.i × (length l.out ≡ length l.initial.out)
