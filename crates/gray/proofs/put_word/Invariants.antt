-- `gray::put_word` meets its contract: with i digits to go, their word at the quotient q and the bytes from i on make up the
-- output that is owed. Assumes nothing.
use Prim.Native.Nat.{◌≤◌}
use mathlib.Core.Path.{◌≡◌}
use mathlib.Core.List.{◌++◌}
use lib.ListN.{length, take, drop}
use Rattle.gray_theory.specs.Radices.{digits, bytes}
use Rattle.gray_theory.specs.Indexed.{word_at}
use Rattle.gray.specs.Stages.{put_word}
use Rattle.gray.proofs.put_word.Given as goal

abbrev pub invariant-loop-i : goal.invariant-loop-i
invariant-loop-i l =
    (l.i ≤ length l.radices)
    × (length l.out ≡ length l.initial.out)
    × (bytes (word_at (digits (take l.i l.radices)) l.q) ++ drop l.i l.out ≡ put_word l.radices l.rank l.initial.out)
