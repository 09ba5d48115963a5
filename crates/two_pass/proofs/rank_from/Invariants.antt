-- `two_pass::rank_from` meets its contract: after i turns p is the rank of the slowest i digits. Assumes nothing.
use mathlib.Core.Path.{◌≡◌}
use lib.ListN.{take}
use Rattle.gray_theory.specs.Radices.{digits}
use Rattle.gray_theory.specs.Words.{rank}
use Rattle.two_pass.proofs.rank_from.Given as goal

abbrev pub invariant-loop-i : goal.invariant-loop-i
invariant-loop-i l = l.p ≡ rank (digits (take l.i l.radices)) (digits (take l.i l.word))
