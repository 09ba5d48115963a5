-- `digit::reversed` meets its contract: after i turns the i fastest digits stand at the start. Assumes nothing.
use Prim.Native.Nat.{◌-◌}
use mathlib.Core.Path.{◌≡◌}
use mathlib.Core.List.{◌++◌}
use lib.ListN.{take, replicate}
use Rattle.gray_theory.specs.Radices.{digits}
use Rattle.digit.proofs.reversed.Given as goal

abbrev pub invariant-loop-i : goal.invariant-loop-i
invariant-loop-i l = l.out ≡ take l.i (digits l.bytes) ++ replicate (48 - l.i) 0
