-- `gray::product_of_few` meets its contract: after i turns p is the product of the slowest i radices, and i bytes hold it.
-- Assumes nothing.
use Prim.Native.Nat.{◌^◌, ◌≤◌}
use mathlib.Core.Path.{◌≡◌}
use lib.ListN.{length, take}
use Rattle.gray_theory.specs.Radices.{digits, size}
use Rattle.gray.proofs.product_of_few.Given as goal

abbrev pub invariant-loop-m : goal.invariant-loop-m
invariant-loop-m l = (l.m-index ≤ length l.radices) × (l.p ≡ size (digits (take l.m-index l.radices))) × (l.p ≤ 255 ^ l.m-index)
