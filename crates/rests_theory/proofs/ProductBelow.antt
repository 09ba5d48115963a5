-- P, said with the product of all counts below.
use Prim.Native.Nat.{ℕ, ◌-◌}
use Rattle.std.specs.Prelude.{◌≡◌, true, List, take}
use Rattle.gray_theory.specs.Radices.{size, all_from}
use Rattle.gray_theory.proofs.Sizes.{all_from-take}
use Rattle.gray_theory.proofs.Unlocked.{size-unlocked}
use Rattle.rests_theory.specs.Rests.{P}

-- ---- the list
-- Locked sluices change nothing: P is the product of all counts below.
pub P_is_the_product_below : (ms : List ℕ) (k : ℕ) → all_from 1 ms ≡ true → P ms k ≡ size (take (k - 1) ms)
P_is_the_product_below ms k e = size-unlocked (take (k - 1) ms) (all_from-take 1 (k - 1) ms e)
