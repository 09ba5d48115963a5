-- How far filling ahead from a rank goes.
use Prim.Native.Nat.{ℕ, ◌+◌, ◌-◌, ◌≤◌}
use Rattle.std.specs.Prelude.{◌≡◌, List, ltb}
use Rattle.std.proofs.Math.Bool.{cond}
use Rattle.gray_theory.specs.Radices.{size}

-- ---- how far filling goes
-- q entries from rank t on: as many as there are places, or up to the end entry
pub data Reach (ms : List ℕ) (c t q : ℕ) : Type 0 where
  to_capacity : q ≡ c → t + q ≤ size ms → Reach ms c t q
  to_end : t + q ≡ size ms → q ≤ c → Reach ms c t q

-- the fewer of c and N − t
abbrev pub reach : List ℕ → ℕ → ℕ → ℕ
reach ms c t = cond (ltb (size ms - t) c) (size ms - t) c
