-- The states of a run: each follows from how many entries are removed, t, how many are queued, k, and how many carries are made
-- towards the next, p.
use Prim.Native.Nat.{ℕ, zero, suc, ◌+◌}
use Rattle.std.specs.Prelude.{Bool, List, [], ◌∷◌, ◌++◌}
use Rattle.gray_theory.specs.Radices.{mixed_digits}
use Rattle.gray_theory.specs.Changes.{ruler}
use Rattle.gray_theory.specs.Arrays.{filled}
use Rattle.gray_theory.specs.WordRanges.{directed_at}
use Rattle.ahead_theory.specs.States.{Producer, Walk, places}
use Rattle.ahead_theory.specs.Counters.{cleared}

-- ---- the entries queued
-- entries t + 1 .. t + k
unfoldable pub entries : List ℕ → ℕ → ℕ → List ℕ
entries ms t zero = []
entries ms t (suc k) = entries ms t k ++ (ruler ms (suc (t + k)) ∷ [])

-- ---- the states
-- with s the useful steps that the state counts
abbrev pub producer_at : List ℕ → ℕ → ℕ → ℕ → ℕ → Producer
producer_at ms s t k p = record {
  counter = filled 49 0 (cleared p (mixed_digits (places ms) (t + k)));
  place = suc p;
  queue = filled 32 0 (entries ms t k);
  queued = k;
  steps = s;
}

-- the walk at rank t, with the producer q
abbrev pub walk_at : List ℕ → ℕ → ℕ → Bool → Producer → Walk
walk_at ms c t over q = record { directed = directed_at ms t; producer = q; capacity = c; moves = t; ended = over }
