-- A run of moves and its single calls: what it has written, the state that it leaves, and what stopped it.
use Prim.Native.Nat.{ℕ, ◌<◌}
use Rattle.std.specs.Prelude.{◌≡◌, length, get_or}
use Rattle.gray_theory.specs.Answers.{given, refused}
use Rattle.gray_theory.specs.MoveBytes.{move_byte}
use Rattle.gray_theory.specs.Changes.{Change}
use Rattle.gray_theory.specs.Engines.{Event, moved, ended, Handed, after}
use Rattle.gray_theory.specs.RunCalls.{Stop, nothing, end, refusal, Ran}

-- what stopped a run of k moves that was to make t, and the state that it leaves
pub data Stops {S : Type 0} (call : S → Handed S Event) (s : S) (t k : ℕ) (left : S) (stop : Stop) : Type 0 where
  all : stop ≡ nothing → k ≡ t → left ≡ after call s k → Stops call s t k left stop
  ends : stop ≡ end → k < t → (call (after call s k)).answer ≡ given ended → left ≡ (call (after call s k)).state → Stops call s t k left stop
  refuses : (x : ℕ)
      → stop ≡ refusal x
      → k < t
      → (call (after call s k)).answer ≡ refused x
      → left ≡ (call (after call s k)).state
      → Stops call s t k left stop

pub record SingleCalls {S : Type 0} (call : S → Handed S Event) (s : S) (t : ℕ) (r : Ran S) : Type 0 where
  pub moves : (j : ℕ)
      → j < length r.bytes
      → (c : Change)
      × (notch : ℕ)
      × ((call (after call s j)).answer ≡ given (moved c notch))
      × (get_or r.bytes j 0 ≡ move_byte c.digit c.down)
  pub stops : Stops call s t (length r.bytes) r.state r.stop
