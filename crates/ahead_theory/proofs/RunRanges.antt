-- Every state of a run is in range.
use Rattle.std.specs.Prelude.{ℕ, zero, suc, ◌+◌, ◌≤◌, ◌<◌, ◌≡◌, Bool, true, List, [], ◌∷◌, length, get_or}
use Rattle.std.proofs.Math.Decide.{dec_lt}
use Rattle.std.proofs.Common.{lt_of_le_of_lt, arith, ap, ◌∙◌}
use Rattle.std.proofs.Math.ListN.{get_or-append}
use Rattle.std.proofs.lemmas.List.{get_or_at}
use Rattle.gray_theory.specs.Radices.{size, mixed_digits}
use Rattle.gray_theory.specs.Changes.{ruler}
use Rattle.gray_theory.proofs.Rulers.{ruler_pos}
use Rattle.gray_theory.specs.Arrays.{filled}
use Rattle.gray_theory.specs.Locks.{unlocked}
use Rattle.gray_theory.specs.WordRanges.{directed_at}
use Rattle.gray_theory.proofs.WordRanges.{word-says, survey_at, directed_in_range}
use Rattle.gray_theory.proofs.Filled.{get_d_filled}
use Rattle.ahead_theory.specs.States.{Producer, survey, open_check, places, producer_in_range, step_limit, in_range}
use Rattle.ahead_theory.proofs.InRange.{IsPlace, says_producer, says_range}
use Rattle.ahead_theory.specs.Counters.{cleared}
use Rattle.ahead_theory.proofs.Counters.{length-mixed_digits, mixed_below, length-cleared, cleared_below, ruler_most, all_from-places, length-places}
use Rattle.gray_theory.specs.Capacities.{Openable}
use Rattle.ahead_theory.proofs.Openings.{opens}
use Rattle.ahead_theory.proofs.Positions.{Buffered, Position, one}
use Rattle.ahead_theory.specs.Canonical.{entries, producer_at, walk_at}
use Rattle.ahead_theory.proofs.Canonical.{length-entries}

pub get_d_entries : (ms : List ℕ) (t k i : ℕ) → i < k → get_or (entries ms t k) i 0 ≡ ruler ms (suc (t + i))
unfolding entries
get_d_entries ms t zero i h = absurd (omega arith)
get_d_entries ms t (suc k) i h =
    let l = length-entries ms t k in
    elim (dec_lt i k) [
      | yes p ↦ get_or-append (entries ms t k) (ruler ms (suc (t + k)) ∷ []) 0 i (omega arith) ∙ get_d_entries ms t k i p
      | no q ↦
          let e : k ≡ i = omega arith in
          get_or_at (entries ms t k) (ruler ms (suc (t + k))) [] 0 i (l ∙ e) ∙ ap (λ (j : ℕ). ruler ms (suc (t + j))) e
    ]

-- ---- the producer
module _ (ms : List ℕ) (c : ℕ) (v : Buffered ms c) (s t k p : ℕ) (at : Position ms c t k p) where
  count_below : (i : ℕ)
      → i < length ms + 1
      → get_or (filled 49 0 (cleared p (mixed_digits (places ms) (t + k)))) i 0 < get_or (places ms) i 0
  count_below i h =
      let l = length-places ms in
      let d = length-mixed_digits (places ms) (t + k) in
      let r = ruler_most ms (suc (t + k)) in
      let f = at.carries in
      let long = length-cleared p (mixed_digits (places ms) (t + k)) (omega arith) in
      let low = cleared_below p (mixed_digits (places ms) (t + k)) i in
      let below = mixed_below (places ms) (all_from-places 1 ms (omega arith) (one ms v.two)) (t + k) i (omega arith) in
      rw (get_d_filled 49 0 (cleared p (mixed_digits (places ms) (t + k))) i 0 (omega arith)) (lt_of_le_of_lt low below)

  entry_is_place : (i : ℕ) → i < k → IsPlace ms (get_or (filled 32 0 (entries ms t k)) i 0)
  entry_is_place i h =
      let l = length-entries ms t k in
      let same : get_or (filled 32 0 (entries ms t k)) i 0 ≡ ruler ms (suc (t + i)) =
      get_d_filled 32 0 (entries ms t k) i 0 (omega arith) ∙ get_d_entries ms t k i h in
      let pos = ruler_pos ms (suc (t + i)) in
      let most = ruler_most ms (suc (t + i)) in
      record { from_one = omega arith; last = omega arith }

  pub producer_ranged : producer_in_range ms c (producer_at ms s t k p) ≡ true
  producer_ranged =
      let r = ruler_most ms (suc (t + k)) in
      let f = at.carries in
      says_producer ms c (producer_at ms s t k p)
      (record {
        counts = count_below;
        at = record { from_one = omega arith; last = omega arith };
        entries = entry_is_place;
        held = at.fits;
      })

-- ---- the whole state
-- a state of the run, running or ended, is in range
pub state_ranged : (ms : List ℕ) (c t : ℕ) (over : Bool) (q : Producer)
    → Openable ms c
    → t < size ms
    → producer_in_range (unlocked ms) c q ≡ true
    → q.steps ≤ step_limit t over
    → in_range (walk_at ms c t over q) ≡ true
state_ranged ms c t over q v below ranged limit =
    let survey_is : survey (walk_at ms c t over q) ≡ ms = survey_at ms t in
    says_range (walk_at ms c t over q)
    (record {
      word = word-says (open_check c) (directed_at ms t) (directed_in_range ms (open_check c) v.survey (opens v) t);
      ahead = rw survey_is ranged;
      rank = rw survey_is below;
      steps = limit;
    })
