-- Where a walk stands, however it came there: at a rank, with so many entries queued, or at its end.
use Rattle.std.specs.Prelude.{ℕ, suc, ◌+◌, ◌*◌, ◌≤◌, ◌<◌, ◌≡◌, Bool, true, false, List}
use Rattle.std.proofs.Common.{arith, sym, subst, ◌∙◌}
use Rattle.std.proofs.Math.Path.{ap}
use Rattle.gray_theory.specs.Answers.{given}
use Rattle.gray_theory.specs.Radices.{size}
use Rattle.gray_theory.specs.Words.{member}
use Rattle.gray_theory.proofs.WordRanges.{member_at}
use Rattle.gray_theory.specs.Capacities.{Openable}
use Rattle.gray_theory.specs.Locks.{unlocked}
use Rattle.gray_theory.specs.Engines.{ended}
use Rattle.ahead_theory.specs.States.{Producer, Walk, setting, in_range}
use Rattle.ahead_theory.specs.Calls.{Course, course, step_by, step_of}
use Rattle.ahead_theory.specs.Demand.{Within}
use Rattle.ahead_theory.proofs.Kept.{goes_over}
use Rattle.ahead_theory.proofs.RunRanges.{producer_ranged, state_ranged}
use Rattle.ahead_theory.proofs.Positions.{buffered, Position, steps_at}
use Rattle.ahead_theory.specs.Canonical.{producer_at, walk_at}
use Rattle.ahead_theory.specs.Rounds.{running}
use Rattle.ahead_theory.proofs.Rounds.{running_ranged}
use Rattle.ahead_theory.proofs.Capacity.{within}

-- the walk stands at rank t, with k entries queued and p carries made towards the next, whatever useful steps s it counts
pub record Placed (ms : List ℕ) (c t : ℕ) (w : Walk) : Type 0 where
  pub s : ℕ
  pub k : ℕ
  pub p : ℕ
  pub at : Position (unlocked ms) c t k p
  pub below : t < size ms
  pub low : s ≤ 2 * t
  pub is_state : w ≡ running ms c s t k p

-- the useful steps that have brought it there, counted or not
abbrev pub steps_to : {ms : List ℕ} {c t : ℕ} {w : Walk} → Placed ms c t w → ℕ
steps_to {ms} {c} {t} from = steps_at (unlocked ms) t from.k from.p

-- the walk has ended at rank t, the last
pub record Over (ms : List ℕ) (c t : ℕ) (w : Walk) : Type 0 where
  pub s : ℕ
  pub k : ℕ
  pub p : ℕ
  pub at : Position (unlocked ms) c (suc t) k p
  pub last : suc t ≡ size ms
  pub low : s ≤ 2 * t + 2
  pub is_state : w ≡ walk_at ms c t true (producer_at (unlocked ms) s (suc t) k p)

-- the setting that a state of the run holds
setting_is : (ms : List ℕ) (c t : ℕ) (over : Bool) (q : Producer) → t < size ms → setting (walk_at ms c t over q) ≡ member ms t
setting_is ms c t over q below = member_at ms t below

module _ (ms : List ℕ) (c t : ℕ) (w : Walk) where
  pub placed-setting : Placed ms c t w → setting w ≡ member ms t
  placed-setting pl =
      ap setting pl.is_state ∙ setting_is ms c t false (producer_at (unlocked ms) pl.s t pl.k pl.p) pl.below

  pub placed_within : Placed ms c t w → Within c w
  placed_within pl = subst (Within c) (sym pl.is_state) (within (running ms c pl.s t pl.k pl.p) pl.at.fits)

  pub over_within : Over ms c t w → Within c w
  over_within o =
      subst (Within c) (sym o.is_state) (within (walk_at ms c t true (producer_at (unlocked ms) o.s (suc t) o.k o.p)) o.at.fits)

  module _ (v : Openable ms c) where
    pub placed_ranged : Placed ms c t w → in_range w ≡ true
    placed_ranged pl =
        ap in_range pl.is_state ∙ running_ranged ms c v pl.s t pl.k pl.p pl.at pl.below pl.low

    pub over_ranged : Over ms c t w → in_range w ≡ true
    over_ranged o =
        let low = o.low in
        let last = o.last in
        ap in_range o.is_state
        ∙ state_ranged ms c t true (producer_at (unlocked ms) o.s (suc t) o.k o.p) v (omega arith)
        (producer_ranged (unlocked ms) c (buffered v) o.s (suc t) o.k o.p o.at)
        (omega arith)

    -- a walk that has ended stays as it is
    pub over_goes : Over ms c t w → course w ≡ Course.over
    over_goes o = goes_over w (over_ranged o) (ap (λ (u : Walk). u.ended) o.is_state)

    pub over_call : Over ms c t w → step_of w ≡ record { state = w; answer = given ended }
    unfolding step_of
    over_call o = ap (step_by w) (over_goes o)
