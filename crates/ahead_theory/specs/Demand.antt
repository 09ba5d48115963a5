-- Demand 3, as a statement about the whole run of calls from a walk: what work-ahead with c places promises. The theorem that
-- every fresh walk keeps it stands in WorkAhead.
use Rattle.std.specs.Prelude.{ℕ, suc, ◌+◌, ◌-◌, ◌*◌, ◌≤◌, ◌<◌, ◌≡◌, true, false, List, ◌∷◌, ◌++◌, length}
use Rattle.gray_theory.specs.Answers.{given, refused}
use Rattle.gray_theory.specs.Radices.{size}
use Rattle.gray_theory.specs.Locks.{unlocked}
use Rattle.gray_theory.specs.Words.{member}
use Rattle.gray_theory.specs.Costs.{cost}
use Rattle.gray_theory.specs.Engines.{ended, Names}
use Rattle.ahead_theory.specs.States.{Walk, setting, in_range}
use Rattle.ahead_theory.specs.Work.{Work, append, run_out}
use Rattle.ahead_theory.specs.Calls.{once, twice, step_of}
use Rattle.ahead_theory.specs.Events.{state, answer, events, useful, appends, Accepting}

-- (a) the queue holds at most c entries, before the call and after each of its work steps
pub record Within (c : ℕ) (w : Walk) : Type 0 where
  pub before : w.producer.queued ≤ c
  pub first : (once w).queued ≤ c
  pub second : (twice w).queued ≤ c

-- (b) the useful step that appends an entry, with the work steps before it: it is the one that the step formula says, and entry
-- j is finished in fewer than 2 j
pub record Finished (ms : List ℕ) (before : List Work) : Type 0 where
  pub formula : suc (useful before) ≡ cost ms (suc (appends before))
  pub double : suc (useful before) < 2 * suc (appends before)

-- (c) after t calls s is the number of useful steps, and with q entries in the queue, t + q is the last entry finished
pub record StepsCounted (ms : List ℕ) (w : Walk) (t : ℕ) : Type 0 where
  pub steps : (state w t).producer.steps ≡ useful (events w t)
  pub entries : appends (events w t) ≡ t + (state w t).producer.queued
  pub reached : cost ms (t + (state w t).producer.queued) ≤ (state w t).producer.steps
  pub not_next : (state w t).producer.steps < cost ms (suc (t + (state w t).producer.queued))

-- call j names change j of the list, with the setting of rank j
abbrev pub NamesChange : List ℕ → Walk → ℕ → Type 0
NamesChange ms w j = Names step_of setting ms w j

-- (d) calls 1 to N − 1 name changes 1 to N − 1, and j counts them; call N and every later one answer end, and no call after it
-- changes anything
pub record WalksTheList (ms : List ℕ) (w : Walk) : Type 0 where
  pub moves : (j : ℕ) → 1 ≤ j → j < size ms → NamesChange ms w j
  pub made : (j : ℕ) → j < size ms → (state w j).moves ≡ j
  pub end : (j : ℕ) → size ms ≤ j → answer w j ≡ given ended
  pub unchanged : (j : ℕ) → size ms ≤ j → state w (suc j) ≡ state w j

-- (e) there is a call d, at most call N: the calls before it name their changes, and j counts them; it and every later one are
-- dry, the state stays the one that call d found, and none of their work steps counts
pub record RunsDry (ms : List ℕ) (w : Walk) (d : ℕ) : Type 0 where
  pub from_one : 1 ≤ d
  pub within_N : d ≤ size ms
  pub moves : (j : ℕ) → 1 ≤ j → j < d → NamesChange ms w j
  pub made : (j : ℕ) → j < d → (state w j).moves ≡ j
  pub dry : (j : ℕ) → d ≤ j → answer w j ≡ refused 10
  pub unchanged : (j : ℕ) → d ≤ j → state w j ≡ state w (d - 1)
  pub quiet : (j : ℕ) → d ≤ j → events w j ≡ events w (d - 1)

-- demand 3, for a walk with the radices ms and the capacity c, and every number of calls. The walk starts at the setting of
-- rank 0
pub record WorksAhead (ms : List ℕ) (c : ℕ) (w : Walk) : Type 0 where
  pub start : setting w ≡ member ms 0
  pub capacity : (t : ℕ) → Within c (state w t)
  pub step_formula : (t : ℕ) (before later : List Work)
      → events w t ≡ before ++ append ∷ later
      → Finished (unlocked ms) before
  pub counted : (t : ℕ) → t ≤ size ms → Accepting w t → StepsCounted (unlocked ms) w t
  pub never_dry : length (unlocked ms) ≤ 2 * c → WalksTheList ms w
  pub dry_within_N : 2 * c < length (unlocked ms) → (d : ℕ) × RunsDry ms w d

-- besides: every state of the run is in range, so that no call gets 7, and unless all digits are locked no work step of it
-- meets the idle rule at the last place. With all locked the second work step of the first call does
pub record StaysInRange (ms : List ℕ) (w : Walk) : Type 0 where
  pub stays_in_range : (t : ℕ) → in_range (state w t) ≡ true
  pub never_7 : (j : ℕ) → answer w j ≡ refused 7 → ⊥
  pub first : 0 < length (unlocked ms) → (t : ℕ) → (state w t).ended ≡ false → run_out (unlocked ms) (state w t).producer ≡ false
  pub second : 0 < length (unlocked ms) → (t : ℕ) → (state w t).ended ≡ false → run_out (unlocked ms) (once (state w t)) ≡ false
  pub all_locked : length (unlocked ms) ≡ 0 → (run_out (unlocked ms) w.producer ≡ false) × (run_out (unlocked ms) (once w) ≡ true)

-- with all digits locked: one setting; the first call ends, the second of its work steps at the idle rule
pub record AllLocked (ms : List ℕ) (w : Walk) : Type 0 where
  pub single : size ms ≡ 1
  pub ends : answer w 1 ≡ given ended
  pub first : run_out (unlocked ms) w.producer ≡ false
  pub second : run_out (unlocked ms) (once w) ≡ true
