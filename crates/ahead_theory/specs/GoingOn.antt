-- What is promised of a walk from wherever it stands in the list (document 02, "Pick up a survey at a given setting"). That walks
-- which are picked up keep it stands in PickedUp.
use Rattle.std.specs.Prelude.{ℕ, suc, ◌+◌, ◌-◌, ◌*◌, ◌≤◌, ◌<◌, ◌≡◌, true, List, length}
use Rattle.gray_theory.specs.Answers.{given, refused}
use Rattle.gray_theory.specs.Radices.{size}
use Rattle.gray_theory.specs.Words.{member}
use Rattle.gray_theory.specs.Locks.{unlocked}
use Rattle.gray_theory.specs.Engines.{move_at, ended}
use Rattle.ahead_theory.specs.States.{Producer, Walk, setting, in_range}
use Rattle.ahead_theory.specs.Events.{state, answer}
use Rattle.ahead_theory.specs.Demand.{Within}

-- call t names change r + t: it answers that digit and direction, and the notch, and hands back the setting of rank r + t
pub record NamesFrom (ms : List ℕ) (r : ℕ) (w : Walk) (t : ℕ) : Type 0 where
  pub answers : answer w t ≡ given (move_at ms (r + t))
  pub hands_back : setting (state w t) ≡ member ms (r + t)

-- from the setting of rank r, calls 1, 2, .. name changes r + 1, r + 2, .. up to N − 1, and j counts them; call N − r and every later
-- one answer end, and no call after it changes anything. So none is dry
pub record GoesOn (ms : List ℕ) (r : ℕ) (w : Walk) : Type 0 where
  pub start : setting w ≡ member ms r
  pub moves : (t : ℕ) → 1 ≤ t → r + t < size ms → NamesFrom ms r w t
  pub made : (t : ℕ) → r + t < size ms → (state w t).moves ≡ r + t
  pub end : (t : ℕ) → size ms ≤ r + t → answer w t ≡ given ended
  pub unchanged : (t : ℕ) → size ms ≤ r + t → state w (suc t) ≡ state w t

-- ---- at whatever capacity
-- what call t does, for t from 1: it names change r + t; it is the end, past the last setting; or it is dry, and the state stays
pub data Does (ms : List ℕ) (r : ℕ) (w : Walk) (t : ℕ) : Type 0 where
  names : r + t < size ms → NamesFrom ms r w t → Does ms r w t
  is_end_lem : size ms ≤ r + t → answer w t ≡ given ended → Does ms r w t
  is_dry : answer w t ≡ refused 10 → state w t ≡ state w (t - 1) → Does ms r w t

-- every move is the list's; once a call is dry, every later one is; every state is in range, so that no call gets 7; the queue holds
-- at most c entries, before each call and after each of its work steps
pub record KeepsToTheList (ms : List ℕ) (c r : ℕ) (w : Walk) : Type 0 where
  pub start : setting w ≡ member ms r
  pub calls : (t : ℕ) → 1 ≤ t → Does ms r w t
  pub dry_stays : (t x : ℕ) → 1 ≤ t → answer w t ≡ refused 10 → answer w (t + x) ≡ refused 10
  pub stays_in_range : (t : ℕ) → in_range (state w t) ≡ true
  pub never_7 : (t : ℕ) → answer w t ≡ refused 7 → ⊥
  pub capacity : (t : ℕ) → Within c (state w t)

-- ---- and the walk from the start
-- a walk with another capacity, counter, place and queue, and another count of useful steps
abbrev pub rebuffered : Walk → ℕ → Producer → Walk
rebuffered w c p = record { directed = w.directed; producer = p; capacity = c; moves = w.moves; ended = w.ended }

-- a walk w with c places and the walk f from the start after r calls: they differ in their buffers alone; and with places enough
-- every later answer is the same
pub record Agrees (ms : List ℕ) (c r : ℕ) (w f : Walk) : Type 0 where
  pub here : w ≡ rebuffered (state f r) c w.producer
  pub later : length (unlocked ms) ≤ 2 * c → (t : ℕ) → 1 ≤ t → answer w t ≡ answer f (r + t)
