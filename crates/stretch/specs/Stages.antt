-- A stretch in the theory's terms, for all arrays and numbers, and what its private functions ask for and answer.
use Rattle.std.specs.Prelude.{ℕ, ◌+◌, ◌-◌, ◌*◌, ◌^◌, ◌≤◌, ◌<◌, ◌≡◌, Bool, false, cond, ◌&&◌, List, eqb, leb, ltb, length, get_or, take, drop, Option, Some, None}
use Rattle.gray_theory.specs.Arrays.{filled}
use Rattle.gray_theory.specs.Places.{placed}
use Rattle.ahead_theory.specs.Locals as theory
use Rattle.ahead_theory.specs.Locals.{Fast, FastRan, left_moved, bytes_moved, fast_run}
use Rattle.stretch.specs.declared.Stage.{Stage}
use Rattle.stretch.specs.declared.Event.{Event}
use Rattle.stretch.specs.declared.Event.TheVariants as events
use Rattle.stretch.specs.declared.Event.TheVariants.{Moved}
use Rattle.stretch.specs.declared.Stop.{Stop}
use Rattle.stretch.specs.declared.Stop.TheVariants.{End, Dry, Misfit}
use Rattle.stretch.specs.declared.Ran.{Ran}
use Rattle.stretch.specs.declared.Stretch.{Stretch}

abbrev pub fast_of : List ℕ → List ℕ → Stage → Fast
fast_of rest queue at = record { rest = rest; queue = queue; place = at.place; tail = at.tail; steps = at.steps }

-- ---- one call
-- the theory's number for what it says, and the byte of its move
abbrev pub kind_of : Event → ℕ
kind_of (Moved byte) = 0
kind_of events.End = 1
kind_of events.Dry = 2

abbrev pub byte_of : Event → ℕ
byte_of (Moved byte) = byte
byte_of events.End = 0
byte_of events.Dry = 0

abbrev pub called_as : Stage × Event → List ℕ → List ℕ → List ℕ → List ℕ → theory.Called
called_as r rest queue left bytes = record {
  kind = kind_of r.1;
  byte = byte_of r.1;
  fast = fast_of rest queue r.0;
  left = left;
  bytes = bytes;
}

-- ---- calls on a long queue
-- the theory's number for what stopped them
abbrev pub stop_number : Option Stop → ℕ
stop_number None = 0
stop_number (Some End) = 1
stop_number (Some Dry) = 2
stop_number (Some Misfit) = 3

-- what they leave: how many moved and how many entries were removed, what stopped them, the arrays and numbers, and the output
pub record Outcome : Type 0 where
  pub made : ℕ
  pub taken : ℕ
  pub stop : ℕ
  pub fast : Fast
  pub left : List ℕ
  pub bytes : List ℕ
  pub out : List ℕ

abbrev pub ran_as : Ran → List ℕ → List ℕ → List ℕ → List ℕ → List ℕ → Outcome
ran_as r rest queue left bytes out = record {
  made = r.made;
  taken = r.taken;
  stop = stop_number r.stop;
  fast = fast_of rest queue r.at;
  left = left;
  bytes = bytes;
  out = out;
}

-- their bytes stand in the output from place `done` on
abbrev pub ran_into : FastRan → ℕ → List ℕ → Outcome
ran_into r done out = record {
  made = length r.written;
  taken = r.taken;
  stop = r.stop;
  fast = r.fast;
  left = r.left;
  bytes = r.bytes;
  out = placed done r.written out;
}

unfoldable pub calls_by : ℕ → ℕ → ℕ → List ℕ → List ℕ → List ℕ → List ℕ → List ℕ → Stage → ℕ → List ℕ → Outcome
calls_by last c limit tops rest queue left bytes at done out =
    ran_into (fast_run tops last c limit 0 (fast_of rest queue at) left bytes) done out

-- ---- a stretch
-- what it leaves: how many calls moved, what stopped it, the arrays and numbers, and the output
pub record Stretched : Type 0 where
  pub made : ℕ
  pub stop : ℕ
  pub rest : List ℕ
  pub place : ℕ
  pub tail : ℕ
  pub steps : ℕ
  pub entries : List ℕ
  pub left : List ℕ
  pub bytes : List ℕ
  pub out : List ℕ

abbrev pub stretch_as : Stretch → List ℕ → List ℕ → List ℕ → List ℕ → Stretched
stretch_as r rest left bytes out = record {
  made = r.made;
  stop = stop_number r.stop;
  rest = rest;
  place = r.at.place;
  tail = r.at.tail;
  steps = r.at.steps;
  entries = r.entries;
  left = left;
  bytes = bytes;
  out = out;
}

-- the queue's entries from the oldest on, and the tail counted from there
abbrev pub from_oldest : Outcome → Stretched
from_oldest o = record {
  made = o.made;
  stop = o.stop;
  rest = o.fast.rest;
  place = o.fast.place;
  tail = o.fast.tail - o.taken;
  steps = o.fast.steps;
  entries = take 32 (drop o.taken o.fast.queue);
  left = o.left;
  bytes = o.bytes;
  out = o.out;
}

-- arrays and numbers that can be a run's
unfoldable pub fits_for : ℕ → ℕ → ℕ → List ℕ → List ℕ → List ℕ → List ℕ → Stage → ℕ → List ℕ → Bool
fits_for last c limit tops rest left bytes at done out =
    cond (ltb (length out) done) false
    (((eqb (length tops) 256 && (eqb (length rest) 256 && (eqb (length left) 256 && eqb (length bytes) 256)))
    && ((leb 1 last && leb last 255)
    && (leb at.place last && (leb c 32 && (leb limit 1024 && leb at.steps (2 ^ 63))))))
    && leb limit (length out - done))

-- where they cannot, no call is made, and all stays as it came
unfoldable pub stretch_by : ℕ → ℕ → ℕ → List ℕ → List ℕ → List ℕ → List ℕ → List ℕ → Stage → ℕ → List ℕ → Stretched
stretch_by last c limit tops rest left bytes entries at done out =
    cond (fits_for last c limit tops rest left bytes at done out)
    (from_oldest (calls_by last c limit tops rest (filled 1056 0 entries) left bytes at done out))
    (stretch_as (record { made = 0; entries = entries; at = at; stop = Some Misfit }) rest left bytes out)

-- ---- the private functions
pub record FastWorkable (tops : List ℕ) (last bound : ℕ) (rest queue : List ℕ) (at : Stage) : Type 0 where
  pub tops_long : length tops ≡ 256
  pub rest_long : length rest ≡ 256
  pub to_last : at.place ≤ last
  pub most : last ≤ 255
  pub room : bound ≤ length queue
  pub few : length queue ≡ 1056
  pub small : at.steps + 1 < 2 ^ 64

pub record FastMovable (tops left bytes : List ℕ) (i : ℕ) : Type 0 where
  pub tops_long : length tops ≡ 256
  pub left_long : length left ≡ 256
  pub bytes_long : length bytes ≡ 256
  pub inside : i ≤ 255

pub record Moves (tops left bytes : List ℕ) (i byte : ℕ) (left' bytes' : List ℕ) : Type 0 where
  pub byte_is : byte ≡ get_or bytes i 0
  pub left_is : left' ≡ left_moved tops left i
  pub bytes_is : bytes' ≡ bytes_moved left bytes i

pub record FastCallable (last c k : ℕ) (tops rest queue left bytes : List ℕ) (at : Stage) : Type 0 where
  pub tops_long : length tops ≡ 256
  pub rest_long : length rest ≡ 256
  pub left_long : length left ≡ 256
  pub bytes_long : length bytes ≡ 256
  pub queue_long : length queue ≡ 1056
  pub from_one : 1 ≤ last
  pub most : last ≤ 255
  pub to_last : at.place ≤ last
  pub small_c : c ≤ 32
  pub calls : k < 1024
  pub behind : k ≤ at.tail
  pub small : at.steps + 2 < 2 ^ 64

-- the lengths of the arrays
pub record Long (rest queue left bytes : List ℕ) : Type 0 where
  pub rest_long : length rest ≡ 256
  pub queue_long : length queue ≡ 1056
  pub left_long : length left ≡ 256
  pub bytes_long : length bytes ≡ 256

-- what a stretch's calls ask for after k of them
pub record Runnable (last c limit : ℕ) (tops rest queue left bytes : List ℕ) (at : Stage) (k done : ℕ) (out : List ℕ) : Type 0 where
  pub long : Long rest queue left bytes
  pub tops_long : length tops ≡ 256
  pub from_one : 1 ≤ last
  pub most : last ≤ 255
  pub to_last : at.place ≤ last
  pub small_c : c ≤ 32
  pub calls : limit ≤ 1024
  pub steps_few : at.steps ≤ 2 ^ 63 + 2 * k
  pub room : done + limit ≤ length out
