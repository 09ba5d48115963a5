-- What the private functions of a run of moves ask for and answer.
use Rattle.std.specs.Prelude.{ℕ, ◌+◌, ◌-◌, ◌^◌, ◌≤◌, ◌<◌, ◌≡◌, Bool, true, false, cond, ◌⊎◌, List, eqb, ltb, length, get_or, set}
use Rattle.gray_theory.specs.Answers.{Answer, given}
use Rattle.gray_theory.specs.MoveBytes.{move_byte, move_down}
use Rattle.gray_theory.specs.Arrays.{filled}
use Rattle.gray_theory.specs.Places.{placed}
use Rattle.gray_theory.specs.Radices.{size}
use Rattle.gray_theory.specs.Engines.{ended, refused_with}
use Rattle.gray_theory.specs.RunCalls.{Stop, nothing, end, refusal, Outcome}
use Rattle.gray_theory.specs.RunLaws.{Moved}
use Rattle.ahead_theory.specs.States.{Walk, survey, moving_radices, in_range, Arrays}
use Rattle.ahead_theory.specs.Calls.{step_of}
use Rattle.ahead_theory.specs.Events.{state}
use Rattle.ahead_theory.specs.Locals.{Fast, TopsOf, Notches, Numbered, Stands}
use Rattle.stretch.specs.declared.Stage.{Stage}
use Rattle.stretch.specs.Stages.{fast_of}

-- ---- from a state to the arrays of a run
pub record Wide (tops rest left bytes : List ℕ) : Type 0 where
  pub tops_long : length tops ≡ 256
  pub rest_long : length rest ≡ 256
  pub left_long : length left ≡ 256
  pub bytes_long : length bytes ≡ 256

pub record Loadable (i m b a : ℕ) : Type 0 where
  pub inside : i < 256
  pub some : 1 ≤ m
  pub count : b < m
  pub notch : a < m

pub record LoadedOne (i m b number a : ℕ) (down : Bool) (tops rest left bytes tops' rest' left' bytes' : List ℕ) : Type 0 where
  pub tops_is : tops' ≡ set tops i (m - 1)
  pub rest_is : rest' ≡ set rest i (m - 1 - b)
  pub left_is : left' ≡ set left i (cond down a (m - 1 - a))
  pub bytes_is : bytes' ≡ set bytes i (move_byte number down)

pub record Loaded (w : Walk) (tops rest left bytes : List ℕ) : Type 0 where
  pub tops_are : TopsOf (moving_radices w) tops
  pub counts : (i : ℕ) → i < length (moving_radices w) + 1 → get_or rest (i + 1) 0 + get_or w.producer.counter i 0 ≡ get_or tops (i + 1) 0
  pub rest_long : length rest ≡ 256
  pub notches : Notches w.directed.moving.digits w.directed.moving.count tops w.directed.word w.directed.downs w.directed.word w.directed.downs left bytes

-- ---- and back
pub record CounterFits (last : ℕ) (tops rest counter : List ℕ) : Type 0 where
  pub tops_long : length tops ≡ 256
  pub rest_long : length rest ≡ 256
  pub counter_long : length counter ≡ 49
  pub most : last ≤ 49
  pub less : (i : ℕ) → i < last → get_or rest (i + 1) 0 ≤ get_or tops (i + 1) 0

pub record CounterBack (last : ℕ) (tops rest before after : List ℕ) : Type 0 where
  pub each : (i : ℕ) → i < last → get_or after i 0 ≡ get_or tops (i + 1) 0 - get_or rest (i + 1) 0
  pub others : (i : ℕ) → last ≤ i → get_or after i 0 ≡ get_or before i 0
  pub long : length after ≡ length before

pub record WordFits (count : ℕ) (numbers tops left bytes word : List ℕ) (downs : List Bool) : Type 0 where
  pub numbers_long : length numbers ≡ 48
  pub tops_long : length tops ≡ 256
  pub left_long : length left ≡ 256
  pub bytes_long : length bytes ≡ 256
  pub word_long : length word ≡ 48
  pub downs_long : length downs ≡ 48
  pub few : count ≤ 48
  pub from_one : (i : ℕ) → i < count → 1 ≤ get_or numbers i 0
  pub within : (i : ℕ) → i < count → get_or numbers i 0 ≤ 48
  pub less : (i : ℕ) → i < count → move_down (get_or bytes (i + 1) 0) ≡ false → get_or left (i + 1) 0 ≤ get_or tops (i + 1) 0

-- a word and directions that the arrays give back
pub record Target (count : ℕ) (numbers tops left bytes word : List ℕ) (downs : List Bool) : Type 0 where
  pub word_long : length word ≡ 48
  pub downs_long : length downs ≡ 48
  pub notch : (i : ℕ)
      → i < count
      → cond (move_down (get_or bytes (i + 1) 0)) (get_or left (i + 1) 0) (get_or tops (i + 1) 0 - get_or left (i + 1) 0)
      ≡ get_or word (get_or numbers i 0 - 1) 0
  pub direction : (i : ℕ) → i < count → move_down (get_or bytes (i + 1) 0) ≡ get_or downs (get_or numbers i 0 - 1) false

-- each digit is as it should be, or still to be written, as one of those that move from the i-th on
pub record Pending (word★ : List ℕ) (downs★ : List Bool) (numbers : List ℕ) (count i : ℕ) (word : List ℕ) (downs : List Bool) : Type 0 where
  pub each : (x : ℕ)
      → ((get_or word x 0 ≡ get_or word★ x 0) × (get_or downs x false ≡ get_or downs★ x false))
      ⊎ ((k : ℕ) × (i ≤ k) × (k < count) × (x ≡ get_or numbers k 0 - 1))

abbrev pub WordBack : ℕ → List ℕ → List ℕ → List ℕ → List ℕ → List ℕ → List Bool → List ℕ → List Bool → Type 0
WordBack count numbers tops left bytes word downs word' downs' =
    (word★ : List ℕ) (downs★ : List Bool)
    → Target count numbers tops left bytes word★ downs★
    → Pending word★ downs★ numbers count 0 word downs
    → (word' ≡ word★) × (downs' ≡ downs★)

-- the queue of a stretch, with nothing removed
abbrev pub fast_from : List ℕ → List ℕ → Stage → Fast
fast_from rest entries at = fast_of rest (filled 1056 0 entries) at

-- the state w that the arrays stand for
pub record Unloads (w₀ : Walk) (tops rest left bytes entries : List ℕ) (at : Stage) (made : ℕ) (over : Bool) (w : Walk) : Type 0 where
  pub stands : Stands w₀ w 0 tops left bytes (fast_from rest entries at)
  pub arrays : Arrays w
  pub moves : w.moves ≡ w₀.moves + made
  pub over_is : w.ended ≡ over

pub record Unloadable (w₀ : Walk) (tops rest left bytes entries : List ℕ) (at : Stage) (made : ℕ) (over : Bool) : Type 0 where
  pub now : Walk
  pub unloads : Unloads w₀ tops rest left bytes entries at made over now
  pub wide : Wide tops rest left bytes
  pub numbers : Numbered w₀.directed.moving.digits w₀.directed.radices (moving_radices w₀) w₀.directed.n
  pub counted : w₀.directed.moving.count ≡ length (moving_radices w₀)
  pub few : w₀.directed.moving.count ≤ 48
  pub most : w₀.directed.n ≤ 48
  pub place_small : at.place < 256
  pub tail_small : at.tail < 256
  pub small : w₀.moves + made < 2 ^ 64

abbrev pub Unloaded : Walk → List ℕ → List ℕ → List ℕ → List ℕ → List ℕ → Stage → ℕ → Bool → Walk → Type 0
Unloaded w₀ tops rest left bytes entries at made over r = (w : Walk) → Unloads w₀ tops rest left bytes entries at made over w → r ≡ w

-- ---- all of them
pub record Callable (w₀ : Walk) (limit : ℕ) (out : List ℕ) : Type 0 where
  pub ranged : in_range w₀ ≡ true
  pub going : w₀.ended ≡ false
  pub more : w₀.moves + limit ≤ size (survey w₀)
  pub fits : limit ≤ length out

pub data CallsHalted (w₀ : Walk) (limit : ℕ) (w : Walk) (made stop : ℕ) : Type 0 where
  full : stop ≡ 0
      → made ≡ limit
      → w ≡ state w₀ made
      → w.moves ≡ w₀.moves + made
      → survey w ≡ survey w₀
      → CallsHalted w₀ limit w made stop
  ends : stop ≡ 1
      → made < limit
      → (step_of (state w₀ made)).answer ≡ given ended
      → w ≡ (step_of (state w₀ made)).state
      → CallsHalted w₀ limit w made stop
  dries : stop ≡ 2
      → made < limit
      → step_of (state w₀ made) ≡ refused_with 10 (state w₀ made)
      → w ≡ state w₀ made
      → CallsHalted w₀ limit w made stop

pub record Calls (w₀ : Walk) (limit : ℕ) (before after : List ℕ) (w : Walk) (made stop : ℕ) : Type 0 where
  pub written : List ℕ
  pub moved_by : Moved step_of w₀ made written
  pub leaves : after ≡ placed 0 written before
  pub small : made < 2 ^ 64
  pub halted : CallsHalted w₀ limit w made stop

pub record Room (w : Walk) (r : ℕ) : Type 0 where
  pub left : w.moves + r ≡ size (survey w)
  pub some : 0 < r
  pub small : size (survey w) ≤ 2 ^ 62

-- ---- what the run says
abbrev pub outcome_of : ℕ → Stop → Answer Outcome
outcome_of made stop = given (record { made = made; stop = stop })

-- what stopped a run of t moves, by what stopped its calls
abbrev pub stop_by : ℕ → ℕ → ℕ → Stop
stop_by stop made t = cond (eqb stop 1) end (cond (eqb stop 2) (refusal 10) (cond (ltb made t) (refusal 7) nothing))
