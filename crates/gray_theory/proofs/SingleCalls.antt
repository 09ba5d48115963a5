-- A run of moves is its single calls: the bytes are those of the first k calls, which all move, the state is what the last call handed
-- back, and what stopped the run is what call k + 1 answers.
use Prim.Native.Nat.{ℕ, zero, suc, ◌+◌, ◌≤◌, ◌<◌}
use Rattle.std.proofs.Common.{arith, sym, ◌∙◌, lt-ltb, le-ltb}
use Rattle.std.specs.Prelude.{◌≡◌, refl, Bool, true, false, List, ◌∷◌, length, get_or}
use Rattle.std.proofs.Math.Path.{ap}
use Rattle.gray_theory.specs.Answers.{Answer, given, refused}
use Rattle.gray_theory.specs.Bools.{impossible}
use Rattle.gray_theory.specs.MoveBytes.{move_byte}
use Rattle.gray_theory.specs.Changes.{Change}
use Rattle.gray_theory.specs.Engines.{Event, moved, ended, Handed, after}
use Rattle.gray_theory.specs.RunCalls.{Stop, nothing, end, refusal, Ran, run_then, run_from, onto, run_refused, run_makes, run_with}
use Rattle.gray_theory.specs.SingleCalls.{Stops, Stops.all, Stops.ends, Stops.refuses, SingleCalls}

-- the calls after the first
after_first : {S : Type 0} (call : S → Handed S Event) (s : S) (j : ℕ) → after call (call s).state j ≡ after call s (suc j)
unfolding after
after_first call s zero = refl
after_first call s (suc j) = ap (λ x. (call x).state) (after_first call s j)

module _ {S : Type 0} (call : S → Handed S Event) (s : S) (t : ℕ) where
  one_more : (c : Change) (notch : ℕ) → (call s).answer ≡ given (moved c notch) → (r : Ran S)
      → SingleCalls call (call s).state t r
      → SingleCalls call s (suc t) (record { state = r.state; bytes = move_byte c.digit c.down ∷ r.bytes; stop = r.stop })
  unfolding after
  one_more c notch says r m = record {
    moves = first;
    stops = later m.stops;
  }
    where
      first : (j : ℕ)
          → j < suc (length r.bytes)
          → (d : Change)
          × (reached : ℕ)
          × ((call (after call s j)).answer ≡ given (moved d reached))
          × (get_or (move_byte c.digit c.down ∷ r.bytes) j 0 ≡ move_byte d.digit d.down)
      first zero h = (c, notch, says, refl)
      first (suc j) h =
          let (d, reached, says', byte) = m.moves j (omega arith) in
          (d, reached, ap (λ x. (call x).answer) (sym (after_first call s j)) ∙ says', byte)

      later : Stops call (call s).state t (length r.bytes) r.state r.stop → Stops call s (suc t) (suc (length r.bytes)) r.state r.stop
      later (all z e is) = all z (ap suc e) (is ∙ after_first call s (length r.bytes))
      later (ends z h a is) =
          ends z (omega arith) (ap (λ x. (call x).answer) (sym (after_first call s (length r.bytes))) ∙ a)
          (is ∙ ap (λ x. (call x).state) (after_first call s (length r.bytes)))
      later (refuses x z h a is) =
          refuses x z (omega arith) (ap (λ y. (call y).answer) (sym (after_first call s (length r.bytes))) ∙ a)
          (is ∙ ap (λ y. (call y).state) (after_first call s (length r.bytes)))

-- For every state and every t: the first calls are those whose bytes are written, and the run stops where and as they do.
pub run_is_single_calls : {S : Type 0} (call : S → Handed S Event) (s : S) (t : ℕ) → SingleCalls call s t (run_from call s t)
unfolding run_from after
run_is_single_calls call s zero = record { moves = λ j h. absurd (omega arith); stops = all refl refl refl }
run_is_single_calls {S} call s (suc t) = by (call s).answer refl (run_is_single_calls call (call s).state t)
  where
    by : (a : Answer Event) → (call s).answer ≡ a → SingleCalls call (call s).state t (run_from call (call s).state t)
        → SingleCalls call s (suc t) (run_then a (call s).state (run_from call (call s).state t))
    by (given (moved c notch)) says m = one_more call s t c notch says (run_from call (call s).state t) m
    by (given ended) says m = record { moves = λ j h. absurd (omega arith); stops = ends refl (omega arith) says refl }
    by (refused x) says m = record { moves = λ j h. absurd (omega arith); stops = refuses x refl (omega arith) says refl }

-- Where refused calls hand the state back as it came, a run that one of them stopped leaves the state after its moves, and that call
-- gives its number.
pub stopped_run_leaves_its_moves : {S : Type 0} (call : S → Handed S Event) (s : S) (t x : ℕ)
    → ((v : S) (y : ℕ) → (call v).answer ≡ refused y → (call v).state ≡ v)
    → (run_from call s t).stop ≡ refusal x
    → ((run_from call s t).state ≡ after call s (length (run_from call s t).bytes))
    × ((call (after call s (length (run_from call s t).bytes))).answer ≡ refused x)
stopped_run_leaves_its_moves call s t x keeps stopped = by (run_is_single_calls call s t).stops
  where
    by : Stops call s t (length (run_from call s t).bytes) (run_from call s t).state (run_from call s t).stop
        → ((run_from call s t).state ≡ after call s (length (run_from call s t).bytes))
        × ((call (after call s (length (run_from call s t).bytes))).answer ≡ refused x)
    by (all z e is) = impossible (cc)
    by (ends z h a is) = impossible (cc)
    by (refuses y z h a is) =
        let same : y ≡ x = ap number (sym z ∙ stopped) in
        (is ∙ keeps (after call s (length (run_from call s t).bytes)) y a, a ∙ ap (λ (k : ℕ). refused k) same)
      where
        number : Stop → ℕ
        number nothing = 0
        number end = 0
        number (refusal k) = k

-- Two runs one after the other, where nothing stopped the first, are one run of both lengths.
pub runs_join : {S : Type 0} (call : S → Handed S Event) (s : S) (k t : ℕ)
    → (run_from call s k).stop ≡ nothing
    → run_from call s (k + t) ≡ onto (run_from call s k).bytes (run_from call (run_from call s k).state t)
unfolding run_from
runs_join call s zero t e = let z : 0 + t ≡ t = omega arith in ap (λ (j : ℕ). run_from call s j) z
runs_join {S} call s (suc k) t e =
    let z : suc k + t ≡ suc (k + t) = omega arith in
    ap (λ (j : ℕ). run_from call s j) z ∙ by (call s).answer e (λ f. runs_join call (call s).state k t f)
  where
    s' : S
    s' = (call s).state

    by : (a : Answer Event)
        → (run_then a s' (run_from call s' k)).stop ≡ nothing
        → ((run_from call s' k).stop ≡ nothing
        → run_from call s' (k + t) ≡ onto (run_from call s' k).bytes (run_from call (run_from call s' k).state t))
        → run_then a s' (run_from call s' (k + t))
        ≡ onto (run_then a s' (run_from call s' k)).bytes (run_from call (run_then a s' (run_from call s' k)).state t)
    by (given (moved c notch)) f more =
        ap (λ (r : Ran S). record { state = r.state; bytes = move_byte c.digit c.down ∷ r.bytes; stop = r.stop }) (more f)
    by (given ended) f more = impossible (cc)
    by (refused x) f more = impossible (cc)

-- A state in range and memory that holds t bytes: nothing is refused, and the run is made.
pub run_in_range_is_made : {S : Type 0} (in_range : S → Bool) (call : S → Handed S Event) (s : S) (t : ℕ) (out : List ℕ)
    → in_range s ≡ true
    → t ≤ length out
    → run_with in_range call s t out ≡ run_makes (run_from call s t) out
unfolding run_with
run_in_range_is_made in_range call s t out ranged fits = rw (ranged, le-ltb (length out) t fits)

-- A state out of range is refused by 7, of no moves too, and memory that holds fewer than t bytes by 9, even if the walk would end
-- sooner: no move is made, and nothing is written.
pub run_out_of_range_is_refused : {S : Type 0} (in_range : S → Bool) (call : S → Handed S Event) (s : S) (t : ℕ) (out : List ℕ)
    → in_range s ≡ false
    → run_with in_range call s t out ≡ run_refused 7 s out
unfolding run_with
run_out_of_range_is_refused in_range call s t out faulty = rw faulty

pub run_into_shorter_memory_is_refused : {S : Type 0} (in_range : S → Bool) (call : S → Handed S Event) (s : S) (t : ℕ) (out : List ℕ)
    → in_range s ≡ true
    → length out < t
    → run_with in_range call s t out ≡ run_refused 9 s out
unfolding run_with
run_into_shorter_memory_is_refused in_range call s t out ranged short = rw (ranged, lt-ltb (length out) t short)

-- No moves from a state in range, of an ended walk too: nothing changes, and nothing is said of the end.
pub no_moves-change_nothing : {S : Type 0} (in_range : S → Bool) (call : S → Handed S Event) (s : S) (out : List ℕ)
    → in_range s ≡ true
    → run_with in_range call s 0 out ≡ record { state = s; answer = given (record { made = 0; stop = nothing }); out = out }
unfolding run_from
no_moves-change_nothing in_range call s out ranged = run_in_range_is_made in_range call s 0 out ranged (omega arith)
