-- A stretch of calls on local arrays is the engine's own run of calls.
use Rattle.std.specs.Prelude.{ℕ, zero, suc, ◌+◌, ◌-◌, ◌*◌, ◌^◌, ◌≤◌, ◌<◌, ◌≡◌, refl, Bool, true, false, List, [], ◌∷◌, ◌++◌, length, get_or}
use Rattle.std.proofs.Common.{arith, add-one, sym, ap, subst, ◌∙◌, append-nil, append_assoc, eq-eqb, ne_eqb}
use Rattle.gray_theory.specs.Answers.{given}
use Rattle.gray_theory.specs.MoveBytes.{move_byte}
use Rattle.gray_theory.specs.Changes.{Change}
use Rattle.gray_theory.specs.Radices.{size}
use Rattle.gray_theory.specs.Engines.{moved, ended, after, refused_with}
use Rattle.gray_theory.specs.RunLaws.{Moved}
use Rattle.gray_theory.proofs.RunLaws.{moved_more}
use Rattle.ahead_theory.specs.States.{Walk, survey, moving_radices, step_limit, in_range, Arrays}
use Rattle.ahead_theory.specs.Calls.{step_of}
use Rattle.ahead_theory.specs.Events.{state}
use Rattle.ahead_theory.proofs.InRange.{range_says, survey_openable, producer_says}
use Rattle.ahead_theory.proofs.Kept.{range_kept, arrays_kept}
use Rattle.ahead_theory.specs.Locals.{Fast, TopsOf, Stands, Called, FastRan, fast_then, fast_call, fast_run}
use Rattle.ahead_theory.proofs.LocalCalls as calls
use Rattle.ahead_theory.proofs.LocalCalls.{Answered, call_answers, same_survey, same_radices, counted, few_moving}

-- ---- what a stretch comes to
-- a run from w₀ has come to state j by moves
pub record OnWay (w₀ : Walk) (j : ℕ) : Type 0 where
  pub moves : (state w₀ j).moves ≡ w₀.moves + j
  pub going : (state w₀ j).ended ≡ false
  pub arrays : Arrays (state w₀ j)
  pub ranged : w₀.moves + j < size (survey w₀) → in_range (state w₀ j) ≡ true

-- the state that the ending call after j moves hands back
pub record EndsAt (w₀ : Walk) (j : ℕ) : Type 0 where
  pub answers : (step_of (state w₀ j)).answer ≡ given ended
  pub over : (step_of (state w₀ j)).state.ended ≡ true
  pub moves : (step_of (state w₀ j)).state.moves ≡ w₀.moves + j
  pub arrays : Arrays (step_of (state w₀ j)).state

-- how a stretch of at most `limit` calls stopped that began after `done` moves and h removals
pub data Halted (w₀ : Walk) (done limit h : ℕ) (tops : List ℕ) (r : FastRan) : Type 0 where
  full : r.stop ≡ 0
      → length r.written ≡ limit
      → r.taken ≡ h + length r.written
      → OnWay w₀ (done + length r.written)
      → Stands w₀ (state w₀ (done + length r.written)) r.taken tops r.left r.bytes r.fast
      → Halted w₀ done limit h tops r
  ends : r.stop ≡ 1
      → length r.written < limit
      → r.taken ≡ h + length r.written + 1
      → EndsAt w₀ (done + length r.written)
      → Stands w₀ (step_of (state w₀ (done + length r.written))).state r.taken tops r.left r.bytes r.fast
      → Halted w₀ done limit h tops r
  dries : r.stop ≡ 2
      → length r.written < limit
      → r.taken ≡ h + length r.written
      → step_of (state w₀ (done + length r.written)) ≡ refused_with 10 (state w₀ (done + length r.written))
      → OnWay w₀ (done + length r.written)
      → Stands w₀ (state w₀ (done + length r.written)) r.taken tops r.left r.bytes r.fast
      → Halted w₀ done limit h tops r

-- it made the engine's moves, and stopped as the engine does
pub record IsRun (w₀ : Walk) (done limit h : ℕ) (tops : List ℕ) (r : FastRan) : Type 0 where
  pub more : (prior : List ℕ)
      → Moved step_of w₀ done prior
      → Moved step_of w₀ (done + length r.written) (prior ++ r.written)
  pub halted : Halted w₀ done limit h tops r

-- ---- one call of a stretch
-- the state after one call more
next_state : (w₀ : Walk) (j : ℕ) → state w₀ (j + 1) ≡ (step_of (state w₀ j)).state
unfolding after
next_state w₀ j = ap (λ (i : ℕ). after step_of w₀ i) (add-one j)

module _ (w₀ : Walk) (tops : List ℕ) (done h : ℕ) where
  -- nothing more is written
  none_more : done ≡ done + 0
  none_more = omega arith

  none_written : (prior : List ℕ) → Moved step_of w₀ done prior → Moved step_of w₀ (done + 0) (prior ++ [])
  none_written prior m =
      subst (λ (i : ℕ). Moved step_of w₀ i (prior ++ [])) none_more (subst (Moved step_of w₀ done) (sym (append-nil prior)) m)

  -- no call
  begins : (f : Fast) (left bytes : List ℕ)
      → OnWay w₀ done
      → Stands w₀ (state w₀ done) h tops left bytes f
      → IsRun w₀ done 0 h tops (record { written = []; taken = h; stop = 0; fast = f; left = left; bytes = bytes })
  begins f left bytes way st =
      record {
        more = none_written;
        halted =
            full refl refl (omega arith) (subst (OnWay w₀) none_more way)
            (subst (λ (i : ℕ). Stands w₀ (state w₀ i) h tops left bytes f) none_more st);
      }

  -- one that moves, and the stretch after it
  abbrev then : ℕ → FastRan → FastRan
  then b r = record {
    written = b ∷ r.written;
    taken = r.taken;
    stop = r.stop;
    fast = r.fast;
    left = r.left;
    bytes = r.bytes;
  }

  moves_first : (limit b : ℕ) (r : FastRan) (ch : Change) (notch : ℕ)
      → (step_of (state w₀ done)).answer ≡ given (moved ch notch)
      → b ≡ move_byte ch.digit ch.down
      → IsRun w₀ (done + 1) limit (h + 1) tops r
      → IsRun w₀ done (suc limit) h tops (then b r)
  moves_first limit b r ch notch says byte s =
      record {
        more = λ prior m.
            subst (λ (j : ℕ). Moved step_of w₀ j (prior ++ (b ∷ r.written))) i
            (subst (Moved step_of w₀ (done + 1 + length r.written)) (append_assoc prior (b ∷ []) r.written)
            (s.more (prior ++ (b ∷ [])) (moved_more step_of w₀ done prior ch notch b m says byte)));
        halted = by s.halted;
      }
    where
      i : done + 1 + length r.written ≡ done + suc (length r.written)
      i = omega arith

      by : Halted w₀ (done + 1) limit (h + 1) tops r → Halted w₀ done (suc limit) h tops (then b r)
      by (full z n t way st) =
          full z (ap suc n) (omega arith) (subst (OnWay w₀) i way)
          (subst (λ (j : ℕ). Stands w₀ (state w₀ j) r.taken tops r.left r.bytes r.fast) i st)
      by (ends z n t e st) =
          ends z (omega arith) (omega arith) (subst (EndsAt w₀) i e)
          (subst (λ (j : ℕ). Stands w₀ (step_of (state w₀ j)).state r.taken tops r.left r.bytes r.fast) i st)
      by (dries z n t e way st) =
          dries z (omega arith) (omega arith) (subst (λ (j : ℕ). step_of (state w₀ j) ≡ refused_with 10 (state w₀ j)) i e)
          (subst (OnWay w₀) i way)
          (subst (λ (j : ℕ). Stands w₀ (state w₀ j) r.taken tops r.left r.bytes r.fast) i st)

  module _ (way : OnWay w₀ done) (ranged : in_range (state w₀ done) ≡ true) (same : survey (state w₀ done) ≡ survey w₀) where
    -- the way goes on after a move
    way_on : (step_of (state w₀ done)).state.ended ≡ false
        → (step_of (state w₀ done)).state.moves ≡ (state w₀ done).moves + 1
        → OnWay w₀ (done + 1)
    way_on on made =
        let now = next_state w₀ done in
        let count : (step_of (state w₀ done)).state.moves ≡ w₀.moves + (done + 1) = let m = way.moves in made ∙ omega arith in
        let long = ap size same in
        record {
          moves = ap (λ (w : Walk). w.moves) now ∙ count;
          going = ap (λ (w : Walk). w.ended) now ∙ on;
          arrays = subst Arrays (sym now) (arrays_kept (state w₀ done) way.arrays ranged);
          ranged = λ less. ap in_range now ∙ range_kept (state w₀ done) way.arrays ranged (omega arith);
        }

    -- a call r, and the stretch after it where it moves
    goes_on : (limit : ℕ) (r : Called) (rest : FastRan)
        → Answered w₀ (state w₀ done) h tops r
        → (OnWay w₀ (done + 1)
        → Stands w₀ (state w₀ (done + 1)) (h + 1) tops r.left r.bytes r.fast
        → IsRun w₀ (done + 1) limit (h + 1) tops rest)
        → IsRun w₀ done (suc limit) h tops (fast_then h r rest)
    goes_on limit r rest (calls.moves z ch notch says byte on made st) next =
        rw (ne_eqb r.kind 2 (λ e. absurd (omega arith)), ne_eqb r.kind 1 (λ e. absurd (omega arith)))
        (moves_first limit r.byte rest ch notch says byte
        (next (way_on on made)
        (subst (λ (w : Walk). Stands w₀ w (h + 1) tops r.left r.bytes r.fast) (sym (next_state w₀ done)) st)))
    goes_on limit r rest (calls.ends z says over made st) next =
        let at : EndsAt w₀ done =
        record {
          answers = says;
          over = over;
          moves = made ∙ way.moves;
          arrays = arrays_kept (state w₀ done) way.arrays ranged;
        } in
        rw (ne_eqb r.kind 2 (λ e. absurd (omega arith)), eq-eqb r.kind 1 z)
        (record {
          more = none_written;
          halted =
              ends refl (omega arith) (omega arith) (subst (EndsAt w₀) none_more at)
              (subst (λ (j : ℕ). Stands w₀ (step_of (state w₀ j)).state (h + 1) tops r.left r.bytes r.fast) none_more
              st);
        })
    goes_on limit r rest (calls.dries z says st) next =
        rw (eq-eqb r.kind 2 z)
        (record {
          more = none_written;
          halted =
              dries refl (omega arith) (omega arith)
              (subst (λ (j : ℕ). step_of (state w₀ j) ≡ refused_with 10 (state w₀ j)) none_more says)
              (subst (OnWay w₀) none_more way)
              (subst (λ (j : ℕ). Stands w₀ (state w₀ j) h tops r.left r.bytes r.fast) none_more st);
        })

-- ---- a stretch
pub stretch_is_the_run : (w₀ : Walk) (tops : List ℕ) (last c : ℕ)
    → TopsOf (moving_radices w₀) tops
    → last ≡ w₀.directed.moving.count + 1
    → c ≡ w₀.capacity
    → (limit done h : ℕ) (f : Fast) (left bytes : List ℕ)
    → OnWay w₀ done
    → w₀.moves + done + limit ≤ size (survey w₀)
    → h + limit ≤ 1024
    → Stands w₀ (state w₀ done) h tops left bytes f
    → IsRun w₀ done limit h tops (fast_run tops last c limit h f left bytes)
unfolding fast_run
stretch_is_the_run w₀ tops last c t l e zero done h f left bytes way more room st = begins w₀ tops done h f left bytes way st
stretch_is_the_run w₀ tops last c t l e (suc limit) done h f left bytes way more room st =
    let r = fast_call tops last c h f left bytes in
    let ranged = way.ranged (omega arith) in
    goes_on w₀ tops done h way ranged (same_survey w₀ (state w₀ done) h tops left bytes f st) limit r
    (fast_run tops last c limit (h + 1) r.fast r.left r.bytes)
    (call_answers w₀ (state w₀ done) h last c tops left bytes f t ranged way.arrays way.going st (omega arith) l e)
    (λ way' st'.
    stretch_is_the_run w₀ tops last c t l e limit (done + 1) (h + 1) r.fast r.left r.bytes way' (omega arith)
    (omega arith)
    st')

-- ---- the numbers of a state that stands on the lists
-- what the guard of the code asks of a state in range
pub record Bounded (last : ℕ) (f : Fast) : Type 0 where
  pub from_one : 1 ≤ f.place
  pub to_last : f.place ≤ last
  pub most : last ≤ 49
  pub small : f.steps ≤ 2 ^ 63
  pub rest_long : length f.rest ≡ 256
  pub queue_long : length f.queue ≡ 1056

steps_most : (j : ℕ) (ended : Bool) → step_limit j ended ≤ 2 * j + 2
steps_most j true = omega arith
steps_most j false = omega arith

pub stands_bounded : (w₀ w : Walk) (h : ℕ) (tops left bytes : List ℕ) (f : Fast)
    → in_range w ≡ true
    → Arrays w
    → Stands w₀ w h tops left bytes f
    → Bounded (w₀.directed.moving.count + 1) f
stands_bounded w₀ w h tops left bytes f ranged a st =
    let s = range_says w ranged in
    let here = (producer_says (moving_radices w) w.capacity w.producer s.ahead).at in
    let n = counted w₀ w h tops left bytes f st s in
    let few = few_moving w₀ w h tops left bytes f st s a in
    let same = ap length (same_radices w₀ w h tops left bytes f st) in
    let place = st.ahead.place_is in
    let steps = st.ahead.steps_is in
    let most = s.steps in
    let limit = steps_most w.moves w.ended in
    let rank = s.rank in
    let large = (survey_openable w s).survey.limit in
    record {
      from_one = omega arith;
      to_last = omega arith;
      most = omega arith;
      small = omega arith;
      rest_long = st.ahead.rest_long;
      queue_long = st.ahead.queue_long;
    }

-- ---- a fresh start of the queue
-- the entries from place h on come to the front of a list that holds 0 after them, and removals are counted from 0 again
pub stands_again : (w₀ w : Walk) (h : ℕ) (tops left bytes : List ℕ) (f : Fast) (queue' : List ℕ)
    → Stands w₀ w h tops left bytes f
    → h + 32 ≤ 1056
    → ((x : ℕ) → x < 32 → get_or queue' x 0 ≡ get_or f.queue (h + x) 0)
    → ((x : ℕ) → 32 ≤ x → get_or queue' x 0 ≡ 0)
    → length queue' ≡ 1056
    → Stands w₀ w 0 tops left bytes
    (record { rest = f.rest; queue = queue'; place = f.place; tail = f.tail - h; steps = f.steps })
stands_again w₀ w h tops left bytes f queue' st room front clear long =
    let a = st.ahead in
    let tail = a.tail_is in
    record {
      radices = st.radices;
      n = st.n;
      moving = st.moving;
      capacity = st.capacity;
      ahead =
          record {
            counts = a.counts;
            others = a.others;
            place_is = a.place_is;
            place_small = a.place_small;
            held = a.held;
            tail_is = omega arith;
            steps_is = a.steps_is;
            entries = λ x l.
                let z : x ≡ 0 + x = omega arith in a.entries x l ∙ sym (front x l) ∙ ap (λ (j : ℕ). get_or queue' j 0) z;
            clear = λ x past. let z : 0 + x ≡ x = omega arith in ap (λ (j : ℕ). get_or queue' j 0) z ∙ clear x past;
            rest_long = a.rest_long;
            queue_long = long;
            counter_long = a.counter_long;
            entries_long = a.entries_long;
          };
      notches = st.notches;
    }
