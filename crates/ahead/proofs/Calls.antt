-- The stretches of a run, and the whole of it, over plain lists, numbers and states. Assumes nothing.
use Prim.Native.Nat.{ℕ, ◌+◌, ◌-◌, ◌^◌, ◌≤◌, ◌<◌}
use native.Mathlib.Decide.{dec_lt, ℕ_discrete}
use native.Mathlib.Omega.{arith}
use mathlib.Core.Path.{◌≡◌, refl, sym, ap, ap₂, subst, ◌∙◌}
use mathlib.Core.Bool.{Bool, true, false, cond, not, ◌&&◌, ◌||◌, and-eq-true_iff}
use mathlib.Core.List.{List, [], ◌++◌}
use borrow.Author.Tests.{lt-ltb, le-ltb, le-leb, eq-eqb, ne_eqb, ltb-true, eqb-true}
use lib.Dec.{eqb, ltb}
use lib.ListN.{length, get_or, take, drop, replicate, length-replicate, length-drop, get_or-replicate, get_or-eq_default}
use lib.Seq.{get_or-take, get_or-drop, length-take-le, get_or-append-add}
use Rattle.gray_theory.specs.Answers.{Answer, given}
use Rattle.gray_theory.specs.Arrays.{filled}
use Rattle.gray_theory.specs.Bools.{impossible}
use Rattle.gray_theory.specs.Calls.{size_call}
use Rattle.gray_theory.proofs.Filled.{get_d_filled, length-filled}
use Rattle.gray_theory.specs.Places.{placed}
use Rattle.gray_theory.proofs.Places.{placed-none, placed-append, length-placed}
use Rattle.gray_theory.specs.Radices.{size}
use Rattle.gray_theory.proofs.Refusals.{survey_refused, survey-size}
use Rattle.gray_theory.specs.Engines.{Event, Handed, after, refused_with}
use Rattle.gray_theory.specs.RunCalls.{Stop, nothing, end, refusal, Outcome, Running}
use Rattle.gray_theory.proofs.SingleCalls.{no_moves-change_nothing}
use Rattle.gray_theory.specs.RunLaws.{Moved}
use Rattle.gray_theory.proofs.RunLaws.{moved_none, all_made, ends_there, refused_there, run-made_by}
use Rattle.std.specs.Prelude.{Option, None, Some, is_some, Result, Ok, Err, min}
use Rattle.gray.specs.Enums.{refusal_number, answer_as}
use Rattle.gray.specs.declared.Refusal.{Refusal}
use Rattle.ahead_theory.specs.States.{Walk, survey, moving_radices, in_range, Arrays}
use Rattle.ahead_theory.specs.Calls.{step_of, run_of}
use Rattle.ahead_theory.specs.Events.{state}
use Rattle.ahead_theory.proofs.InRange.{range_says, moving_known, survey_openable, moving_radices_most, producer_says}
use Rattle.ahead_theory.proofs.Kept.{past_the_end}
use Rattle.ahead_theory.specs.Locals.{Fast, FastRan, fast_run, TopsOf, Stands}
use Rattle.ahead_theory.proofs.LocalCalls.{numbered}
use Rattle.ahead_theory.proofs.LocalRuns as runs
use Rattle.ahead_theory.proofs.LocalRuns.{OnWay, EndsAt, Halted, IsRun, stretch_is_the_run, stands_bounded, stands_again}
use Rattle.stretch.specs.declared.Stage.{Stage}
use Rattle.std.specs.Option.{option_eq}
use Rattle.stretch.specs.declared.Stop as stops
use Rattle.stretch.specs.declared.Stop.TheVariants.{End, Dry, Misfit}
use Rattle.stretch.specs.contracts.StopPartialEq.TheImpl.{eq-value as stop_eq}
use Rattle.stretch.specs.declared.Stretch.{Stretch}
use Rattle.stretch.specs.Stages.{stop_number, Stretched, stretch_as, ran_into, calls_by, from_oldest, fits_for, stretch_by}
use Rattle.ahead.specs.Stretches as calls
use Rattle.ahead.specs.Stretches.{Wide, Loaded, fast_from, Unloads, Unloadable, Callable, CallsHalted, Calls, Room, outcome_of, stop_by}
use Rattle.ahead.proofs.Ranges.{not_open}
use Rattle.ahead.proofs.Steps.{already_over}

-- ---- the calls that a stretch makes of those that are left
record Part (left r : ℕ) : Type 0 where
  most : r ≤ 1024
  within : r ≤ left
  some : 0 < left → 0 < r

part : (left r : ℕ) → r ≡ min left 1024 → Part left r
part left r e = record { most = omega arith; within = omega arith; some = λ h. omega arith }

-- ---- the queue of a stretch
past-filled : (l : List ℕ) (x : ℕ) → length l ≡ 32 → 32 ≤ x → get_or (filled 1056 0 l) x 0 ≡ 0
past-filled l x long past =
    let e : x ≡ length l + (x - 32) = omega arith in
    ap (λ j. get_or (filled 1056 0 l) j 0) e
    ∙ get_or-append-add l (replicate (1056 - length l) 0) (x - 32) 0
    ∙ zeros (1056 - length l) (x - 32)
  where
    zeros : (n i : ℕ) → ◌≡◌ {A = ℕ} (get_or (replicate n 0) i 0) 0
    zeros n i =
        elim (dec_lt i n) [
          | yes h ↦ get_or-replicate n i 0 0 h
          | no h ↦ let len = length-replicate {A = ℕ} n 0 in get_or-eq_default (replicate n 0) 0 (omega arith)
        ]

-- it begins with its oldest entry again
again : (w₀ w : Walk) (h : ℕ) (tops left bytes : List ℕ) (f : Fast)
    → h ≤ 1024
    → Stands w₀ w h tops left bytes f
    → Stands w₀ w 0 tops left bytes
    (fast_from f.rest (take 32 (drop h f.queue)) (record { place = f.place; tail = f.tail - h; steps = f.steps }))
again w₀ w h tops left bytes f room s =
    stands_again w₀ w h tops left bytes f (filled 1056 0 entries) s (omega arith)
    (λ x less.
    get_d_filled 1056 0 entries x 0 (let n = long in omega arith) ∙ get_or-take 32 (drop h f.queue) x 0 less ∙ get_or-drop h f.queue x 0)
    (λ x past. past-filled entries x long past)
    (length-filled 1056 0 entries (let n = long in omega arith))
  where
    entries : List ℕ
    entries = take 32 (drop h f.queue)

    long : length entries ≡ 32
    long = let q = s.ahead.queue_long in length-take-le 32 (drop h f.queue) (simp length-drop (omega arith))

-- ---- one stretch
-- what it asks for
record Ready (w₀ : Walk) (done most : ℕ) (tops rest left bytes entries : List ℕ) (at : Stage) (out : List ℕ) : Type 0 where
  tops_are : TopsOf (moving_radices w₀) tops
  ranged : in_range w₀ ≡ true
  way : OnWay w₀ done
  some : 0 < most
  more : w₀.moves + done + most ≤ size (survey w₀)
  stands : Stands w₀ (state w₀ done) 0 tops left bytes (fast_from rest entries at)
  room : most ≤ 1024
  fits : done + most ≤ length out

-- how it stopped, and the state that its arrays then stand for
data Stopped (w₀ : Walk) (done most : ℕ) (tops rest left bytes : List ℕ) (r : Stretch) : Type 0 where
  full : stop_number r.stop ≡ 0
      → r.made ≡ most
      → OnWay w₀ (done + r.made)
      → Stands w₀ (state w₀ (done + r.made)) 0 tops left bytes (fast_from rest r.entries r.at)
      → Stopped w₀ done most tops rest left bytes r
  ends : stop_number r.stop ≡ 1
      → r.made < most
      → EndsAt w₀ (done + r.made)
      → Stands w₀ (step_of (state w₀ (done + r.made))).state 0 tops left bytes (fast_from rest r.entries r.at)
      → Stopped w₀ done most tops rest left bytes r
  dries : stop_number r.stop ≡ 2
      → r.made < most
      → step_of (state w₀ (done + r.made)) ≡ refused_with 10 (state w₀ (done + r.made))
      → OnWay w₀ (done + r.made)
      → Stands w₀ (state w₀ (done + r.made)) 0 tops left bytes (fast_from rest r.entries r.at)
      → Stopped w₀ done most tops rest left bytes r

record Made (w₀ : Walk) (done most : ℕ) (tops rest left bytes before after : List ℕ) (r : Stretch) : Type 0 where
  written : List ℕ
  count : length written ≡ r.made
  more : (prior : List ℕ) → Moved step_of w₀ done prior → Moved step_of w₀ (done + r.made) (prior ++ written)
  leaves : after ≡ placed done written before
  halted : Stopped w₀ done most tops rest left bytes r

module _
    (w₀ : Walk) (done most : ℕ) (tops rest left bytes entries : List ℕ) (at : Stage) (before : List ℕ)
    (ok : Ready w₀ done most tops rest left bytes entries at before) (last c : ℕ) (last_is : last ≡ w₀.directed.moving.count + 1)
    (c-is : c ≡ w₀.capacity)
  where
    -- what the stretch is asked for is a run's
    fits : fits_for last c most tops rest left bytes at done before ≡ true
    unfolding fits_for
    fits =
        let more = ok.more in
        let some = ok.some in
        let b = stands_bounded w₀ (state w₀ done) 0 tops left bytes (fast_from rest entries at) (ok.way.ranged (omega arith)) ok.way.arrays ok.stands in
        let place = b.to_last in
        let highest = b.most in
        let steps = b.small in
        let sound = survey_openable w₀ (range_says w₀ ok.ranged) in
        let small = sound.capacity in
        let room = ok.room in
        let holds = ok.fits in
        rw (
          le-ltb (length before) done (omega arith),
          eq-eqb (length tops) 256 ok.tops_are.long,
          eq-eqb (length rest) 256 b.rest_long,
          eq-eqb (length left) 256 ok.stands.notches.left_long,
          eq-eqb (length bytes) 256 ok.stands.notches.bytes_long,
          le-leb 1 last (omega arith),
          le-leb last 255 (omega arith),
          le-leb at.place last (omega arith),
          le-leb c 32 (omega arith),
          le-leb most 1024 (omega arith),
          le-leb at.steps (2 ^ 63) (omega arith),
          le-leb most (length before - done) (omega arith),
        )

    abbrev made_by : FastRan
    made_by = fast_run tops last c most 0 (fast_from rest entries at) left bytes

    is_run : IsRun w₀ done most 0 tops made_by
    is_run =
        let room = ok.room in
        stretch_is_the_run w₀ tops last c ok.tops_are last_is c-is most done 0 (fast_from rest entries at) left bytes ok.way ok.more
        (omega arith)
        ok.stands

    module _
        (rest' left' bytes' out : List ℕ) (r : Stretch)
        (says : stretch_as r rest' left' bytes' out ≡ stretch_by last c most tops rest left bytes entries at done before)
      where
        is : stretch_as r rest' left' bytes' out ≡ from_oldest (ran_into made_by done before)
        unfolding stretch_by calls_by
        is = says ∙ rw fits

        made_is : r.made ≡ length made_by.written
        made_is = ap (λ (x : Stretched). x.made) is

        stop_is : stop_number r.stop ≡ made_by.stop
        stop_is = ap (λ (x : Stretched). x.stop) is

        -- what stands on the arrays that the run leaves stands on those that the code leaves
        there : (w : Walk)
            → made_by.taken ≤ 1024
            → Stands w₀ w made_by.taken tops made_by.left made_by.bytes made_by.fast
            → Stands w₀ w 0 tops left' bytes' (fast_from rest' r.entries r.at)
        there w room st =
            subst
            (λ (x : Stretched).
            Stands w₀ w 0 tops x.left x.bytes
            (fast_from x.rest x.entries (record { place = x.place; tail = x.tail; steps = x.steps })))
            (sym is)
            (again w₀ w made_by.taken tops made_by.left made_by.bytes made_by.fast room st)

        stopped : Halted w₀ done most 0 tops made_by → Stopped w₀ done most tops rest' left' bytes' r
        stopped (runs.full z m t o st) =
            let room = ok.room in
            full (stop_is ∙ z) (made_is ∙ m) (subst (λ (k : ℕ). OnWay w₀ (done + k)) (sym made_is) o)
            (subst (λ (k : ℕ). Stands w₀ (state w₀ (done + k)) 0 tops left' bytes' (fast_from rest' r.entries r.at)) (sym made_is)
            (there (state w₀ (done + length made_by.written)) (omega arith) st))
        stopped (runs.ends z m t e st) =
            let room = ok.room in
            let k = made_is in
            ends (stop_is ∙ z) (omega arith) (subst (λ (k : ℕ). EndsAt w₀ (done + k)) (sym made_is) e)
            (subst (λ (k : ℕ). Stands w₀ (step_of (state w₀ (done + k))).state 0 tops left' bytes' (fast_from rest' r.entries r.at)) (sym made_is)
            (there (step_of (state w₀ (done + length made_by.written))).state (omega arith) st))
        stopped (runs.dries z m t an o st) =
            let room = ok.room in
            let k = made_is in
            dries (stop_is ∙ z) (omega arith)
            (subst (λ (k : ℕ). step_of (state w₀ (done + k)) ≡ refused_with 10 (state w₀ (done + k))) (sym made_is) an)
            (subst (λ (k : ℕ). OnWay w₀ (done + k)) (sym made_is) o)
            (subst (λ (k : ℕ). Stands w₀ (state w₀ (done + k)) 0 tops left' bytes' (fast_from rest' r.entries r.at)) (sym made_is)
            (there (state w₀ (done + length made_by.written)) (omega arith) st))

        made_all : Made w₀ done most tops rest' left' bytes' before out r
        made_all = record {
          written = made_by.written;
          count = sym made_is;
          more = λ prior m.
              subst (λ (k : ℕ). Moved step_of w₀ (done + k) (prior ++ made_by.written)) (sym made_is) (is_run.more prior m);
          leaves = ap (λ (x : Stretched). x.out) is;
          halted = stopped is_run.halted;
        }

-- ---- all stretches
-- how the calls stand after `done` moves: they go on, the last one ended the walk, or it was dry
pub data CallsAt (w₀ : Walk) (limit : ℕ) (tops rest left bytes entries : List ℕ) (at : Stage) (done stop : ℕ) : Type 0 where
  on_way : stop ≡ 0
      → OnWay w₀ done
      → Stands w₀ (state w₀ done) 0 tops left bytes (fast_from rest entries at)
      → CallsAt w₀ limit tops rest left bytes entries at done stop
  at_end : stop ≡ 1
      → done < limit
      → EndsAt w₀ done
      → Stands w₀ (step_of (state w₀ done)).state 0 tops left bytes (fast_from rest entries at)
      → CallsAt w₀ limit tops rest left bytes entries at done stop
  is_dry : stop ≡ 2
      → done < limit
      → step_of (state w₀ done) ≡ refused_with 10 (state w₀ done)
      → OnWay w₀ done
      → Stands w₀ (state w₀ done) 0 tops left bytes (fast_from rest entries at)
      → CallsAt w₀ limit tops rest left bytes entries at done stop

pub record Calling (w₀ : Walk) (limit : ℕ) (before out tops rest left bytes entries : List ℕ) (at : Stage) (done stop : ℕ) : Type 0 where
  pub ready : Callable w₀ limit before
  pub room : Arrays w₀
  pub within : done ≤ limit
  pub tops_are : TopsOf (moving_radices w₀) tops
  pub written : List ℕ
  pub moved_by : Moved step_of w₀ done written
  pub leaves : out ≡ placed 0 written before
  pub here : CallsAt w₀ limit tops rest left bytes entries at done stop

-- the tests of what stopped the calls
pub stop_none : (stop : Option stops.Stop) (none : Bool) → is_some stop ≡ not none → none ≡ eqb (stop_number stop) 0
stop_none None true e = refl
stop_none None false e = e
stop_none (Some End) true e = e
stop_none (Some End) false e = refl
stop_none (Some Dry) true e = e
stop_none (Some Dry) false e = refl
stop_none (Some Misfit) true e = e
stop_none (Some Misfit) false e = refl

pub stop_end : (stop : Option stops.Stop) → option_eq stop_eq.it stop (Some End) ≡ eqb (stop_number stop) 1
stop_end None = refl
stop_end (Some End) = refl
stop_end (Some Dry) = refl
stop_end (Some Misfit) = refl

-- what is left to do
abbrev pub calls_left : ℕ → ℕ → ℕ → ℕ
calls_left limit done stop = cond (eqb stop 0) (limit - done) 0

module _ (w₀ : Walk) (limit : ℕ) (before : List ℕ) where
  small_size : Callable w₀ limit before → size (survey w₀) ≤ 2 ^ 62
  small_size b = let sound = survey_openable w₀ (range_says w₀ b.ranged) in omega arith

  pub calls_begun : Callable w₀ limit before
      → Arrays w₀
      → (tops rest left bytes : List ℕ) (place tail : ℕ)
      → Loaded w₀ tops rest left bytes
      → place ≡ w₀.producer.place
      → tail ≡ w₀.producer.queued
      → Calling w₀ limit before before tops rest left bytes w₀.producer.queue
      (record { place = place; tail = tail; steps = w₀.producer.steps })
      0
      0
  unfolding after
  calls_begun b a tops rest left bytes place tail ld p q =
      let s = range_says w₀ b.ranged in
      let sound = survey_openable w₀ s in
      let range = producer_says (moving_radices w₀) w₀.capacity w₀.producer s.ahead in
      let most = moving_radices_most w₀ s a.directed.radices in
      let here = range.at in
      let held = range.held in
      let ql = a.queue in
      record {
        ready = b;
        room = a;
        within = omega arith;
        tops_are = ld.tops_are;
        written = [];
        moved_by = moved_none step_of w₀;
        leaves = sym (placed-none 0 before);
        here =
            on_way refl (record { moves = omega arith; going = b.going; arrays = a; ranged = λ less. b.ranged })
            (record {
              radices = refl;
              n = refl;
              moving = refl;
              capacity = refl;
              ahead =
                  record {
                    counts = ld.counts;
                    others = λ i h. refl;
                    place_is = p;
                    place_small = omega arith;
                    held = omega arith;
                    tail_is = omega arith;
                    steps_is = refl;
                    entries = λ x less.
                        let z : x ≡ 0 + x = omega arith in
                        sym (get_d_filled 1056 0 w₀.producer.queue x 0 (omega arith))
                        ∙ ap (λ j. get_or (filled 1056 0 w₀.producer.queue) j 0) z;
                    clear = λ x past.
                        let z : 0 + x ≡ x = omega arith in
                        ap (λ j. get_or (filled 1056 0 w₀.producer.queue) j 0) z ∙ past-filled w₀.producer.queue x ql past;
                    rest_long = ld.rest_long;
                    queue_long = length-filled 1056 0 w₀.producer.queue (omega arith);
                    counter_long = a.counter;
                    entries_long = ql;
                  };
              notches = ld.notches;
            });
      }

  module _
      (out tops rest left bytes entries : List ℕ) (at : Stage) (done stop : ℕ)
      (s : Calling w₀ limit before out tops rest left bytes entries at done stop)
    where
      pub calls_long : length out ≡ length before
      calls_long =
          let c = s.moved_by.count in
          let h = s.within in
          let f = s.ready.fits in
          ap length s.leaves ∙ length-placed 0 s.written before (omega arith)

      stands_wide : (w : Walk) → Stands w₀ w 0 tops left bytes (fast_from rest entries at) → Wide tops rest left bytes
      stands_wide w st = record {
        tops_long = s.tops_are.long;
        rest_long = st.ahead.rest_long;
        left_long = st.notches.left_long;
        bytes_long = st.notches.bytes_long;
      }

      pub arrays_wide : Wide tops rest left bytes
      arrays_wide = by s.here
        where
          by : CallsAt w₀ limit tops rest left bytes entries at done stop → Wide tops rest left bytes
          by (on_way z o st) = stands_wide (state w₀ done) st
          by (at_end z m e st) = stands_wide (step_of (state w₀ done)).state st
          by (is_dry z m an o st) = stands_wide (state w₀ done) st

      -- what the arrays are unloaded to
      way_unloads : (stop ≡ 1 → ⊥)
          → OnWay w₀ done
          → Stands w₀ (state w₀ done) 0 tops left bytes (fast_from rest entries at)
          → Unloads w₀ tops rest left bytes entries at done (eqb stop 1) (state w₀ done)
      way_unloads not_one o st = record {
        stands = st;
        arrays = o.arrays;
        moves = o.moves;
        over_is = o.going ∙ sym (ne_eqb stop 1 not_one);
      }

      end_unloads : stop ≡ 1
          → EndsAt w₀ done
          → Stands w₀ (step_of (state w₀ done)).state 0 tops left bytes (fast_from rest entries at)
          → Unloads w₀ tops rest left bytes entries at done (eqb stop 1) (step_of (state w₀ done)).state
      end_unloads one e st = record { stands = st; arrays = e.arrays; moves = e.moves; over_is = e.over ∙ sym (eq-eqb stop 1 one) }

      unloads : CallsAt w₀ limit tops rest left bytes entries at done stop
          → (w : Walk) × Unloads w₀ tops rest left bytes entries at done (eqb stop 1) w
      unloads (on_way z o st) = (state w₀ done, way_unloads (λ e. absurd (omega arith)) o st)
      unloads (at_end z m e st) = ((step_of (state w₀ done)).state, end_unloads z e st)
      unloads (is_dry z m an o st) = (state w₀ done, way_unloads (λ e. absurd (omega arith)) o st)

      going_or_over : Unloadable w₀ tops rest left bytes entries at done (eqb stop 1)
      going_or_over =
          let (w, t) = unloads s.here in
          let r = range_says w₀ s.ready.ranged in
          let n = (moving_known w₀ r).count in
          let few = moving_radices_most w₀ r s.room.directed.radices in
          let m = s.ready.more in
          let z = small_size s.ready in
          let h = s.within in
          let pl = t.stands.ahead.place_is in
          let ps = t.stands.ahead.place_small in
          let tl = t.stands.ahead.tail_is in
          let hd = t.stands.ahead.held in
          record {
            now = w;
            unloads = t;
            wide = arrays_wide;
            numbers = numbered w₀ r s.room;
            counted = n;
            few = omega arith;
            most = r.word.most;
            place_small = omega arith;
            tail_small = omega arith;
            small = omega arith;
          }

      pub unloadable : (over : Bool) → over ≡ eqb stop 1 → Unloadable w₀ tops rest left bytes entries at done over
      unloadable over is = subst (Unloadable w₀ tops rest left bytes entries at done) (sym is) going_or_over

      -- a stretch more
      module _ (none : Bool) (is_none : none ≡ eqb stop 0) (and_none : (ltb done limit && none) ≡ true) where
        goes : (ltb done limit && eqb stop 0) ≡ true
        goes = ap (λ b. ltb done limit && b) (sym is_none) ∙ and_none

        pub less : done < limit
        less = ltb-true done limit ((and-eq-true_iff (ltb done limit) (eqb stop 0)).0 goes).0

        nothing_stopped : stop ≡ 0
        nothing_stopped = eqb-true stop 0 ((and-eq-true_iff (ltb done limit) (eqb stop 0)).0 goes).1

        module _
            (most : ℕ) (cut : most ≡ min (limit - done) 1024) (last c : ℕ) (last_is : last ≡ w₀.directed.moving.count + 1) (c-is : c ≡ w₀.capacity)
            (rest' left' bytes' after' : List ℕ) (r : Stretch)
            (says : stretch_as r rest' left' bytes' after' ≡ stretch_by last c most tops rest left bytes entries at done out)
          where
            p : Part (limit - done) most
            p = part (limit - done) most cut

            stretch_ready : CallsAt w₀ limit tops rest left bytes entries at done stop → Ready w₀ done most tops rest left bytes entries at out
            stretch_ready (at_end z m e st) = let n = nothing_stopped in absurd (omega arith)
            stretch_ready (is_dry z m an o st) = let n = nothing_stopped in absurd (omega arith)
            stretch_ready (on_way z o st) =
                let l = less in
                let m = s.ready.more in
                let f = s.ready.fits in
                let long = calls_long in
                let w = p.within in
                record {
                  tops_are = s.tops_are;
                  ranged = s.ready.ranged;
                  way = o;
                  some = p.some (omega arith);
                  more = omega arith;
                  stands = st;
                  room = p.most;
                  fits = omega arith;
                }

            made : Made w₀ done most tops rest' left' bytes' out after' r
            made =
                made_all w₀ done most tops rest left bytes entries at out (stretch_ready s.here) last c last_is c-is rest' left' bytes' after' r
                says

            -- where it stopped
            here_then : Stopped w₀ done most tops rest' left' bytes' r
                → CallsAt w₀ limit tops rest' left' bytes' r.entries r.at (done + r.made) (stop_number r.stop)
            here_then (full z m o st) = on_way z o st
            here_then (ends z m e st) = let w = p.within in let l = less in at_end z (omega arith) e st
            here_then (dries z m an o st) = let w = p.within in let l = less in is_dry z (omega arith) an o st

            made_most : Stopped w₀ done most tops rest' left' bytes' r → r.made ≤ most
            made_most (full z m o st) = omega arith
            made_most (ends z m e st) = omega arith
            made_most (dries z m an o st) = omega arith

            pub made_within : done + r.made ≤ limit
            made_within = let m = made_most made.halted in let w = p.within in let l = less in omega arith

            pub calls_more : Calling w₀ limit before after' tops rest' left' bytes' r.entries r.at (done + r.made) (stop_number r.stop)
            calls_more =
                let c = s.moved_by.count in
                let e : done ≡ 0 + length s.written = omega arith in
                record {
                  ready = s.ready;
                  room = s.room;
                  within = made_within;
                  tops_are = s.tops_are;
                  written = s.written ++ made.written;
                  moved_by = made.more s.written s.moved_by;
                  leaves =
                      made.leaves
                      ∙ ap₂ (λ (j : ℕ) (y : List ℕ). placed j made.written y) e s.leaves
                      ∙ placed-append 0 s.written made.written before (omega arith);
                  here = here_then made.halted;
                }

            fewer : Stopped w₀ done most tops rest' left' bytes' r → calls_left limit (done + r.made) (stop_number r.stop) < limit - done
            fewer (full z m o st) =
                let l = less in
                let some = p.some (omega arith) in
                let w = p.within in
                rw (eq-eqb (stop_number r.stop) 0 z) (omega arith)
            fewer (ends z m e st) = let l = less in rw (ne_eqb (stop_number r.stop) 0 (λ x. absurd (omega arith))) (omega arith)
            fewer (dries z m an o st) = let l = less in rw (ne_eqb (stop_number r.stop) 0 (λ x. absurd (omega arith))) (omega arith)

            pub calls_fewer : calls_left limit (done + r.made) (stop_number r.stop) < calls_left limit done stop
            calls_fewer = let n = nothing_stopped in rw (eq-eqb stop 0 n) (fewer made.halted)

-- ---- the moves that are left
module _ (w : Walk) (ranged : in_range w ≡ true) (k : ℕ) (same : k ≡ w.directed.n) (o : Result ℕ Refusal) (says : answer_as o ≡ size_call (take k w.directed.radices)) where
  size-says : size_call (survey w) ≡ answer_as o
  size-says = ap (λ (j : ℕ). size_call (take j w.directed.radices)) (sym same) ∙ sym says

  pub room_left : (total : ℕ) → o ≡ Ok total → (w.moves ≤ total) × Room w (total - w.moves)
  room_left total is =
      let (whole, small) = survey-size (survey w) total (size-says ∙ ap answer_as is) in
      let s = range_says w ranged in
      let rank = s.rank in
      (omega arith, record { left = omega arith; some = omega arith; small = omega arith })

  pub room_never : (r : Refusal) → o ≡ Err r → Room w 0
  room_never r is =
      let f = not_open w (survey_refused (survey w) _ (refusal_number r) (size-says ∙ ap answer_as is)) in
      impossible (cc)

-- ---- the call
module _ (w : Walk) (t : ℕ) (before : List ℕ) where
  -- what it hands back, says and leaves
  abbrev handed : Walk → Answer Outcome → List ℕ → Running Walk
  handed v answer out = record { state = v; answer = answer; out = out }

  module _ (ranged : in_range w ≡ true) where
    run_none : t ≡ 0 → handed w (given (record { made = 0; stop = nothing })) before ≡ run_of w t before
    run_none z = sym (ap (λ (k : ℕ). run_of w k before) z ∙ no_moves-change_nothing in_range step_of w before ranged)

    module _ (fits : t ≤ length before) where
      run-over : (t ≡ 0 → ⊥)
          → w.ended ≡ true
          → handed w (given (record { made = 0; stop = end })) before ≡ run_of w t before
      unfolding after
      run-over some over =
          let is = already_over w ranged over in
          run-made_by in_range step_of w t before ranged fits (record { state = (step_of w).state; bytes = []; stop = end }) w 0 before
          (ends_there step_of w 0 t [] (moved_none step_of w) (omega (arith, some)) (ap (λ (h : Handed Walk Event). h.answer) (sym is)))
          (ap (λ (h : Handed Walk Event). h.state) is)
          refl
          (sym (placed-none 0 before))

      -- no call is made, or the first meets an ended walk
      pub run_unmoved : (eqb t 0 || w.ended) ≡ true
          → (a : Answer Outcome)
          → a ≡ outcome_of 0 (cond (eqb t 0) nothing end)
          → handed w a before ≡ run_of w t before
      run_unmoved e a is =
          ap (λ (x : Answer Outcome). handed w x before) is
          ∙ elim (ℕ_discrete t 0) [
            | yes z ↦ ap (λ (b : Bool). handed w (outcome_of 0 (cond b nothing end)) before) (eq-eqb t 0 z) ∙ run_none z
            | no some ↦
                ap (λ (b : Bool). handed w (outcome_of 0 (cond b nothing end)) before) (ne_eqb t 0 some)
                ∙ run-over some (sym (ap (λ (b : Bool). b || w.ended) (ne_eqb t 0 some)) ∙ e)
          ]

      -- ---- after the calls
      module _
          (room limit : ℕ) (left : Room w room) (cut : limit ≡ min t room) (out : List ℕ) (v : Walk) (made stop : ℕ)
          (b : Calls w limit before out v made stop)
        where
          limit_most : limit ≤ t
          limit_most = omega arith

          count_is : made ≡ length b.written
          count_is = sym b.moved_by.count

          says : (stop' : Stop) → stop_by stop made t ≡ stop' → handed v (outcome_of made stop') out ≡ run_of w t before
              → handed v (outcome_of made (stop_by stop made t)) out ≡ run_of w t before
          says stop' is there = ap (λ (x : Stop). handed v (outcome_of made x) out) is ∙ there

          -- every call moved: all that were asked for, or all before j = N
          moved_all : stop ≡ 0
              → made ≡ limit
              → v ≡ state w made
              → v.moves ≡ w.moves + made
              → survey v ≡ survey w
              → handed v (outcome_of made (stop_by stop made t)) out ≡ run_of w t before
          moved_all z m is mo su =
              let not_one : eqb stop 1 ≡ false = ne_eqb stop 1 (λ e. absurd (omega arith)) in
              let not_two : eqb stop 2 ≡ false = ne_eqb stop 2 (λ e. absurd (omega arith)) in
              let l = limit_most in
              elim (dec_lt made t) [
                | yes less ↦
                    let e : limit ≡ room = omega arith in
                    let lf = left.left in
                    let ss = ap size su in
                    let gone = past_the_end v (omega arith) in
                    let there : step_of (state w made) ≡ refused_with 7 (state w made) = subst (λ (x : Walk). step_of x ≡ refused_with 7 x) is gone in
                    says (refusal 7) (rw (not_one, not_two, lt-ltb made t less))
                    (run-made_by in_range step_of w t before ranged fits (record { state = (step_of (state w made)).state; bytes = b.written; stop = refusal 7 }) v made out
                    (refused_there step_of w made t b.written b.moved_by less 7 (ap (λ (h : Handed Walk Event). h.answer) there))
                    (is ∙ sym (ap (λ (h : Handed Walk Event). h.state) there))
                    count_is
                    b.leaves)
                | no all ↦
                    let most : t ≤ made = omega (arith, all) in
                    says nothing (rw (not_one, not_two, le-ltb made t most))
                    (run-made_by in_range step_of w t before ranged fits (record { state = state w made; bytes = b.written; stop = nothing }) v made out
                    (all_made step_of w made t b.written b.moved_by (omega arith))
                    is
                    count_is
                    b.leaves)
              ]

          by : CallsHalted w limit v made stop → handed v (outcome_of made (stop_by stop made t)) out ≡ run_of w t before
          by (calls.full z m is mo su) = moved_all z m is mo su
          by (calls.ends z m an is) =
              let l = limit_most in
              says end (rw (eq-eqb stop 1 z))
              (run-made_by in_range step_of w t before ranged fits (record { state = (step_of (state w made)).state; bytes = b.written; stop = end }) v made out
              (ends_there step_of w made t b.written b.moved_by (omega arith) an)
              is
              count_is
              b.leaves)
          by (calls.dries z m an is) =
              let l = limit_most in
              let not_one : eqb stop 1 ≡ false = ne_eqb stop 1 (λ e. absurd (omega arith)) in
              says (refusal 10) (rw (not_one, eq-eqb stop 2 z))
              (run-made_by in_range step_of w t before ranged fits (record { state = (step_of (state w made)).state; bytes = b.written; stop = refusal 10 }) v made out
              (refused_there step_of w made t b.written b.moved_by (omega arith) 10 (ap (λ (h : Handed Walk Event). h.answer) an))
              (is ∙ sym (ap (λ (h : Handed Walk Event). h.state) an))
              count_is
              b.leaves)

          -- what its calls come to
          pub run_halted : (a : Answer Outcome) → a ≡ outcome_of made (stop_by stop made t) → handed v a out ≡ run_of w t before
          run_halted a is = ap (λ (x : Answer Outcome). handed v x out) is ∙ by b.halted
