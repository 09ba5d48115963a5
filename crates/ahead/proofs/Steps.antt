-- What the code of a call answers on each of its paths, over plain lists, numbers and states. Assumes nothing.
use Prim.Native.Nat.{ℕ, ◌+◌, ◌-◌, ◌≤◌, ◌<◌}
use native.Mathlib.Omega.{arith}
use mathlib.Core.Path.{◌≡◌, sym, ap, ap₂, subst, ◌∙◌}
use mathlib.Core.Bool.{Bool, true, false, cond, ◌&&◌}
use mathlib.Core.List.{List, [], ◌∷◌, ◌++◌}
use borrow.Author.Tests.{lt-ltb, le-ltb, eq-eqb, ne_eqb}
use lib.Dec.{eqb}
use lib.ListN.{length, get_or, set, take, drop, length-map}
use lib.Seq.{length-take-le}
use Rattle.gray_theory.specs.Answers.{given}
use Rattle.gray_theory.specs.DirectedWords.{DirectedWord}
use Rattle.gray_theory.specs.Engines.{Event, moved, ended, refused_with}
use Rattle.digit.specs.Advances.{advanced_from}
use Rattle.digit.proofs.DirectedMoves.{written_is_moved, written_is_named}
use Rattle.digit.specs.declared.Directed.{Directed}
use Rattle.ahead_theory.specs.States.{Producer, Walk, moving_radices, places, open_check, in_range, Arrays}
use Rattle.ahead_theory.specs.Work.{count_at, radix_at, run_out, done, work}
use Rattle.ahead_theory.specs.Calls.{twice, course, removing, dequeued, end_of, move_of, step_by, step_of}
use Rattle.ahead_theory.proofs.InRange.{place_two, producer_says, runs_out, carries_on, appends_one, stays_full, count_grows, Ranged, survey_openable, moving_known, Reached, reached_more}
use Rattle.ahead_theory.proofs.Kept.{goes_faulty, goes_over, goes_dry, goes_removing, removes_last, removes_digit, entry_digit}
use Rattle.ahead.specs.declared.Progress.{Progress}
use Rattle.ahead.specs.Structs.{producer_with}
use Rattle.ahead.specs.Stages.{MovingNumbers, moving_of, Workable, DigitToMove}
use Rattle.ahead.proofs.Ranges.{ranged_known, moving_count, moving_most, moving_radices_lem, moving-survey}

-- ---- work
-- as many radices as numbers
moving_long : (radices numbers : List ℕ) (n count : ℕ) → MovingNumbers numbers n count → length (moving_of radices numbers count) ≡ count
moving_long radices numbers n count ok =
    let many = ok.held in
    let most = ok.most in
    length-map (take count numbers) (λ d. get_or radices (d - 1) 0) ∙ length-take-le count numbers (omega arith)

module _
    (radices numbers : List ℕ) (n count c : ℕ) (counter queue : List ℕ) (at : Progress)
    (ok : Workable radices numbers n count c counter queue at)
  where
    abbrev ms : List ℕ
    ms = moving_of radices numbers count

    ms_long : length ms ≡ count
    ms_long = moving_long radices numbers n count ok.survey.moving

    pub radix_pos : (m : ℕ) → m ≡ get_or (places ms) (at.place - 1) 0 → 1 ≤ m
    radix_pos m e =
        let long = ms_long in
        let two = place_two ms (at.place - 1) ok.survey.two (omega arith) in
        omega arith

    -- the code reads the count at the place made a wide number, and asks for the radix there
    abbrev before : Producer
    before = producer_with counter queue at

    abbrev after : Producer
    after = work ms c before

    module _ (place : ℕ) (wide : place ≡ at.place) where
      abbrev here : ℕ
      here = get_or counter (place - 1) 0

      out_test : (eqb at.place (count + 1) && eqb here 1) ≡ run_out ms before
      out_test = rw (wide, ms_long)

      pub run_out_idle : (eqb at.place (count + 1) && eqb here 1) ≡ true → before ≡ after
      unfolding done
      run_out_idle out = sym (ap (λ k. done k before) (runs_out ms c before (sym out_test ∙ out)))

      module _
          (m : ℕ)
          (goes_on : (eqb at.place (count + 1) && eqb here 1) ≡ false)
          (radix : m ≡ get_or (places ms) (at.place - 1) 0)
        where
          top_test : eqb here (m - 1) ≡ eqb (count_at before) (radix_at ms before - 1)
          top_test = rw (wide, radix)

          pub carried : here ≡ m - 1
              → producer_with (set counter (place - 1) 0) queue
              (record { place = at.place + 1; queued = at.queued; steps = at.steps + 1 })
              ≡ after
          unfolding done
          carried top =
              let now = carries_on ms c before (sym out_test ∙ goes_on) (sym top_test ∙ eq-eqb here (m - 1) top) in
              rw wide (sym (ap (λ k. done k before) now))

          module _ (more : here ≡ m - 1 → ⊥) where
            not_top : eqb (count_at before) (radix_at ms before - 1) ≡ false
            not_top = sym top_test ∙ ne_eqb here (m - 1) more

            pub count_room : here + 1 < m
            count_room =
                let s = producer_says ms c before ok.ranged in
                rw (wide, radix) (count_grows ms c before ok.survey.two s not_top)

            pub appended : (queued : ℕ)
                → queued ≡ at.queued
                → at.queued < c
                → producer_with (set counter (place - 1) (here + 1)) (set queue queued at.place)
                (record { place = 1; queued = at.queued + 1; steps = at.steps + 1 })
                ≡ after
            unfolding done
            appended queued same free =
                let now = appends_one ms c before (sym out_test ∙ goes_on) not_top (lt-ltb at.queued c free) in
                rw (wide, same) (sym (ap (λ k. done k before) now))

            pub full_idle : c ≤ at.queued → before ≡ after
            unfolding done
            full_idle full =
                let now = stays_full ms c before (sym out_test ∙ goes_on) not_top (le-ltb at.queued c full) in
                sym (ap (λ k. done k before) now)

-- ---- advance
-- the digit stands in range, so that the call moves it
module _ (w : Walk) (k : ℕ) (ok : DigitToMove w k) (place : ℕ) (wide : place ≡ k) where
  abbrev d : DirectedWord
  d = w.directed

  pub digit_moved_lem : (to : Directed) (p : Producer)
      → to ≡ advanced_from (get_or d.radices (place - 1) 0) (get_or d.word (place - 1) 0) (get_or d.downs (place - 1) false)
      → record {
        state =
            record {
              directed =
                  record {
                    radices = d.radices;
                    n = d.n;
                    moving = d.moving;
                    word = set d.word (place - 1) to.digit;
                    downs = set d.downs (place - 1) to.down;
                  };
              producer = p;
              capacity = w.capacity;
              moves = w.moves + 1;
              ended = false;
            };
        answer = given (moved (record { digit = k; down = get_or d.downs (place - 1) false }) to.digit);
      }
      ≡ move_of w k p
  unfolding move_of
  digit_moved_lem to p e =
      let low = ok.digit.from_one in
      let high = ok.digit.digit in
      let number : place - 1 + 1 ≡ k = omega arith in
      let two : 2 ≤ get_or d.radices (place - 1) 0 = rw wide ok.digit.two in
      ap₂
      (λ (v : DirectedWord) (o : Event).
      record { state = record { directed = v; producer = p; capacity = w.capacity; moves = w.moves + 1; ended = false }; answer = given o })
      (written_is_moved (open_check w.capacity) d ok.word ok.rooms (place - 1) k number (omega arith) two to e)
      (written_is_named (open_check w.capacity) d ok.word ok.rooms (place - 1) k number (omega arith) two to e)

-- ---- step
-- a call whose state is out of range, or has ended
module _ (w : Walk) where
  pub refused_faulty : in_range w ≡ false → refused_with 7 w ≡ step_of w
  unfolding step_of
  refused_faulty e = sym (ap (step_by w) (goes_faulty w e))

  pub already_over : in_range w ≡ true → w.ended ≡ true → record { state = w; answer = given ended } ≡ step_of w
  unfolding step_of
  already_over ranged e = sym (ap (step_by w) (goes_over w ranged e))

-- what the work steps of a call ask for
at_most_two : (ended : Bool) → cond ended 2 0 ≤ 2
at_most_two true = omega arith
at_most_two false = omega arith

module _ (w : Walk) (s : Ranged w) (a : Arrays w) where
  pub reached_by : (x : ℕ) (p q : Producer) → Reached w x p → q ≡ work (moving_radices w) w.capacity p → Reached w (x + 1) q
  reached_by x p q r e = subst (Reached w (x + 1)) (sym e) (reached_more w s a.directed.radices x p r)

  module _ (x : ℕ) (counter queue : List ℕ) (at : Progress) (r : Reached w x (producer_with counter queue at)) where
    pub workable : x ≤ 2 → Workable w.directed.radices w.directed.moving.digits w.directed.n w.directed.moving.count w.capacity counter queue at
    workable h =
        let sound = survey_openable w s in
        let known = ranged_known w s in
        let many = moving_count w.directed a.directed known in
        let here = (producer_says (moving_radices w) w.capacity (producer_with counter queue at) r.ahead).at in
        let two = at_most_two w.ended in
        record {
          survey = moving-survey w.directed a.directed known;
          most = moving_most w.directed a.directed known;
          long = r.counter;
          wide = r.queue;
          capacity = sound.capacity;
          ranged = rw (moving_radices_lem w.directed a.directed known) r.ahead;
          from_one = here.from_one;
          last = omega arith;
          small = omega arith;
        }

    -- the oldest entry of a queue that holds one is a place, so that where it is not the last it is turned back into a digit's
    -- number
    module _ (some : at.queued ≡ 0 → ⊥) where
      pub entry_pos : (1 ≤ get_or queue 0 0) × (get_or queue 0 0 ≤ length (moving_radices w) + 1)
      entry_pos =
          let oldest = (producer_says (moving_radices w) w.capacity (producer_with counter queue at) r.ahead).entries 0 (omega arith) in
          (oldest.from_one, oldest.last)

      pub to_move : (get_or queue 0 0 ≡ w.directed.moving.count + 1 → ⊥) → (k : ℕ) → k ≡ get_or w.directed.moving.digits (get_or queue 0 0 - 1) 0 → DigitToMove w k
      to_move other k is =
          let sound = survey_openable w s in
          let many = (moving_known w s).count in
          let (low, high) = entry_pos in
          let digit = entry_digit w s a (get_or queue 0 0) low (omega arith) in
          rw is (record { rooms = a.directed; word = s.word; digit = digit; small = omega arith })

-- what a call answers by the arrays and numbers that its two work steps leave
module _
    (w : Walk) (ranged : in_range w ≡ true) (going : w.ended ≡ false)
    (counter queue : List ℕ) (at : Progress) (left : producer_with counter queue at ≡ twice w)
  where
    pub refused_dry : at.queued ≡ 0 → refused_with 10 w ≡ step_of w
    unfolding step_of
    refused_dry none = sym (ap (step_by w) (goes_dry w ranged going (ap (λ p. p.queued) (sym left) ∙ none)))

    module _ (some : at.queued ≡ 0 → ⊥) (next : List ℕ) (shifted : next ≡ drop 1 queue ++ (0 ∷ [])) where
      abbrev shortened : Producer
      shortened = record { counter = counter; place = at.place; queue = next; queued = at.queued - 1; steps = at.steps }

      is_dequeued : shortened ≡ dequeued (twice w)
      unfolding dequeued
      is_dequeued =
          ap (λ q. record { counter = counter; place = at.place; queue = q; queued = at.queued - 1; steps = at.steps }) shifted
          ∙ ap dequeued left

      oldest : get_or queue 0 0 ≡ get_or (twice w).queue 0 0
      oldest = ap (λ p. get_or p.queue 0 0) left

      removes : course w ≡ removing
      removes = goes_removing w ranged going (λ none. some (ap (λ p. p.queued) left ∙ none))

      pub ends : get_or queue 0 0 ≡ w.directed.moving.count + 1 → end_of w shortened ≡ step_of w
      ends last = ap (end_of w) is_dequeued ∙ sym (removes_last w removes (sym oldest ∙ last))

      pub moves_digit : (get_or queue 0 0 ≡ w.directed.moving.count + 1 → ⊥)
          → (k : ℕ)
          → k ≡ get_or w.directed.moving.digits (get_or queue 0 0 - 1) 0
          → move_of w k shortened ≡ step_of w
      moves_digit other k is =
          ap₂ (move_of w) (is ∙ ap (λ o. get_or w.directed.moving.digits (o - 1) 0) oldest) is_dequeued
          ∙ sym (removes_digit w removes (λ last. other (oldest ∙ last)))
