-- The range rule is kept by every accepted call but one that moves from j = N − 1, whose next call gets 7; so does every call on a
-- closed walk. A call that moves names the notch it reaches.
use Rattle.std.specs.Prelude.{ℕ, suc, ◌+◌, ◌-◌, ◌*◌, ◌≤◌, ◌<◌, ◌≡◌, refl, Bool, true, false, cond, ◌⊎◌, eqb, length, get_or}
use Rattle.std.proofs.Math.Decide.{ℕ_discrete}
use Rattle.std.proofs.Common.{arith, sym, ◌∙◌, inl, inr}
use Rattle.std.proofs.Math.Path.{ap, subst}
use borrow.Author.Tests.{eq-eqb, ne_eqb}
use Rattle.gray_theory.specs.Answers.{Answer, given, refused}
use Rattle.gray_theory.specs.Bools.{impossible}
use Rattle.gray_theory.specs.Changes.{Change}
use Rattle.gray_theory.specs.Engines.{Event, moved, NamesNotch, after, refused_with}
use Rattle.gray_theory.specs.RunCalls.{refusal, run_from}
use Rattle.gray_theory.proofs.SingleCalls.{stopped_run_leaves_its_moves}
use Rattle.gray_theory.specs.Radices.{size}
use Rattle.gray_theory.specs.DirectedWords.{word_in_range, digit_moved}
use Rattle.gray_theory.proofs.WordRanges.{says-word, word-says, digit_there, move_keeps_range, move_keeps_rooms, move_names_its_notch}
use Rattle.ahead_theory.specs.States.{Producer, Walk, setting, survey, moving_radices, open_check, producer_in_range, step_limit, in_range, Arrays}
use Rattle.ahead_theory.specs.Calls.{fresh, closed_walk, twice, Course, faulty, over, dry, removing, course, dequeued, end_of, move_of, step_by, step_of}
use Rattle.ahead_theory.proofs.InRange.{Ranged, producer_says, dequeued_long, dequeued_in_range, range_says, says_range, survey_openable, survey_fills, moving_known, reached_twice}
use Rattle.ahead_theory.specs.Kept.{EntryDigit}

-- ---- calls
-- the tests of a call, in their order
module _ (w : Walk) where
  pub goes_faulty : in_range w ≡ false → course w ≡ faulty
  unfolding course
  goes_faulty e = rw e

  module _ (ranged : in_range w ≡ true) where
    pub goes_over : w.ended ≡ true → course w ≡ over
    unfolding course
    goes_over e = rw (ranged, e)

    pub goes_dry : w.ended ≡ false → (twice w).queued ≡ 0 → course w ≡ dry
    unfolding course
    goes_dry e z = rw (ranged, e, eq-eqb (twice w).queued 0 z)

    pub goes_removing : w.ended ≡ false → ((twice w).queued ≡ 0 → ⊥) → course w ≡ removing
    unfolding course
    goes_removing e z = rw (ranged, e, ne_eqb (twice w).queued 0 z)

  -- a removal, of the entry after those of the digits that move, and of any other
  module _ (removes : course w ≡ removing) where
    pub removes_last : get_or (twice w).queue 0 0 ≡ w.directed.moving.count + 1 → step_of w ≡ end_of w (dequeued (twice w))
    unfolding step_of
    removes_last e = ap (step_by w) removes ∙ rw (eq-eqb (get_or (twice w).queue 0 0) (w.directed.moving.count + 1) e)

    pub removes_digit : (get_or (twice w).queue 0 0 ≡ w.directed.moving.count + 1 → ⊥)
        → step_of w ≡ move_of w (get_or w.directed.moving.digits (get_or (twice w).queue 0 0 - 1) 0) (dequeued (twice w))
    unfolding step_of
    removes_digit e = ap (step_by w) removes ∙ rw (ne_eqb (get_or (twice w).queue 0 0) (w.directed.moving.count + 1) e)

-- how a call on a state in range goes: it hands the state back, or it removes an entry, which ends the walk or moves a digit
pub data CallGoes (w : Walk) : Type 0 where
  stays : (step_of w).state ≡ w → CallGoes w
  ends : w.ended ≡ false → 0 < (twice w).queued → step_of w ≡ end_of w (dequeued (twice w)) → CallGoes w
  moves : (k : ℕ)
      → w.ended ≡ false
      → 0 < (twice w).queued
      → 1 ≤ k
      → k ≤ w.directed.n
      → 2 ≤ get_or w.directed.radices (k - 1) 0
      → step_of w ≡ move_of w k (dequeued (twice w))
      → CallGoes w

pub entry_digit : (w : Walk)
    → Ranged w
    → Arrays w
    → (k : ℕ)
    → 1 ≤ k
    → k ≤ length (moving_radices w)
    → EntryDigit w (get_or w.directed.moving.digits (k - 1) 0)
entry_digit w s a k low high =
    let many = (moving_known w s).count in
    let d =
    digit_there w.directed a.directed.radices s.word.most (survey_openable w s).survey.one (moving_known w s) (k - 1) (omega arith) in
    let index : suc d.index - 1 ≡ d.index = omega arith in
    let inside = d.within in
    rw d.number (record { from_one = omega arith; digit = omega arith; two = rw index d.two })

call_goes : (w : Walk) → Arrays w → in_range w ≡ true → CallGoes w
unfolding step_of
call_goes w a ranged = go w.ended refl
  where
    go : (b : Bool) → w.ended ≡ b → CallGoes w
    go true e = stays (ap (λ c. (step_by w c).state) (goes_over w ranged e))
    go false e =
        elim (ℕ_discrete (twice w).queued 0) [
          | yes z ↦ stays (ap (λ c. (step_by w c).state) (goes_dry w ranged e z))
          | no z ↦
              let s = range_says w ranged in
              let long = survey_fills w s a.directed.radices in
              let some : 0 < (twice w).queued = omega arith in
              let removes = goes_removing w ranged e z in
              let place = (producer_says (moving_radices w) w.capacity (twice w) (reached_twice w s a).ahead).entries 0 some in
              let many = (moving_known w s).count in
              elim (ℕ_discrete (get_or (twice w).queue 0 0) (w.directed.moving.count + 1)) [
                | yes l ↦ ends e some (removes_last w removes l)
                | no d ↦
                    let m = entry_digit w s a (get_or (twice w).queue 0 0) place.from_one (omega arith) in
                    moves (get_or w.directed.moving.digits (get_or (twice w).queue 0 0 - 1) 0) e some
                    m.from_one
                    m.digit
                    m.two
                    (removes_digit w removes d)
              ]
        ]

module _ (w : Walk) (a : Arrays w) (ranged : in_range w ≡ true) where
  -- what is left after a removal
  removed_in_range : 0 < (twice w).queued → producer_in_range (moving_radices w) w.capacity (dequeued (twice w)) ≡ true
  removed_in_range some =
      let r = reached_twice w (range_says w ranged) a in
      dequeued_in_range (moving_radices w) w.capacity (twice w) r.ahead r.queue some

  steps_after_lem : w.ended ≡ false → (twice w).steps ≤ 2 * w.moves + 2
  steps_after_lem going =
      let r = reached_twice w (range_says w ranged) a in
      let limit : (twice w).steps ≤ step_limit w.moves false + 2 = rw going at r.steps in
      omega arith

  range_after : CallGoes w → (step_of w).state.moves < size (survey w) → in_range (step_of w).state ≡ true
  unfolding end_of move_of dequeued digit_moved
  range_after (stays e) rank = rw e ranged
  range_after (ends going some e) rank =
      let s = range_says w ranged in
      let limit = steps_after_lem going in
      ap (λ h. in_range h.state) e
      ∙ says_range (end_of w (dequeued (twice w))).state
      (record {
        word = s.word;
        ahead = removed_in_range some;
        rank = s.rank;
        steps = omega arith;
      })
  range_after (moves k going some low high two e) rank =
      let s = range_says w ranged in
      let limit = steps_after_lem going in
      ap (λ h. in_range h.state) e
      ∙ says_range (move_of w k (dequeued (twice w))).state
      (record {
        word =
            word-says (open_check w.capacity) (digit_moved w.directed k)
            (move_keeps_range (open_check w.capacity) w.directed k a.directed low high two
            (says-word (open_check w.capacity) w.directed s.word));
        ahead = removed_in_range some;
        rank = rw e at rank;
        steps = omega arith;
      })

  pub range_kept : (step_of w).state.moves < size (survey w) → in_range (step_of w).state ≡ true
  range_kept rank = range_after (call_goes w a ranged) rank

  arrays_after : CallGoes w → Arrays (step_of w).state
  unfolding end_of move_of dequeued
  arrays_after (stays e) = subst Arrays (sym e) a
  arrays_after (ends going some e) =
      let r = reached_twice w (range_says w ranged) a in
      subst (λ h. Arrays h.state) (sym e)
      (record {
        directed = a.directed;
        counter = r.counter;
        queue = dequeued_long (twice w) (omega arith) ∙ r.queue;
      })
  arrays_after (moves k going some low high two e) =
      let r = reached_twice w (range_says w ranged) a in
      subst (λ h. Arrays h.state) (sym e)
      (record {
        directed = move_keeps_rooms w.directed k a.directed;
        counter = r.counter;
        queue = dequeued_long (twice w) (omega arith) ∙ r.queue;
      })

  pub arrays_kept : Arrays (step_of w).state
  arrays_kept = arrays_after (call_goes w a ranged)

-- a state that has made N moves is out of range
pub past_the_end : (w : Walk) → size (survey w) ≤ w.moves → step_of w ≡ refused_with 7 w
unfolding step_of
past_the_end w h = go (in_range w) refl
  where
    go : (b : Bool) → in_range w ≡ b → step_of w ≡ refused_with 7 w
    go true e = let s = range_says w e in absurd (omega arith)
    go false e = ap (step_by w) (goes_faulty w e)

-- ---- a call that moves adds one move and keeps the survey
pub one_move : (w : Walk) (c : Change) (notch : ℕ) (o : Course)
    → (step_by w o).answer ≡ given (moved c notch)
    → ((step_by w o).state.moves ≡ w.moves + 1) × (survey (step_by w o).state ≡ survey w)
unfolding end_of move_of digit_moved
one_move w c notch faulty e = impossible (cc)
one_move w c notch over e = impossible (cc)
one_move w c notch dry e = impossible (cc)
one_move w c notch removing e = by (eqb (get_or (twice w).queue 0 0) (w.directed.moving.count + 1)) e
  where
    k : ℕ
    k = get_or w.directed.moving.digits (get_or (twice w).queue 0 0 - 1) 0

    p : Producer
    p = dequeued (twice w)

    by : (b : Bool) → (cond b (end_of w p) (move_of w k p)).answer ≡ given (moved c notch)
        → ((cond b (end_of w p) (move_of w k p)).state.moves ≡ w.moves + 1) × (survey (cond b (end_of w p) (move_of w k p)).state ≡ survey w)
    by true e = impossible (cc)
    by false e = (refl, refl)

-- A move names the notch it reaches, from every state there is, made-up ones too: the notch answered is the digit's in the setting
-- handed back, one on from its notch before in the direction answered; and no other digit has moved.
pub moves_name_their_notch : (w : Walk)
    → Arrays w
    → (c : Change) (notch : ℕ)
    → (step_of w).answer ≡ given (moved c notch)
    → NamesNotch c notch (setting w) (setting (step_of w).state)
unfolding step_of end_of move_of
moves_name_their_notch w a c notch says = go (in_range w) refl
  where
    by : in_range w ≡ true → CallGoes w → NamesNotch c notch (setting w) (setting (step_of w).state)
    by ranged (stays e) = let (more, same) = one_move w c notch (course w) says in let still = ap (λ v. v.moves) e in absurd (omega arith)
    by ranged (ends going some e) = let over = ap (λ h. h.answer) e in impossible (cc)
    by ranged (moves k going some low high two e) =
        subst (λ h. NamesNotch c notch (setting w) (setting h.state)) (sym e)
        (move_names_its_notch (open_check w.capacity) w.directed k a.directed low high
        (range_says w ranged).word
        c
        notch
        (sym (ap (λ h. h.answer) e) ∙ says))

    go : (b : Bool) → in_range w ≡ b → NamesNotch c notch (setting w) (setting (step_of w).state)
    go true ranged = by ranged (call_goes w a ranged)
    go false out = let over = ap (λ o. (step_by w o).answer) (goes_faulty w out) in impossible (cc)

-- ---- runs of moves
-- a call that is refused is so by 7 or 10, and hands the state back as it came
refused_call : (w : Walk) (y : ℕ) → (step_of w).answer ≡ refused y → ((step_of w).state ≡ w) × ((y ≡ 7) ⊎ (y ≡ 10))
unfolding step_of end_of move_of
refused_call w y = by (course w)
  where
    number : Answer Event → ℕ
    number (given e) = 0
    number (refused k) = k

    by : (o : Course) → (step_by w o).answer ≡ refused y → ((step_by w o).state ≡ w) × ((y ≡ 7) ⊎ (y ≡ 10))
    by faulty e = (refl, inl (sym (ap number e)))
    by over e = impossible (cc)
    by dry e = (refl, inr (sym (ap number e)))
    by removing e = removed (eqb (get_or (twice w).queue 0 0) (w.directed.moving.count + 1)) e
      where
        k : ℕ
        k = get_or w.directed.moving.digits (get_or (twice w).queue 0 0 - 1) 0

        p : Producer
        p = dequeued (twice w)

        removed : (b : Bool) → (cond b (end_of w p) (move_of w k p)).answer ≡ refused y
            → ((cond b (end_of w p) (move_of w k p)).state ≡ w) × ((y ≡ 7) ⊎ (y ≡ 10))
        removed true e = impossible (cc)
        removed false e = impossible (cc)

-- A run that a refused call stopped keeps its moves: it leaves the state after them, and says 10, dry, or 7, out of range.
pub stopped_walk_leaves_its_moves : (w : Walk) (t x : ℕ)
    → (run_from step_of w t).stop ≡ refusal x
    → ((run_from step_of w t).state ≡ after step_of w (length (run_from step_of w t).bytes)) × ((x ≡ 7) ⊎ (x ≡ 10))
stopped_walk_leaves_its_moves w t x stopped =
    let (left, says) = stopped_run_leaves_its_moves step_of w t x (λ v y e. (refused_call v y e).0) stopped in
    (left, (refused_call (after step_of w (length (run_from step_of w t).bytes)) x says).1)

-- a closed walk has no survey: every call on it gets 7
pub closed_gets_7 : step_of closed_walk ≡ refused_with 7 closed_walk
unfolding step_of course in_range word_in_range fresh
closed_gets_7 = refl
