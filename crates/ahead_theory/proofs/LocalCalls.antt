-- One call on the local arrays of a run: it is dry, it ends the walk, or it moves a digit, as the engine's call does.
use Rattle.std.specs.Prelude.{ℕ, suc, ◌+◌, ◌-◌, ◌≤◌, ◌<◌, ◌≡◌, Bool, List, [], ◌∷◌, length, get_or, take}
use Rattle.std.proofs.Math.Decide.{dec_lt, ℕ_discrete}
use Rattle.std.proofs.Common.{arith, sym, ap₂, ◌∙◌, get_or-take}
use Rattle.std.proofs.Math.Path.{refl, ap, subst}
use Rattle.std.proofs.Math.Bool.{true, false}
use borrow.Author.Tests.{eq-eqb, ne_eqb}
use Rattle.std.proofs.Math.ListN.{get_or-append}
use Rattle.gray_theory.specs.Answers.{given}
use Rattle.gray_theory.specs.MoveBytes.{move_byte}
use Rattle.gray_theory.specs.Changes.{Change}
use Rattle.gray_theory.specs.Engines.{moved, ended, refused_with}
use Rattle.gray_theory.specs.Directions.{word_moved, downs_moved}
use Rattle.gray_theory.specs.DirectedWords.{digit_moved, change_by, event_by}
use Rattle.gray_theory.specs.Locks.{unlocked}
use Rattle.gray_theory.proofs.Sizes.{radix_two}
use Rattle.gray_theory.proofs.DigitRanges.{DigitRange}
use Rattle.gray_theory.proofs.WordRanges.{digit_ranged}
use Rattle.gray_theory.proofs.Unlocked.{moving_digit, moving-once, length-moving, unlocked_two}
use Rattle.ahead_theory.specs.States.{Producer, Walk, survey, moving_radices, open_check, in_range, Arrays}
use Rattle.ahead_theory.specs.Work.{work}
use Rattle.ahead_theory.specs.Calls.{once, twice, course, removing, dequeued, end_of, move_of, step_by, step_of}
use Rattle.ahead_theory.proofs.InRange.{Ranged, range_says, survey_openable, survey_fills, moving_known, moving_radices_most, producer_says, Reached, reached_none, reached_more, reached_twice}
use Rattle.ahead_theory.specs.Kept.{EntryDigit}
use Rattle.ahead_theory.proofs.Kept.{goes_dry, goes_removing, removes_last, removes_digit, entry_digit}
use Rattle.ahead_theory.specs.Locals.{Fast, fast_work, fast_twice, TopsOf, Ahead, left_moved, bytes_moved, Notches, Numbered, Stands, Called, fast_call}
use Rattle.ahead_theory.proofs.LocalWork.{fast_works, fast_removes}
use Rattle.ahead_theory.proofs.LocalMoves.{notches_move}

-- ---- the digits that move
-- their numbers, in a state in range
pub numbered : (w : Walk) → Ranged w → Arrays w → Numbered w.directed.moving.digits w.directed.radices (moving_radices w) w.directed.n
numbered w s a =
    record {
      from_one = λ i h. (at i h).from_one;
      within = λ i h. (at i h).digit;
      radix = λ i h.
          let m = moving_digit (survey w) (survey_openable w s).survey.one i h in
          let is : get_or w.directed.moving.digits i 0 ≡ suc m.index = (moving_known w s).digits i h ∙ m.number in
          let index : suc m.index - 1 ≡ m.index = omega arith in
          let inside = m.within in
          let long = survey_fills w s a.directed.radices in
          rw (is, index) (sym (get_or-take w.directed.n w.directed.radices m.index 0 (omega arith)) ∙ m.radix);
      once = λ i k h l e.
          let long = length-moving (survey w) in
          moving-once (survey w) i k (omega arith) (omega arith)
          (sym ((moving_known w s).digits i h) ∙ e ∙ (moving_known w s).digits k l);
    }
  where
    at : (i : ℕ) → i < length (moving_radices w) → EntryDigit w (get_or w.directed.moving.digits i 0)
    at i h =
        let j : i + 1 - 1 ≡ i = omega arith in
        subst (λ k. EntryDigit w (get_or w.directed.moving.digits k 0)) j (entry_digit w s a (i + 1) (omega arith) (omega arith))

-- ---- a state that stands on the lists
module _
    (w₀ w : Walk) (h : ℕ) (tops left bytes : List ℕ) (f : Fast) (st : Stands w₀ w h tops left bytes f)
  where
    -- it has the survey of the state that the run began with
    pub same_survey : survey w ≡ survey w₀
    same_survey = ap₂ (λ (n : ℕ) (l : List ℕ). take n l) st.n st.radices

    pub same_radices : moving_radices w ≡ moving_radices w₀
    same_radices = ap unlocked same_survey

    module _ (s : Ranged w) where
      pub counted : w₀.directed.moving.count ≡ length (moving_radices w₀)
      counted = ap (λ m. m.count) (sym st.moving) ∙ (moving_known w s).count ∙ ap length same_radices

      pub few_moving : Arrays w → length (moving_radices w₀) ≤ 48
      few_moving a = rw same_radices at (moving_radices_most w s a.directed.radices)

-- ---- one call
-- what a call leaves on the lists, after h removals before it, and what the engine's call says of the state w then
pub data Answered (w₀ w : Walk) (h : ℕ) (tops : List ℕ) (r : Called) : Type 0 where
  moves : r.kind ≡ 0
      → (c : Change) (notch : ℕ)
      → (step_of w).answer ≡ given (moved c notch)
      → r.byte ≡ move_byte c.digit c.down
      → (step_of w).state.ended ≡ false
      → (step_of w).state.moves ≡ w.moves + 1
      → Stands w₀ (step_of w).state (h + 1) tops r.left r.bytes r.fast
      → Answered w₀ w h tops r
  ends : r.kind ≡ 1
      → (step_of w).answer ≡ given ended
      → (step_of w).state.ended ≡ true
      → (step_of w).state.moves ≡ w.moves
      → Stands w₀ (step_of w).state (h + 1) tops r.left r.bytes r.fast
      → Answered w₀ w h tops r
  dries : r.kind ≡ 2
      → step_of w ≡ refused_with 10 w
      → Stands w₀ w h tops r.left r.bytes r.fast
      → Answered w₀ w h tops r

module _
    (w₀ w : Walk) (h last c : ℕ) (tops left bytes : List ℕ) (f : Fast) (t : TopsOf (moving_radices w₀) tops)
    (ranged : in_range w ≡ true) (a : Arrays w) (going : w.ended ≡ false) (st : Stands w₀ w h tops left bytes f)
    (room : h ≤ 1024) (last_is : last ≡ w₀.directed.moving.count + 1) (c-is : c ≡ w₀.capacity)
  where
    abbrev g : Fast
    g = fast_twice tops last (h + c) f

    -- the oldest entry then
    abbrev entry : ℕ
    entry = get_or g.queue h 0

    abbrev AheadOf : Producer → Fast → Type 0
    AheadOf p f = Ahead (moving_radices w₀) tops w₀.producer.counter h p f

    s : Ranged w
    s = range_says w ranged

    alike : moving_radices w ≡ moving_radices w₀
    alike = same_radices w₀ w h tops left bytes f st

    many : w₀.directed.moving.count ≡ length (moving_radices w₀)
    many = counted w₀ w h tops left bytes f st s

    few : length (moving_radices w₀) ≤ 48
    few = few_moving w₀ w h tops left bytes f st s a

    -- ---- the two work steps
    stepped : (x : ℕ) (p : Producer) (e : Fast)
        → Reached w x p
        → AheadOf p e
        → AheadOf (work (moving_radices w) w.capacity p) (fast_work tops last (h + c) e)
    stepped x p e r q =
        let small = (survey_openable w s).capacity in
        let cap = st.capacity in
        let n = many in
        rw (alike, cap)
        (fast_works (moving_radices w₀) tops w₀.producer.counter w₀.capacity h last (h + c) p e few (omega arith) room
        (omega arith)
        (ap (λ k. h + k) c-is)
        t
        (rw (alike, cap) at (producer_says (moving_radices w) w.capacity p r.ahead))
        q)

    ahead_twice : AheadOf (twice w) g
    ahead_twice =
        let none = reached_none w s a.counter a.queue in
        stepped 1 (once w) (fast_work tops last (h + c) f) (reached_more w s a.directed.radices 0 w.producer none)
        (stepped 0 w.producer f none st.ahead)

    -- ---- dry
    dry_there : g.tail ≡ h → step_of w ≡ refused_with 10 w
    unfolding step_of
    dry_there e = let q = ahead_twice.tail_is in ap (step_by w) (goes_dry w ranged going (omega arith))

    -- ---- an entry is removed
    module _ (some : g.tail ≡ h → ⊥) where
      queued : 0 < (twice w).queued
      queued =
          let q = ahead_twice.tail_is in
          elim (dec_lt 0 (twice w).queued) [ yes l ↦ l | no l ↦ absurd (some (omega arith)) ]

      removes : course w ≡ removing
      removes = let q = queued in goes_removing w ranged going (λ z. absurd (omega arith))

      oldest : get_or (twice w).queue 0 0 ≡ entry
      oldest = let z : h + 0 ≡ h = omega arith in ahead_twice.entries 0 (omega arith) ∙ ap (λ j. get_or g.queue j 0) z

      same_count : w.directed.moving.count ≡ w₀.directed.moving.count
      same_count = ap (λ m. m.count) st.moving

      removed : Ahead (moving_radices w₀) tops w₀.producer.counter (h + 1) (dequeued (twice w)) g
      removed = fast_removes (moving_radices w₀) tops w₀.producer.counter h (twice w) g queued ahead_twice

      -- the state that a removal leaves, with this word and these directions
      stands_with : (word : List ℕ) (downs : List Bool) (made : ℕ) (over : Bool) (newLeft newBytes : List ℕ)
          → Notches w₀.directed.moving.digits w₀.directed.moving.count tops w₀.directed.word w₀.directed.downs word downs newLeft newBytes
          → Stands w₀
          (record {
            directed = record { radices = w.directed.radices; n = w.directed.n; moving = w.directed.moving; word = word; downs = downs };
            producer = dequeued (twice w);
            capacity = w.capacity;
            moves = made;
            ended = over;
          })
          (h + 1) tops newLeft newBytes g
      stands_with word downs made over newLeft newBytes notches =
          record { radices = st.radices; n = st.n; moving = st.moving; capacity = st.capacity; ahead = removed; notches = notches }

      -- the entry of the end
      ends_here : entry ≡ last → step_of w ≡ end_of w (dequeued (twice w))
      ends_here e = removes_last w removes (oldest ∙ e ∙ last_is ∙ ap (λ k. k + 1) (sym same_count))

      ended_stands : entry ≡ last → Stands w₀ (step_of w).state (h + 1) tops left bytes g
      unfolding end_of
      ended_stands e =
          subst (λ z. Stands w₀ z.state (h + 1) tops left bytes g) (sym (ends_here e))
          (stands_with w.directed.word w.directed.downs w.moves true left bytes st.notches)

      end_leaves : entry ≡ last
          → ((step_of w).answer ≡ given ended) × ((step_of w).state.ended ≡ true) × ((step_of w).state.moves ≡ w.moves)
      unfolding end_of
      end_leaves e = let z = ends_here e in (ap (λ s. s.answer) z, ap (λ s. s.state.ended) z, ap (λ s. s.state.moves) z)

      -- a digit's entry
      module _ (other : entry ≡ last → ⊥) where
        abbrev i : ℕ
        i = entry - 1

        abbrev d : ℕ
        d = get_or w₀.directed.moving.digits i 0

        entry_inside : (entry ≡ i + 1) × (i < w₀.directed.moving.count)
        entry_inside =
            let ahead = (reached_twice w s a).ahead in
            let place = (producer_says (moving_radices w) w.capacity (twice w) ahead).entries 0 queued in
            let o = oldest in
            let n = many in
            let m = ap length alike in
            let low = place.from_one in
            let high = place.last in
            (omega arith, omega (arith, other))

        moves_here : step_of w ≡ move_of w d (dequeued (twice w))
        moves_here =
            removes_digit w removes (λ e. other (sym oldest ∙ e ∙ ap (λ k. k + 1) same_count ∙ sym last_is))
            ∙ ap₂ (λ m k. move_of w (get_or m.digits (k - 1) 0) (dequeued (twice w))) st.moving oldest

        numbers : Numbered w₀.directed.moving.digits w₀.directed.radices (moving_radices w₀) w₀.directed.n
        numbers =
            subst (λ k. Numbered w₀.directed.moving.digits w₀.directed.radices (moving_radices w₀) k) st.n
            (subst (λ l. Numbered w₀.directed.moving.digits w₀.directed.radices l w.directed.n) alike
            (subst (λ l. Numbered w₀.directed.moving.digits l (moving_radices w) w.directed.n) st.radices
            (subst (λ m. Numbered m.digits w.directed.radices (moving_radices w) w.directed.n) st.moving (numbered w s a))))

        radix_there : get_or tops (i + 1) 0 + 1 ≡ get_or w₀.directed.radices (d - 1) 0
        radix_there =
            let (at, inside) = entry_inside in
            let n = many in
            t.top i (omega arith)
            ∙ get_or-append (moving_radices w₀) (2 ∷ []) 0 i (omega arith)
            ∙ sym (numbers.radix i (omega arith))

        two_there : 2 ≤ get_or w₀.directed.radices (d - 1) 0
        two_there =
            let (at, inside) = entry_inside in
            let n = many in
            let two = radix_two (moving_radices w₀) i (unlocked_two (survey w₀)) (omega arith) in
            let r = numbers.radix i (omega arith) in
            omega arith

        range_there : DigitRange (get_or w₀.directed.radices (d - 1) 0) (get_or w.directed.word (d - 1) 0) (get_or w.directed.downs (d - 1) false)
        range_there =
            let (at, inside) = entry_inside in
            let n = many in
            let from = numbers.from_one i (omega arith) in
            let to = numbers.within i (omega arith) in
            let same = st.n in
            subst (λ l. DigitRange (get_or l (d - 1) 0) (get_or w.directed.word (d - 1) 0) (get_or w.directed.downs (d - 1) false)) st.radices
            (digit_ranged (open_check w.capacity) w.directed s.word (d - 1) (omega arith))

        move_says : (step_of w).answer ≡ given (event_by w.directed d)
        unfolding move_of
        move_says = ap (λ s. s.answer) moves_here

        move_leaves : ((step_of w).state.ended ≡ false) × ((step_of w).state.moves ≡ w.moves + 1)
        unfolding move_of
        move_leaves = (ap (λ s. s.state.ended) moves_here, ap (λ s. s.state.moves) moves_here)

        byte_there : get_or bytes entry 0 ≡ move_byte d (get_or w.directed.downs (d - 1) false)
        byte_there =
            let (at, inside) = entry_inside in ap (λ j. get_or bytes j 0) at ∙ (st.notches.each i inside).shows

        abbrev NotchesMoved : List ℕ → ℕ → Type 0
        NotchesMoved l j =
            Notches w₀.directed.moving.digits w₀.directed.moving.count tops w₀.directed.word w₀.directed.downs
            (word_moved w.directed.word w.directed.downs (d - 1))
            (downs_moved l w.directed.word w.directed.downs (d - 1))
            (left_moved tops left j)
            (bytes_moved left bytes j)

        notches_there : NotchesMoved w.directed.radices entry
        notches_there =
            let (at, inside) = entry_inside in
            let most = s.word.most in
            let same = st.n in
            let n = many in
            let l = few in
            subst (NotchesMoved w.directed.radices) (sym at)
            (subst (λ l. NotchesMoved l (i + 1)) (sym st.radices)
            (notches_move w₀.directed.moving.digits w₀.directed.radices (moving_radices w₀) w₀.directed.n w₀.directed.moving.count tops w₀.directed.word
            w₀.directed.downs
            w.directed.word
            w.directed.downs
            left
            bytes
            numbers
            n
            (omega arith)
            a.directed.word
            a.directed.downs
            (omega arith)
            st.notches
            i
            inside
            radix_there
            two_there
            range_there))

        moved_stands : Stands w₀ (step_of w).state (h + 1) tops (left_moved tops left entry) (bytes_moved left bytes entry) g
        unfolding move_of digit_moved
        moved_stands =
            subst (λ z. Stands w₀ z.state (h + 1) tops (left_moved tops left entry) (bytes_moved left bytes entry) g)
            (sym moves_here)
            (stands_with (word_moved w.directed.word w.directed.downs (d - 1))
            (downs_moved w.directed.radices w.directed.word w.directed.downs (d - 1))
            (w.moves + 1)
            false
            (left_moved tops left entry)
            (bytes_moved left bytes entry)
            notches_there)

    -- the call on the lists goes as the engine's call does
    pub call_answers : Answered w₀ w h tops (fast_call tops last c h f left bytes)
    unfolding fast_call
    call_answers =
        elim (ℕ_discrete g.tail h) [
          | yes e ↦ rw (eq-eqb g.tail h e) (dries refl (dry_there e) st)
          | no some ↦
              elim (ℕ_discrete entry last) [
                | yes e ↦
                    let (answers, over, made) = end_leaves some e in
                    rw (ne_eqb g.tail h some, eq-eqb entry last e)
                    (ends refl answers over made (ended_stands some e))
                | no other ↦
                    let (on, made) = move_leaves some other in
                    rw (ne_eqb g.tail h some, ne_eqb entry last other)
                    (moves refl (change_by w.directed (d some other)) _
                    (move_says some other)
                    (byte_there some other)
                    on
                    made
                    (moved_stands some other))
              ]
        ]
