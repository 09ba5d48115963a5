-- What a stage of the range rule says, over plain lists and numbers. Assumes nothing.
use Prim.Native.Nat.{ℕ, ◌+◌, ◌≤◌, ◌<◌}
use native.Mathlib.Omega.{arith}
use mathlib.Core.Path.{◌≡◌, refl, sym, ap, ap₂, ◌∙◌}
use mathlib.Core.Bool.{Bool, true, false, ◌&&◌, not-eq-not}
use mathlib.Core.List.{List, [], ◌∷◌}
use borrow.Author.Tests.{le-leb}
use lib.Dec.{ltb, leb}
use lib.ListN.{length, get_or, take, get_or-append}
use lib.Seq.{length-take-le, get_or-take, get_or_at}
use Rattle.gray_theory.specs.Answers.{given, refused, is_given}
use Rattle.gray_theory.specs.Bools.{impossible}
use Rattle.gray_theory.specs.Radices.{digits, size, all_from}
use Rattle.gray_theory.specs.Locks.{moving_in_range, MovingSays}
use Rattle.gray_theory.specs.Unlocked.{looked_up}
use Rattle.gray_theory.proofs.Unlocked.{moving-says, unlocked_two, unlocked_most, all_unlocked, number_direct, moving_looked_up}
use Rattle.gray_theory.specs.Directions.{all_below, digits_in_range}
use Rattle.gray_theory.proofs.DigitRanges.{all_below_same, tested_more}
use Rattle.gray_theory.specs.DirectedWords.{DirectedWord, survey_in, moving_in, word_in_range, Rooms}
use Rattle.gray_theory.proofs.WordRanges.{digit_there}
use Rattle.gray_theory.proofs.Reversals.{of_radices-reverse, size-reverse}
use Rattle.gray_theory.specs.Calls.{survey_call}
use Rattle.gray_theory.specs.Capacities.{Openable}
use Rattle.gray_theory.proofs.Refusals.{openable_passes, survey_refused_alike, survey_call_given}
use Rattle.ahead_theory.specs.States.{Walk, open_check, survey, moving_radices, places, is_place, counter_in_range, entries_in_range, producer_in_range, step_limit, in_range, Arrays}
use Rattle.ahead_theory.proofs.Openings.{openable}
use Rattle.ahead_theory.proofs.InRange.{Ranged, range_says, producer_says, survey_openable}
use Rattle.ahead.specs.Stages.{DigitNumbers, MovingNumbers, moving_of, Survey, Known}

-- ---- a state whose survey and digits that move are tested
pub ranged_known : (w : Walk) → Ranged w → Known w.directed
ranged_known w s = record { most = s.word.most; one = (survey_openable w s).survey.one; moving = s.word.moving }

module _ (d : DirectedWord) (a : Rooms d) (k : Known d) where
  room : d.n ≤ length d.radices
  room = let most = k.most in let long = a.radices in omega arith

  radices_long : length (survey_in d) ≡ d.n
  radices_long = length-take-le d.n d.radices room

  held : length (survey_in d) ≤ length d.moving.digits
  held = let long = radices_long in let most = k.most in let moving = a.moving in omega arith

  says : MovingSays (survey_in d) d.moving
  says = moving-says (survey_in d) d.moving k.moving

  pub moving_count : d.moving.count ≡ length (moving_in d)
  moving_count = says.count

  pub moving_most : d.moving.count ≤ 48
  moving_most =
      let many = moving_count in
      let few = unlocked_most (survey_in d) in
      let long = radices_long in
      let most = k.most in
      omega arith

  number_here : (i : ℕ) → i < d.moving.count → (1 ≤ get_or d.moving.digits i 0) × (get_or d.moving.digits i 0 ≤ 48)
  number_here i h =
      let there = digit_there d a.radices k.most k.one says i h in
      let number = there.number in
      let inside = there.within in
      let most = k.most in
      (omega arith, omega arith)

  pub moving-numbers : MovingNumbers d.moving.digits d.n d.moving.count
  moving-numbers =
      record {
        held = a.moving;
        most = moving_most;
        from_one = λ i h. (number_here i h).0;
        last = λ i h. (number_here i h).1;
        direct = λ all i h. number_direct d.radices d.n d.moving room held k.one k.moving all i (omega arith);
      }

  pub moving_radices_lem : moving_of d.radices d.moving.digits d.moving.count ≡ moving_in d
  moving_radices_lem = moving_looked_up d.radices d.n d.moving room held k.one k.moving

  pub moving-survey : Survey d.radices d.moving.digits d.n d.moving.count
  moving-survey =
      record { room = a.radices; moving = moving-numbers; two = ap (all_from 2) moving_radices_lem ∙ unlocked_two (survey_in d) }

  -- the code lends the numbers up to their count, made a wide number
  module _ (count : ℕ) (wide : count ≡ d.moving.count) where
    taken : length (take count d.moving.digits) ≡ d.moving.count
    taken =
        let most = moving_most in
        let long = a.moving in
        length-take-le count d.moving.digits (omega arith) ∙ wide

    pub lent_numbers : DigitNumbers d.radices (take count d.moving.digits)
    lent_numbers =
        let many = taken in
        record {
          room = a.radices;
          from_one = λ i h. rw (get_or-take count d.moving.digits i 0 (omega arith)) (number_here i (omega arith)).0;
          last = λ i h. rw (get_or-take count d.moving.digits i 0 (omega arith)) (number_here i (omega arith)).1;
        }

    -- ---- the counter
    -- each place is tested against its radix, and the last against 2
    module _ (counter : List ℕ) (ok last : Bool) (f : last ≡ ltb (get_or counter count 0) 2) where
      counter_tested : ok ≡ all_below (length (moving_in d)) (λ i. ltb (get_or counter i 0) (get_or (moving_in d) i 0))
          → ok && last ≡ counter_in_range (moving_in d) counter
      counter_tested e =
          let ms = moving_in d in
          let place : ℕ → Bool = λ i. ltb (get_or counter i 0) (get_or (places ms) i 0) in
          tested_more place ok last (length ms)
          (e
          ∙ all_below_same (length ms) (λ i. ltb (get_or counter i 0) (get_or ms i 0)) place
          (λ i h. ap (ltb (get_or counter i 0)) (sym (get_or-append ms (2 ∷ []) 0 i h))))
          (f
          ∙ ap₂ (λ j m. ltb (get_or counter j 0) m) (wide ∙ moving_count) (sym (get_or_at ms 2 [] 0 (length ms) refl)))

      pub all_counted : d.moving.count ≡ d.n
          → ok ≡ all_below (length (take d.moving.count d.radices)) (λ i. ltb (get_or counter i 0) (get_or d.radices i 0))
          → ok && last ≡ counter_in_range (moving_in d) counter
      all_counted all e =
          let long = radices_long in
          let every : moving_in d ≡ survey_in d = all_unlocked (survey_in d) (sym moving_count ∙ all ∙ sym long) in
          counter_tested
          (e
          ∙ ap (λ k. all_below k (λ i. ltb (get_or counter i 0) (get_or d.radices i 0))) (ap (λ k. length (take k d.radices)) all ∙ long)
          ∙ all_below_same d.n (λ i. ltb (get_or counter i 0) (get_or d.radices i 0)) (λ i. ltb (get_or counter i 0) (get_or (survey_in d) i 0))
          (λ i h. ap (ltb (get_or counter i 0)) (sym (get_or-take d.n d.radices i 0 h)))
          ∙ ap (λ k. all_below k (λ i. ltb (get_or counter i 0) (get_or (survey_in d) i 0))) (sym long)
          ∙ ap (λ ms. all_below (length ms) (λ i. ltb (get_or counter i 0) (get_or ms i 0))) (sym every))

      pub moving_counted : ok ≡ all_below (length (take count d.moving.digits))
          (λ i. ltb (get_or counter i 0) (get_or (looked_up d.radices (take count d.moving.digits)) i 0))
          → ok && last ≡ counter_in_range (moving_in d) counter
      moving_counted e =
          let looked : looked_up d.radices (take count d.moving.digits) ≡ moving_in d =
          ap (moving_of d.radices d.moving.digits) wide ∙ moving_radices_lem in
          counter_tested
          (e ∙ ap₂ (λ k ms. all_below k (λ i. ltb (get_or counter i 0) (get_or ms i 0))) (taken ∙ moving_count) looked)

-- ---- the stages of the range rule
-- the survey and the capacity: the code tests them by the call that takes digit n first
module _ (l : List ℕ) (c : ℕ) where
  pub survey_fails : (k : ℕ) → survey_call l c ≡ refused k → is_given (open_check c l) ≡ false
  survey_fails k e = ap is_given (sym (of_radices-reverse l _) ∙ survey_refused_alike l c (given tt) k e)

  pub survey_passes : (n : ℕ) → survey_call l c ≡ given n → is_given (open_check c l) ≡ true
  survey_passes n e =
      ap is_given (sym (of_radices-reverse l _) ∙ openable_passes (digits l) c (given tt) (survey_call_given l c n e).0)

  pub survey_within : (n : ℕ) → survey_call l c ≡ given n → Openable l c × (n ≡ size l)
  survey_within n e = (openable l c (survey_passes n e), (survey_call_given l c n e).1 ∙ size-reverse l)

-- the entries that are held, lent as a part of the queue
pub entries_lent : (n queued len : ℕ) (queue : List ℕ) (ok : Bool)
    → len ≡ queued
    → len ≤ length queue
    → ok ≡ all_below (length (take len queue)) (λ i. leb 1 (get_or (take len queue) i 0) && leb (get_or (take len queue) i 0) (n + 1))
    → ok ≡ all_below queued (λ i. leb 1 (get_or queue i 0) && leb (get_or queue i 0) (n + 1))
entries_lent n queued len queue ok same room e =
    let lent : ℕ → Bool = λ i. leb 1 (get_or (take len queue) i 0) && leb (get_or (take len queue) i 0) (n + 1) in
    let whole : ℕ → Bool = λ i. leb 1 (get_or queue i 0) && leb (get_or queue i 0) (n + 1) in
    e
    ∙ ap (λ k. all_below k lent) (length-take-le len queue room)
    ∙ all_below_same len lent whole (λ i h. ap (λ x. leb 1 x && leb x (n + 1)) (get_or-take len queue i 0 h))
    ∙ ap (λ k. all_below k whole) same

-- a stage that fails, and what the stages that are passed say
module _ (w : Walk) where
  out_of_range : (Ranged w → ⊥) → false ≡ in_range w
  out_of_range never = sym ((not-eq-not {a = in_range w} {b = false}).0 (λ e. never (range_says w e)))

  pub digits-over : 48 < w.directed.n → false ≡ in_range w
  digits-over h = out_of_range (λ s. let most = s.word.most in absurd (omega arith))

  pub not_open : is_given (open_check w.capacity (survey w)) ≡ false → false ≡ in_range w
  not_open e = out_of_range (λ s. let opens = s.word.opens in impossible (cc))

  pub moving_fail : moving_in_range (survey w) w.directed.moving ≡ false → false ≡ in_range w
  moving_fail e = out_of_range (λ s. let moving = s.word.moving in impossible (cc))

  pub queue_over : w.capacity < w.producer.queued → false ≡ in_range w
  queue_over h =
      out_of_range (λ s. let held = (producer_says (moving_radices w) w.capacity w.producer s.ahead).held in absurd (omega arith))

  -- the last stage gathers what is left
  pub state_tested : (total : ℕ) (notches counted place entries bounds : Bool)
      → Arrays w
      → Known w.directed
      → is_given (open_check w.capacity (survey w)) ≡ true
      → w.producer.queued ≤ w.capacity
      → notches ≡ digits_in_range (length (take w.directed.n w.directed.radices)) w.directed.radices w.directed.word w.directed.downs
      → counted ≡ counter_in_range (moving_radices w) w.producer.counter
      → place ≡ leb 1 w.producer.place && leb w.producer.place (w.directed.moving.count + 1)
      → entries ≡ all_below w.producer.queued
      (λ i. leb 1 (get_or w.producer.queue i 0) && leb (get_or w.producer.queue i 0) (w.directed.moving.count + 1))
      → total ≡ size (survey w)
      → bounds ≡ ltb w.moves total && leb w.producer.steps (step_limit w.moves w.ended)
      → (notches && counted) && ((place && entries) && bounds) ≡ in_range w
  unfolding in_range word_in_range producer_in_range
  state_tested total notches counted place entries bounds a k opens fits f g p q t b =
      let ms = moving_radices w in
      let many = moving_count w.directed a.directed k in
      let digits = digits_in_range w.directed.n w.directed.radices w.directed.word w.directed.downs in
      let counters = counter_in_range ms w.producer.counter in
      let placed = is_place ms w.producer.place in
      let held = entries_in_range ms w.producer.queued w.producer.queue in
      let short = ltb w.moves (size (survey w)) in
      let limit = leb w.producer.steps (step_limit w.moves w.ended) in
      let f' : notches ≡ digits = f ∙ ap (λ i. digits_in_range i w.directed.radices w.directed.word w.directed.downs) (radices_long w.directed a.directed k) in
      let p' : place ≡ placed = p ∙ ap (λ i. leb 1 w.producer.place && leb w.producer.place (i + 1)) many in
      let q' : entries ≡ held =
      q
      ∙ ap (λ i. all_below w.producer.queued (λ j. leb 1 (get_or w.producer.queue j 0) && leb (get_or w.producer.queue j 0) (i + 1))) many in
      let b' : bounds ≡ short && limit = b ∙ ap (λ i. ltb w.moves i && limit) t in
      rw (le-leb w.directed.n 48 k.most, opens, k.moving, le-leb w.producer.queued w.capacity fits, f', g, p', q', b')
      (regrouped digits counters placed held short limit)
    where
      regrouped : (d c a e s l : Bool) → (d && c) && ((a && e) && (s && l)) ≡ d && true && (c && a && e && true) && s && l
      regrouped true true true true s l = refl
      regrouped true true true false s l = refl
      regrouped true true false e s l = refl
      regrouped true false a e s l = refl
      regrouped false c a e s l = refl
