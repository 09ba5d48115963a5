-- The range rule part by part, and that work steps and removals keep it.
use Rattle.std.specs.Prelude.{ℕ, ◌+◌, ◌-◌, ◌≤◌, ◌<◌, ◌≡◌, refl, Bool, false, ◌&&◌, List, [], ◌∷◌, ◌++◌, eqb, length, get_or, drop, set}
use Rattle.std.proofs.Common.{add_comm, sym, ap, ◌∙◌, length-append, length-drop, length-set, get_or-drop, get_or-set_same, get_or-set_other}
use Rattle.std.proofs.Math.Decide.{dec_lt, dec_le, ℕ_discrete}
use native.Mathlib.Omega.{arith}
use Rattle.std.proofs.Math.Path.{subst}
use Rattle.std.proofs.Math.Bool.{true, and-eq-true_iff}
use borrow.Author.Tests.{lt-ltb, ltb-true, le-leb, leb-true, eq-eqb, eqb-true, eqb-false}
use Rattle.std.proofs.Math.Dec.{ltb, leb}
use Rattle.std.proofs.Math.ListN.{get_or-append, get_or-eq_default}
use Rattle.std.proofs.Math.Seq.{get_or-append_seam}
use Rattle.gray_theory.specs.Bools.{impossible}
use Rattle.gray_theory.specs.DirectedWords.{word_in_range}
use Rattle.gray_theory.specs.WordRanges.{WordRange}
use Rattle.gray_theory.proofs.WordRanges.{says-word, word-says, ranged_moving, survey_long}
use Rattle.gray_theory.specs.Radices.{all_from, size}
use Rattle.gray_theory.proofs.Sizes.{radix_two}
use Rattle.gray_theory.specs.Locks.{MovingSays}
use Rattle.gray_theory.proofs.Unlocked.{unlocked_two, unlocked_most}
use Rattle.gray_theory.proofs.DigitRanges.{all_below_each, each_all_below}
use Rattle.ahead_theory.specs.States.{Producer, Walk, Arrays, survey, moving_radices, open_check, places, is_place, counter_in_range, entries_in_range, producer_in_range, step_limit, in_range}
use Rattle.ahead_theory.specs.Work.{Work, carry, append, idle, count_at, radix_at, run_out, kind, done, work}
use Rattle.ahead_theory.proofs.Counters.{all_from-places, length-places}
use Rattle.gray_theory.specs.Capacities.{Openable}
use Rattle.ahead_theory.proofs.Openings.{openable}
use Rattle.ahead_theory.specs.Calls.{once, twice, dequeued}

-- ---- the radices
-- the radix of every place is at least 2, and that of the last is 2
pub place_two : (ms : List ℕ) (i : ℕ) → all_from 2 ms ≡ true → i ≤ length ms → 2 ≤ get_or (places ms) i 0
place_two ms i two h =
    let l = length-places ms in radix_two (places ms) i (all_from-places 2 ms (omega arith) two) (omega arith)

pub last_is_two : (ms : List ℕ) → get_or (places ms) (length ms) 0 ≡ 2
last_is_two ms = get_or-append_seam ms 2 [] 0

-- ---- the range rule for the producer, part by part
pub record IsPlace (ms : List ℕ) (i : ℕ) : Type 0 where
  pub from_one : 1 ≤ i
  pub last : i ≤ length ms + 1

pub record ProducerRange (ms : List ℕ) (c : ℕ) (p : Producer) : Type 0 where
  pub counts : (i : ℕ) → i < length ms + 1 → get_or p.counter i 0 < get_or (places ms) i 0
  pub at : IsPlace ms p.place
  pub entries : (i : ℕ) → i < p.queued → IsPlace ms (get_or p.queue i 0)
  pub held : p.queued ≤ c

says_place : (ms : List ℕ) (i : ℕ) → IsPlace ms i → is_place ms i ≡ true
says_place ms i s = rw (le-leb 1 i s.from_one, le-leb i (length ms + 1) s.last)

place_says : (ms : List ℕ) (i : ℕ) → is_place ms i ≡ true → IsPlace ms i
place_says ms i e =
    let (low, high) = (and-eq-true_iff (leb 1 i) (leb i (length ms + 1))).0 e in
    record { from_one = leb-true 1 i low; last = leb-true i (length ms + 1) high }

module _ (ms : List ℕ) (c : ℕ) (p : Producer) where
  pub says_producer : ProducerRange ms c p → producer_in_range ms c p ≡ true
  unfolding producer_in_range
  says_producer s =
      let one : counter_in_range ms p.counter ≡ true =
      each_all_below (length ms + 1) (λ i. ltb (get_or p.counter i 0) (get_or (places ms) i 0))
      (λ i h. lt-ltb (get_or p.counter i 0) (get_or (places ms) i 0) (s.counts i h)) in
      let each : entries_in_range ms p.queued p.queue ≡ true =
      each_all_below p.queued (λ i. is_place ms (get_or p.queue i 0))
      (λ i h. says_place ms (get_or p.queue i 0) (s.entries i h)) in
      rw (one, says_place ms p.place s.at, each, le-leb p.queued c s.held)

  pub producer_says : producer_in_range ms c p ≡ true → ProducerRange ms c p
  unfolding producer_in_range
  producer_says e =
      let counts = counter_in_range ms p.counter in
      let at = is_place ms p.place in
      let entries = entries_in_range ms p.queued p.queue in
      let (three, held) = (and-eq-true_iff (counts && at && entries) (leb p.queued c)).0 e in
      let (two, each) = (and-eq-true_iff (counts && at) entries).0 three in
      let (one, here) = (and-eq-true_iff counts at).0 two in
      record {
        counts = λ i h.
            ltb-true (get_or p.counter i 0) (get_or (places ms) i 0)
            (all_below_each (length ms + 1) (λ i. ltb (get_or p.counter i 0) (get_or (places ms) i 0)) one i h);
        at = place_says ms p.place here;
        entries = λ i h.
            place_says ms (get_or p.queue i 0) (all_below_each p.queued (λ i. is_place ms (get_or p.queue i 0)) each i h);
        held = leb-true p.queued c held;
      }

-- ---- work steps
-- the arrays keep their lengths, and a work step adds at most 1 to s
pub counter_long : (k : Work) (p : Producer) → length (done k p).counter ≡ length p.counter
unfolding done
counter_long carry p = length-set p.counter (p.place - 1) 0
counter_long append p = length-set p.counter (p.place - 1) (count_at p + 1)
counter_long idle p = refl

pub queue_long : (k : Work) (p : Producer) → length (done k p).queue ≡ length p.queue
unfolding done
queue_long carry p = refl
queue_long append p = length-set p.queue p.queued p.place
queue_long idle p = refl

pub one_step : (k : Work) (p : Producer) → (done k p).steps ≤ p.steps + 1
unfolding done
one_step carry p = omega arith
one_step append p = omega arith
one_step idle p = omega arith

-- the tests of a work step, in their order
module _ (ms : List ℕ) (c : ℕ) (p : Producer) where
  pub runs_out : run_out ms p ≡ true → kind ms c p ≡ idle
  unfolding kind
  runs_out r = rw r

  module _ (goes_on : run_out ms p ≡ false) where
    pub carries_on : eqb (count_at p) (radix_at ms p - 1) ≡ true → kind ms c p ≡ carry
    unfolding kind
    carries_on e = rw (goes_on, e)

    pub stays_full : eqb (count_at p) (radix_at ms p - 1) ≡ false → ltb p.queued c ≡ false → kind ms c p ≡ idle
    unfolding kind
    stays_full e q = rw (goes_on, e, q)

    pub appends_one : eqb (count_at p) (radix_at ms p - 1) ≡ false → ltb p.queued c ≡ true → kind ms c p ≡ append
    unfolding kind
    appends_one e q = rw (goes_on, e, q)

-- what each kind of work step tells of a producer in range: a carry stands at the place of a digit, since b = 1 at the last place
-- is the idle rule; an append finds room for a greater count and for an entry
data Working (ms : List ℕ) (c : ℕ) (p : Producer) : Type 0 where
  carries : kind ms c p ≡ carry → p.place ≤ length ms → Working ms c p
  appends : kind ms c p ≡ append → count_at p + 1 < radix_at ms p → p.queued < c → Working ms c p
  idles : kind ms c p ≡ idle → Working ms c p

module _ (ms : List ℕ) (c : ℕ) (p : Producer) (two : all_from 2 ms ≡ true) (s : ProducerRange ms c p) where
  digit_carries : run_out ms p ≡ false → eqb (count_at p) (radix_at ms p - 1) ≡ true → p.place ≤ length ms
  digit_carries r e =
      let top = eqb-true (count_at p) (radix_at ms p - 1) e in
      elim (dec_le p.place (length ms)) [
        | yes h ↦ h
        | no h ↦
            let here : p.place ≡ length ms + 1 = omega arith in
            let last : p.place - 1 ≡ length ms = omega arith in
            let radix : radix_at ms p ≡ 2 = rw last (last_is_two ms) in
            let one : count_at p ≡ 1 = omega arith in
            impossible (cc (r, eq-eqb p.place (length ms + 1) here, eq-eqb (count_at p) 1 one))
      ]

  pub count_grows : eqb (count_at p) (radix_at ms p - 1) ≡ false → count_at p + 1 < radix_at ms p
  count_grows e =
      let below = s.counts (p.place - 1) (omega arith) in
      let not_top = eqb-false (count_at p) (radix_at ms p - 1) e in
      elim (dec_lt (count_at p + 1) (radix_at ms p)) [ yes h ↦ h | no h ↦ absurd (not_top (omega arith)) ]

  working : Working ms c p
  working = go (run_out ms p) refl (eqb (count_at p) (radix_at ms p - 1)) refl (ltb p.queued c) refl
    where
      go : (r : Bool)
          → run_out ms p ≡ r
          → (e : Bool)
          → eqb (count_at p) (radix_at ms p - 1) ≡ e
          → (q : Bool)
          → ltb p.queued c ≡ q
          → Working ms c p
      go true r e se q sq = idles (runs_out ms c p r)
      go false r true e q sq = carries (carries_on ms c p r e) (digit_carries r e)
      go false r false e true q = appends (appends_one ms c p r e q) (count_grows e) (ltb-true p.queued c q)
      go false r false e false q = idles (stays_full ms c p r e q)

-- one count becomes another that is below its radix
counts_set : (ms l : List ℕ) (j v : ℕ)
    → j < length l
    → v < get_or (places ms) j 0
    → ((i : ℕ) → i < length ms + 1 → get_or l i 0 < get_or (places ms) i 0)
    → (i : ℕ)
    → i < length ms + 1
    → get_or (set l j v) i 0 < get_or (places ms) i 0
counts_set ms l j v room small counts i h =
    elim (ℕ_discrete i j) [
      | yes e ↦ rw (e, get_or-set_same l j v 0 room) small
      | no n ↦ rw (get_or-set_other l j i v 0 n) (counts i h)
    ]

-- one entry more
entries-set : (ms l : List ℕ) (k v : ℕ)
    → k < length l
    → IsPlace ms v
    → ((i : ℕ) → i < k → IsPlace ms (get_or l i 0))
    → (i : ℕ)
    → i < k + 1
    → IsPlace ms (get_or (set l k v) i 0)
entries-set ms l k v room at entries i h =
    elim (ℕ_discrete i k) [
      | yes e ↦ subst (IsPlace ms) (sym (ap (λ j. get_or (set l k v) j 0) e ∙ get_or-set_same l k v 0 room)) at
      | no n ↦ subst (IsPlace ms) (sym (get_or-set_other l k i v 0 n)) (entries i (omega arith))
    ]

module _
    (ms : List ℕ) (c : ℕ) (p : Producer) (two : all_from 2 ms ≡ true) (long : length p.counter ≡ 49) (most : length ms ≤ 48)
    (wide : length p.queue ≡ 32) (small : c ≤ 32)
  where
    work_in_range : ProducerRange ms c p → Working ms c p → ProducerRange ms c (work ms c p)
    unfolding done
    work_in_range s (carries e digit) =
        let radix = place_two ms (p.place - 1) two (omega arith) in
        subst (λ k. ProducerRange ms c (done k p)) (sym e)
        (record {
          counts = counts_set ms p.counter (p.place - 1) 0 (omega arith) (omega arith) s.counts;
          at = record { from_one = omega arith; last = omega arith };
          entries = s.entries;
          held = s.held;
        })
    work_in_range s (appends e room free) =
        subst (λ k. ProducerRange ms c (done k p)) (sym e)
        (record {
          counts = counts_set ms p.counter (p.place - 1) (count_at p + 1) (omega arith) room s.counts;
          at = record { from_one = omega arith; last = omega arith };
          entries = entries-set ms p.queue p.queued p.place (omega arith) s.at s.entries;
          held = omega arith;
        })
    work_in_range s (idles e) = subst (λ k. ProducerRange ms c (done k p)) (sym e) s

    work_keeps : producer_in_range ms c p ≡ true → producer_in_range ms c (work ms c p) ≡ true
    work_keeps ranged =
        let s = producer_says ms c p ranged in
        says_producer ms c (work ms c p) (work_in_range s (working ms c p two s))

-- ---- removals
-- the array keeps its length
pub dequeued_long : (p : Producer) → 0 < length p.queue → length (dequeued p).queue ≡ length p.queue
unfolding dequeued
dequeued_long p some = simp (length-append, length-drop) (omega arith)

-- entry i of the queue without its oldest is entry i + 1
next_entry : (l : List ℕ) (i : ℕ) → i + 1 < length l → get_or (drop 1 l ++ (0 ∷ [])) i 0 ≡ get_or l (i + 1) 0
next_entry l i h =
    get_or-append (drop 1 l) (0 ∷ []) 0 i (simp length-drop (omega arith))
    ∙ get_or-drop 1 l i 0
    ∙ ap (λ j. get_or l j 0) (add_comm 1 i)

-- past the array's end there is no place
queue_holds : (ms : List ℕ) (c : ℕ) (p : Producer) → ProducerRange ms c p → p.queued ≤ length p.queue
queue_holds ms c p s =
    elim (dec_le p.queued (length p.queue)) [
      | yes h ↦ h
      | no h ↦
          let none : get_or p.queue (length p.queue) 0 ≡ 0 = get_or-eq_default p.queue 0 (omega arith) in
          let at = s.entries (length p.queue) (omega arith) in
          absurd (omega arith)
    ]

pub dequeued_in_range : (ms : List ℕ) (c : ℕ) (p : Producer)
    → producer_in_range ms c p ≡ true
    → length p.queue ≡ 32
    → 0 < p.queued
    → producer_in_range ms c (dequeued p) ≡ true
unfolding dequeued
dequeued_in_range ms c p ranged wide some =
    let s = producer_says ms c p ranged in
    let fits = queue_holds ms c p s in
    says_producer ms c (dequeued p)
    (record {
      counts = s.counts;
      at = s.at;
      entries = λ i h. subst (IsPlace ms) (sym (next_entry p.queue i (omega arith))) (s.entries (i + 1) (omega arith));
      held = omega arith;
    })

-- ---- the range rule for a state, part by part
pub record Ranged (w : Walk) : Type 0 where
  pub word : WordRange (open_check w.capacity) w.directed
  pub ahead : producer_in_range (moving_radices w) w.capacity w.producer ≡ true
  pub rank : w.moves < size (survey w)
  pub steps : w.producer.steps ≤ step_limit w.moves w.ended

module _ (w : Walk) where
  pub says_range : Ranged w → in_range w ≡ true
  unfolding in_range
  says_range s =
      let word = says-word (open_check w.capacity) w.directed s.word in
      let rank = lt-ltb w.moves (size (survey w)) s.rank in
      let steps = le-leb w.producer.steps (step_limit w.moves w.ended) s.steps in
      rw (word, s.ahead, rank, steps)

  pub range_says : in_range w ≡ true → Ranged w
  unfolding in_range
  range_says e =
      let word = word_in_range (open_check w.capacity) w.directed in
      let ahead = producer_in_range (moving_radices w) w.capacity w.producer in
      let rank = ltb w.moves (size (survey w)) in
      let steps = leb w.producer.steps (step_limit w.moves w.ended) in
      let (three, s) = (and-eq-true_iff (word && ahead && rank) steps).0 e in
      let (two, r) = (and-eq-true_iff (word && ahead) rank).0 three in
      let (one, a) = (and-eq-true_iff word ahead).0 two in
      record {
        word = word-says (open_check w.capacity) w.directed one;
        ahead = a;
        rank = ltb-true w.moves (size (survey w)) r;
        steps = leb-true w.producer.steps (step_limit w.moves w.ended) s;
      }

module _ (w : Walk) (s : Ranged w) where
  pub survey_openable : Openable (survey w) w.capacity
  survey_openable = openable (survey w) w.capacity s.word.opens

  pub survey_fills : length w.directed.radices ≡ 48 → length (survey w) ≡ w.directed.n
  survey_fills = survey_long (open_check w.capacity) w.directed s.word

  pub moving_known : MovingSays (survey w) w.directed.moving
  moving_known = ranged_moving (open_check w.capacity) w.directed s.word

  pub moving_radices_most : length w.directed.radices ≡ 48 → length (moving_radices w) ≤ 48
  moving_radices_most room =
      let long = survey_fills room in let few = unlocked_most (survey w) in let most = s.word.most in omega arith

-- ---- the work steps of a call
-- a producer that a call has come to by x work steps
pub record Reached (w : Walk) (x : ℕ) (p : Producer) : Type 0 where
  pub ahead : producer_in_range (moving_radices w) w.capacity p ≡ true
  pub counter : length p.counter ≡ 49
  pub queue : length p.queue ≡ 32
  pub steps : p.steps ≤ step_limit w.moves w.ended + x

module _ (w : Walk) (s : Ranged w) where
  pub reached_none : length w.producer.counter ≡ 49 → length w.producer.queue ≡ 32 → Reached w 0 w.producer
  reached_none long wide = record { ahead = s.ahead; counter = long; queue = wide; steps = omega arith }

  pub reached_more : length w.directed.radices ≡ 48
      → (x : ℕ) (p : Producer)
      → Reached w x p
      → Reached w (x + 1) (work (moving_radices w) w.capacity p)
  reached_more room x p r =
      let sound = survey_openable w s in
      let k = kind (moving_radices w) w.capacity p in
      let one = one_step k p in
      record {
        ahead =
            work_keeps (moving_radices w) w.capacity p (unlocked_two (survey w)) r.counter (moving_radices_most w s room) r.queue sound.capacity
            r.ahead;
        counter = counter_long k p ∙ r.counter;
        queue = queue_long k p ∙ r.queue;
        steps = omega arith;
      }

  pub reached_twice : Arrays w → Reached w 2 (twice w)
  reached_twice a =
      let first = reached_more a.directed.radices 0 w.producer (reached_none a.counter a.queue) in
      reached_more a.directed.radices 1 (once w) first
