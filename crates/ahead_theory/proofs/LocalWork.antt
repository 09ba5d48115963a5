-- Work steps and removals on the local arrays of a run are those of the engine.
use Rattle.std.specs.Prelude.{ℕ, ◌+◌, ◌-◌, ◌≤◌, ◌<◌, ◌≡◌, refl, false, List, [], ◌∷◌, ltb, drop, set}
use Rattle.std.proofs.Math.Decide.{dec_lt, ℕ_discrete}
use native.Mathlib.Omega.{arith}
use Rattle.std.proofs.Common.{sym, subst, ◌∙◌, length-drop, get_or-drop, get_or-set_same, get_or-set_other}
use Rattle.std.proofs.Math.Path.{ap}
use Rattle.std.proofs.Math.Bool.{true}
use borrow.Author.Tests.{lt-ltb, le-ltb, eq-eqb, ne_eqb}
use Rattle.std.proofs.Math.ListN.{length, get_or, length-set, get_or-append}
use Rattle.std.proofs.lemmas.List.{get_or_at}
use Rattle.ahead_theory.specs.States.{Producer}
use Rattle.ahead_theory.specs.Work.{carry, append, idle, count_at, radix_at, run_out, done, work}
use Rattle.ahead_theory.specs.Calls.{dequeued}
use Rattle.ahead_theory.proofs.InRange.{last_is_two, ProducerRange, runs_out, carries_on, stays_full, appends_one, dequeued_long}
use Rattle.ahead_theory.specs.Locals.{Fast, rest_at, carried, appended, fast_work, TopsOf, Ahead}

-- ---- one element set
-- one count becomes another, and what is left to count there with it
counts_set : (tops rest counter : List ℕ) (last j k u v : ℕ)
    → k ≡ j + 1
    → k < length rest
    → j < length counter
    → u + v ≡ get_or tops k 0
    → ((i : ℕ) → i < last → get_or rest (i + 1) 0 + get_or counter i 0 ≡ get_or tops (i + 1) 0)
    → (i : ℕ)
    → i < last
    → get_or (set rest k u) (i + 1) 0 + get_or (set counter j v) i 0 ≡ get_or tops (i + 1) 0
counts_set tops rest counter last j k u v next hr hc sum counts i h =
    elim (ℕ_discrete i j) [
      | yes e ↦
          let at : i + 1 ≡ k = omega arith in
          rw (at, e, get_or-set_same rest k u 0 hr, get_or-set_same counter j v 0 hc) sum
      | no n ↦
          let apart : i + 1 ≡ k → ⊥ = λ e. n (omega arith) in
          rw (get_or-set_other rest k (i + 1) u 0 apart, get_or-set_other counter j i v 0 n) (counts i h)
    ]

-- the counts of the other places stay
others_set : (counter counter₀ : List ℕ) (last j v : ℕ)
    → j < last
    → ((i : ℕ) → last ≤ i → get_or counter i 0 ≡ get_or counter₀ i 0)
    → (i : ℕ)
    → last ≤ i
    → get_or (set counter j v) i 0 ≡ get_or counter₀ i 0
others_set counter counter₀ last j v below others i h =
    get_or-set_other counter j i v 0 (λ e. absurd (omega arith)) ∙ others i h

-- an entry at the tail
entries-set : (queue long : List ℕ) (h q v : ℕ)
    → q < length queue
    → h + q < length long
    → ((x : ℕ) → x < 32 → get_or queue x 0 ≡ get_or long (h + x) 0)
    → (x : ℕ)
    → x < 32
    → get_or (set queue q v) x 0 ≡ get_or (set long (h + q) v) (h + x) 0
entries-set queue long h q v hq hl entries x room =
    elim (ℕ_discrete x q) [
      | yes e ↦ rw (e, get_or-set_same queue q v 0 hq, get_or-set_same long (h + q) v 0 hl)
      | no n ↦
          let apart : h + x ≡ h + q → ⊥ = λ e. n (omega arith) in
          get_or-set_other queue q x v 0 n ∙ entries x room ∙ sym (get_or-set_other long (h + q) (h + x) v 0 apart)
    ]

-- the long list stays 0 past the entries
clear_set : (long : List ℕ) (h q v : ℕ)
    → q < 32
    → ((x : ℕ) → 32 ≤ x → get_or long (h + x) 0 ≡ 0)
    → (x : ℕ)
    → 32 ≤ x
    → get_or (set long (h + q) v) (h + x) 0 ≡ 0
clear_set long h q v small clear x past =
    let apart : h + x ≡ h + q → ⊥ = λ e. absurd (omega arith) in
    get_or-set_other long (h + q) (h + x) v 0 apart ∙ clear x past

-- ---- a work step
module _
    (ms tops counter₀ : List ℕ) (c h last bound : ℕ) (p : Producer) (f : Fast)
    (few : length ms ≤ 48) (small : c ≤ 32) (room : h ≤ 1024) (last_is : last ≡ length ms + 1) (bound-is : bound ≡ h + c)
    (t : TopsOf ms tops) (s : ProducerRange ms c p) (a : Ahead ms tops counter₀ h p f)
  where
    -- the place, what is counted and left to count there, and its radix
    index : f.place ≡ p.place - 1 + 1
    index = let at = s.at in let pl = a.place_is in omega arith

    here : rest_at f + count_at p ≡ get_or tops f.place 0
    here =
        let at = s.at in
        subst (λ i. get_or f.rest i 0 + count_at p ≡ get_or tops i 0) (sym index) (a.counts (p.place - 1) (omega arith))

    radix : get_or tops f.place 0 + 1 ≡ radix_at ms p
    radix = let at = s.at in subst (λ i. get_or tops i 0 + 1 ≡ radix_at ms p) (sym index) (t.top (p.place - 1) (omega arith))

    last_radix_lem : p.place ≡ length ms + 1 → radix_at ms p ≡ 2
    last_radix_lem e = let i : p.place - 1 ≡ length ms = omega arith in rw i (last_is_two ms)

    done_carry : p.place ≤ length ms → rest_at f ≡ 0 → Ahead ms tops counter₀ h (done carry p) (carried tops f)
    unfolding done
    done_carry digit none =
        let at = s.at in
        let i = index in
        let cl = a.counter_long in
        let rl = a.rest_long in
        let top = get_or tops f.place 0 in
        record {
          counts =
              counts_set tops f.rest p.counter (length ms + 1) (p.place - 1) f.place top 0 i (omega arith)
              (omega arith)
              (omega arith)
              a.counts;
          others = others_set p.counter counter₀ (length ms + 1) (p.place - 1) 0 (omega arith) a.others;
          place_is = ap (λ j. j + 1) a.place_is;
          place_small = omega arith;
          held = a.held;
          tail_is = a.tail_is;
          steps_is = ap (λ j. j + 1) a.steps_is;
          entries = a.entries;
          clear = a.clear;
          rest_long = length-set f.rest f.place top ∙ rl;
          queue_long = a.queue_long;
          counter_long = length-set p.counter (p.place - 1) 0 ∙ cl;
          entries_long = a.entries_long;
        }

    done-append : (rest_at f ≡ 0 → ⊥) → p.queued < c → Ahead ms tops counter₀ h (done append p) (appended f)
    unfolding done
    done-append some free =
        let at = s.at in
        let i = index in
        let sum = here in
        let cl = a.counter_long in
        let rl = a.rest_long in
        let ql = a.queue_long in
        let el = a.entries_long in
        let tail = a.tail_is in
        let pl = a.place_is in
        let left : rest_at f - 1 + (count_at p + 1) ≡ get_or tops f.place 0 = omega (arith, sum, some) in
        record {
          counts =
              counts_set tops f.rest p.counter (length ms + 1) (p.place - 1) f.place (rest_at f - 1) (count_at p + 1) i
              (omega arith)
              (omega arith)
              left
              a.counts;
          others = others_set p.counter counter₀ (length ms + 1) (p.place - 1) (count_at p + 1) (omega arith) a.others;
          place_is = refl;
          place_small = omega arith;
          held = omega arith;
          tail_is = omega arith;
          steps_is = ap (λ j. j + 1) a.steps_is;
          entries =
              rw (tail, pl)
              (entries-set p.queue f.queue h p.queued p.place (omega arith) (omega arith) a.entries);
          clear = rw (tail, pl) (clear_set f.queue h p.queued p.place (omega arith) a.clear);
          rest_long = length-set f.rest f.place (rest_at f - 1) ∙ rl;
          queue_long = length-set f.queue f.tail f.place ∙ ql;
          counter_long = length-set p.counter (p.place - 1) (count_at p + 1) ∙ cl;
          entries_long = length-set p.queue p.queued p.place ∙ el;
        }

    -- the tests
    not_out : (p.place ≡ length ms + 1 → count_at p ≡ 1 → ⊥) → run_out ms p ≡ false
    not_out apart =
        elim (ℕ_discrete p.place (length ms + 1)) [
          | yes e ↦ rw (eq-eqb p.place (length ms + 1) e, ne_eqb (count_at p) 1 (apart e))
          | no n ↦ rw (ne_eqb p.place (length ms + 1) n)
        ]

    tail_test : ltb f.tail bound ≡ ltb p.queued c
    tail_test =
        let tail = a.tail_is in
        elim (dec_lt p.queued c) [
          | yes l ↦ lt-ltb f.tail bound (omega arith) ∙ sym (lt-ltb p.queued c l)
          | no l ↦ le-ltb f.tail bound (omega arith) ∙ sym (le-ltb p.queued c (omega arith))
        ]

    -- one work step of each
    pub fast_works : Ahead ms tops counter₀ h (work ms c p) (fast_work tops last bound f)
    unfolding fast_work
    fast_works =
        let at = s.at in
        let sum = here in
        let m = radix in
        let pl = a.place_is in
        elim (ℕ_discrete (rest_at f) 0) [
          | yes z ↦
              let top : count_at p ≡ radix_at ms p - 1 = omega arith in
              elim (ℕ_discrete f.place last) [
                | yes e ↦
                    let is_last : p.place ≡ length ms + 1 = omega arith in
                    let r2 = last_radix_lem is_last in
                    let one : count_at p ≡ 1 = omega arith in
                    let out : run_out ms p ≡ true = rw (eq-eqb p.place (length ms + 1) is_last, eq-eqb (count_at p) 1 one) in
                    rw (eq-eqb (rest_at f) 0 z, eq-eqb f.place last e)
                    (subst (λ k. Ahead ms tops counter₀ h (done k p) f) (sym (runs_out ms c p out)) stays)
                | no n ↦
                    let digit : p.place ≤ length ms = omega (arith, n) in
                    let on = not_out (λ e o. absurd (omega arith)) in
                    rw (eq-eqb (rest_at f) 0 z, ne_eqb f.place last n)
                    (subst (λ k. Ahead ms tops counter₀ h (done k p) (carried tops f))
                    (sym (carries_on ms c p on (eq-eqb (count_at p) (radix_at ms p - 1) top)))
                    (done_carry digit z))
              ]
          | no some ↦
              let less : count_at p ≡ radix_at ms p - 1 → ⊥ = λ e. some (omega arith) in
              let on = not_out (λ e o. let r2 = last_radix_lem e in less (omega arith)) in
              let not_top = ne_eqb (count_at p) (radix_at ms p - 1) less in
              rw (ne_eqb (rest_at f) 0 some)
              (elim (dec_lt p.queued c) [
                | yes l ↦
                    rw (tail_test, lt-ltb p.queued c l)
                    (subst (λ k. Ahead ms tops counter₀ h (done k p) (appended f))
                    (sym (appends_one ms c p on not_top (lt-ltb p.queued c l)))
                    (done-append some l))
                | no l ↦
                    rw (tail_test, le-ltb p.queued c (omega arith))
                    (subst (λ k. Ahead ms tops counter₀ h (done k p) f)
                    (sym (stays_full ms c p on not_top (le-ltb p.queued c (omega arith))))
                    stays)
              ])
        ]
      where
        stays : Ahead ms tops counter₀ h (done idle p) f
        stays = unfold done in a

-- ---- a removal
-- the oldest entry is removed: the queue begins one place later
pub fast_removes : (ms tops counter₀ : List ℕ) (h : ℕ) (p : Producer) (f : Fast)
    → 0 < p.queued
    → Ahead ms tops counter₀ h p f
    → Ahead ms tops counter₀ (h + 1) (dequeued p) f
unfolding dequeued
fast_removes ms tops counter₀ h p f some a =
    let el = a.entries_long in
    let tail = a.tail_is in
    let dl = length-drop 1 p.queue in
    record {
      counts = a.counts;
      others = a.others;
      place_is = a.place_is;
      place_small = a.place_small;
      held = let q = a.held in omega arith;
      tail_is = omega arith;
      steps_is = a.steps_is;
      entries = λ x l.
          elim (dec_lt x 31) [
            | yes less ↦
                let i : h + (1 + x) ≡ h + 1 + x = omega arith in
                get_or-append (drop 1 p.queue) (0 ∷ []) 0 x (omega arith)
                ∙ get_or-drop 1 p.queue x 0
                ∙ a.entries (1 + x) (omega arith)
                ∙ ap (λ j. get_or f.queue j 0) i
            | no more ↦
                let i : h + 32 ≡ h + 1 + x = omega arith in
                get_or_at (drop 1 p.queue) 0 [] 0 x (omega arith)
                ∙ sym (a.clear 32 (omega arith))
                ∙ ap (λ j. get_or f.queue j 0) i
          ];
      clear = λ x past.
          let i : h + 1 + x ≡ h + (x + 1) = omega arith in ap (λ j. get_or f.queue j 0) i ∙ a.clear (x + 1) (omega arith);
      rest_long = a.rest_long;
      queue_long = a.queue_long;
      counter_long = a.counter_long;
      entries_long = dequeued_long p (omega arith) ∙ el;
    }
