-- The states of a run: each follows from how many entries are removed, t, how many are queued, k, and how many carries are made
-- towards the next, p. What a work step, a removal and a call do with them.
use Prim.Native.Nat.{ℕ, zero, suc, ◌+◌, ◌-◌, ◌*◌, ◌<◌}
use Rattle.std.proofs.Common.{add-one, add-zero, ◌∙◌, length-append}
use Rattle.std.proofs.Math.Nat.{mul_comm}
use Rattle.std.proofs.Math.Decide.{dec_lt, ℕ_discrete}
use native.Mathlib.Omega.{arith}
use Rattle.std.specs.Prelude.{◌≡◌, Bool, true, false, List, [], ◌∷◌, ◌++◌, length}
use Rattle.std.proofs.Math.Path.{refl, sym, ap}
use borrow.Author.Tests.{eq-eqb, ne_eqb, lt-ltb, le-ltb}
use Rattle.std.proofs.Math.Dec.{eqb, ltb}
use Rattle.std.proofs.Math.ListN.{get_or, set}
use Rattle.gray_theory.specs.Radices.{size, mixed_digits}
use Rattle.gray_theory.specs.Changes.{ruler}
use Rattle.gray_theory.proofs.Rulers.{ruler_at_end}
use Rattle.gray_theory.specs.Arrays.{filled}
use Rattle.gray_theory.specs.DirectedWords.{DirectedWord}
use Rattle.gray_theory.proofs.Filled.{get_d_filled, set-filled, filled-append}
use Rattle.ahead_theory.specs.States.{Producer, Walk, places}
use Rattle.ahead_theory.specs.Work.{Work, carry, append, idle, count_at, radix_at, run_out, kind, done}
use Rattle.ahead_theory.proofs.InRange.{last_is_two, runs_out, carries_on as kind-carry, appends_one as kind-append, stays_full as kind-idle}
use Rattle.ahead_theory.specs.Counters.{cleared}
use Rattle.ahead_theory.proofs.Counters.{length-mixed_digits, length-cleared, cleared_at, carry_test, carry_clears, append_counts, ruler_most, ruler-places, ruler_at_multiple, all_from-places, length-places, size-places}
use Rattle.ahead_theory.specs.Positions.{Worked, Worked.carried, Worked.appended, Worked.idled, Worked.spent, gained}
use Rattle.ahead_theory.proofs.Positions.{Buffered, Position, one}
use Rattle.ahead_theory.specs.Canonical.{entries, producer_at}

pub length-entries : (ms : List ℕ) (t k : ℕ) → length (entries ms t k) ≡ k
unfolding entries
length-entries ms t zero = refl
length-entries ms t (suc k) = let l = length-entries ms t k in simp length-append (omega arith)

-- the oldest entry, and the others
pub entries_first : (ms : List ℕ) (t k : ℕ) → entries ms t (suc k) ≡ ruler ms (suc t) ∷ entries ms (suc t) k
unfolding entries
entries_first ms t zero = let e : t + 0 ≡ t = omega arith in rw e
entries_first ms t (suc k) =
    let e : suc (t + suc k) ≡ suc (suc t + k) = omega arith in
    rw (entries_first ms t k, e)

-- states with equal parts are equal
pub same_producer : {a a' q q' : List ℕ} {i i' k k' s s' : ℕ}
    → a ≡ a'
    → i ≡ i'
    → q ≡ q'
    → k ≡ k'
    → s ≡ s'
    → ◌≡◌ {A = Producer}
    (record { counter = a; place = i; queue = q; queued = k; steps = s })
    (record { counter = a'; place = i'; queue = q'; queued = k'; steps = s' })
same_producer a i q k s = cc

pub same_walk : {d d' : DirectedWord} {q q' : Producer} {c j j' : ℕ} {over : Bool}
    → d ≡ d'
    → q ≡ q'
    → j ≡ j'
    → ◌≡◌ {A = Walk}
    (record { directed = d; producer = q; capacity = c; moves = j; ended = over })
    (record { directed = d'; producer = q'; capacity = c; moves = j'; ended = over })
same_walk d q j = cc

-- ---- one work step
-- a work step at t, k, p is the event e and comes to k', p'
pub record WorksTo (ms : List ℕ) (c s t k p : ℕ) (e : Work) (k' p' : ℕ) : Type 0 where
  pub numbers : Worked ms c t k p e k' p'
  pub is_kind : kind ms c (producer_at ms s t k p) ≡ e
  pub leaves : done e (producer_at ms s t k p) ≡ producer_at ms (s + gained e) t k' p'

module _ (ms : List ℕ) (c : ℕ) (v : Buffered ms c) (s t k p : ℕ) (at : Position ms c t k p) where
  finished : List ℕ
  finished = mixed_digits (places ms) (t + k)

  long : length (cleared p finished) ≡ length ms + 1
  unfolding finished
  long =
      let l = length-mixed_digits (places ms) (t + k) in
      let m = length-places ms in
      let r = ruler_most ms (suc (t + k)) in
      let h = at.carries in
      length-cleared p (mixed_digits (places ms) (t + k)) (omega arith) ∙ l ∙ m

  place_within : p < length ms + 1
  place_within = let r = ruler_most ms (suc (t + k)) in let h = at.carries in omega arith

  index : suc p - 1 ≡ p
  index = omega arith

  stays : producer_at ms s t k p ≡ producer_at ms (s + 0) t k p
  stays = ap (λ (n : ℕ). producer_at ms n t k p) (sym (add-zero s))

  count_is : count_at (producer_at ms s t k p) ≡ get_or finished p 0
  unfolding finished
  count_is =
      let l = long in
      let w = place_within in
      ap (λ (i : ℕ). get_or (filled 49 0 (cleared p finished)) i 0) index
      ∙ get_d_filled 49 0 (cleared p finished) p 0 (omega arith)
      ∙ cleared_at p finished

  -- the counter with one more place cleared
  cleared_more : set (filled 49 0 (cleared p finished)) (suc p - 1) 0 ≡ filled 49 0 (cleared (suc p) finished)
  unfolding finished
  cleared_more =
      let l = long in
      let w = place_within in
      let m = length-places ms in
      let d = length-mixed_digits (places ms) (t + k) in
      ap (λ (i : ℕ). set (filled 49 0 (cleared p finished)) i 0) index
      ∙ set-filled 49 0 (cleared p finished) p 0 (omega arith)
      ∙ ap (filled 49 0) (carry_clears p finished (omega arith))

  -- the counter has run out: all its places carry, up to the last
  module _ (out : suc (t + k) ≡ 2 * size ms) where
    beyond : ruler (places ms) (suc (t + k)) ≡ suc (length ms + 1)
    beyond =
        ap (ruler (places ms)) (out ∙ sym (size-places ms))
        ∙ ruler_at_end (places ms) (all_from-places 1 ms (omega arith) (one ms v.two))
        ∙ ap suc (length-places ms)

    at_top : eqb (count_at (producer_at ms s t k p)) (radix_at ms (producer_at ms s t k p) - 1) ≡ true
    unfolding finished
    at_top =
        let w = place_within in
        let l = length-places ms in
        let r = beyond in
        ap (λ (b : ℕ). eqb b (get_or (places ms) (suc p - 1) 0 - 1)) count_is
        ∙ ap (λ (i : ℕ). eqb (get_or finished p 0) (get_or (places ms) i 0 - 1)) index
        ∙ carry_test (places ms) (all_from-places 1 ms (omega arith) (one ms v.two)) (t + k) p (omega arith) (omega arith)
        ∙ lt-ltb (suc p) (ruler (places ms) (suc (t + k))) (omega arith)

    pub run_out_lem : p ≡ length ms → run_out ms (producer_at ms s t k p) ≡ true
    run_out_lem last =
        let two : get_or (places ms) (suc p - 1) 0 ≡ 2 =
        ap (λ (i : ℕ). get_or (places ms) i 0) (index ∙ last) ∙ last_is_two ms in
        let top : eqb (count_at (producer_at ms s t k p)) (2 - 1) ≡ true =
        ap (λ (m : ℕ). eqb (count_at (producer_at ms s t k p)) (m - 1)) (sym two) ∙ at_top in
        rw (eq-eqb (suc p) (length ms + 1) (omega arith)) top

    does_last : (e : Work) × (k' : ℕ) × (p' : ℕ) × WorksTo ms c s t k p e k' p'
    unfolding finished done gained
    does_last =
        let w = place_within in
        let all : ruler ms (suc (t + k)) ≡ suc (length ms) =
        ap (ruler ms) (out ∙ mul_comm 2 (size ms)) ∙ ruler_at_multiple ms (one ms v.two) 2 in
        elim (dec_lt p (length ms)) [
          | yes more ↦ (
            carry,
            k,
            suc p,
            record {
              numbers = carried (omega arith);
              is_kind = kind-carry ms c (producer_at ms s t k p) (rw (ne_eqb (suc p) (length ms + 1) (λ z. omega arith))) at_top;
              leaves = same_producer cleared_more (add-one (suc p)) refl refl refl;
            },
          )
          | no last ↦ (
            idle,
            k,
            p,
            record { numbers = spent out; is_kind = runs_out ms c (producer_at ms s t k p) (run_out_lem (omega arith)); leaves = stays },
          )
        ]

  -- before that
  module _ (lasts : suc (t + k) < 2 * size ms) where
    -- b_i is m_i − 1 exactly if more carries are to come
    test_is : eqb (count_at (producer_at ms s t k p)) (radix_at ms (producer_at ms s t k p) - 1) ≡ ltb (suc p) (ruler ms (suc (t + k)))
    unfolding finished
    test_is =
        let w = place_within in
        let l = length-places ms in
        let r : ruler (places ms) (suc (t + k)) ≡ ruler ms (suc (t + k)) = ruler-places ms (one ms v.two) (t + k) lasts in
        let h : p < ruler (places ms) (suc (t + k)) = rw r at.carries in
        ap (λ (b : ℕ). eqb b (get_or (places ms) (suc p - 1) 0 - 1)) count_is
        ∙ ap (λ (i : ℕ). eqb (get_or finished p 0) (get_or (places ms) i 0 - 1)) index
        ∙ carry_test (places ms) (all_from-places 1 ms (omega arith) (one ms v.two)) (t + k) p (omega arith) h
        ∙ ap (λ (n : ℕ). ltb (suc p) n) r

    -- at place n + 1 the radix is 2, and no carry goes beyond
    pub not-run_out : run_out ms (producer_at ms s t k p) ≡ false
    not-run_out =
        elim (ℕ_discrete p (length ms)) [
          | no q ↦ rw (ne_eqb (suc p) (length ms + 1) (λ z. q (omega arith)))
          | yes q ↦
              let r = ruler_most ms (suc (t + k)) in
              let two : get_or (places ms) (suc p - 1) 0 ≡ 2 =
              ap (λ (i : ℕ). get_or (places ms) i 0) (index ∙ q) ∙ last_is_two ms in
              let no_more : eqb (count_at (producer_at ms s t k p)) (2 - 1) ≡ false =
              ap (λ (m : ℕ). eqb (count_at (producer_at ms s t k p)) (m - 1)) (sym two)
              ∙ test_is
              ∙ le-ltb (suc p) (ruler ms (suc (t + k))) (omega arith) in
              rw (eq-eqb (suc p) (length ms + 1) (omega arith)) no_more
        ]

    -- the counter of one entry more
    counted_more : suc p ≡ ruler ms (suc (t + k))
        → set (filled 49 0 (cleared p finished)) (suc p - 1) (count_at (producer_at ms s t k p) + 1)
        ≡ filled 49 0 (cleared 0 (mixed_digits (places ms) (t + suc k)))
    unfolding finished
    counted_more last =
        let l = long in
        let w = place_within in
        let m = length-places ms in
        let r = ruler-places ms (one ms v.two) (t + k) lasts in
        let e : suc (t + k) ≡ t + suc k = omega arith in
        ap (λ (b : ℕ). set (filled 49 0 (cleared p finished)) (suc p - 1) (b + 1)) count_is
        ∙ ap (λ (i : ℕ). set (filled 49 0 (cleared p finished)) i (get_or finished p 0 + 1)) index
        ∙ set-filled 49 0 (cleared p finished) p (get_or finished p 0 + 1) (omega arith)
        ∙ ap (filled 49 0)
        (append_counts (places ms) (all_from-places 1 ms (omega arith) (one ms v.two)) (t + k) p (omega arith) (last ∙ sym r))
        ∙ ap (λ (j : ℕ). filled 49 0 (mixed_digits (places ms) j)) e

    -- the queue with one entry more
    queued_more : suc p ≡ ruler ms (suc (t + k))
        → k < 32
        → set (filled 32 0 (entries ms t k)) k (suc p) ≡ filled 32 0 (entries ms t (suc k))
    unfolding entries
    queued_more last room =
        let l = length-entries ms t k in
        ap (λ (i : ℕ). set (filled 32 0 (entries ms t k)) i (suc p)) (sym l)
        ∙ filled-append 32 0 (entries ms t k) (suc p) (omega arith)
        ∙ ap (λ (x : ℕ). filled 32 0 (entries ms t k ++ (x ∷ []))) last

    -- all carries are made
    no_carry : suc p ≡ ruler ms (suc (t + k)) → eqb (count_at (producer_at ms s t k p)) (radix_at ms (producer_at ms s t k p) - 1) ≡ false
    no_carry h = test_is ∙ le-ltb (suc p) (ruler ms (suc (t + k))) (omega arith)

    carries_on : suc p < ruler ms (suc (t + k)) → WorksTo ms c s t k p carry k (suc p)
    unfolding finished done gained
    carries_on h =
        record {
          numbers = carried h;
          is_kind = kind-carry ms c (producer_at ms s t k p) not-run_out (test_is ∙ lt-ltb (suc p) (ruler ms (suc (t + k))) h);
          leaves = same_producer cleared_more (add-one (suc p)) refl refl refl;
        }

    pub appends_one : suc p ≡ ruler ms (suc (t + k)) → k < c → WorksTo ms c s t k p append (suc k) 0
    unfolding finished done gained
    appends_one h room =
        let cap = v.capacity in
        let w : Worked ms c t k p append (suc k) 0 = appended h room lasts in
        record {
          numbers = w;
          is_kind = kind-append ms c (producer_at ms s t k p) not-run_out (no_carry h) (lt-ltb k c room);
          leaves = same_producer (counted_more h) refl (queued_more h (omega arith)) (add-one k) refl;
        }

    stays_idle : suc p ≡ ruler ms (suc (t + k)) → k ≡ c → WorksTo ms c s t k p idle k p
    unfolding finished done gained
    stays_idle h full =
        record {
          numbers = idled h full;
          is_kind = kind-idle ms c (producer_at ms s t k p) not-run_out (no_carry h) (le-ltb k c (omega arith));
          leaves = stays;
        }

    does_more : (e : Work) × (k' : ℕ) × (p' : ℕ) × WorksTo ms c s t k p e k' p'
    does_more =
        let h = at.carries in
        let f = at.fits in
        elim (dec_lt (suc p) (ruler ms (suc (t + k)))) [
          | yes more ↦ (carry, k, suc p, carries_on more)
          | no last ↦
              elim (dec_lt k c) [
                | yes room ↦ (append, suc k, 0, appends_one (omega arith) room)
                | no full ↦ (idle, k, p, stays_idle (omega arith) (omega arith))
              ]
        ]

  pub does : (e : Work) × (k' : ℕ) × (p' : ℕ) × WorksTo ms c s t k p e k' p'
  does =
      let h = at.held in
      elim (dec_lt (suc (t + k)) (2 * size ms)) [
        | yes lasts ↦ does_more lasts
        | no out ↦ does_last (omega arith)
      ]
