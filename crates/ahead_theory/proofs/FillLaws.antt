-- Laws for a loop that fills ahead: it makes work steps while the queue holds fewer entries than the reach.
use Rattle.std.specs.Prelude.{ℕ, suc, ◌+◌, ◌-◌, ◌≤◌, ◌<◌, ◌≡◌, true, List, length}
use Rattle.std.proofs.Common.{add-zero, arith, sym, ap, ap₂, ◌∙◌}
use Rattle.gray_theory.specs.Radices.{size, mixed_digits}
use Rattle.gray_theory.specs.Costs.{cost}
use Rattle.gray_theory.proofs.Bounds.{cost_burst}
use Rattle.gray_theory.proofs.Filled.{length-filled}
use Rattle.ahead_theory.specs.States.{Producer, places, producer_in_range}
use Rattle.ahead_theory.specs.Work.{work}
use Rattle.ahead_theory.specs.Counters.{cleared}
use Rattle.ahead_theory.proofs.Counters.{length-mixed_digits, length-cleared, length-places, ruler_most}
use Rattle.ahead_theory.proofs.Entries.{cost_mono}
use Rattle.ahead_theory.specs.Pickups.{unfilled, fill_steps, uncounted, filled_at}
use Rattle.ahead_theory.specs.Positions.{gained}
use Rattle.ahead_theory.proofs.Positions.{Buffered, Position, steps_at, one, work_position, work_steps, steps_short}
use Rattle.ahead_theory.specs.Canonical.{entries, producer_at}
use Rattle.ahead_theory.proofs.Canonical.{length-entries, does}
use Rattle.ahead_theory.proofs.RunRanges.{producer_ranged}
use Rattle.ahead_theory.proofs.Rounds.{work_is}
use Rattle.ahead_theory.specs.Filling.{reach}
use Rattle.ahead_theory.proofs.Filling.{reaches, reach_fits, reach_some, start, useful_step, unfilled_is, filled_ahead_lem}

-- s useful steps have been made from rank t, and none of them is past the reach
pub record OnTheWay (ms : List ℕ) (c t : ℕ) (now : Producer) : Type 0 where
  pub s : ℕ
  pub k : ℕ
  pub p : ℕ
  pub at : Position ms c t k p
  pub here : k ≤ reach ms c t
  pub within : steps_at ms t k p ≤ cost ms (t + reach ms c t)
  pub counted : cost ms t + s ≡ steps_at ms t k p
  pub is_state : now ≡ producer_at ms s t k p

module _ (ms : List ℕ) (c : ℕ) (v : Buffered ms c) (t : ℕ) (below : t < size ms) where
  pub way_begun : OnTheWay ms c t (unfilled ms t)
  way_begun =
      let same = ap (cost ms) (add-zero t) in
      let more = cost_mono ms (one ms v.two) t (reach ms c t) in
      record {
        s = 0;
        k = 0;
        p = 0;
        at = start ms c v t below;
        here = omega arith;
        within = omega arith;
        counted = omega arith;
        is_state = unfilled_is ms t below;
      }

  module _ (now : Producer) (o : OnTheWay ms c t now) where
    queued_is : now.queued ≡ o.k
    queued_is = ap (λ (q : Producer). q.queued) o.is_state

    steps_are : now.steps ≡ o.s
    steps_are = ap (λ (q : Producer). q.steps) o.is_state

    -- one work step more, which is useful
    pub way_again : now.queued < reach ms c t → OnTheWay ms c t (work ms c now) × ((work ms c now).steps ≡ now.steps + 1)
    way_again more =
        let q = queued_is in
        let e = steps_are in
        let less : o.k < reach ms c t = omega arith in
        let (fits, most) = reach_fits (reaches ms c t below) in
        let (w, k', p', d) = does ms c v o.s t o.k o.p o.at in
        let (one_step, near) = useful_step ms c v t below (reach ms c t) fits most less d.numbers in
        let steps = work_steps v.two d.numbers in
        let counted = o.counted in
        let short = steps_short v.two o.at in
        let f : suc (t + o.k) + (reach ms c t - suc o.k) ≡ t + reach ms c t = omega arith in
        let grows : cost ms (suc (t + o.k)) ≤ cost ms (t + reach ms c t) =
        rw f at (cost_mono ms (one ms v.two) (suc (t + o.k)) (reach ms c t - suc o.k)) in
        let there : work ms c now ≡ producer_at ms (o.s + gained w) t k' p' = ap (work ms c) o.is_state ∙ work_is d in
        let made = ap (λ (z : Producer). z.steps) there in (
          record {
            s = o.s + gained w;
            k = k';
            p = p';
            at = work_position o.at d.numbers;
            here = near;
            within = omega arith;
            counted = omega arith;
            is_state = there;
          },
          omega arith,
        )

    -- the steps stay below the bound
    pub way_bound : now.steps < fill_steps ms c
    way_bound =
        let e = steps_are in
        let within = o.within in
        let counted = o.counted in
        let (fits, most) = reach_fits (reaches ms c t below) in
        let burst = cost_burst ms v.two t (reach ms c t) (reach_some ms c v t below) in
        omega arith

    -- the end: with its steps put back to 0, the buffer filled ahead
    pub way_ended : reach ms c t ≤ now.queued → uncounted now ≡ filled_at ms c t
    way_ended full =
        let q = queued_is in
        let here = o.here in
        let same : o.k ≡ reach ms c t = omega arith in
        let costs = ap (λ (j : ℕ). cost ms (t + j)) same in
        let within = o.within in
        let none : o.p ≡ 0 = omega arith in
        ap uncounted o.is_state
        ∙ ap₂ (λ (j i : ℕ). producer_at ms 0 t j i) same none
        ∙ sym (filled_ahead_lem ms c v t below)

    -- what a work step asks for
    pub way_ranged : producer_in_range ms c now ≡ true
    way_ranged = ap (producer_in_range ms c) o.is_state ∙ producer_ranged ms c v o.s t o.k o.p o.at

    pub way_counter : length now.counter ≡ 49
    way_counter =
        let l = length-places ms in
        let d = length-mixed_digits (places ms) (t + o.k) in
        let r = ruler_most ms (suc (t + o.k)) in
        let h = o.at.carries in
        let most = v.most in
        let long = length-cleared o.p (mixed_digits (places ms) (t + o.k)) (omega arith) in
        ap (λ (z : Producer). length z.counter) o.is_state
        ∙ length-filled 49 0 (cleared o.p (mixed_digits (places ms) (t + o.k))) (omega arith)

    pub way_queue : length now.queue ≡ 32
    way_queue =
        let l = length-entries ms t o.k in
        let fits = o.at.fits in
        let cap = v.capacity in
        ap (λ (z : Producer). length z.queue) o.is_state ∙ length-filled 32 0 (entries ms t o.k) (omega arith)

    pub way_place : (1 ≤ now.place) × (now.place ≤ length ms + 1)
    way_place =
        let e : now.place ≡ suc o.p = ap (λ (z : Producer). z.place) o.is_state in
        let r = ruler_most ms (suc (t + o.k)) in
        let h = o.at.carries in
        (omega arith, omega arith)
