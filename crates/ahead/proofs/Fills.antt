-- Laws for the loop that fills a walk's buffer ahead. Assumes nothing.
use Prim.Native.Nat.{ℕ, ◌+◌, ◌-◌, ◌≤◌, ◌<◌}
use native.Mathlib.Omega.{arith}
use mathlib.Core.Path.{◌≡◌, sym, ap, subst, ◌∙◌}
use mathlib.Core.List.{List}
use Rattle.ahead_theory.specs.States.{Producer, Walk, moving_radices, Arrays}
use Rattle.ahead_theory.specs.Work.{work}
use Rattle.ahead_theory.specs.Pickups.{fill_steps}
use Rattle.ahead_theory.specs.GoingOn.{rebuffered}
use Rattle.ahead_theory.proofs.Positions.{Buffered, buffered}
use Rattle.ahead_theory.proofs.FillLaws.{OnTheWay, way_begun, way_again, way_bound, way_ended, way_ranged, way_counter, way_queue, way_place}
use Rattle.ahead.specs.declared.Progress.{Progress}
use Rattle.ahead.specs.Structs.{producer_with}
use Rattle.ahead.specs.Stages.{moving_of, Known, Workable}
use Rattle.ahead.specs.Pickups.{Unfilled, filled_ahead}
use Rattle.ahead.proofs.Ranges.{moving_count, moving_most, moving_radices_lem, moving-survey}

-- work steps from the walk have come to this producer
abbrev pub Filling : Walk → Producer → Type 0
Filling w now = OnTheWay (moving_radices w) w.capacity w.moves now

abbrev pub fills_left : Walk → ℕ → ℕ
fills_left w steps = fill_steps (moving_radices w) w.capacity - steps

module _ (w : Walk) (entries : ℕ) (ok : Unfilled w entries) (a : Arrays w) where
  known : Known w.directed
  known = record { most = ok.most; one = ok.opens.survey.one; moving = ok.moving }

  buffer : Buffered (moving_radices w) w.capacity
  buffer = buffered ok.opens

  pub fill-begun : Filling w w.producer
  fill-begun = subst (Filling w) (sym ok.empty) (way_begun (moving_radices w) w.capacity buffer w.moves ok.below)

  module _ (counter queue : List ℕ) (at : Progress) (o : Filling w (producer_with counter queue at)) where
    -- a work step more
    pub fill_workable : Workable w.directed.radices w.directed.moving.digits w.directed.n w.directed.moving.count w.capacity counter queue at
    fill_workable =
        let ms = moving_radices w in
        let many = moving_count w.directed a.directed known in
        let few = buffer.most in
        let capacity = buffer.capacity in
        let bound = way_bound ms w.capacity buffer w.moves ok.below (producer_with counter queue at) o in
        let (low, high) = way_place ms w.capacity buffer w.moves ok.below (producer_with counter queue at) o in
        record {
          survey = moving-survey w.directed a.directed known;
          most = moving_most w.directed a.directed known;
          long = way_counter ms w.capacity buffer w.moves ok.below (producer_with counter queue at) o;
          wide = way_queue ms w.capacity buffer w.moves ok.below (producer_with counter queue at) o;
          capacity = capacity;
          ranged = rw (moving_radices_lem w.directed a.directed known) (way_ranged ms w.capacity buffer w.moves ok.below (producer_with counter queue at) o);
          from_one = low;
          last = omega arith;
          small = omega arith;
        }

    module _ (more : at.queued < entries) (counter' queue' : List ℕ) (next : Progress)
        (works : producer_with counter' queue' next ≡ work (moving_of w.directed.radices w.directed.moving.digits w.directed.moving.count) w.capacity (producer_with counter queue at))
      where
        worked : Filling w (producer_with counter' queue' next) × (next.steps ≡ at.steps + 1)
        worked =
            let now = producer_with counter queue at in
            let full = ok.full in
            let (on, one) = way_again (moving_radices w) w.capacity buffer w.moves ok.below now o (omega arith) in
            let there : producer_with counter' queue' next ≡ work (moving_radices w) w.capacity now =
            works ∙ ap (λ ms. work ms w.capacity now) (moving_radices_lem w.directed a.directed known) in
            (subst (Filling w) (sym there) on, ap (λ (p : Producer). p.steps) there ∙ one)

        pub fill_more : Filling w (producer_with counter' queue' next)
        fill_more = worked.0

        pub fill_less : fills_left w next.steps < fills_left w at.steps
        fill_less =
            let one = worked.1 in
            let bound = way_bound (moving_radices w) w.capacity buffer w.moves ok.below (producer_with counter queue at) o in
            omega arith

    pub fill_ended : entries ≤ at.queued
        → rebuffered w w.capacity (record { counter = counter; place = at.place; queue = queue; queued = at.queued; steps = 0 })
        ≡ filled_ahead w
    fill_ended h =
        let full = ok.full in
        ap (rebuffered w w.capacity)
        (way_ended (moving_radices w) w.capacity buffer w.moves ok.below (producer_with counter queue at) o (omega arith))
