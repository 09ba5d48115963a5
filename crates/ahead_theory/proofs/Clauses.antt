-- What the phases of a run come to: from wherever a walk stands it keeps to the list; and, one by one, the clauses of demand 3,
-- which is about walks from the start.
use Rattle.std.specs.Prelude.{ℕ, suc, ◌+◌, ◌-◌, ◌*◌, ◌≤◌, ◌<◌, ◌≡◌, Bool, cond, List, [], ◌∷◌, ◌++◌, eqb, length, get_or}
use Rattle.std.proofs.Math.Decide.{dec_lt}
use Rattle.std.proofs.Common.{zero-add, ◌∙◌}
use native.Mathlib.Omega.{arith}
use Rattle.std.proofs.Math.Path.{refl, sym, ap, subst}
use Rattle.std.proofs.Math.Bool.{true, false}
use borrow.Author.Tests.{lt-ltb}
use Rattle.std.proofs.Math.Dec.{ltb}
use Rattle.std.proofs.Math.ListN.{replicate}
use Rattle.gray_theory.specs.Answers.{given, refused}
use Rattle.gray_theory.specs.Bools.{impossible}
use Rattle.gray_theory.specs.Radices.{size, mixed_digits}
use Rattle.gray_theory.specs.Words.{member}
use Rattle.gray_theory.specs.Costs.{cost}
use Rattle.gray_theory.specs.Engines.{move_at, ended, after}
use Rattle.gray_theory.specs.Locks.{unlocked}
use Rattle.gray_theory.proofs.Unlocked.{unlocked_two, size-unlocked}
use Rattle.gray_theory.proofs.Rulers.{ruler_pos}
use Rattle.gray_theory.proofs.Sizes.{size_pos}
use Rattle.gray_theory.specs.Arrays.{filled}
use Rattle.gray_theory.proofs.WordRanges.{fresh_at}
use Rattle.gray_theory.proofs.Filled.{take-filled, filled-replicate}
use Rattle.gray_theory.specs.Capacities.{Openable}
use Rattle.ahead_theory.specs.States.{Producer, Walk, places, in_range}
use Rattle.ahead_theory.specs.Work.{Work, append, run_out, kind, done}
use Rattle.ahead_theory.specs.Calls.{fresh, once, twice, Course, course, dequeued, end_of, move_of, step_by, step_of}
use Rattle.ahead_theory.specs.Events.{state, answer, events, Accepting}
use Rattle.ahead_theory.specs.Demand.{Within, Finished, StepsCounted, NamesChange, WalksTheList, RunsDry, WorksAhead, StaysInRange}
use Rattle.ahead_theory.specs.GoingOn.{NamesFrom, GoesOn, Does, Does.names, Does.is_end_lem, Does.is_dry, KeepsToTheList}
use Rattle.ahead_theory.proofs.Counters.{mixed_start, length-places}
use Rattle.ahead_theory.proofs.Entries.{cost-zero}
use Rattle.ahead_theory.specs.Positions.{gained}
use Rattle.ahead_theory.proofs.Positions.{buffered, Position, steps_at, Ahead, Behind, ahead_fresh, behind-fresh, steps_short, work_position, work_steps, gain_small, counter_lasts}
use Rattle.ahead_theory.specs.Canonical.{entries, producer_at}
use Rattle.ahead_theory.proofs.Canonical.{same_producer, same_walk, not-run_out}
use Rattle.ahead_theory.specs.Rounds.{running}
use Rattle.ahead_theory.proofs.Rounds.{round}
use Rattle.ahead_theory.proofs.Standing.{Placed, steps_to, placed-setting, placed_within, placed_ranged, over_within, over_ranged}
use Rattle.ahead_theory.proofs.Tallies.{Tallied, tally_finished}
use Rattle.ahead_theory.proofs.Phases.{Still, still_on, Going, Dry, Ending, Phase, Phase.going, Phase.dried, Phase.over, phase}

-- ---- no refusal but 10
removal_given : (w : Walk) (b : Bool) (k x : ℕ) (p : Producer) → (cond b (end_of w p) (move_of w k p)).answer ≡ refused x → ⊥
unfolding end_of move_of
removal_given w true k x p e = impossible (cc)
removal_given w false k x p e = impossible (cc)

-- a call on a state in range is refused with 10, if it is, so that none gets 7
pub only_dry : (w : Walk) → in_range w ≡ true → (x : ℕ) → (step_of w).answer ≡ refused x → x ≡ 10
unfolding step_of course
only_dry w r x e = by w.ended (eqb (twice w).queued 0) (rw r at e)
  where
    by : (over empty : Bool) → (step_by w (cond over Course.over (cond empty Course.dry Course.removing))).answer ≡ refused x → x ≡ 10
    by true empty e = impossible (cc)
    by false true e = let z : 10 ≡ x = cc in sym z
    by false false e =
        absurd
        (removal_given w (eqb (get_or (twice w).queue 0 0) (w.directed.moving.count + 1)) (get_or w.directed.moving.digits (get_or (twice w).queue 0 0 - 1) 0) x
        (dequeued (twice w))
        e)

not_7 : (w : Walk) → in_range w ≡ true → (step_of w).answer ≡ refused 7 → ⊥
not_7 w r e = let z = only_dry w r 7 e in omega arith

-- ---- the states of a run
-- the rest of a run stands still
rest : {w v : Walk} {t : ℕ} → Still w v t → (T : ℕ) → t ≤ T → (state w T ≡ v) × (events w T ≡ events w t)
rest {w} {v} {t} s T h =
    let e : t + (T - t) ≡ T = omega arith in
    subst (λ (x : ℕ). (state w x ≡ v) × (events w x ≡ events w t)) e (still_on s (T - t))

dry_from : {ms : List ℕ} {c r : ℕ} {w : Walk} {from : Placed ms c r w} {v : Walk} {t q : ℕ}
    → Dry ms c r w from v t q
    → (i : ℕ)
    → suc t ≤ i
    → answer w i ≡ refused 10
dry_from d i h = ap (λ (u : Walk). (step_of u).answer) (rest d.still (i - 1) (omega arith)).0 ∙ d.refuses

end_from : {ms : List ℕ} {c last r : ℕ} {w : Walk} {from : Placed ms c r w} {t j : ℕ}
    → Ending ms c last r w from t j
    → (i : ℕ)
    → t ≤ i
    → answer w i ≡ given ended
end_from {w = w} {t = t} e i h =
    elim (dec_lt t i) [
      | yes later ↦ ap (λ (u : Walk). (step_of u).answer) (rest e.still (i - 1) (omega arith)).0 ∙ e.ends_again
      | no here ↦ let same : t ≡ i = omega arith in subst (λ (x : ℕ). answer w x ≡ given ended) same e.ends
    ]

-- the state after T calls is that of a walk that goes on after t, or that of the end
data Reaches (ms : List ℕ) (c last r : ℕ) (w : Walk) (from : Placed ms c r w) (T : ℕ) : Type 0 where
  going_on : (t j : ℕ)
      → Going ms c last r w from t j
      → state w T ≡ state w t
      → events w T ≡ events w t
      → Reaches ms c last r w from T
  ended_at : (t j : ℕ)
      → Ending ms c last r w from t j
      → state w T ≡ state w t
      → events w T ≡ events w t
      → Reaches ms c last r w from T

reaches : {ms : List ℕ} {c last r : ℕ} {w : Walk} {from : Placed ms c r w} {T : ℕ} → Phase ms c last r w from T → Reaches ms c last r w from T
reaches {T = T} (going j g) = going_on T j g refl refl
reaches {T = T} (dried t j h g d) = let (there, same) = rest d.still T (omega arith) in going_on t j g there same
reaches {T = T} (over t j h e) = let (there, same) = rest e.still T h in ended_at t j e there same

-- ---- from wherever the walk stands
module _ (ms : List ℕ) (c last : ℕ) (v : Openable ms c) (whole : size ms ≡ suc last) (r : ℕ) (w : Walk) (from : Placed ms c r w) where
  abbrev Run : ℕ → Type 0
  Run T = Phase ms c last r w from T

  run : (T : ℕ) → Run T
  run T = phase ms c last v whole r w from T

  -- the queue never holds more than c entries
  keeps_capacity : (T : ℕ) → Within c (state w T)
  keeps_capacity T = by (reaches (run T))
    where
      by : Reaches ms c last r w from T → Within c (state w T)
      by (going_on t j g e same) = rw e (placed_within ms c j (state w t) g.here)
      by (ended_at t j s e same) = rw e (over_within ms c j (state w t) s.here)

  -- every state is in range
  ranged : (T : ℕ) → in_range (state w T) ≡ true
  ranged T = by (reaches (run T))
    where
      by : Reaches ms c last r w from T → in_range (state w T) ≡ true
      by (going_on t j g e same) = rw e (placed_ranged ms c j (state w t) v g.here)
      by (ended_at t j s e same) = rw e (over_ranged ms c j (state w t) v s.here)

  never_7 : (t : ℕ) → answer w t ≡ refused 7 → ⊥
  never_7 t = not_7 (state w (t - 1)) (ranged (t - 1))

  -- at whatever capacity
  pub keeps_to_the_list : KeepsToTheList ms c r w
  keeps_to_the_list =
      record {
        start = placed-setting ms c r w from;
        calls = λ t low. call_does t low (run t);
        dry_stays = λ t x low e. later t x low e (run t);
        stays_in_range = ranged;
        never_7 = never_7;
        capacity = keeps_capacity;
      }
    where
      call_does : (t : ℕ) → 1 ≤ t → Run t → Does ms r w t
      call_does t low (going j g) =
          let rank = g.rank in
          let below = g.here.below in
          names (omega arith) (g.named t low (omega arith))
      call_does t low (dried i j h g d) =
          is_dry (dry_from d t (omega arith))
          ((rest d.still t (omega arith)).0 ∙ sym (rest d.still (t - 1) (omega arith)).0)
      call_does t low (over i j h e) =
          let rank = e.rank in
          let end = e.here.last in
          is_end_lem (omega arith) (end_from e t h)

      later : (t x : ℕ) → 1 ≤ t → answer w t ≡ refused 10 → Run t → answer w (t + x) ≡ refused 10
      later t x low e (going j g) = let named = (g.named t low (omega arith)).answers in impossible (cc)
      later t x low e (dried i j h g d) = dry_from d (t + x) (omega arith)
      later t x low e (over i j h s) = let end = end_from s t h in impossible (cc)

  -- the first call finds an entry that is queued
  pub queued_is_not_dry : 0 < from.k → answer w 1 ≡ refused 10 → ⊥
  unfolding after
  queued_is_not_dry some e = by (run 1)
    where
      by : Run 1 → ⊥
      by (going j g) = let named = (g.named 1 (omega arith) (omega arith)).answers in impossible (cc)
      by (dried i j h g d) =
          let first : i ≡ 0 = omega arith in
          let here = ap (λ (u : Walk). u.producer.queued) from.is_state in
          let there = ap (λ (u : Walk). u.producer.queued) g.here.is_state in
          let same : (state w i).producer.queued ≡ w.producer.queued = ap (λ (t : ℕ). (state w t).producer.queued) first in
          let empty = d.empty in
          absurd (omega arith)
      by (over i j h s) = let end = end_from s 1 h in impossible (cc)

  -- a walk that is ahead, with places for half of the digits that move, goes on to the end
  pub goes_on : length (unlocked ms) ≤ 2 * c → Ahead (unlocked ms) r 0 (steps_to from) → GoesOn ms r w
  goes_on enough ahead =
      record {
        start = placed-setting ms c r w from;
        moves = λ t low less. moves_at_lem t low less (run t);
        made = λ t less. made_at t less (run t);
        end = λ t past. end_at t past (run t);
        unchanged = λ t past. unchanged_at t past (run t);
      }
    where
      moves_at_lem : (t : ℕ) → 1 ≤ t → r + t < size ms → Run t → NamesFrom ms r w t
      moves_at_lem t low less (going j g) = g.named t low (omega arith)
      moves_at_lem t low less (dried i j h g d) = let few = d.few ahead in absurd (omega arith)
      moves_at_lem t low less (over i j h e) = let rank = e.rank in let end = e.here.last in absurd (omega arith)

      made_at : (t : ℕ) → r + t < size ms → Run t → (state w t).moves ≡ r + t
      made_at t less (going j g) = ap (λ (u : Walk). u.moves) g.here.is_state ∙ sym g.rank
      made_at t less (dried i j h g d) = let few = d.few ahead in absurd (omega arith)
      made_at t less (over i j h e) = let rank = e.rank in let end = e.here.last in absurd (omega arith)

      end_at : (t : ℕ) → size ms ≤ r + t → Run t → answer w t ≡ given ended
      end_at t past (going j g) = let rank = g.rank in let below = g.here.below in absurd (omega arith)
      end_at t past (dried i j h g d) = let few = d.few ahead in absurd (omega arith)
      end_at t past (over i j h e) = end_from e t h

      unchanged_at : (t : ℕ) → size ms ≤ r + t → Run t → state w (suc t) ≡ state w t
      unchanged_at t past (going j g) = let rank = g.rank in let below = g.here.below in absurd (omega arith)
      unchanged_at t past (dried i j h g d) = let few = d.few ahead in absurd (omega arith)
      unchanged_at t past (over i j h e) = (rest e.still (suc t) (omega arith)).0 ∙ sym (rest e.still t h).0

  -- the state that it comes to
  pub stands_after : length (unlocked ms) ≤ 2 * c
      → Ahead (unlocked ms) r 0 (steps_to from)
      → (t : ℕ)
      → r + t < size ms
      → Placed ms c (r + t) (state w t)
  stands_after enough ahead t less = by (run t)
    where
      by : Run t → Placed ms c (r + t) (state w t)
      by (going j g) = subst (λ (i : ℕ). Placed ms c i (state w t)) (sym g.rank) g.here
      by (dried i j h g d) = let few = d.few ahead in absurd (omega arith)
      by (over i j h e) = let rank = e.rank in let end = e.here.last in absurd (omega arith)

-- ---- from the start
module _ (ms : List ℕ) (c : ℕ) (v : Openable ms c) where
  fresh_is : fresh ms c ≡ running ms c 0 0 0 0
  unfolding fresh entries
  fresh_is =
      let l = length-places (unlocked ms) in
      let few = (buffered v).most in
      let counter : replicate 49 0 ≡ filled 49 0 (mixed_digits (places (unlocked ms)) 0) =
      sym (ap (filled 49 0) (mixed_start (places (unlocked ms))) ∙ filled-replicate 49 0 (length (places (unlocked ms))) (omega arith)) in
      same_walk (fresh_at ms v.survey) (same_producer counter refl refl refl refl) refl

  -- nothing is worked out
  pub fresh-placed : Placed ms c 0 (fresh ms c)
  fresh-placed =
      let pos = size_pos ms v.survey.one in
      let same = size-unlocked ms v.survey.one in
      record {
        s = 0;
        k = 0;
        p = 0;
        at = record { fits = omega arith; carries = ruler_pos (unlocked ms) (suc (0 + 0)); held = omega arith };
        below = pos;
        low = omega arith;
        is_state = fresh_is;
      }

  none_made : steps_to fresh-placed ≡ 0
  unfolding fresh-placed
  none_made = let z = cost-zero (unlocked ms) in omega arith

  pub fresh_ahead : Ahead (unlocked ms) 0 0 (steps_to fresh-placed)
  fresh_ahead = subst (λ (s : ℕ). Ahead (unlocked ms) 0 0 s) (sym none_made) (ahead_fresh (unlocked ms) (unlocked_two ms))

  module _ (last : ℕ) (whole : size ms ≡ suc last) where
    abbrev FreshRun : ℕ → Type 0
    FreshRun T = Phase ms c last 0 (fresh ms c) fresh-placed T

    abbrev FreshGoing : ℕ → ℕ → Type 0
    FreshGoing t j = Going ms c last 0 (fresh ms c) fresh-placed t j

    fresh-run : (T : ℕ) → FreshRun T
    fresh-run T = phase ms c last v whole 0 (fresh ms c) fresh-placed T

    fresh-behind : Behind (unlocked ms) c last 0 0 (steps_to fresh-placed)
    fresh-behind = subst (λ (s : ℕ). Behind (unlocked ms) c last 0 0 s) (sym none_made) (behind-fresh (unlocked ms) c last v.place)

    -- change j is that of call j
    names-change : (t : ℕ) → NamesFrom ms 0 (fresh ms c) t → NamesChange ms (fresh ms c) t
    names-change t n =
        record {
          answers = n.answers ∙ ap (λ (j : ℕ). given (move_at ms j)) (zero-add t);
          hands_back = n.hands_back ∙ ap (member ms) (zero-add t);
        }

    -- (b)
    finishes : (T : ℕ) (before later : List Work) → events (fresh ms c) T ≡ before ++ append ∷ later → Finished (unlocked ms) before
    unfolding fresh-placed
    finishes T before later here = by (reaches (fresh-run T))
      where
        by : Reaches ms c last 0 (fresh ms c) fresh-placed T → Finished (unlocked ms) before
        by (going_on t j g e same) =
            tally_finished before later (unlocked_two ms) (omega arith) none_made g.numbers.tallied (sym same ∙ here)
        by (ended_at t j s e same) =
            tally_finished before later (unlocked_two ms) (omega arith) none_made s.numbers.tallied (sym same ∙ here)

    -- (c)
    counted_at : (s t j k p : ℕ)
        → 0 + t ≡ j
        → s + steps_to fresh-placed ≡ 0 + steps_at (unlocked ms) j k p
        → Position (unlocked ms) c j k p
        → Tallied (unlocked ms) (0 + 0) (steps_to fresh-placed) j k p (events (fresh ms c) t)
        → (state (fresh ms c) t).producer ≡ producer_at (unlocked ms) s j k p
        → StepsCounted (unlocked ms) (fresh ms c) t
    counted_at s t j k p rank counted at r e =
        let made : (state (fresh ms c) t).producer.steps ≡ s = ap (λ (q : Producer). q.steps) e in
        let queued : (state (fresh ms c) t).producer.queued ≡ k = ap (λ (q : Producer). q.queued) e in
        let none = none_made in
        let short = steps_short (unlocked_two ms) at in
        let useful = r.steps in
        let many = r.entries in
        let same : t + (state (fresh ms c) t).producer.queued ≡ j + k = omega arith in
        let costs = ap (cost (unlocked ms)) same in
        let next = ap (λ (i : ℕ). cost (unlocked ms) (suc i)) same in
        record { steps = omega arith; entries = omega arith; reached = omega arith; not_next = omega arith }

    counts : (t : ℕ) → t ≤ size ms → Accepting (fresh ms c) t → StepsCounted (unlocked ms) (fresh ms c) t
    unfolding fresh-placed
    counts t most accepting = by (fresh-run t)
      where
        by : FreshRun t → StepsCounted (unlocked ms) (fresh ms c) t
        by (going j g) =
            let h = g.here in
            counted_at h.s t j h.k h.p g.rank g.counted h.at g.numbers.tallied (ap (λ (u : Walk). u.producer) h.is_state)
        by (dried d j h g r) = absurd (accepting (suc d) 10 (omega arith) (omega arith) (dry_from r (suc d) (omega arith)))
        by (over d j h e) =
            let o = e.here in
            let rank = e.rank in
            let end = o.last in
            let same : d ≡ t = omega arith in
            subst (StepsCounted (unlocked ms) (fresh ms c)) same
            (counted_at o.s d (suc j) o.k o.p rank e.counted o.at e.numbers.tallied (ap (λ (u : Walk). u.producer) o.is_state))

    -- (d): the fresh walk goes on from rank 0
    walks : length (unlocked ms) ≤ 2 * c → WalksTheList ms (fresh ms c)
    walks enough =
        let on = goes_on ms c last v whole 0 (fresh ms c) fresh-placed enough fresh_ahead in
        record {
          moves = λ j from to. names-change j (on.moves j from (omega arith));
          made = λ j to. on.made j (omega arith) ∙ zero-add j;
          end = λ j from. on.end j (omega arith);
          unchanged = λ j from. on.unchanged j (omega arith);
        }

    -- (e)
    dries : 2 * c < length (unlocked ms) → (d : ℕ) × RunsDry ms (fresh ms c) d
    dries few = by (fresh-run (size ms))
      where
        -- a walk that goes on after t calls has not run dry before, so that each of its states has made as many moves as calls
        before : (t j : ℕ) → FreshGoing t j → (i : ℕ) → i ≤ t → FreshRun i → (state (fresh ms c) i).moves ≡ i
        before t j g i to (going k here) =
            ap (λ (u : Walk). u.moves) here.here.is_state ∙ sym here.rank ∙ zero-add i
        before t j g i to (dried d k h early dry) =
            let named = (g.named (suc d) (omega arith) (omega arith)).answers in
            let refuses = dry_from dry (suc d) (omega arith) in
            impossible (cc)
        before t j g i to (over d k h e) =
            let rank = e.rank in
            let end = e.here.last in
            let there = g.rank in
            let below = g.here.below in
            absurd (omega arith)

        by : FreshRun (size ms) → (d : ℕ) × RunsDry ms (fresh ms c) d
        by (going j g) = let rank = g.rank in let below = g.here.below in absurd (omega arith)
        by (dried t j h g d) = (
          suc t,
          record {
            from_one = omega arith;
            within_N = h;
            moves = λ i from to. names-change i (g.named i from (omega arith));
            made = λ i to. before t j g i (omega arith) (fresh-run i);
            dry = λ i from. dry_from d i from;
            unchanged = λ i from. (rest d.still i (omega arith)).0 ∙ sym (rest d.still (suc t - 1) (omega arith)).0;
            quiet = λ i from. (rest d.still i (omega arith)).1 ∙ ap (events (fresh ms c)) (omega arith);
          },
        )
        by (over t j h e) = let enough = e.enough fresh-behind in absurd (omega arith)

    pub run_works_ahead : WorksAhead ms c (fresh ms c)
    run_works_ahead =
        record {
          start = placed-setting ms c 0 (fresh ms c) fresh-placed;
          capacity = keeps_capacity ms c last v whole 0 (fresh ms c) fresh-placed;
          step_formula = finishes;
          counted = counts;
          never_dry = walks;
          dry_within_N = dries;
        }

    -- ---- the counter never runs out, unless all digits are locked: at most 2 t + 1 useful steps are made
    lasts : 0 < length (unlocked ms)
        → (T : ℕ)
        → (state (fresh ms c) T).ended ≡ false
        → (run_out (unlocked ms) (state (fresh ms c) T).producer ≡ false) × (run_out (unlocked ms) (once (state (fresh ms c) T)) ≡ false)
    unfolding fresh-placed
    lasts some T not-over = by (reaches (fresh-run T))
      where
        by : Reaches ms c last 0 (fresh ms c) fresh-placed T
            → (run_out (unlocked ms) (state (fresh ms c) T).producer ≡ false) × (run_out (unlocked ms) (once (state (fresh ms c) T)) ≡ false)
        by (going_on t j g e same) =
            let h = g.here in
            let r = round ms c v h.s j h.k h.p h.at in
            let at = work_position h.at r.first in
            let is = e ∙ h.is_state in
            let below = h.below in
            let low = h.low in
            let none = none_made in
            let counted = g.counted in
            let gain = gain_small r.e₁ in
            let more = work_steps (unlocked_two ms) r.first in
            let whole-moves = size-unlocked ms v.survey.one in (
              ap (λ (u : Walk). run_out (unlocked ms) u.producer) is
                  ∙ not-run_out (unlocked ms) c (buffered v) h.s j h.k h.p h.at (counter_lasts (buffered v) some h.at (omega arith)),
              ap (λ (u : Walk). run_out (unlocked ms) (once u)) is
                  ∙ ap (run_out (unlocked ms)) r.once_is
                  ∙ not-run_out (unlocked ms) c (buffered v) (h.s + gained r.e₁) j r.k₁ r.p₁ at (counter_lasts (buffered v) some at (omega arith)),
            )
        by (ended_at t j s e same) =
            let ends : true ≡ false = sym (ap (λ (u : Walk). u.ended) (e ∙ s.here.is_state)) ∙ not-over in impossible (cc)

    -- with all locked it has after the first work step
    none_moves : (ws : List ℕ) → length ws ≡ 0 → ws ≡ []
    none_moves [] e = refl
    none_moves (m ∷ ws) e = absurd (omega arith)

    runs_out : length (unlocked ms) ≡ 0
        → (run_out (unlocked ms) (fresh ms c).producer ≡ false) × (run_out (unlocked ms) (once (fresh ms c)) ≡ true)
    unfolding fresh kind done
    runs_out none =
        let locked = none_moves (unlocked ms) none in
        let room : ltb 0 c ≡ true = lt-ltb 0 c v.place in
        (rw locked, rw (take-filled 48 0 ms, locked, room))

    pub run_stays_in_range : StaysInRange ms (fresh ms c)
    run_stays_in_range =
        record {
          stays_in_range = ranged ms c last v whole 0 (fresh ms c) fresh-placed;
          never_7 = never_7 ms c last v whole 0 (fresh ms c) fresh-placed;
          first = λ some T not-over. (lasts some T not-over).0;
          second = λ some T not-over. (lasts some T not-over).1;
          all_locked = runs_out;
        }
