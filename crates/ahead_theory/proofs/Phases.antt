-- A run of calls from wherever a walk stands, call by call: it goes on, or has run dry, or has ended; and from then on nothing
-- changes.
use Prim.Native.Nat.{ℕ, zero, suc, ◌+◌, ◌-◌, ◌*◌, ◌≤◌, ◌<◌}
use Rattle.std.proofs.Math.Decide.{dec_lt}
use native.Mathlib.Omega.{arith}
use Rattle.std.specs.Prelude.{◌≡◌, refl, length}
use Rattle.std.proofs.Common.{sym, ◌∙◌, subst}
use Rattle.std.proofs.Math.Path.{ap}
use mathlib.Core.List.{List, [], ◌∷◌, ◌++◌, append-nil}
use Rattle.gray_theory.specs.Locks.{unlocked}
use Rattle.gray_theory.proofs.Unlocked.{unlocked_two, size-unlocked}
use Rattle.gray_theory.specs.Answers.{given, refused}
use Rattle.gray_theory.specs.Radices.{size}
use Rattle.gray_theory.specs.Costs.{cost}
use Rattle.gray_theory.specs.Words.{member}
use Rattle.gray_theory.specs.Engines.{Event, move_at, ended, Handed, refused_with, after}
use Rattle.gray_theory.specs.Capacities.{Openable}
use Rattle.ahead_theory.specs.States.{Walk}
use Rattle.ahead_theory.specs.Work.{Work}
use Rattle.ahead_theory.specs.Calls.{Course, removing, course, step_by, step_of}
use Rattle.ahead_theory.specs.Events.{state, answer, events_by, events}
use Rattle.ahead_theory.specs.GoingOn.{NamesFrom}
use Rattle.ahead_theory.specs.Positions.{Worked, Worked.carried, Worked.appended, Worked.idled, Worked.spent}
use Rattle.ahead_theory.proofs.Positions.{buffered, Position, steps_at, Ahead, Behind, work_position, work_steps, gain_small, ahead_work, ahead_remove, ahead_queued, behind-work, behind_remove, behind_queued}
use Rattle.ahead_theory.specs.Rounds.{steps_after, running, Round}
use Rattle.ahead_theory.proofs.Rounds.{round, dry_call, removing_call, move_call, end_call}
use Rattle.ahead_theory.proofs.Standing.{Placed, steps_to, Over, placed-setting, over_goes, over_call}
use Rattle.ahead_theory.proofs.Tallies.{Tallied, tally_start, tally_twice, tally_remove}

-- ---- when nothing changes any more
-- the state after t calls is handed back by a call as it came, and no work step counts
pub record Still (w v : Walk) (t : ℕ) : Type 0 where
  pub there : state w t ≡ v
  pub stays : (step_of v).state ≡ v
  pub quiet : events_by v (course v) ≡ []

pub still_on : {w v : Walk} {t : ℕ} → Still w v t → (x : ℕ) → (state w (t + x) ≡ v) × (events w (t + x) ≡ events w t)
unfolding after events
still_on {w} {v} {t} s zero = let z : t + 0 ≡ t = omega arith in rw z (s.there, refl)
still_on {w} {v} {t} s (suc x) =
    let z : t + suc x ≡ suc (t + x) = omega arith in
    let (there, same) = still_on s x in
    let none : events_by (state w (t + x)) (course (state w (t + x))) ≡ [] = ap (λ (u : Walk). events_by u (course u)) there ∙ s.quiet in
    rw z (
      ap (λ (u : Walk). (step_of u).state) there ∙ s.stays,
      ap (λ (l : List Work). events w (t + x) ++ l) none ∙ append-nil (events w (t + x)) ∙ same,
    )

-- ---- the numbers of a run
-- x work steps of the present call are made. The run began at rank r with a entries finished by u useful steps: if it was ahead then,
-- it is, with places for half of the digits; if it was behind, it is; and its events fit. Here last is N − 1
pub record Numbers (ms : List ℕ) (c last r a u x t k p : ℕ) (es : List Work) : Type 0 where
  pub ahead : length ms ≤ 2 * c → Ahead ms r 0 u → Ahead ms t x (steps_at ms t k p)
  pub behind : Behind ms c last r 0 u → Behind ms c last t x (steps_at ms t k p)
  pub tallied : Tallied ms a u t k p es

numbers-begun : (ms : List ℕ) (c last t k p : ℕ) → Numbers ms c last t (t + k) (steps_at ms t k p) 0 t k p []
numbers-begun ms c last t k p = record { ahead = λ enough a. a; behind = λ b. b; tallied = tally_start ms t k p }

numbers-twice : {ms : List ℕ} {c s last r a u t k p : ℕ} {es : List Work}
    → Openable ms c
    → Position (unlocked ms) c t k p
    → (round : Round ms c s t k p)
    → Numbers (unlocked ms) c last r a u 0 t k p es
    → Numbers (unlocked ms) c last r a u 2 t round.k₂ round.p₂ (es ++ (round.e₁ ∷ round.e₂ ∷ []))
numbers-twice {ms} {last = last} v at round n =
    let at₁ = work_position at round.first in
    record {
      ahead = λ enough a.
          ahead_work 1 (buffered v) enough (omega arith) round.second
          (ahead_work 0 (buffered v) enough (omega arith) round.first (n.ahead enough a));
      behind = λ b. behind-work last 1 (unlocked_two ms) at₁ round.second (behind-work last 0 (unlocked_two ms) at round.first (n.behind b));
      tallied = tally_twice (unlocked_two ms) round.first round.second n.tallied;
    }

numbers_remove : {ms : List ℕ} {c last r a u t k p : ℕ} {es : List Work}
    → Numbers ms c last r a u 2 t (suc k) p es
    → Numbers ms c last r a u 0 (suc t) k p es
numbers_remove {ms} {c} {last} {r} {a} {u} {t} {k} {p} n =
    let e : t + suc k ≡ suc t + k = omega arith in
    let same : steps_at ms t (suc k) p ≡ steps_at ms (suc t) k p = ap (λ (j : ℕ). cost ms j + p) e in
    record {
      ahead = λ enough b. rw same at (ahead_remove ms t (steps_at ms t (suc k) p) (n.ahead enough b));
      behind = λ b. rw same at (behind_remove ms c last t (steps_at ms t (suc k) p) (n.behind b));
      tallied = tally_remove n.tallied;
    }

remove_position : {ms : List ℕ} {c t k p : ℕ} → Position ms c t (suc k) p → Position ms c (suc t) k p
remove_position {ms} {c} {t} {k} {p} at =
    let e : t + suc k ≡ suc t + k = omega arith in
    let f = at.fits in
    let h = at.held in
    record { fits = omega arith; carries = rw e at at.carries; held = omega arith }

-- no work step takes an entry away
queued_kept : {ms : List ℕ} {c t k p : ℕ} {e : Work} {k' p' : ℕ} → Worked ms c t k p e k' p' → k ≤ k'
queued_kept (carried h) = omega arith
queued_kept (appended h room more) = omega arith
queued_kept (idled h full) = omega arith
queued_kept (spent h) = omega arith

-- ---- the run
-- t calls are made from rank r, each has named its change, and the walk goes on at rank j
pub record Going (ms : List ℕ) (c last r : ℕ) (w : Walk) (from : Placed ms c r w) (t j : ℕ) : Type 0 where
  pub rank : r + t ≡ j
  pub here : Placed ms c j (state w t)
  pub counted : here.s + steps_to from ≡ from.s + steps_to here
  pub numbers : Numbers (unlocked ms) c last r (r + from.k) (steps_to from) 0 j here.k here.p (events w t)
  pub named : (i : ℕ) → 1 ≤ i → i ≤ t → NamesFrom ms r w i

-- the state v after t calls, with q entries queued, has an empty queue at the removal: the next call is dry, and so is every later one
pub record Dry (ms : List ℕ) (c r : ℕ) (w : Walk) (from : Placed ms c r w) (v : Walk) (t q : ℕ) : Type 0 where
  pub few : Ahead (unlocked ms) r 0 (steps_to from) → 2 * c < length (unlocked ms)
  pub still : Still w v t
  pub refuses : (step_of v).answer ≡ refused 10
  pub empty : q ≡ 0

-- t calls are made, the last of which has ended the walk at rank j, the last; every later one answers end
pub record Ending (ms : List ℕ) (c last r : ℕ) (w : Walk) (from : Placed ms c r w) (t j : ℕ) : Type 0 where
  pub rank : r + t ≡ suc j
  pub here : Over ms c j (state w t)
  pub counted : here.s + steps_to from ≡ from.s + steps_at (unlocked ms) (suc j) here.k here.p
  pub numbers : Numbers (unlocked ms) c last r (r + from.k) (steps_to from) 0 (suc j) here.k here.p (events w t)
  pub enough : Behind (unlocked ms) c last r 0 (steps_to from) → length (unlocked ms) ≤ 2 * c
  pub still : Still w (state w t) t
  pub ends : answer w t ≡ given ended
  pub ends_again : (step_of (state w t)).answer ≡ given ended
  pub named : (i : ℕ) → 1 ≤ i → i < t → NamesFrom ms r w i

-- ---- one call more
-- what the next call comes to
data Next (ms : List ℕ) (c last r : ℕ) (w : Walk) (from : Placed ms c r w) (t j : ℕ) (g : Going ms c last r w from t j) : Type 0 where
  goes_on : Going ms c last r w from (suc t) (suc j) → Next ms c last r w from t j g
  runs_dry : Dry ms c r w from (state w t) t g.here.k → Next ms c last r w from t j g
  comes_to_end : Ending ms c last r w from (suc t) j → Next ms c last r w from t j g

module _
    (ms : List ℕ) (c last : ℕ) (v : Openable ms c) (whole : size ms ≡ suc last) (r : ℕ) (w : Walk) (from : Placed ms c r w)
    (t j : ℕ) (g : Going ms c last r w from t j)
  where
    abbrev pl : Placed ms c j (state w t)
    pl = g.here

    abbrev now : Walk
    now = running ms c pl.s j pl.k pl.p

    abbrev Here : Type 0
    Here = Round ms c pl.s j pl.k pl.p

    at_twice : (o : Here) → Position (unlocked ms) c j o.k₂ o.p₂
    at_twice o = work_position (work_position pl.at o.first) o.second

    abbrev Then : Here → ℕ → Type 0
    Then o k = Numbers (unlocked ms) c last r (r + from.k) (steps_to from) 2 j k o.p₂ (events w t ++ (o.e₁ ∷ o.e₂ ∷ []))

    two_steps : (o : Here) → Then o o.k₂
    two_steps o = numbers-twice v pl.at o g.numbers

    -- the work steps of the call, if it removes an entry
    events_then : (o : Here) → course now ≡ removing → events w (suc t) ≡ events w t ++ (o.e₁ ∷ o.e₂ ∷ [])
    unfolding events
    events_then o e =
        ap (λ (u : Walk). events w t ++ events_by u (course u)) pl.is_state
        ∙ ap (λ (h : Course). events w t ++ events_by now h) e
        ∙ ap (λ (l : List Work). events w t ++ l) o.events_are

    step_then : {h : Handed Walk Event} → step_of now ≡ h → (state w (suc t) ≡ h.state) × (answer w (suc t) ≡ h.answer)
    unfolding after
    step_then e =
        let here : step_of (state w t) ≡ step_of now = ap step_of pl.is_state in
        let before : suc t - 1 ≡ t = omega arith in (
          ap (λ (h : Handed Walk Event). h.state) (here ∙ e),
          ap (λ (i : ℕ). (step_of (state w i)).answer) before ∙ ap (λ (h : Handed Walk Event). h.answer) (here ∙ e),
        )

    dry_next : (o : Here) → o.k₂ ≡ 0 → Dry ms c r w from (state w t) t pl.k
    unfolding step_of
    dry_next o none =
        let e = ap course pl.is_state ∙ dry_call ms c v pl.s j pl.k pl.p pl.at pl.below pl.low o none in
        let step : step_of (state w t) ≡ refused_with 10 (state w t) = ap (step_by (state w t)) e in
        let q₁ = queued_kept o.first in
        let q₂ = queued_kept o.second in
        record {
          few = λ a.
              elim (dec_lt (2 * c) (length (unlocked ms))) [
                | yes few ↦ few
                | no enough ↦
                    let some =
                    ahead_queued (unlocked_two ms) (at_twice o) (rw (size-unlocked ms v.survey.one) pl.below) ((two_steps o).ahead (omega arith) a) in
                    absurd (omega arith)
              ];
          still = record { there = refl; stays = ap (λ (h : Handed Walk Event). h.state) step; quiet = ap (events_by (state w t)) e };
          refuses = ap (λ (h : Handed Walk Event). h.answer) step;
          empty = omega arith;
        }

    -- the steps counted after a call that removes an entry
    counted_then : (o : Here) (k' : ℕ)
        → o.k₂ ≡ suc k'
        → steps_after o + steps_to from ≡ from.s + steps_at (unlocked ms) (suc j) k' o.p₂
    counted_then o k' some =
        let n₁ = work_steps (unlocked_two ms) o.first in
        let n₂ = work_steps (unlocked_two ms) o.second in
        let e : j + o.k₂ ≡ suc j + k' = omega arith in
        let same : steps_at (unlocked ms) j o.k₂ o.p₂ ≡ steps_at (unlocked ms) (suc j) k' o.p₂ =
        ap (λ (i : ℕ). cost (unlocked ms) i + o.p₂) e in
        let counted = g.counted in
        omega arith

    -- what holds after it
    module _ (o : Here) (k' : ℕ) (some : o.k₂ ≡ suc k') where
      removed_at : Position (unlocked ms) c (suc j) k' o.p₂
      removed_at = remove_position (subst (λ (k : ℕ). Position (unlocked ms) c j k o.p₂) some (at_twice o))

      removed : Numbers (unlocked ms) c last r (r + from.k) (steps_to from) 0 (suc j) k' o.p₂ (events w (suc t))
      removed =
          rw (events_then o (removing_call ms c v pl.s j pl.k pl.p pl.at pl.below pl.low o k' some))
          (numbers_remove (subst (Then o) some (two_steps o)))

      low_then : steps_after o ≤ 2 * j + 2
      low_then = let g₁ = gain_small o.e₁ in let g₂ = gain_small o.e₂ in let low = pl.low in omega arith

      move_next : suc j < size ms → Going ms c last r w from (suc t) (suc j)
      move_next more =
          let step = move_call ms c v pl.s j pl.k pl.p pl.at pl.below pl.low o k' some more in
          let (there, says) = step_then step in
          let low = low_then in
          let old = g.rank in
          let rank : r + suc t ≡ suc j = omega arith in
          let place : Placed ms c (suc j) (state w (suc t)) =
          record { s = steps_after o; k = k'; p = o.p₂; at = removed_at; below = more; low = omega arith; is_state = there } in
          let name : NamesFrom ms r w (suc t) =
          record {
            answers = says ∙ ap (λ (i : ℕ). given (move_at ms i)) (sym rank);
            hands_back = placed-setting ms c (suc j) (state w (suc t)) place ∙ ap (member ms) (sym rank);
          } in
          record {
            rank = rank;
            here = place;
            counted = counted_then o k' some;
            numbers = removed;
            named = λ i low high.
                elim (dec_lt i (suc t)) [
                  | yes before ↦ g.named i low (omega arith)
                  | no now ↦ let same : suc t ≡ i = omega arith in subst (NamesFrom ms r w) same name
                ];
          }

      end_next : suc j ≡ size ms → Ending ms c last r w from (suc t) j
      unfolding step_of
      end_next end =
          let step = end_call ms c v pl.s j pl.k pl.p pl.at pl.below pl.low o k' some end in
          let (there, says) = step_then step in
          let low = low_then in
          let old = g.rank in
          let place : Over ms c j (state w (suc t)) =
          record { s = steps_after o; k = k'; p = o.p₂; at = removed_at; last = end; low = low; is_state = there } in
          let again = over_goes ms c j (state w (suc t)) v place in
          let stays = over_call ms c j (state w (suc t)) v place in
          record {
            rank = omega arith;
            here = place;
            counted = counted_then o k' some;
            numbers = removed;
            enough = λ b.
                behind_queued last (unlocked_two ms) (at_twice o) (size-unlocked ms v.survey.one ∙ whole) (omega arith) (omega arith) ((two_steps o).behind b);
            still =
                record {
                  there = refl;
                  stays = ap (λ (h : Handed Walk Event). h.state) stays;
                  quiet = ap (events_by (state w (suc t))) again;
                };
            ends = says;
            ends_again = ap (λ (h : Handed Walk Event). h.answer) stays;
            named = λ i low high. g.named i low (omega arith);
          }

    next_call : Next ms c last r w from t j g
    next_call = by (round ms c v pl.s j pl.k pl.p pl.at)
      where
        on : (o : Here) (k₂ : ℕ) → o.k₂ ≡ k₂ → Next ms c last r w from t j g
        on o zero none = runs_dry (dry_next o none)
        on o (suc k') some =
            let below = pl.below in
            elim (dec_lt (suc j) (size ms)) [
              | yes more ↦ goes_on (move_next o k' some more)
              | no end ↦ comes_to_end (end_next o k' some (omega arith))
            ]

        by : Here → Next ms c last r w from t j g
        by o = on o o.k₂ refl

-- ---- the whole run
-- after any number of calls the walk goes on, has run dry after t calls, or has ended with call t
pub data Phase (ms : List ℕ) (c last r : ℕ) (w : Walk) (from : Placed ms c r w) (T : ℕ) : Type 0 where
  going : (j : ℕ) → Going ms c last r w from T j → Phase ms c last r w from T
  dried : (t j : ℕ) → t < T → (g : Going ms c last r w from t j) → Dry ms c r w from (state w t) t g.here.k → Phase ms c last r w from T
  over : (t j : ℕ) → t ≤ T → Ending ms c last r w from t j → Phase ms c last r w from T

module _ (ms : List ℕ) (c last : ℕ) (v : Openable ms c) (whole : size ms ≡ suc last) (r : ℕ) (w : Walk) (from : Placed ms c r w) where
  going_start : Going ms c last r w from 0 r
  unfolding after events
  going_start =
      record {
        rank = omega arith;
        here = from;
        counted = refl;
        numbers = numbers-begun (unlocked ms) c last r from.k from.p;
        named = λ i low high. absurd (omega arith);
      }

  pub phase : (T : ℕ) → Phase ms c last r w from T
  phase zero = going r going_start
  phase (suc T) = after_one (phase T)
    where
      onward : (j : ℕ) (g : Going ms c last r w from T j) → Next ms c last r w from T j g → Phase ms c last r w from (suc T)
      onward j g (goes_on g') = going (suc j) g'
      onward j g (runs_dry d) = dried T j (omega arith) g d
      onward j g (comes_to_end e) = over (suc T) j (omega arith) e

      after_one : Phase ms c last r w from T → Phase ms c last r w from (suc T)
      after_one (going j g) = onward j g (next_call ms c last v whole r w from T j g)
      after_one (dried t j h g d) = dried t j (omega arith) g d
      after_one (over t j h e) = over t j (omega arith) e
