-- One call on a state of the run: its two work steps, and the removal.
use Prim.Native.Nat.{ℕ, suc, ◌+◌, ◌-◌, ◌*◌, ◌≤◌, ◌<◌}
use Rattle.std.proofs.Common.{add-one, ap₂, ◌∙◌}
use native.Mathlib.Omega.{arith}
use Rattle.std.specs.Prelude.{◌≡◌, refl, true, false, List, [], ◌∷◌, ◌++◌, length, get_or, drop}
use Rattle.std.proofs.Math.Path.{sym, ap}
use Rattle.gray_theory.specs.Answers.{given}
use Rattle.gray_theory.specs.Radices.{size, mixed_digits}
use Rattle.gray_theory.specs.Changes.{ruler}
use Rattle.gray_theory.specs.Locks.{unlocked, moving_digits}
use Rattle.gray_theory.proofs.Unlocked.{size-unlocked, unlocked_two, length-moving, entry_number, moving_stored}
use Rattle.gray_theory.proofs.Rulers.{ruler_pos, ruler_at_end}
use Rattle.gray_theory.proofs.Turns.{Advances, walk_advances}
use Rattle.gray_theory.specs.Engines.{Event, move_at, ended}
use Rattle.gray_theory.specs.Arrays.{filled}
use Rattle.gray_theory.proofs.WordRanges.{survey_at, directed_moves, directed_event}
use Rattle.gray_theory.proofs.Filled.{filled-drop}
use Rattle.ahead_theory.specs.States.{Producer, Walk, moving_radices, places, in_range}
use Rattle.ahead_theory.specs.Work.{Work, kind, done, work}
use Rattle.ahead_theory.specs.Calls.{once, twice, dry, removing, course, dequeued, end_of, move_of, step_of}
use Rattle.ahead_theory.proofs.Kept.{goes_dry, goes_removing, removes_last, removes_digit}
use Rattle.ahead_theory.specs.Counters.{cleared}
use Rattle.gray_theory.specs.Capacities.{Openable}
use Rattle.ahead_theory.specs.Positions.{gained}
use Rattle.ahead_theory.proofs.Positions.{buffered, Position, one, work_position}
use Rattle.ahead_theory.specs.Canonical.{entries, producer_at, walk_at}
use Rattle.ahead_theory.proofs.Canonical.{length-entries, entries_first, same_producer, same_walk, WorksTo, does}
use Rattle.ahead_theory.proofs.RunRanges.{producer_ranged, state_ranged}
use Rattle.ahead_theory.specs.Rounds.{running, Round, steps_after}

pub work_is : {ws : List ℕ} {c s t k p : ℕ} {e : Work} {k' p' : ℕ}
    → WorksTo ws c s t k p e k' p'
    → work ws c (producer_at ws s t k p) ≡ producer_at ws (s + gained e) t k' p'
work_is {ws} {c} {s} {t} {k} {p} d = ap (λ (e : Work). done e (producer_at ws s t k p)) d.is_kind ∙ d.leaves

joined : {ms : List ℕ} {c s t k p : ℕ} {e₁ e₂ : Work} {k₁ p₁ k₂ p₂ : ℕ}
    → WorksTo (unlocked ms) c s t k p e₁ k₁ p₁
    → WorksTo (unlocked ms) c (s + gained e₁) t k₁ p₁ e₂ k₂ p₂
    → Round ms c s t k p
joined {ms} {c} {s} {t} {k} {p} {e₁} {e₂} {k₁} {p₁} {k₂} {p₂} d₁ d₂ =
    let w : Walk = running ms c s t k p in
    let ws : List ℕ = unlocked ms in
    let l : moving_radices w ≡ ws = ap unlocked (survey_at ms t) in
    let o : once w ≡ producer_at ws (s + gained e₁) t k₁ p₁ = ap (λ (h : List ℕ). work h c (producer_at ws s t k p)) l ∙ work_is d₁ in
    let kind₁ : kind (moving_radices w) c (producer_at ws s t k p) ≡ e₁ = ap (λ (h : List ℕ). kind h c (producer_at ws s t k p)) l ∙ d₁.is_kind in
    let kind₂ : kind (moving_radices w) c (once w) ≡ e₂ = ap₂ (λ (h : List ℕ) (q : Producer). kind h c q) l o ∙ d₂.is_kind in
    record {
      e₁ = e₁;
      k₁ = k₁;
      p₁ = p₁;
      e₂ = e₂;
      k₂ = k₂;
      p₂ = p₂;
      first = d₁.numbers;
      second = d₂.numbers;
      events_are = ap₂ (λ (a b : Work). a ∷ b ∷ []) kind₁ kind₂;
      once_is = o;
      twice_is = ap₂ (λ (h : List ℕ) (q : Producer). work h c q) l o ∙ work_is d₂;
    }

pub round : (ms : List ℕ) (c : ℕ) → Openable ms c → (s t k p : ℕ) → Position (unlocked ms) c t k p → Round ms c s t k p
round ms c v s t k p at =
    let (e₁, k₁, p₁, d₁) = does (unlocked ms) c (buffered v) s t k p at in
    let (e₂, k₂, p₂, d₂) = does (unlocked ms) c (buffered v) (s + gained e₁) t k₁ p₁ (work_position at d₁.numbers) in
    joined d₁ d₂

-- ---- the removal
-- the oldest entry, and the producer without it
oldest : (ms : List ℕ) (t k : ℕ) → get_or (filled 32 0 (entries ms t (suc k))) 0 0 ≡ ruler ms (suc t)
oldest ms t k = ap (λ (l : List ℕ). get_or (filled 32 0 l) 0 0) (entries_first ms t k)

dequeued_is : (ms : List ℕ) (s t k p : ℕ) → k < 32 → dequeued (producer_at ms s t (suc k) p) ≡ producer_at ms s (suc t) k p
unfolding dequeued
dequeued_is ms s t k p room =
    let e : t + suc k ≡ suc t + k = omega arith in
    let l = length-entries ms (suc t) k in
    same_producer
    (ap (λ (j : ℕ). filled 49 0 (cleared p (mixed_digits (places ms) j))) e)
    refl
    (ap (λ (q : List ℕ). drop 1 (filled 32 0 q) ++ (0 ∷ [])) (entries_first ms t k)
    ∙ filled-drop 32 0 (ruler ms (suc t)) (entries ms (suc t) k) (omega arith))
    (omega arith)
    refl

-- the entry of a digit moves it as the list says
move_is : (ms : List ℕ) (c t i : ℕ) (q left : Producer)
    → Advances ms t i
    → suc t < size ms
    → move_of (walk_at ms c t false q) (suc i) left
    ≡ record { state = walk_at ms c (suc t) false left; answer = given (move_at ms (suc t)) }
unfolding move_of
move_is ms c t i q left a below =
    ap₂ (λ (u : Walk) (e : Event). record { state = u; answer = given e })
    (same_walk (directed_moves ms t i a) refl (add-one t))
    (directed_event ms t i a below)

-- ---- one call
-- a call on a running state goes as its queue has it after the two work steps
module _ (ms : List ℕ) (c : ℕ) (v : Openable ms c) (s t k p : ℕ) (at : Position (unlocked ms) c t k p) (below : t < size ms) (low : s ≤ 2 * t) where
  pub running_ranged : in_range (running ms c s t k p) ≡ true
  running_ranged = state_ranged ms c t false (producer_at (unlocked ms) s t k p) v below (producer_ranged (unlocked ms) c (buffered v) s t k p at) (omega arith)

  queued_is : (r : Round ms c s t k p) → (twice (running ms c s t k p)).queued ≡ r.k₂
  queued_is r = ap (λ (q : Producer). q.queued) r.twice_is

  -- the queue is empty: the call is dry
  pub dry_call : (r : Round ms c s t k p) → r.k₂ ≡ 0 → course (running ms c s t k p) ≡ dry
  dry_call r none = goes_dry (running ms c s t k p) running_ranged refl (queued_is r ∙ none)

  -- it holds an entry: the oldest is removed
  pub removing_call : (r : Round ms c s t k p) (k' : ℕ) → r.k₂ ≡ suc k' → course (running ms c s t k p) ≡ removing
  removing_call r k' some =
      let e = queued_is r in goes_removing (running ms c s t k p) running_ranged refl (λ none. omega arith)

  module _ (r : Round ms c s t k p) (k' : ℕ) (some : r.k₂ ≡ suc k') where
    twice_is_one_more : twice (running ms c s t k p) ≡ producer_at (unlocked ms) (steps_after r) t (suc k') r.p₂
    twice_is_one_more = r.twice_is ∙ ap (λ (j : ℕ). producer_at (unlocked ms) (steps_after r) t j r.p₂) some

    oldest_is : get_or (twice (running ms c s t k p)).queue 0 0 ≡ ruler (unlocked ms) (suc t)
    oldest_is = ap (λ (q : Producer). get_or q.queue 0 0) twice_is_one_more ∙ oldest (unlocked ms) t k'

    left_is : dequeued (twice (running ms c s t k p)) ≡ producer_at (unlocked ms) (steps_after r) (suc t) k' r.p₂
    left_is =
        let at₁ = work_position at r.first in
        let fits = (work_position at₁ r.second).fits in
        let cap = v.capacity in
        ap dequeued twice_is_one_more ∙ dequeued_is (unlocked ms) (steps_after r) t k' r.p₂ (omega arith)

    -- it is a digit's: the change of the list
    pub move_call : suc t < size ms
        → step_of (running ms c s t k p)
        ≡ record { state = running ms c (steps_after r) (suc t) k' r.p₂; answer = given (move_at ms (suc t)) }
    move_call more =
        let (i, a) = walk_advances ms v.survey.one t more in
        let entry = get_or (twice (running ms c s t k p)).queue 0 0 in
        let pos = ruler_pos (unlocked ms) (suc t) in
        let is = oldest_is in
        let (few, number) =
        entry_number ms v.survey.one (suc t) i (ruler (unlocked ms) (suc t) - 1) a.digit a.within (omega arith) in
        let many = length-moving ms in
        let digit : get_or (moving_digits ms).digits (entry - 1) 0 ≡ suc i =
        ap (λ (j : ℕ). get_or (moving_digits ms).digits (j - 1) 0) is
        ∙ (moving_stored ms).digits (ruler (unlocked ms) (suc t) - 1) few
        ∙ number in
        removes_digit (running ms c s t k p) (removing_call r k' some) (λ last. omega arith)
        ∙ ap₂ (move_of (running ms c s t k p)) digit left_is
        ∙ move_is ms c t i (producer_at (unlocked ms) s t k p) (producer_at (unlocked ms) (steps_after r) (suc t) k' r.p₂) a more

    -- it is the last: the end
    pub end_call : suc t ≡ size ms
        → step_of (running ms c s t k p)
        ≡ record { state = walk_at ms c t true (producer_at (unlocked ms) (steps_after r) (suc t) k' r.p₂); answer = given ended }
    unfolding end_of
    end_call last =
        let whole : suc t ≡ size (unlocked ms) = last ∙ sym (size-unlocked ms v.survey.one) in
        let e : ruler (unlocked ms) (suc t) ≡ suc (length (unlocked ms)) =
        ap (ruler (unlocked ms)) whole ∙ ruler_at_end (unlocked ms) (one (unlocked ms) (unlocked_two ms)) in
        let many = length-moving ms in
        let n : suc (length (unlocked ms)) ≡ (moving_digits ms).count + 1 = omega arith in
        removes_last (running ms c s t k p) (removing_call r k' some) (oldest_is ∙ e ∙ n) ∙ ap (end_of (running ms c s t k p)) left_is
