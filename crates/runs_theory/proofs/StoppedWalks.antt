-- A walk that was stopped goes on where it stood, as a resumed one writes the list's moves.
use Rattle.std.specs.Prelude.{ℕ, zero, suc, ◌-◌, ◌*◌, ◌≤◌, ◌<◌, ◌≡◌, List, length}
use Rattle.std.proofs.Common.{arith, ◌∙◌}
use Rattle.std.proofs.Math.Path.{ap}
use Rattle.std.proofs.lemmas.List.{reverse-reverse}
use Rattle.gray_theory.specs.Answers.{given}
use Rattle.gray_theory.specs.Radices.{digits, bytes, size}
use Rattle.gray_theory.specs.Words.{member, rank}
use Rattle.gray_theory.proofs.Ranks.{rank_of_member}
use Rattle.gray_theory.specs.Locks.{unlocked}
use Rattle.gray_theory.specs.Engines.{after}
use Rattle.gray_theory.specs.RunCalls.{end}
use Rattle.ahead_theory.specs.States as walks
use Rattle.ahead_theory.specs.Calls as ahead
use Rattle.ahead_theory.proofs.Openings.{opens_exactly}
use Rattle.ahead_theory.specs.Demand.{WorksAhead}
use Rattle.ahead_theory.proofs.WorkAhead.{fresh_walks_work_ahead}
use Rattle.ahead_theory.proofs.PickedUp.{resumes_exactly}
use Rattle.runs_theory.specs.MoveCalls.{resumed_moves_call}
use Rattle.runs_theory.specs.Agree.{writes_first}
use Rattle.runs_theory.proofs.Resumed.{resumed_moves_are_the_lists}

-- Stopped and gone on: the setting that a walk from the start hands back after k moves, at most N − 1, is all that has to be
-- kept. A walk that is picked up there writes the moves after the first k, on any capacity that is enough.
pub stopped_walks_go_on : (radices : List ℕ) (c c' : ℕ)
    → (ahead.open_of ahead.closed_walk radices c).answer ≡ given tt
    → (ahead.open_of ahead.closed_walk radices c').answer ≡ given tt
    → length (unlocked (digits radices)) ≤ 2 * c
    → length (unlocked (digits radices)) ≤ 2 * c'
    → (k : ℕ)
    → k < size (digits radices)
    → (t : ℕ) (out : List ℕ)
    → resumed_moves_call radices c' (bytes (walks.setting (after ahead.step_of (ahead.open_of ahead.closed_walk radices c).state k))) t out
    ≡ writes_first (digits radices) k (size (digits radices) - k) end t out
unfolding after
stopped_walks_go_on radices c c' opened opened' places places' k below t out =
    let ms = digits radices in
    let (is_IsWord, rank_is) = rank_of_member ms k below in
    let back : digits (bytes (member ms k)) ≡ member ms k = reverse-reverse (member ms k) in
    let v = (opens_exactly ahead.closed_walk radices c').0 opened' in
    let accepted = (resumes_exactly ahead.closed_walk radices c' (bytes (member ms k))).1 (v, rw back is_IsWord) in
    let there : rank ms (digits (bytes (member ms k))) ≡ k = ap (rank ms) back ∙ rank_is in
    ap (λ (s : List ℕ). resumed_moves_call radices c' (bytes s) t out) (setting_at k below)
    ∙ resumed_moves_are_the_lists radices c' (bytes (member ms k)) accepted places' t out
    ∙ ap (λ (r : ℕ). writes_first ms r (size ms - r) end t out) there
  where
    works : WorksAhead (digits radices) c (ahead.open_of ahead.closed_walk radices c).state
    works = fresh_walks_work_ahead ahead.closed_walk radices c opened

    setting_at : (i : ℕ)
        → i < size (digits radices)
        → walks.setting (after ahead.step_of (ahead.open_of ahead.closed_walk radices c).state i) ≡ member (digits radices) i
    setting_at zero less = works.start
    setting_at (suc i) less = ((works.never_dry places).moves (suc i) (omega arith) less).hands_back
