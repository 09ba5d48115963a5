-- Each call that runs moves from an opening tells its outcomes apart.
use Rattle.std.specs.Prelude.{ℕ, not, List}
use Rattle.std.proofs.Common.{arith}
use Rattle.gray_theory.specs.Answers.{given}
use Rattle.gray_theory.specs.Radices.{digits}
use Rattle.gray_theory.specs.Words.{is_word}
use Rattle.gray_theory.specs.Engines.{after}
use Rattle.gray_theory.proofs.Openings.{opening_answers_its_check}
use Rattle.ahead_theory.specs.States as walks
use Rattle.ahead_theory.specs.Calls as ahead
use Rattle.ahead_theory.specs.Pickups as pickups
use Rattle.ahead_theory.proofs.WorkAhead.{fresh_walks_stay_in_range}
use Rattle.ahead_theory.proofs.PickedUp.{picked_up_walks_keep_to_the_list}
use Rattle.towers_theory.specs.States as games
use Rattle.towers_theory.specs.Calls as towers
use Rattle.towers_theory.proofs.DisksWalk.{disks-walk_the_list}
use Rattle.runs_theory.specs.MoveCalls.{walk_moves_call, resumed_moves_call, disk_moves_call}
use Rattle.capi.specs.Told.{Tells}
use Rattle.capi.proofs.Checked.{valued, after_check, after_radices, after-survey}
use Rattle.capi.proofs.RunsTellApart.{run_tells, Any, opened_run_tells, walk_tells, never_refused}

-- A walk from the start.
pub walk-run_tells : (radices : List ℕ) (c t : ℕ) (out : List ℕ) → Tells (walk_moves_call radices c t out).answer
unfolding walk_moves_call ahead.open_of
walk-run_tells radices c t out =
    let ms = digits radices in
    opened_run_tells _ (walks.open_check c ms) _ out
    (opening_answers_its_check _ _ (walks.open_check c ms))
    (after-survey 9 Any ms c (given tt) (omega arith) (λ o. valued tt))
    (λ accepted. walk_tells _ (fresh_walks_stay_in_range ahead.closed_walk radices c accepted).stays_in_range t out)

-- One that is picked up at a setting.
pub resumed_run_tells : (radices : List ℕ) (c : ℕ) (word : List ℕ) (t : ℕ) (out : List ℕ) → Tells (resumed_moves_call radices c word t out).answer
unfolding resumed_moves_call pickups.resume_of
resumed_run_tells radices c word t out =
    let ms = digits radices in
    opened_run_tells _ (pickups.resume_check ms c (digits word)) _ out
    (opening_answers_its_check _ _ (pickups.resume_check ms c (digits word)))
    (after-survey 9 Any ms c _ (omega arith) (λ o.
    after_check 9 Any 8 (not (is_word ms (digits word))) (given tt) (omega arith) (omega arith) (λ e. valued tt)))
    (λ accepted. walk_tells _ (picked_up_walks_keep_to_the_list ahead.closed_walk radices c word accepted).stays_in_range t out)

-- A game from the start.
pub disk_run_tells : (radices : List ℕ) (t : ℕ) (out : List ℕ) → Tells (disk_moves_call radices t out).answer
unfolding disk_moves_call towers.open_of after
disk_run_tells radices t out =
    let ms = digits radices in
    opened_run_tells _ (games.open_check ms) _ out
    (opening_answers_its_check _ _ (games.open_check ms))
    (after_radices 9 Any ms _ (omega arith) (λ l.
    after_check 9 Any 6 (games.wrong_counts ms) (given tt) (omega arith) (omega arith) (λ e. valued tt)))
    (λ accepted.
    let ranged = (disks-walk_the_list towers.closed_towers radices accepted).stays_in_range in
    run_tells games.in_range towers.step_of _ (ranged 0) (λ j x. never_refused _ (ranged j) x) t out)
