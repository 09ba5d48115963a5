-- How long sluices rest in the walks of both engines, from the first call on. What is claimed stands in Rests; what a call is,
-- in Calls of ahead_theory and of towers_theory: the definitions that the contracts of `open` and `step` cite.
use Rattle.std.specs.Prelude.{ℕ, ◌*◌, ◌≤◌, ◌≡◌, List, length}
use Rattle.gray_theory.specs.Answers.{given}
use Rattle.gray_theory.specs.Radices.{digits}
use Rattle.gray_theory.specs.Locks.{unlocked}
use Rattle.gray_theory.specs.Engines.{answer_of}
use Rattle.ahead_theory.specs.States.{Walk}
use Rattle.ahead_theory.specs.Calls as ahead
use Rattle.ahead_theory.proofs.Openings as ahead-opens
use Rattle.ahead_theory.proofs.WorkAhead.{fresh_walks_work_ahead}
use Rattle.towers_theory.specs.States.{Towers}
use Rattle.towers_theory.specs.Calls as towers
use Rattle.towers_theory.proofs.Openings as towers-opens
use Rattle.towers_theory.proofs.DisksWalk.{disks-walk_the_list}
use Rattle.rests_theory.specs.Rests.{Rests}
use Rattle.rests_theory.proofs.Along.{along}
use Rattle.rests_theory.proofs.RunRests.{runs_along_the_list_rest}

-- The buffered engine, opened on whatever state, with half as many places as sluices move, rounded up: what its calls answer
-- keeps every claim of Rests. Call P is the first that moves sluice k, and so on.
pub buffered_walks_rest : (w : Walk) (radices : List ℕ) (c : ℕ)
    → (ahead.open_of w radices c).answer ≡ given tt
    → length (unlocked (digits radices)) ≤ 2 * c
    → Rests (digits radices) (answer_of ahead.step_of (ahead.open_of w radices c).state)
buffered_walks_rest w radices c accepted places =
    let ms = digits radices in
    let run = answer_of ahead.step_of (ahead.open_of w radices c).state in
    let walks = (fresh_walks_work_ahead w radices c accepted).never_dry places in
    runs_along_the_list_rest ms
    ((ahead-opens.opens_exactly w radices c).0 accepted).survey.one
    run
    (along ms run (λ j one h. (walks.moves j one h).answers) walks.end)

-- And the disk engine, of every survey that it opens.
pub disk_walks_rest : (s : Towers) (radices : List ℕ)
    → (towers.open_of s radices).answer ≡ given tt
    → Rests (digits radices) (answer_of towers.step_of (towers.open_of s radices).state)
disk_walks_rest s radices accepted =
    let ms = digits radices in
    let run = answer_of towers.step_of (towers.open_of s radices).state in
    let walks = disks-walk_the_list s radices accepted in
    runs_along_the_list_rest ms
    ((towers-opens.opens_exactly s radices).0 accepted).survey.one
    run
    (along ms run (λ j one h. (walks.moves j one h).answers) (λ j h. (walks.end j h).answers))
