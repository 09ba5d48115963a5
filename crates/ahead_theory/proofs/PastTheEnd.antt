-- What comes after the last move of a walk.
use Rattle.std.specs.Prelude.{ℕ, ◌+◌, ◌≤◌, ◌≡◌}
use Rattle.std.proofs.Common.{arith, ◌∙◌}
use Rattle.gray_theory.specs.Answers.{given}
use Rattle.gray_theory.specs.Changes.{Change}
use Rattle.gray_theory.specs.Engines.{moved, refused_with}
use Rattle.gray_theory.specs.Radices.{size}
use Rattle.ahead_theory.specs.States.{Walk, survey}
use Rattle.ahead_theory.specs.Calls.{course, step_of}
use Rattle.ahead_theory.proofs.Kept.{past_the_end, one_move}

-- a state that moves at j = N − 1 comes out with j = N, and its next call gets 7
pub last_move_then_7 : (w : Walk) (c : Change) (notch : ℕ)
    → w.moves + 1 ≡ size (survey w)
    → (step_of w).answer ≡ given (moved c notch)
    → ((step_of w).state.moves ≡ size (survey w)) × (step_of (step_of w).state ≡ refused_with 7 (step_of w).state)
unfolding step_of
last_move_then_7 w c notch last e =
    let (more, same) = one_move w c notch (course w) e in
    let now = more ∙ last in
    let most : size (survey (step_of w).state) ≤ (step_of w).state.moves = rw (same, now) (omega arith) in
    (now, past_the_end (step_of w).state most)
