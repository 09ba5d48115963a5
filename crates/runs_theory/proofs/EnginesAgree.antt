-- What both engines write agrees, as each writes the list's moves.
use Prim.Native.Nat.{ℕ, ◌*◌, ◌≤◌}
use Rattle.std.proofs.Math.Decide.{dec_lt}
use Rattle.std.proofs.Common.{sym, ◌∙◌}
use native.Mathlib.Omega.{arith}
use Rattle.std.specs.Prelude.{◌≡◌, length}
use mathlib.Core.List.{List}
use Rattle.gray_theory.specs.Answers.{given}
use Rattle.gray_theory.specs.Radices.{digits, size}
use Rattle.gray_theory.proofs.Sizes.{size_pos}
use Rattle.gray_theory.specs.Locks.{unlocked}
use Rattle.gray_theory.specs.Engines.{answer_of}
use Rattle.gray_theory.specs.RunCalls.{Stop, end, refusal}
use Rattle.ahead_theory.specs.States as walks
use Rattle.ahead_theory.specs.Calls as ahead
use Rattle.ahead_theory.proofs.Openings as ahead-opens
use Rattle.ahead_theory.proofs.WorkAhead.{fresh_walks_work_ahead}
use Rattle.towers_theory.specs.States as games
use Rattle.towers_theory.specs.Calls as towers
use Rattle.towers_theory.proofs.DisksWalk.{disks-walk_the_list}
use Rattle.runs_theory.specs.MoveCalls.{walk_moves_call, disk_moves_call}
use Rattle.runs_theory.specs.Agree.{writes_first}
use Rattle.runs_theory.proofs.Agree.{walk-moves_are_the_lists, walk-moves-run_dry, disk_moves_are_the_lists}

-- Whatever its capacity, it writes moves of the list, from the first on without a gap.
pub walk-moves_begin_the_list : (radices : List ℕ) (c : ℕ)
    → (ahead.open_of ahead.closed_walk radices c).answer ≡ given tt
    → (d : ℕ)
    × (stop : Stop)
    × (1 ≤ d)
    × (d ≤ size (digits radices))
    × ((t : ℕ) (out : List ℕ) → walk_moves_call radices c t out ≡ writes_first (digits radices) 0 d stop t out)
walk-moves_begin_the_list radices c accepted =
    let n = size (digits radices) in
    elim (dec_lt (2 * c) (length (unlocked (digits radices)))) [
      | yes few ↦ (
          let (d, one, within, writes) = walk-moves-run_dry radices c accepted few in (d, refusal 10, one, within, writes)
          )
      | no enough ↦ (
        n,
        end,
        size_pos (digits radices) ((ahead-opens.opens_exactly ahead.closed_walk radices c).0 accepted).survey.one,
        omega arith,
        walk-moves_are_the_lists radices c accepted (omega (arith, enough)),
      )
    ]

-- ---- two controllers, one on each engine, with places enough
module _ (radices : List ℕ) (c : ℕ) (places : length (unlocked (digits radices)) ≤ 2 * c) where
  -- They agree on every move of a run, on every end and on every refusal.
  pub engines_agree : (ahead.open_of ahead.closed_walk radices c).answer ≡ given tt
      → (towers.open_of towers.closed_towers radices).answer ≡ given tt
      → (t : ℕ) (out : List ℕ)
      → walk_moves_call radices c t out ≡ disk_moves_call radices t out
  engines_agree walk disks t out =
      walk-moves_are_the_lists radices c walk places t out ∙ sym (disk_moves_are_the_lists radices disks t out)

  -- And call by call, on whatever states they were opened: they answer the same digit, direction and notch, or both the end.
  pub single_calls_agree : (w : walks.Walk) (s : games.Towers)
      → (ahead.open_of w radices c).answer ≡ given tt
      → (towers.open_of s radices).answer ≡ given tt
      → (j : ℕ)
      → 1 ≤ j
      → answer_of ahead.step_of (ahead.open_of w radices c).state j ≡ answer_of towers.step_of (towers.open_of s radices).state j
  single_calls_agree w s walk disks j low =
      let here = (fresh_walks_work_ahead w radices c walk).never_dry places in
      let there = disks-walk_the_list s radices disks in
      elim (dec_lt j (size (digits radices))) [
        | yes more ↦ (here.moves j low more).answers ∙ sym (there.moves j low more).answers
        | no past ↦ here.end j (omega arith) ∙ sym (there.end j (omega arith)).answers
      ]
