-- `towers::first_on_pair` meets its contract: after i turns none of the first i disks is on the pair. Assumes nothing.
use Prim.Native.Nat.{ℕ, ◌-◌}
use mathlib.Core.Path.{◌≡◌, sym, ap, ◌∙◌}
use mathlib.Core.Bool.{Bool}
use native.Mathlib.Omega.{arith}
use lib.ListN.{length, get_or}
use Rattle.towers_theory.specs.Choices.{side_peg, on_pair}
use Rattle.towers.proofs.Games.{found_here, found_none}
use Rattle.towers.proofs.first_on_pair.Goals as goal
use Rattle.towers.proofs.first_on_pair.Goals.{Start, After-on_pair}

-- what the test of a disk has found
abbrev onThePair : Start → ℕ → Bool
onThePair c k =
    let a = c.args in
    on_pair a.turn
    (side_peg (get_or a.radices.now (get_or a.digits.now k 0 - 1) 0) (get_or a.word.now (get_or a.digits.now k 0 - 1) 0))

tested : (c : After-on_pair)
    → c.on_pair.result
    ≡ on_pair c.args.turn
    (side_peg (get_or c.args.radices.now (get_or c.args.digits.now c.loop-i.i 0 - 1) 0)
    (get_or c.args.word.now (get_or c.args.digits.now c.loop-i.i 0 - 1) 0))
tested c =
    let a = c.args in
    let named = c.index_at-at.ensures in
    let is : c.index_at-at.result ≡ get_or a.digits.now c.loop-i.i 0 - 1 = omega arith in
    c.on_pair.ensures ∙ ap (λ k. on_pair a.turn (side_peg (get_or a.radices.now k 0) (get_or a.word.now k 0))) is

pub returns-then-on_pair : goal.returns-then-on_pair
returns-then-on_pair c =
    found_here _ (onThePair (goal.at.returns-then-on_pair c).Start) _ c.loop-i-test.true (sym (tested (goal.at.returns-then-on_pair c).After-on_pair) ∙ c.if-on_pair.true)
    c.loop-i.invariant

pub returns : goal.returns
returns c = found_none (length c.args.digits.now) (onThePair (goal.at.returns c).Start) (λ k h. c.loop-i.invariant k (omega arith))
