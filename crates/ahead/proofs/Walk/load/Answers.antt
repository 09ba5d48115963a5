-- `ahead::Walk::load` meets its contract: after i turns the first i of the digits that move are loaded. Assumes nothing.
use Prim.Native.Nat.{ℕ, ◌≤◌, ◌<◌}
use native.Mathlib.Omega.{arith}
use mathlib.Core.Path.{◌≡◌}
use borrow.Author.Rules.{rules}
use lib.ListN.{get_or}
use Rattle.ahead_theory.specs.States.{Arrays}
use Rattle.ahead.specs.Structs.{walk_as}
use Rattle.ahead.proofs.Loads.{few, number_fits, loadable, loaded_more, counter_last, loaded_all}
use Rattle.ahead.proofs.Walk.load.Goals as goal
use Rattle.ahead.proofs.Walk.load.Goals.{Start}

lengths : (c : Start) → Arrays (walk_as c.args.self)
lengths c = search rules

most : (c : Start) → c.args.self.moving.count ≤ 48
most c = few _ c.requires (lengths c)

-- the number that a digit that moves stands by is a digit's
number : (c : Start) (i k : ℕ) → k ≡ c.args.self.moving.count → i < k → (1 ≤ get_or c.args.self.moving.digits i 0) × (get_or c.args.self.moving.digits i 0 ≤ 48)
number c i k e h = number_fits _ c.requires (lengths c) i (omega arith)

pub bounds-numbers-i : goal.bounds-numbers-i
bounds-numbers-i c = omega (arith, most (goal.at.bounds-numbers-i c).Start)

pub bounds-counter-i : goal.bounds-counter-i
bounds-counter-i c = omega (arith, most (goal.at.bounds-counter-i c).Start)

pub bounds-lanes-count : goal.bounds-lanes-count
bounds-lanes-count c = omega (arith, most (goal.at.bounds-lanes-count c).Start)

pub bounds-counter-count : goal.bounds-counter-count
bounds-counter-count c = omega (arith, most (goal.at.bounds-counter-count c).Start)

pub bounds-lanes-count-2 : goal.bounds-lanes-count-2
bounds-lanes-count-2 c = omega (arith, most (goal.at.bounds-lanes-count-2 c).Start)

pub overflow_sub-d : goal.overflow_sub-d
overflow_sub-d c = omega (arith, number (goal.at.overflow_sub-d c).Start _ _ c.from-count.ensures c.loop-i-test.true)

pub bounds-radices-d : goal.bounds-radices-d
bounds-radices-d c = omega (arith, number (goal.at.bounds-radices-d c).Start _ _ c.from-count.ensures c.loop-i-test.true)

pub bounds-word-d : goal.bounds-word-d
bounds-word-d c = omega (arith, number (goal.at.bounds-word-d c).Start _ _ c.from-count.ensures c.loop-i-test.true)

pub bounds-downs-d : goal.bounds-downs-d
bounds-downs-d c = omega (arith, number (goal.at.bounds-downs-d c).Start _ _ c.from-count.ensures c.loop-i-test.true)

pub load_digit-requires : goal.load_digit-requires
load_digit-requires c =
    let l : c.loop-i.i < c.args.self.moving.count = omega (arith, c.from-count.ensures) in
    (loadable _ c.requires (lengths (goal.at.load_digit-requires c).Start) _ l _ c.from-d.ensures, c.loop-i.invariant.1.wide)

pub loop-i-preserved : goal.loop-i-preserved
loop-i-preserved c =
    let l : c.loop-i.i < c.args.self.moving.count = omega (arith, c.from-count.ensures) in
    (omega arith, loaded_more _ c.requires (lengths (goal.at.loop-i-preserved c).Start) _ l _ _ _ _ _ _ _ _ _ c.from-d.ensures c.loop-i.invariant.1 c.load_digit.ensures)

pub overflow_sub-lanes : goal.overflow_sub-lanes
overflow_sub-lanes c = counter_last _ c.requires (lengths (goal.at.overflow_sub-lanes c).Start) _ c.from-count.ensures

pub returns : goal.returns
returns c =
    loaded_all _ c.requires (lengths (goal.at.returns c).Start) _ _ _ _ _ _ c.from-count.ensures c.loop-i-test.false c.loop-i.invariant.1
