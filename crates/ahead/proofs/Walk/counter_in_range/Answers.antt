-- `ahead::Walk::counter_in_range` meets its contract. Assumes nothing.
use Prim.Native.Nat.{◌≤◌}
use mathlib.Core.Path.{refl}
use native.Mathlib.Omega.{arith}
use borrow.Author.Rules.{rules}
use lib.Seq.{length-take-le}
use Rattle.ahead_theory.specs.States.{Arrays}
use Rattle.ahead.specs.Structs.{walk_as}
use Rattle.ahead.proofs.Ranges.{moving_most, lent_numbers, all_counted, moving_counted}
use Rattle.ahead.proofs.Walk.counter_in_range.Goals as goal
use Rattle.ahead.proofs.Walk.counter_in_range.Goals.{Start}

lengths : (c : Start) → Arrays (walk_as c.args.self)
lengths c = search rules

pub bounds-counter-len : goal.bounds-counter-len
bounds-counter-len c =
    let a = lengths (goal.at.bounds-counter-len c).Start in
    let most : c.args.self.moving.count ≤ 48 = moving_most _ a.directed c.requires in
    omega arith

pub returns-then-count-self : goal.returns-then-count-self
returns-then-count-self c =
    all_counted _ (lengths (goal.at.returns-then-count-self c).Start).directed c.requires _ c.from-len.ensures c.args.self.producer.counter _ _ refl c.if-count-self.true c.places_below.ensures

pub slice_bounds-numbers-end : goal.slice_bounds-numbers-end
slice_bounds-numbers-end c =
    let a = lengths (goal.at.slice_bounds-numbers-end c).Start in
    let most : c.args.self.moving.count ≤ 48 = moving_most _ a.directed c.requires in
    omega arith

pub slice_bounds-moving_below-end-2 : goal.slice_bounds-moving_below-end-2
slice_bounds-moving_below-end-2 c =
    let a = lengths (goal.at.slice_bounds-moving_below-end-2 c).Start in
    let most : c.args.self.moving.count ≤ 48 = moving_most _ a.directed c.requires in
    let part = length-take-le c.from-len.result c.args.self.moving.digits (omega arith) in
    omega arith

pub moving_below-requires : goal.moving_below-requires
moving_below-requires c =
    let a = lengths (goal.at.moving_below-requires c).Start in
    let most : c.args.self.moving.count ≤ 48 = moving_most _ a.directed c.requires in
    let part = length-take-le c.from-len.result c.args.self.moving.digits (omega arith) in
    (lent_numbers _ a.directed c.requires _ c.from-len.ensures, omega arith)

pub returns : goal.returns
returns c =
    moving_counted _ (lengths (goal.at.returns c).Start).directed c.requires _ c.from-len.ensures c.args.self.producer.counter _ _ refl c.moving_below.ensures
