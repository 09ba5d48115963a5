-- `ahead::Walk::room` meets its contract. Assumes nothing.
use native.Mathlib.Omega.{arith}
use lib.Seq.{length-take-le}
use Rattle.ahead_theory.specs.States.{Arrays}
use Rattle.ahead_theory.proofs.InRange.{range_says}
use Rattle.ahead.specs.Structs.{walk_as}
use Rattle.ahead.proofs.Calls.{room_left, room_never}
use borrow.Author.Rules.{rules}
use Rattle.ahead.proofs.Walk.room.Goals as goal
use Rattle.ahead.proofs.Walk.room.Goals.{Start}

lengths : (c : Start) → Arrays (walk_as c.args.self)
lengths c = search rules

pub slice_bounds-radices-end : goal.slice_bounds-radices-end
slice_bounds-radices-end c = let s = range_says _ c.requires in let a = (lengths (goal.at.slice_bounds-radices-end c).Start).directed.radices in let e = c.from-n.ensures in omega arith

pub slice_bounds-size-end : goal.slice_bounds-size-end
slice_bounds-size-end c = let s = range_says _ c.requires in let a = (lengths (goal.at.slice_bounds-size-end c).Start).directed.radices in let e = c.from-n.ensures in let part = length-take-le c.from-n.result c.args.self.radices (omega arith) in omega arith

pub returns-in_default : goal.returns-in_default
returns-in_default c = room_never _ c.requires _ c.from-n.ensures _ c.size-counted.ensures _ c.in_default.is

pub overflow_sub-result : goal.overflow_sub-result
overflow_sub-result c = (room_left _ c.requires _ c.from-n.ensures _ c.size-counted.ensures _ c.in-Ok.is).0

pub returns : goal.returns
returns c = (room_left _ c.requires _ c.from-n.ensures _ c.size-counted.ensures _ c.in-Ok.is).1
