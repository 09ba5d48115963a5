-- `towers::Game::play` meets its contract: each path is one course of a call. Assumes nothing.
use Prim.Native.Nat.{◌≤◌, ◌<◌}
use mathlib.Core.Path.{sym, subst}
use mathlib.Core.Bool.{Bool, cond}
use native.Mathlib.Omega.{arith}
use Rattle.std.specs.Prelude.{None}
use lib.Seq.{length-take-le}
use Rattle.towers_theory.specs.States.{Towers}
use Rattle.towers.specs.Stages.{state_of}
use Rattle.towers.proofs.Games.{odd_rest, no_rest, one_of_two}
use Rattle.towers.proofs.Steps.{Chosen, count_fits, number_held, radix_positive, first_disk, pair_disks, turn_below, peg_within}
use Rattle.towers.proofs.Steps.{chooses_on_pair, chooses_on_ring, movable}
use Rattle.towers.proofs.Runs.{call_ends, pair_chosen, ring_chosen, pair_moves, ring_moves}
use Rattle.towers.proofs.Game.play.Goals as goal
use Rattle.towers.proofs.Game.play.Goals.{Start, After-from-most, In_ok-i, In_ok-i-2}

-- the state that is lent
abbrev state : Start → Towers
state c =
    let a = c.args in
    state_of a.self.radices.now a.self.n a.self.digits.now a.self.count a.word.now a.turn a.downs.now a.pegs.now

fits : (c : After-from-most) → c.from-most.result ≤ 48
fits c =
    let p = c.requires in
    let most = count_fits _ p.long p.ranged in
    let same = c.from-most.ensures in
    omega arith

-- the disk that is found
pair : (c : In_ok-i)
    → let a = c.args in Chosen (state_of a.self.radices.now a.self.n a.self.digits.now a.self.count a.word.now a.turn a.downs.now a.pegs.now) c.in_ok-i.i
pair c = pair_chosen _ _ c.requires _ c.from-most.ensures _ (odd_rest _ c.if-odd.true) c.in_ok-i.ensures

ring : (c : In_ok-i-2)
    → let a = c.args in Chosen (state_of a.self.radices.now a.self.n a.self.digits.now a.self.count a.word.now a.turn a.downs.now a.pegs.now) c.in_ok-i-2.i
ring c = ring_chosen _ _ c.requires _ c.from-most.ensures _ (no_rest _ c.if-odd.false) c.in_ok-i-2.ensures

-- ---- three pegs
pub slice_bounds-first_on_pair-end : goal.slice_bounds-first_on_pair-end
slice_bounds-first_on_pair-end c =
    let long = c.requires.long.directed.moving in
    let most = fits (goal.at.slice_bounds-first_on_pair-end c).After-from-most in
    sym (length-take-le _ _ (omega arith))

pub first_on_pair-requires : goal.first_on_pair-requires
first_on_pair-requires c =
    let p = c.requires in
    pair_disks _ p.long p.ranged _ p.told _ c.from-most.ensures

pub returns-in_err-i : goal.returns-in_err-i
returns-in_err-i c =
    let p = c.requires in
    call_ends _ (state (goal.at.returns-in_err-i c).Start) p _ c.from_residual.ensures
    (chooses_on_pair _ p.long p.ranged _ p.told _ c.from-most.ensures None (odd_rest _ c.if-odd.true) c.in_err-i.ensures)

pub index_at-at-requires : goal.index_at-at-requires
index_at-at-requires c =
    let p = c.requires in
    let at = goal.at.index_at-at-requires c in
    number_held (state at.Start) p.long p.ranged _ (pair at.In_ok-i).within

pub move_digit-requires : goal.move_digit-requires
move_digit-requires c =
    let p = c.requires in
    let at = goal.at.move_digit-requires c in
    movable (state at.Start) p.long p.ranged _ p.told _ (pair at.In_ok-i).within _ c.index_at-at.ensures

pub overflow_sub-result : goal.overflow_sub-result
overflow_sub-result c =
    let p = c.requires in
    let two = one_of_two _ _ c.args.turn (turn_below (state (goal.at.overflow_sub-result c).Start) p.long p.ranged _ p.told) (odd_rest _ c.if-odd.true) in
    omega arith

pub returns-then-odd : goal.returns-then-odd
returns-then-odd c =
    let at = goal.at.returns-then-odd c in
    pair_moves _ (state at.Start) c.requires _ (pair at.In_ok-i) _ c.index_at-at.ensures _ _ _ (odd_rest _ c.if-odd.true)
    c.move_digit.ensures

-- ---- a ring
pub slice_bounds-first_on_ring-end : goal.slice_bounds-first_on_ring-end
slice_bounds-first_on_ring-end c =
    let long = c.requires.long.pegs in
    let most = fits (goal.at.slice_bounds-first_on_ring-end c).After-from-most in
    omega arith

pub slice_bounds-first_on_ring-end-2 : goal.slice_bounds-first_on_ring-end-2
slice_bounds-first_on_ring-end-2 c =
    let long = c.requires.long.pegs in
    let most = fits (goal.at.slice_bounds-first_on_ring-end-2 c).After-from-most in
    sym (length-take-le _ _ (omega arith))

pub first_on_ring-requires : goal.first_on_ring-requires
first_on_ring-requires c =
    let p = c.requires in
    let long = p.long.pegs in
    let most = fits (goal.at.first_on_ring-requires c).After-from-most in
    let same = length-take-le c.from-most.result c.args.pegs.now (omega arith) in
    let some = first_disk (state (goal.at.first_on_ring-requires c).Start) p.long p.ranged _ p.told (no_rest _ c.if-odd.false) in
    let n = c.from-most.ensures in
    (radix_positive (state (goal.at.first_on_ring-requires c).Start) p.long p.ranged _ p.told, omega arith)

pub returns-in_err-i-2 : goal.returns-in_err-i-2
returns-in_err-i-2 c =
    let p = c.requires in
    call_ends _ (state (goal.at.returns-in_err-i-2 c).Start) p _ c.from_residual-in_err-i-2.ensures
    (chooses_on_ring _ p.long p.ranged _ p.told _ c.from-most.ensures None (no_rest _ c.if-odd.false) c.in_err-i-2.ensures)

pub bounds-pegs-i : goal.bounds-pegs-i
bounds-pegs-i c =
    let long = c.requires.long.pegs in
    let inside = ring (goal.at.bounds-pegs-i c).In_ok-i-2 in
    omega arith

pub next_peg-requires : goal.next_peg-requires
next_peg-requires c =
    let p = c.requires in
    let at = goal.at.next_peg-requires c in
    let inside = ring at.In_ok-i-2 in
    (inside.few, peg_within (state at.Start) p.long p.ranged _ p.told _ inside.within (no_rest _ c.if-odd.false))

pub bounds-pegs-i-2 : goal.bounds-pegs-i-2
bounds-pegs-i-2 c =
    let long = c.requires.long.pegs in
    let inside = ring (goal.at.bounds-pegs-i-2 c).In_ok-i-2 in
    omega arith

pub index_at-at-requires-2 : goal.index_at-at-requires-2
index_at-at-requires-2 c =
    let p = c.requires in
    let at = goal.at.index_at-at-requires-2 c in
    number_held (state at.Start) p.long p.ranged _ (ring at.In_ok-i-2).within

pub move_digit-requires-2 : goal.move_digit-requires-2
move_digit-requires-2 c =
    let p = c.requires in
    let at = goal.at.move_digit-requires-2 c in
    movable (state at.Start) p.long p.ranged _ p.told _ (ring at.In_ok-i-2).within _ c.index_at-at-2.ensures

pub next_turn-requires : goal.next_turn-requires
next_turn-requires c =
    let p = c.requires in
    let s = state (goal.at.next_turn-requires c).Start in (
      subst (λ (o : Bool). c.args.turn < cond o 2 c.args.self.m) (no_rest _ c.if-odd.false) (turn_below s p.long p.ranged _ p.told),
      radix_positive s p.long p.ranged _ p.told,
    )

pub returns : goal.returns
returns c =
    let at = goal.at.returns c in
    ring_moves _ (state at.Start) c.requires _ (ring at.In_ok-i-2) _ c.index_at-at-2.ensures _ _ _ _ _ (no_rest _ c.if-odd.false)
    c.move_digit-2.ensures
    c.next_peg.ensures
    c.next_turn.ensures
