-- `towers::Towers::choose` meets its contract: the radix of the last disk tells which game is played. Assumes nothing.
use mathlib.Core.Path.{sym}
use native.Mathlib.Omega.{arith}
use borrow.Author.Rules.{rules}
use lib.Seq.{length-take-le}
use Rattle.towers_theory.specs.States.{Towers, Arrays}
use Rattle.towers.specs.Structs.{towers_as}
use Rattle.towers.proofs.Games.{odd_rest, no_rest}
use Rattle.towers.proofs.Steps.{survey-right, count_fits, radix_positive, first_disk, pair_disks}
use Rattle.towers.proofs.Steps.{chooses_on_pair, chooses_on_ring}
use Rattle.towers.proofs.Towers.choose.Goals as goal
use Rattle.towers.proofs.Towers.choose.Goals.{Start}

abbrev state : Start → Towers
state c = towers_as c.args.self

lengths : (c : Start) → Arrays (state c)
lengths c = search rules

pub last_radix-m-requires : goal.last_radix-m-requires
last_radix-m-requires c = survey-right (towers_as c.args.self) (lengths (goal.at.last_radix-m-requires c).Start) c.requires

pub slice_bounds-digits-end : goal.slice_bounds-digits-end
slice_bounds-digits-end c =
    let at = goal.at.slice_bounds-digits-end c in
    let long = (lengths at.Start).directed.moving in
    let most = count_fits (towers_as c.args.self) (lengths at.Start) c.requires in
    let same = c.from-most.ensures in
    omega arith

pub slice_bounds-first_on_pair-end-then-odd-2 : goal.slice_bounds-first_on_pair-end-then-odd-2
slice_bounds-first_on_pair-end-then-odd-2 c =
    let at = goal.at.slice_bounds-first_on_pair-end-then-odd-2 c in
    let long = (lengths at.Start).directed.moving in
    let most = count_fits (towers_as c.args.self) (lengths at.Start) c.requires in
    let same = c.from-most.ensures in
    sym (length-take-le _ _ (omega arith))

pub first_on_pair-requires : goal.first_on_pair-requires
first_on_pair-requires c =
    pair_disks (towers_as c.args.self) (lengths (goal.at.first_on_pair-requires c).Start) c.requires _ c.last_radix-m.ensures _ c.from-most.ensures

pub returns-then-odd : goal.returns-then-odd
returns-then-odd c =
    chooses_on_pair (towers_as c.args.self) (lengths (goal.at.returns-then-odd c).Start) c.requires _ c.last_radix-m.ensures _
    c.from-most.ensures
    _
    (odd_rest _ c.if-odd.true)
    c.first_on_pair.ensures

pub slice_bounds-pegs-end : goal.slice_bounds-pegs-end
slice_bounds-pegs-end c =
    let at = goal.at.slice_bounds-pegs-end c in
    let long = (lengths at.Start).pegs in
    let most = count_fits (towers_as c.args.self) (lengths at.Start) c.requires in
    let same = c.from-most.ensures in
    omega arith

pub slice_bounds-first_on_ring-end : goal.slice_bounds-first_on_ring-end
slice_bounds-first_on_ring-end c =
    let at = goal.at.slice_bounds-first_on_ring-end c in
    let long = (lengths at.Start).pegs in
    let most = count_fits (towers_as c.args.self) (lengths at.Start) c.requires in
    let same = c.from-most.ensures in
    sym (length-take-le _ _ (omega arith))

pub first_on_ring-requires : goal.first_on_ring-requires
first_on_ring-requires c =
    let at = goal.at.first_on_ring-requires c in
    let long = (lengths at.Start).pegs in
    let most = count_fits (towers_as c.args.self) (lengths at.Start) c.requires in
    let same = c.from-most.ensures in
    let part = length-take-le c.from-most.result c.args.self.pegs (omega arith) in
    let some = first_disk (towers_as c.args.self) (lengths at.Start) c.requires _ c.last_radix-m.ensures (no_rest _ c.if-odd.false) in
    (radix_positive (towers_as c.args.self) (lengths at.Start) c.requires _ c.last_radix-m.ensures, omega arith)

pub returns : goal.returns
returns c =
    chooses_on_ring (towers_as c.args.self) (lengths (goal.at.returns c).Start) c.requires _ c.last_radix-m.ensures _
    c.from-most.ensures
    _
    (no_rest _ c.if-odd.false)
    c.first_on_ring.ensures
