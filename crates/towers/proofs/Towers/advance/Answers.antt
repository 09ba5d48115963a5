-- `towers::Towers::advance` meets its contract: the digit stands in range, so that it has a notch to move to. Assumes nothing.
use Prim.Native.Nat.{◌<◌}
use mathlib.Core.Path.{◌≡◌, sym, ap, ◌∙◌}
use mathlib.Core.Bool.{cond, not}
use native.Mathlib.Omega.{arith}
use borrow.Author.Rules.{rules}
use lib.ListN.{get_or, set}
use Rattle.gray_theory.specs.Words.{even}
use Rattle.towers_theory.specs.States.{Towers, Arrays}
use Rattle.towers_theory.specs.Calls.{peg_after}
use Rattle.towers.specs.Structs.{towers_as}
use Rattle.towers.proofs.Steps.{survey-right, count_fits, number_held, radix_positive, turn_below, peg_within}
use Rattle.towers.proofs.Steps.{digit_fits, pegs_stored, disk_moved}
use Rattle.towers.proofs.Games.{odd_rest, no_rest}
use Rattle.towers.proofs.Towers.advance.Goals as goal
use Rattle.towers.proofs.Towers.advance.Goals.{Start, After-index_at-at, then-odd, else-odd}

abbrev state : Start → Towers
state c = towers_as c.args.self

lengths : (c : Start) → Arrays (state c)
lengths c = search rules

-- the digit's index is one of the arrays
inside : (c : After-index_at-at) → c.index_at-at.result < 48
inside c =
    let long : Arrays (towers_as c.args.self) = search rules in
    digit_fits (towers_as c.args.self) long c.requires.0 _ c.last_radix-m.ensures c.args.i c.requires.1
    _
    c.index_at-at.ensures

pub last_radix-m-requires : goal.last_radix-m-requires
last_radix-m-requires c = survey-right (towers_as c.args.self) (lengths (goal.at.last_radix-m-requires c).Start) c.requires.0

pub index_at-at-requires : goal.index_at-at-requires
index_at-at-requires c =
    number_held (towers_as c.args.self) (lengths (goal.at.index_at-at-requires c).Start) c.requires.0 c.args.i c.requires.1

pub bounds-word-at : goal.bounds-word-at
bounds-word-at c = inside (goal.at.bounds-word-at c).After-index_at-at

pub bounds-downs-at : goal.bounds-downs-at
bounds-downs-at c = inside (goal.at.bounds-downs-at c).After-index_at-at

pub bounds-radices-at : goal.bounds-radices-at
bounds-radices-at c = inside (goal.at.bounds-radices-at c).After-index_at-at

pub bounds-word-at-2 : goal.bounds-word-at-2
bounds-word-at-2 c = inside (goal.at.bounds-word-at-2 c).After-index_at-at

pub bounds-downs-at-2 : goal.bounds-downs-at-2
bounds-downs-at-2 c = inside (goal.at.bounds-downs-at-2 c).After-index_at-at

pub next_peg-requires : goal.next_peg-requires
next_peg-requires c =
    let at = goal.at.next_peg-requires c in
    let most = count_fits (towers_as c.args.self) (lengths at.Start) c.requires.0 in (
      omega arith,
      peg_within (towers_as c.args.self) (lengths at.Start) c.requires.0 _ c.last_radix-m.ensures c.args.i
          c.requires.1
          (no_rest _ c.if-odd.false),
    )

pub next_turn-requires : goal.next_turn-requires
next_turn-requires c =
    let at = goal.at.next_turn-requires c in (
      turn_below (towers_as c.args.self) (lengths at.Start) c.requires.0 _ c.last_radix-m.ensures,
      radix_positive (towers_as c.args.self) (lengths at.Start) c.requires.0 _ c.last_radix-m.ensures,
    )

pub returns : goal.returns
returns c =
    let at = goal.at.returns c in
    let i = c.args.i in
    let m = c.last_radix-m.result in
    let peg = get_or c.args.self.pegs i 0 in
    let stored : c.if-odd.pegs ≡ cond (not (even m)) peg (peg_after m i peg) =
    elim c.if-odd.branch [
      | then-odd w ↦ w.pegs-is ∙ sym (ap (λ b. cond b peg (peg_after m i peg)) (odd_rest _ w.if-odd.true))
      | else-odd w ↦ w.pegs-is ∙ w.next_peg.ensures ∙ sym (ap (λ b. cond b peg (peg_after m i peg)) (no_rest _ w.if-odd.false))
    ] in
    disk_moved (towers_as c.args.self) (lengths at.Start) c.requires.0 m c.last_radix-m.ensures i c.requires.1 _ c.index_at-at.ensures
    _
    _
    _
    c.advanced-to.ensures
    (ap (set c.args.self.pegs i) stored ∙ pegs_stored c.args.self.pegs i (not (even m)) (peg_after m i peg))
    c.next_turn.ensures
