-- `towers::Towers::last_radix` meets its contract. Assumes nothing.
use Prim.Native.Nat.{suc, ◌-◌}
use mathlib.Core.Path.{◌≡◌}
use native.Mathlib.Omega.{arith}
use borrow.Author.Rules.{rules}
use Rattle.towers_theory.specs.States.{Towers, Arrays}
use Rattle.towers.specs.Structs.{towers_as}
use Rattle.towers.proofs.Ranges.{fits_says, digit_of_lem, digit_at, last_none, last_at}
use Rattle.towers.proofs.Towers.last_radix.Goals as goal
use Rattle.towers.proofs.Towers.last_radix.Goals.{Start, After-from-count}

abbrev state : Start → Towers
state c = towers_as c.args.self

lengths : (c : Start) → Arrays (state c)
lengths c = search rules

last : (c : After-from-count) → (c.from-count.result ≡ 0 → ⊥) → suc (c.from-count.result - 1) ≡ c.args.self.moving.count
last c nz = let same = c.from-count.ensures in omega arith

pub returns-then-count-eq0 : goal.returns-then-count-eq0
returns-then-count-eq0 c =
    let same = c.from-count.ensures in
    last_none (towers_as c.args.self) (lengths (goal.at.returns-then-count-eq0 c).Start) (fits_says _ c.requires) (omega arith)

pub index_at-at-requires : goal.index_at-at-requires
index_at-at-requires c =
    let at = goal.at.index_at-at-requires c in
    digit_at (towers_as c.args.self) (lengths at.Start) (fits_says _ c.requires) _ (omega (arith, last at.After-from-count c.if-count-eq0.false))

pub bounds-radices-at : goal.bounds-radices-at
bounds-radices-at c =
    let at = goal.at.bounds-radices-at c in
    let i = c.from-count.result - 1 in
    let d = digit_of_lem (towers_as c.args.self) (lengths at.Start) (fits_says _ c.requires) i (omega (arith, last at.After-from-count c.if-count-eq0.false)) in
    let number = d.number in
    let inside = d.within in
    let most = (fits_says (towers_as c.args.self) c.requires).most in
    let named = c.index_at-at.ensures in
    omega arith

pub returns : goal.returns
returns c =
    let at = goal.at.returns c in
    last_at (towers_as c.args.self) (lengths at.Start) (fits_says _ c.requires) _ _ (last at.After-from-count c.if-count-eq0.false) c.index_at-at.ensures
