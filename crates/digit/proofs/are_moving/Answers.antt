-- `digit::are_moving` meets its contract: after i turns those of the first i digits that move have been looked for. Assumes nothing.
use Prim.Native.Nat.{ℕ, ◌<◌, min}
use native.Mathlib.Omega.{arith}
use mathlib.Core.Path.{◌≡◌, refl, ap, ◌∙◌}
use borrow.Author.Rules.{rules}
use lib.ListN.{length, take}
use Rattle.std.proofs.lemmas.List.{take_min}
use Rattle.gray_theory.specs.Directions.{all_below}
use Rattle.gray_theory.specs.Locks.{moving}
use Rattle.gray_theory.proofs.Unlocked.{found_in_range}
use Rattle.digit.specs.Moving.{moving_as}
use Rattle.digit.proofs.Laws.{moving_few, meets, meets_none}
use Rattle.digit.proofs.are_moving.Goals as goal
use Rattle.digit.proofs.are_moving.Goals.{In-loop-i, then-m-ge2, else-m-ge2}

-- in the loop there is a digit left, and a place for it
digit : (c : In-loop-i) → c.loop-i.i < length c.args.radices
digit c = let long : length c.args.radices ≡ 48 = search rules in omega arith

pub loop-i-init : goal.loop-i-init
unfolding moving all_below
loop-i-init c = (refl, refl)

pub bounds-held-met : goal.bounds-held-met
bounds-held-met c =
    let few = moving_few c.args.radices c.loop-i.i (digit (goal.at.bounds-held-met c).In-loop-i) in
    omega arith

pub overflow_add-met : goal.overflow_add-met
overflow_add-met c =
    let few = moving_few c.args.radices c.loop-i.i (digit (goal.at.overflow_add-met c).In-loop-i) in
    record { fits = omega arith }

pub loop-i-preserved : goal.loop-i-preserved
loop-i-preserved c =
    let l = c.args.radices in
    let i = c.loop-i.i in
    let left = digit (goal.at.loop-i-preserved c).In-loop-i in
    let (many, right) = c.loop-i.invariant in
    elim c.if-m-ge2.branch [
      | then-m-ge2 w ↦
          let (more, found) = meets l i left c.args.stored.digits c.loop-i.met c.loop-i.ok many right w.if-m-ge2.true in
          (w.met-is ∙ more, w.ok-is ∙ found)
      | else-m-ge2 w ↦
          let (same, stays) = meets_none l i left c.args.stored.digits c.loop-i.met c.loop-i.ok many right w.if-m-ge2.false in
          (w.met-is ∙ same, w.ok-is ∙ stays)
    ]

pub returns : goal.returns
returns c =
    let l = c.args.radices in
    let n = c.args.n in
    let (many, right) = c.loop-i.invariant in
    let long : length l ≡ 48 = search rules in
    let last : c.loop-i.i ≡ min n (length l) = omega arith in
    let all : take c.loop-i.i l ≡ take n l = ap (λ (k : ℕ). take k l) last ∙ take_min n l in
    found_in_range (take n l) (moving_as c.args.stored) c.loop-i.ok c.loop-i.met _ (rw (← all) many) c.from-2.ensures (rw (← all) right)
