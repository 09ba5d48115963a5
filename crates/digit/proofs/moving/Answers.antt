-- `digit::moving` meets its contract: after i turns the numbers of those of the first i digits that move stand at the start. Assumes
-- nothing.
use Prim.Native.Nat.{ℕ, ◌+◌, min}
use native.Mathlib.Omega.{arith}
use mathlib.Core.Path.{◌≡◌, refl, ap, ◌∙◌}
use lib.ListN.{length, take, set}
use Rattle.std.proofs.lemmas.List.{take_min}
use Rattle.gray_theory.specs.Locks.{moving}
use Rattle.digit.proofs.Laws.{moving_few, gathers, gathers_none}
use Rattle.digit.proofs.moving.Goals as goal
use Rattle.digit.proofs.moving.Goals.{then-unlocked, else-unlocked}

pub loop-i-init : goal.loop-i-init
unfolding moving
loop-i-init c = (refl, refl)

pub bounds-digits-from : goal.bounds-digits-from
bounds-digits-from c = let few = moving_few c.args.radices.now c.loop-i.i (omega arith) in omega arith

pub overflow_add-count : goal.overflow_add-count
overflow_add-count c =
    let few = moving_few c.args.radices.now c.loop-i.i (omega arith) in
    record { fits = omega arith }

pub loop-i-preserved : goal.loop-i-preserved
loop-i-preserved c =
    let l = c.args.radices.now in
    let i = c.loop-i.i in
    let (many, stand) = c.loop-i.invariant in
    elim c.if-unlocked.branch [
      | then-unlocked w ↦
          let (more, longer) = gathers l i (omega arith) c.loop-i.count c.loop-i.digits many stand w.if-unlocked.true (omega arith) in
          (w.count-is ∙ more, w.digits-is ∙ ap (λ (k : ℕ). set c.loop-i.digits k (i + 1)) w.from.ensures ∙ longer)
      | else-unlocked w ↦
          let (same, stays) = gathers_none l i (omega arith) c.loop-i.count c.loop-i.digits many stand w.if-unlocked.false in
          (w.count-is ∙ same, w.digits-is ∙ stays)
    ]

pub returns : goal.returns
returns c =
    let l = c.args.radices.now in
    let (many, stand) = c.loop-i.invariant in
    let last : c.loop-i.i ≡ min 48 (length l) = omega arith in
    let all : take c.loop-i.i l ≡ take 48 l = ap (λ (k : ℕ). take k l) last ∙ take_min 48 l in
    rw (stand, many, all)
