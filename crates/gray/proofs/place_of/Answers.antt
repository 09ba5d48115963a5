-- `gray::place_of` meets its contract: p is the rank of the slowest i digits, at first and after each turn. Assumes nothing.
use Prim.Native.Nat.{◌+◌, ◌*◌, ◌^◌, ◌<◌}
use mathlib.Core.Path.{refl, sym, ◌∙◌}
use native.Mathlib.Omega.{arith}
use Rattle.gray_theory.specs.Words.{reflect}
use Rattle.gray_theory.proofs.Ranking.{rank_small, not_below}
use Rattle.gray.proofs.Laws.{RankedTo, ranked_none, ranked_first, pair_more, ranked_pair, pair_wrong}
use Rattle.gray.proofs.Laws.{no_place, wrong_over}
use Rattle.gray.proofs.place_of.Goals as goal
use Rattle.gray.proofs.place_of.Goals.{then-i-eq1+in_ok-a, else-i-eq1, In_ok-m}

-- what a turn makes of the rank, which is below 2^62
made : (c : In_ok-m)
    → let p = c.loop-i.p * c.in_ok-m.m + reflect c.in_ok-m.m c.loop-i.p c.in_ok-m.a in
    RankedTo c.args.radices.now c.args.word.now (c.loop-i.i + 2) p × (p < 2 ^ 62)
made c =
    let l = c.args.radices.now in
    let w = c.args.word.now in
    let pair = sym c.pair_at.ensures ∙ c.in_ok-m.was in
    let two = ranked_pair l w c.requires.long _ _ _ _ c.loop-i.invariant c.loop-i-test.true pair _ refl in
    let small = rank_small l w (c.loop-i.i + 2) two.one c.requires.least c.requires.limit in
    (two, rw two.whole small)

pub returns-in_err-a : goal.returns-in_err-a
returns-in_err-a c =
    let odd = c.if-i-eq1.true in
    let l = c.args.radices.now in
    let w = c.args.word.now in
    rw c.from_residual.ensures (no_place l w (not_below l w 0 (omega arith) (wrong_over _ _ (sym c.digit_at.ensures.0 ∙ c.in_err-a.was))))

pub loop-i-init : goal.loop-i-init
loop-i-init c =
    elim c.if-i-eq1.branch [
      | then-i-eq1+in_ok-a w ↦
          rw
          w.p-is
          (ranked_first _ _ c.requires.long _ _ _ w.if-i-eq1.true refl (sym w.digit_at.ensures.0 ∙ w.in_ok-a.was))
      | else-i-eq1 w ↦ ranked_none _ _ _ _ (let even = w.if-i-eq1.false in omega arith) w.p-is refl
    ]

pub returns-in_err-m : goal.returns-in_err-m
returns-in_err-m c =
    let l = c.args.radices.now in
    let w = c.args.word.now in
    let more = pair_more _ _ c.requires.long _ _ 0 0 c.loop-i.invariant c.loop-i-test.true in
    rw
    c.from_residual-in_err-m.ensures
    (no_place l w (pair_wrong l w c.requires.long _ more (sym c.pair_at.ensures ∙ c.in_err-m.was)))

pub overflow_mul-p : goal.overflow_mul-p
overflow_mul-p c = let small = (made (goal.at.overflow_mul-p c).In_ok-m).1 in omega arith

pub overflow_add-p : goal.overflow_add-p
overflow_add-p c = let small = (made (goal.at.overflow_add-p c).In_ok-m).1 in let b = c.reflect.ensures in omega arith

pub loop-i-preserved : goal.loop-i-preserved
loop-i-preserved c = rw c.reflect.ensures (made (goal.at.loop-i-preserved c).In_ok-m).0
