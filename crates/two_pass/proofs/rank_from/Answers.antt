-- `two_pass::rank_from` meets its contract: after i turns p is the rank of the slowest i digits. Assumes nothing.
use Prim.Native.Nat.{◌<◌, ◌+◌, ◌*◌, ◌^◌}
use mathlib.Core.Path.{◌≡◌, refl}
use native.Mathlib.Omega.{arith}
use lib.ListN.{take}
use Rattle.gray_theory.specs.Radices.{digits}
use Rattle.gray_theory.specs.Words.{rank}
use Rattle.gray_theory.proofs.Digits.{is_word_taken, word_long, digit_below}
use Rattle.gray_theory.proofs.Ranking.{rank_more, rank_small, rank_all}
use Rattle.two_pass.proofs.rank_from.Goals as goal
use Rattle.two_pass.proofs.rank_from.Goals.{After-reflect-b}

-- a turn makes the rank of one digit more, which is below 2^62
ranked : (c : After-reflect-b) →
    let l = c.args.radices.now in
    let w = c.args.word.now in
    let k = c.loop-i.i + 1 in
    let next = c.loop-i.p * c.from-m.result + c.reflect-b.result in
    (next ≡ rank (digits (take k l)) (digits (take k w))) × (next < 2 ^ 62)
ranked c =
    let l = c.args.radices.now in
    let w = c.args.word.now in
    let k = c.loop-i.i + 1 in
    let same = rank_more l w (word_long l w c.requires.one) c.loop-i.i _ _ _ _
    c.loop-i-test.true
    c.from-m.ensures
    c.from-a.ensures
    c.loop-i.invariant
    c.reflect-b.ensures in
    let small = rank_small l w k (is_word_taken l w k c.requires.one) c.requires.least c.requires.limit in
    (same, rw same small)

pub loop-i-init : goal.loop-i-init
loop-i-init c = unfold rank in refl

pub bounds-word-i : goal.bounds-word-i
bounds-word-i c =
    let long = word_long c.args.radices.now c.args.word.now c.requires.one in
    omega arith

pub reflect-b-requires : goal.reflect-b-requires
reflect-b-requires c =
    let l = c.args.radices.now in
    let w = c.args.word.now in
    let below = digit_below l w c.loop-i.i c.loop-i-test.true c.requires.one in
    let m = c.from-m.ensures in
    let a = c.from-a.ensures in
    omega arith

pub overflow_mul-p : goal.overflow_mul-p
overflow_mul-p c = let r = (ranked (goal.at.overflow_mul-p c).After-reflect-b).1 in omega arith

pub overflow_add-p : goal.overflow_add-p
overflow_add-p c = let r = (ranked (goal.at.overflow_add-p c).After-reflect-b).1 in omega arith

pub loop-i-preserved : goal.loop-i-preserved
loop-i-preserved c = (ranked (goal.at.loop-i-preserved c).After-reflect-b).0

pub returns : goal.returns
returns c =
    let l = c.args.radices.now in
    let w = c.args.word.now in
    rank_all l w (word_long l w c.requires.one) _ _ c.loop-i-test.false c.loop-i.invariant
