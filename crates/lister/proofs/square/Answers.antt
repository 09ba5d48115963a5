-- `lister::square` meets its contract: it is a lister of the last two digits. The invariant of its loop is `Along` of a word
-- that is stored nowhere, with digit a in its place, and `Turns` says what a turn does to it. Assumes nothing.
use Prim.Native.Nat.{◌-◌, ◌<◌}
use native.Mathlib.Omega.{arith}
use mathlib.Core.Path.{refl, sym, ap, ◌∙◌}
use lib.ListN.{length, get_or, set}
use borrow.Author.Rules.{rules}
use Rattle.lister.specs.Outputs.{notch_after, Reached}
use Rattle.lister.proofs.Blocks.{along_none, along_reached, along_after, along_left}
use Rattle.lister.proofs.Turns.{listed_as, past_words, listed_past, reached_row, listed_row, left_square}
use Rattle.lister.proofs.square.Goals as goal
use Rattle.lister.proofs.square.Goals.{At-loop-u, Else-w-eq0, then-w-q, else-w-q}

more : (c : At-loop-u) → length c.args.radices.now - 2 < length c.args.radices.now
more c = omega (arith, c.requires.0)

-- the window has words left
reached : (c : Else-w-eq0) →
    let a = c.args in
    Reached a.radices.now a.sizes.now (set a.word.now (length a.radices.now - 3) a.a) (length a.radices.now - 2)
    c.loop-u.w.skip c.loop-u.w.left c.loop-u.out c.loop-u.w.at
reached c = along_reached c.args.down (omega (arith, c.requires.0)) c.requires.1 c.loop-u.invariant (omega (arith, c.if-w-eq0.false))

pub loop-u-init : goal.loop-u-init
loop-u-init c =
    along_none c.args.down (omega (arith, c.requires.0)) c.requires.1

pub row-requires : goal.row-requires
row-requires c =
    let byte : c.from-last.result < 256 = search rules in
    reached_row c.args.word.now c.args.a c.requires.0 (reached (goal.at.row-requires c).Else-w-eq0) c.from-last.ensures c.if-w-q.true byte

pub loop-u-preserved : goal.loop-u-preserved
loop-u-preserved c =
    let d = c.args.down in
    let m = get_or c.args.radices.now (length c.args.radices.now - 2) 0 in
    let going : c.loop-u.u < m = omega (arith, c.loop-u-test.true, c.from-m.ensures) in
    let below = more (goal.at.loop-u-preserved c).At-loop-u in
    let there = reached (goal.at.loop-u-preserved c).Else-w-eq0 in
    let past = past_words below there _ _ _ _ c.past-w.ensures in
    elim c.if-w-q.branch [
      | then-w-q w ↦
          along_after d below c.requires.1 c.loop-u.invariant going
          (w.notch-b.ensures ∙ ap (λ m. notch_after d m c.loop-u.u) c.from-m.ensures)
          past
          (listed_as (sym w.turn-downward.ensures)
          (listed_row c.args.word.now c.args.a c.requires.0 there c.from-last.ensures _ w.row.ensures) refl w.out-is)
          (ap length w.out-is ∙ w.row.auto.out)
      | else-w-q w ↦
          along_after d below c.requires.1 c.loop-u.invariant going refl past
          (listed_as refl (listed_past below there _ _ w.if-w-q.false) refl w.out-is)
          (ap length w.out-is)
    ]

pub returns-after-loop-u : goal.returns-after-loop-u
returns-after-loop-u c =
    left_square c.args.word.now c.args.a c.requires.0 c.requires.1
    (along_left c.args.down (more (goal.at.returns-after-loop-u c).At-loop-u) c.requires.1 c.loop-u.invariant
    (λ h some. omega (arith, c.loop-u-test.false, c.from-m.ensures)))

pub returns-then-w-eq0 : goal.returns-then-w-eq0
returns-then-w-eq0 c =
    left_square c.args.word.now c.args.a c.requires.0 c.requires.1
    (along_left c.args.down (more (goal.at.returns-then-w-eq0 c).At-loop-u) c.requires.1 c.loop-u.invariant
    (λ h some. omega (arith, c.if-w-eq0.true)))
