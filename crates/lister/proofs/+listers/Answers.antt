-- `lister::up`, `lister::down`, `lister::block` and `lister::remaining` meet their contracts, in one proof since they call each
-- other. `Blocks` says what a turn of a lister's loop does to its invariant, `Along`. Assumes nothing.
use Prim.Native.Nat.{◌+◌, ◌-◌}
use native.Mathlib.Omega.{arith}
use mathlib.Core.Bool.{true, false}
use mathlib.Core.Path.{◌≡◌, refl, sym}
use lib.ListN.{get_or}
use Rattle.lister.proofs.Blocks.{along_none, along_after, along_left}
use Rattle.lister.proofs.Turns.{listed_as, listed_past, listed_square, listed_below, listed-none}
use Rattle.lister.proofs.+listers.Goals as goal
use Rattle.lister.proofs.+listers.Goals.{block-then-w-q+then-i-n, block-then-w-q+else-i-n, block-else-w-q}

-- ---- up
pub up-loop-a-init : goal.up-loop-a-init
up-loop-a-init t c = along_none false c.requires.0 c.requires.1

pub up-loop-a-preserved : goal.up-loop-a-preserved
up-loop-a-preserved t c =
    along_after false c.requires.0 c.requires.1 c.loop-a.invariant c.loop-a-test.true refl
    c.block-w.ensures.past c.block-w.ensures.listed c.block-w.auto.out

pub up-returns-after-loop-a : goal.up-returns-after-loop-a
up-returns-after-loop-a t c =
    along_left false c.requires.0 c.requires.1 c.loop-a.invariant (λ h some. omega (arith, c.loop-a-test.false))

pub up-returns-then-w-eq0 : goal.up-returns-then-w-eq0
up-returns-then-w-eq0 t c =
    along_left false c.requires.0 c.requires.1 c.loop-a.invariant (λ h some. omega (arith, c.if-w-eq0.true))

-- ---- down
pub down-loop-a-init : goal.down-loop-a-init
down-loop-a-init t c =
    let none : get_or c.args.radices.now c.args.i 0 - get_or c.args.radices.now c.args.i 0 ≡ 0 = omega arith in
    rw none (along_none true c.requires.0 c.requires.1)

pub down-loop-a-preserved : goal.down-loop-a-preserved
down-loop-a-preserved t c =
    let m = get_or c.args.radices.now c.args.i 0 in
    let a = c.loop-a.a in
    let more : m - (a - 1) ≡ m - a + 1 = omega arith in
    rw more
    (along_after true c.requires.0 c.requires.1 c.loop-a.invariant
    (omega arith) (omega arith)
    c.block-w.ensures.past c.block-w.ensures.listed c.block-w.auto.out)

pub down-returns-after-loop-a : goal.down-returns-after-loop-a
down-returns-after-loop-a t c =
    along_left true c.requires.0 c.requires.1 c.loop-a.invariant (λ h some. omega (arith, c.loop-a-test.false))

pub down-returns-then-w-eq0 : goal.down-returns-then-w-eq0
down-returns-then-w-eq0 t c =
    along_left true c.requires.0 c.requires.1 c.loop-a.invariant (λ h some. omega (arith, c.if-w-eq0.true))

-- ---- block
pub block-returns-clause-listed : goal.block-returns-clause-listed
block-returns-clause-listed t c =
    elim c.if-w-q.branch [
      | block-then-w-q+then-i-n w ↦
          listed_as (sym w.turn-downward.ensures)
          (listed_square c.requires.0 c.requires.1 _ w.if-i-n.true w.square.ensures) w.word-is w.out-is
      | block-then-w-q+else-i-n w ↦ listed_as (sym w.turn-downward.ensures) w.remaining.ensures w.word-is w.out-is
      | block-else-w-q w ↦
          listed_as refl (listed_past c.requires.0 c.requires.1 _ _ w.if-w-q.false) w.word-is w.out-is
    ]

-- ---- remaining
pub remaining-returns-then-next-radices : goal.remaining-returns-then-next-radices
remaining-returns-then-next-radices t c =
    listed-none _ _ c.requires.0 c.requires.1 c.if-next-radices.true c.put.ensures

pub remaining-returns-then-downward : goal.remaining-returns-then-downward
remaining-returns-then-downward t c = listed_below _ _ c.requires.0 c.requires.1 c.if-downward.true c.down.ensures

pub remaining-returns-else-downward : goal.remaining-returns-else-downward
remaining-returns-else-downward t c = listed_below _ _ c.requires.0 c.requires.1 c.if-downward.false c.up.ensures
