-- `gray::put_word` meets its contract: with i digits to go, their word at the quotient q and the bytes from i on make up the
-- output that is owed. Assumes nothing.
use Prim.Native.Nat.{◌<◌, ◌-◌, ◌/◌, ◌%◌}
use mathlib.Core.Path.{◌≡◌}
use native.Mathlib.Nat.{mod-lt}
use native.Mathlib.Omega.{arith}
use lib.ListN.{length-set}
use Rattle.gray_theory.specs.Words.{reflect}
use Rattle.gray_theory.proofs.Ranks.{reflect_below}
use Rattle.gray_theory.proofs.Digits.{radix_from}
use Rattle.gray.proofs.Laws.{put_more, put_all}
use Rattle.gray.proofs.put_word.Goals as goal
use Rattle.gray.proofs.put_word.Goals.{After-from-m}

-- the radix is not 0, and the digit is below it
positive : (c : After-from-m) → 0 < c.from-m.result
positive c =
    let turn = c in
    let start = turn in
    let least = radix_from 1 start.args.radices.now (turn.loop-i.i - 1) (omega arith) start.requires.least in
    let m = c.from-m.ensures in
    omega arith

pub nonzero_rem-b : goal.nonzero_rem-b
nonzero_rem-b c = positive (goal.at.nonzero_rem-b c).After-from-m

pub nonzero_div-q : goal.nonzero_div-q
nonzero_div-q c = positive (goal.at.nonzero_div-q c).After-from-m

pub reflect-requires : goal.reflect-requires
reflect-requires c = mod-lt _ (positive (goal.at.reflect-requires c).After-from-m)

pub overflow_cast-out : goal.overflow_cast-out
overflow_cast-out c =
    let q = c.loop-i.q in
    let m = c.from-m.result in
    let below : reflect m (q / m) (q % m) < m = reflect_below m (q / m) (q % m) (mod-lt q (positive (goal.at.overflow_cast-out c).After-from-m)) in
    let e : c.reflect.result ≡ reflect m (q / m) (q % m) = c.reflect.ensures in
    let byte = c.type_inv.radices (c.loop-i.i - 1) in
    let m_is = c.from-m.ensures in
    omega arith

pub loop-i-preserved : goal.loop-i-preserved
loop-i-preserved c =
    let turn = c in
    let start = turn in
    let room = start.requires.room in
    let same = turn.loop-i.invariant.1 in (
      omega arith,
      simp length-set same,
      put_more _ _ _ _ _ _ _
          turn.loop-i-test.true
          turn.loop-i.invariant.0
          (rw same room)
          c.from-m.ensures
          c.reflect.ensures
          turn.loop-i.invariant.2,
    )

pub returns : goal.returns
returns c =
    let at = c in
    let start = at in
    put_all start.args.radices.now _ _ at.loop-i.i at.loop-i.q c.loop-i-test.false at.loop-i.invariant.2
