-- `towers::all_pass` meets its contract: after i turns the first i places are tested. Assumes nothing.
use Prim.Native.Nat.{◌+◌}
use mathlib.Core.Path.{◌≡◌, refl, ap}
use mathlib.Core.Bool.{◌||◌}
use lib.Dec.{ltb}
use lib.ListN.{length, get_or}
use native.Mathlib.Omega.{arith}
use borrow.Author.Rules.{rules}
use Rattle.gray_theory.proofs.DigitRanges.{tested_none}
use Rattle.gray_theory.proofs.Gathers.{gathered_more, gathered}
use Rattle.towers.proofs.all_pass.Goals as goal

pub loop-byte-init : goal.loop-byte-init
loop-byte-init g c = (refl, λ test tells. tested_none _)

pub loop-byte-preserved : goal.loop-byte-preserved
loop-byte-preserved g c =
    let a = c.args in (
      omega arith,
      λ test tells.
          gathered_more a.n (λ x j. test (get_or a.bytes j 0)) _ _ _ _ c.loop-byte.invariant.0 (c.loop-byte.invariant.1 test tells)
          (ap (λ b. ltb a.n (c.loop-byte.number + 1) || b) (tells _ _ (omega arith) c.passes.ensures)),
    )

pub returns : goal.returns
returns g c test tells =
    let a = c.args in
    let long : length a.bytes ≡ 48 = search rules in
    gathered a.n a.bytes (λ x j. test (get_or a.bytes j 0)) _ _ long (omega arith) c.loop-byte-test.false (c.loop-byte.invariant.1 test tells)
