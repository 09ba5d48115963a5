-- `gray::none_zero` meets its contract: a test of each radix is one of them all. Assumes nothing.
use Prim.Native.Nat.{◌≤◌, ◌<◌}
use borrow.Author.Tests.{tests}
use Rattle.std.proofs.Common.{rules}
use Rattle.std.proofs.lemmas.Iterator.{YieldsList-from_slice, cases_from_all}
use Rattle.gray.proofs.Laws.{tested_by_each}
use Rattle.gray.proofs.none_zero.Goals as goal

pub returns : goal.returns
returns c =
    tested_by_each _ _
    (cases_from_all _ _ _ (λ m. 1 ≤ m) (λ m. m < 1)
    c.all.ensures.ran
    (YieldsList-from_slice c.args.radices.now cc)
    (λ x q k. search (rules, tests))
    (λ x q k. search (rules, tests)))
