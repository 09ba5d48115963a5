-- `lister::put` meets its contract: chunks as wide as the bytes allow, a byte by itself, or nothing. Assumes nothing.
use mathlib.Core.Path.{◌≡◌, sym, ap, ◌∙◌}
use native.Mathlib.Omega.{arith}
use lib.ListN.{take}
use Rattle.gray_theory.specs.Places.{placed}
use Rattle.gray_theory.proofs.Places.{placed-none}
use Rattle.lister.proofs.put.Goals as goal

pub returns-else-k-ge1 : goal.returns-else-k-ge1
returns-else-k-ge1 c =
    let args = c.args in
    let none : 0 ≡ args.k = omega (arith, c.if-k-ge1.false) in
    sym (placed-none args.at args.out.now) ∙ ap (λ k. placed args.at (take k args.word.now) args.out.now) none
