-- `lister::copy_ends` meets its contract: the last bytes begin no later than where the first ones end. Assumes nothing.
use Prim.Native.Nat.{◌+◌, ◌-◌}
use mathlib.Core.Path.{◌≡◌, ap, ◌∙◌}
use native.Mathlib.Omega.{arith}
use lib.ListN.{take, drop}
use Rattle.gray_theory.specs.Places.{placed}
use Rattle.gray_theory.proofs.Places.{placed-over}
use Rattle.lister.proofs.copy_ends.Goals as goal

pub returns : goal.returns
returns g c =
    let args = c.args in
    let C = g.row.C in
    let w = args.word.now in
    let j = args.k - C in
    let start : args.at + 0 ≡ args.at = omega arith in
    let end : j + C ≡ args.k = omega arith in
    let first : c.copy.new.out ≡ placed args.at (take C w) args.out.now =
    c.copy.ensures ∙ ap (λ a. placed a (take C w) args.out.now) start in
    c.copy-2.ensures
    ∙ ap (placed (args.at + j) (take C (drop j w))) first
    ∙ placed-over args.at j C C w args.out.now (omega arith) (omega arith) (omega arith) (omega arith)
    ∙ ap (λ n. placed args.at (take n w) args.out.now) end
