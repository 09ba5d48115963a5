-- `lister::put_word` meets its contract: three bytes more after those that `put` places. Assumes nothing.
use Prim.Native.Nat.{ℕ, ◌+◌, ◌-◌, ◌≤◌, ◌<◌}
use mathlib.Core.Path.{◌≡◌}
use mathlib.Core.List.{List, [], ◌∷◌, ◌++◌}
use native.Mathlib.Omega.{arith}
use lib.ListN.{length, take, set, length-append}
use lib.Seq.{append_snoc, length-take-le}
use Rattle.gray_theory.specs.Places.{placed}
use Rattle.gray_theory.proofs.Places.{placed-set}
use Rattle.lister.proofs.put_word.Goals as goal

-- one byte more, stored where the others end
one_more : (at k x : ℕ) (p out new : List ℕ) → at + length p ≡ k → k < length out → new ≡ placed at p out
    → set new k x ≡ placed at (p ++ (x ∷ [])) out
one_more at k x p out new end room so = rw (so, ← end) (placed-set at p out x (omega arith))

-- three bytes more, one by one
three_more : (at k x y z : ℕ) (p out new : List ℕ) → length p ≡ k → at + k + 3 ≤ length out → new ≡ placed at p out
    → set (set (set new (at + k) x) (at + k + 1) y) (at + k + 2) z ≡ placed at (p ++ (x ∷ y ∷ z ∷ [])) out
three_more at k x y z p out new long room so =
    let q = p ++ (x ∷ []) in
    let r = q ++ (y ∷ []) in
    let longer = length-append p (x ∷ []) in
    let longest = length-append q (y ∷ []) in
    rw (← append_snoc p x (y ∷ z ∷ []), ← append_snoc q y (z ∷ []))
    (one_more at (at + k + 2) z r out _ (omega arith) (omega arith)
    (one_more at (at + k + 1) y q out _ (omega arith) (omega arith)
    (one_more at (at + k) x p out new (omega arith) (omega arith) so)))

pub returns : goal.returns
returns c =
    let args = c.args in
    let k = args.n - 3 in
    three_more args.at k args.a args.b args.c (take k args.word.now) args.out.now c.put.new.out
    (length-take-le k args.word.now (omega arith))
    (omega arith)
    c.put.ensures
