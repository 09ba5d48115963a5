-- `lister::copy` meets its contract: a part of the output that is written over is bytes placed there. Assumes nothing.
use Prim.Native.Nat.{ℕ, ◌+◌, ◌-◌}
use mathlib.Core.Path.{◌≡◌, sym, ap, ap₂, ◌∙◌}
use mathlib.Core.List.{List, ◌++◌}
use native.Mathlib.Omega.{arith}
use borrow.Rule.Slice.PartMut.{put_mid}
use lib.ListN.{length, take, drop, length-drop}
use lib.Seq.{take_all, length-take-le}
use Rattle.std.proofs.lemmas.Slice.{put_mid-paste}
use Rattle.gray_theory.specs.Places.{placed}
use Rattle.lister.proofs.copy.Goals as goal

written_over : (a k n : ℕ) (xs ys b : List ℕ) → n ≡ k → ys ≡ b → length b ≡ k → put_mid a n xs ys ≡ placed a b xs
unfolding placed
written_over a k n xs ys b same e long =
    put_mid-paste a n xs ys b k e (sym same) (sym long)
    ∙ ap₂ (λ (m : List ℕ) (d : ℕ). take a xs ++ m ++ drop (a + d) xs) (take_all k b (omega arith)) (sym long)

pub returns : goal.returns
returns g c =
    let w = c.args.word.now in
    let start = c.args.start in
    let count : start + g.row.C - start ≡ g.row.C = omega arith in
    let long : length (take g.row.C (drop start w)) ≡ g.row.C = length-take-le g.row.C (drop start w) (omega (arith, length-drop start w)) in
    written_over (c.args.at + start) g.row.C _ c.args.out.now _ _ (omega arith)
    (c.copy_from_slice-2.ensures.after ∙ c.copy_from_slice.ensures.after ∙ ap (λ k. take k (drop start w)) count) long
