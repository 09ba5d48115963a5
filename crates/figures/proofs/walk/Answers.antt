-- `figures::walk` meets its contract: no more words agree than have come. Assumes nothing.
use Rattle.std.proofs.Common.{ℕ, ◌+◌, ◌<◌, ◌≤◌, ◌≡◌, Bool, true, false, List, ◌++◌, length, arith, ap, ◌∙◌, length-append}
use mir.Val.{bool_byte}
use Rattle.std.specs.Slice.Iter.{chunks_exact_rest}
use Rattle.figures.proofs.walk.Goals as goal

-- an agreement adds one at the most, and each word takes its bytes off
byte_small : (b : Bool) → bool_byte b ≤ 1
byte_small true = omega arith
byte_small false = omega arith

taken : (rest word left : List ℕ) (n size : ℕ) → rest ≡ word ++ left → length word ≡ size → 0 < size → n ≤ 1
    → n + length left ≤ length rest
taken rest word left n size e l some few = let long = ap length e ∙ length-append word left in omega arith

pub loop-word-preserved : goal.loop-word-preserved
loop-word-preserved c =
    let i = c.loop-word.invariant in
    let h = c.in-Some.ensures.steps in
    let g = c.next-in-loop-word-2.ensures.steps in
    let settings : c.from.result + length (chunks_exact_rest c.next-in-loop-word.new.self) ≤ length (chunks_exact_rest c.loop-word.word-iterator) =
    taken _ _ _ _ _ h.1.0 h.1.1 i.pieces (rw c.from.ensures (byte_small _)) in
    let moves : c.from-in-loop-word.result + length (chunks_exact_rest c.next-in-loop-word.new.self) ≤ length (chunks_exact_rest c.loop-word.word-iterator) =
    taken _ _ _ _ _ h.1.0 h.1.1 i.pieces (rw c.from-in-loop-word.ensures (byte_small _)) in
    let s = i.settings in
    let m = i.moves in
    let p = i.pieces in
    let o = i.other_pieces in
    let hp = h.0 in
    let go = g.0 in
    record { pieces = omega arith; other_pieces = omega arith; settings = omega arith; moves = omega arith }
