-- Bytes at a place of an output, and the laws that writers cite.
use Rattle.std.specs.Prelude.{ℕ, suc, ◌+◌, ◌-◌, ◌≤◌, ◌<◌, ◌≡◌, List, [], ◌∷◌, ◌++◌, length, take, drop, set, get_or}
use Rattle.std.proofs.Common.{sym, ap, ◌∙◌, append_assoc, append-nil, arith, length-append, length-drop, take-append-drop, length-take-le, take_at, drop_at, drop-drop, drop-cons, take-add}
use Rattle.std.proofs.lemmas.List.{set_at}
use Rattle.std.proofs.Math.Seq.{append_snoc}
use Rattle.gray_theory.specs.Places.{placed}

-- what stands up to the end of the bytes is as long as it should be
length_front : (at : ℕ) (b out : List ℕ) → at ≤ length out → length (take at out ++ b) ≡ at + length b
length_front at b out h = simp (length-append, length-take-le) (omega arith)

pub placed-none : (at : ℕ) (out : List ℕ) → placed at [] out ≡ out
unfolding placed
placed-none at out =
    let here : at + 0 ≡ at = omega arith in
    rw (here, append-nil) (take-append-drop at out)

pub length-placed : (at : ℕ) (b out : List ℕ) → at + length b ≤ length out → length (placed at b out) ≡ length out
unfolding placed
length-placed at b out h =
    let end = at + length b in
    let front = length_front at b out (omega arith) in
    omega (arith, length-append (take at out ++ b) (drop end out), length-drop end out)

-- the bytes and what is before them
take-placed : (at : ℕ) (b out : List ℕ) → at ≤ length out → take (at + length b) (placed at b out) ≡ take at out ++ b
unfolding placed
take-placed at b out h = take_at (take at out ++ b) (drop (at + length b) out) (at + length b) (length_front at b out h)

-- what is before the bytes is as it was
before_placed : (at : ℕ) (b out : List ℕ) → at ≤ length out → take at (placed at b out) ≡ take at out
unfolding placed
before_placed at b out h =
    rw append_assoc (take_at (take at out) (b ++ drop (at + length b) out) at (length-take-le at out h))

-- and so is what is behind them
behind-placed : (at : ℕ) (b out : List ℕ) (k : ℕ) → at ≤ length out → length b ≤ k
    → drop (at + k) (placed at b out) ≡ drop (at + k) out
unfolding placed
behind-placed at b out k h long =
    let end = at + length b in
    let e : at + k ≡ end + (k - length b) = omega arith in
    rw e
    (sym (drop-drop (k - length b) end (placed at b out))
    ∙ ap (drop (k - length b)) (drop_at (take at out ++ b) (drop end out) end (length_front at b out h))
    ∙ drop-drop (k - length b) end out)

-- bytes after bytes
pub placed-append : (at : ℕ) (a b out : List ℕ) → at ≤ length out
    → placed (at + length a) b (placed at a out) ≡ placed at (a ++ b) out
unfolding placed
placed-append at a b out h =
    let both = length-append a b in
    let e : at + length a + length b ≡ at + length (a ++ b) = omega arith in
    let long : length a ≤ length (a ++ b) = omega arith in
    rw (e, take-placed at a out h, behind-placed at a out (length (a ++ b)) h long, append_assoc (take at out) a b)

-- one byte more
pub placed-set : (at : ℕ) (b out : List ℕ) (x : ℕ) → at + length b < length out
    → set (placed at b out) (at + length b) x ≡ placed at (b ++ (x ∷ [])) out
unfolding placed
placed-set at b out x h =
    let end = at + length b in
    let e : at + length (b ++ (x ∷ [])) ≡ suc end = omega (arith, length-append b (x ∷ [])) in
    rw (drop-cons out end 0, e, ← append_assoc (take at out) b (x ∷ []), append_snoc (take at out ++ b) x (drop (suc end) out))
    (set_at (take at out ++ b) (get_or out end 0) (drop (suc end) out) x end (length_front at b out (omega arith)))

-- longer bytes over shorter ones
placed_again : (at : ℕ) (a b out : List ℕ) → at ≤ length out → length a ≤ length b
    → placed at b (placed at a out) ≡ placed at b out
unfolding placed
placed_again at a b out h long = rw (before_placed at a out h, behind-placed at a out (length b) h long)

-- n bytes of w after the first j
placed_more : (at j n : ℕ) (w out : List ℕ) → j ≤ length w → at ≤ length out
    → placed (at + j) (take n (drop j w)) (placed at (take j w) out) ≡ placed at (take (j + n) w) out
placed_more at j n w out short h =
    let more = take n (drop j w) in
    let front = placed at (take j w) out in
    rw (take-add j n w)
    (ap (λ k. placed (at + k) more front) (sym (length-take-le j w short)) ∙ placed-append at (take j w) more out h)

-- c bytes of w from byte j on, over the first i that are there already
pub placed-over : (at j i c : ℕ) (w out : List ℕ) → j ≤ i → i ≤ j + c → j + c ≤ length w → at + (j + c) ≤ length out
    → placed (at + j) (take c (drop j w)) (placed at (take i w) out) ≡ placed at (take (j + c) w) out
placed-over at j i c w out before behind short fits =
    let n = i - j in
    let rest = drop j w in
    let front = placed at (take j w) out in
    let e : j + n ≡ i = omega arith in
    let head : length (take j w) ≡ j = length-take-le j w (omega arith) in
    let room : length front ≡ length out = length-placed at (take j w) out (omega arith) in
    let left : length rest ≡ length w - j = length-drop j w in
    let shorter : length (take n rest) ≡ n = length-take-le n rest (omega arith) in
    let longer : length (take c rest) ≡ c = length-take-le c rest (omega arith) in
    rw (← e, ← placed_more at j n w out (omega arith) (omega arith))
    (placed_again (at + j) (take n rest) (take c rest) front (omega arith) (omega arith)
    ∙ placed_more at j c w out (omega arith) (omega arith))
