-- A file cut up in lines.
use Prim.Native.Nat.{ℕ, zero, suc, ◌+◌, ◌-◌, ◌*◌, ◌/◌, ◌<◌}
use native.Mathlib.Omega.{arith}
use mathlib.Core.Path.{◌≡◌, ap, ◌∙◌}
use mathlib.Core.List.{List, []}
use lib.ListN.{length, get_or, take, drop, length-drop}
use lib.Seq.{drop-drop, take_all, get_or-take, get_or-drop}
use Rattle.std.specs.Simd.{first_chunks}

-- piece i of k pieces of n
pub piece : {A : Type 0} (n k i : ℕ) (xs : List A) (d : List A) → i < k → get_or (first_chunks n k xs) i d ≡ take n (drop (n * i) xs)
piece n zero i xs d h = absurd (omega arith)
piece n (suc k) zero xs d h = ap (λ j. take n (drop j xs)) none
  where
    none : 0 ≡ n * 0
    none = grind arith
piece n (suc k) (suc i) xs d h =
    let next : n + n * i ≡ n * suc i = grind arith in
    piece n k i (drop n xs) d (omega arith) ∙ ap (take n) (drop-drop (n * i) n xs ∙ ap (λ j. drop j xs) next)

-- the lines from f on
left_lines : (f : ℕ) (lines : List (List ℕ)) → take (length lines - f) (drop f lines) ≡ drop f lines
left_lines f lines = take_all (length lines - f) (drop f lines) (omega (arith, length-drop f lines))

-- how many pairs they are
pub pairs_many : (file : List ℕ) (f : ℕ) (lines : List (List ℕ)) (pairs : List (List (List ℕ)))
    → length lines ≡ length file / 19
    → length pairs ≡ length (take (length lines - f) (drop f lines)) / 2
    → length pairs ≡ (length file / 19 - f) / 2
pairs_many file f lines pairs cut paired =
    paired ∙ ap (λ ls. length ls / 2) (left_lines f lines) ∙ ap (λ n. n / 2) (length-drop f lines ∙ ap (λ n. n - f) cut)

-- line j of pair i of these
pub of_pair : (file : List ℕ) (f i j place : ℕ) (lines : List (List ℕ)) (pairs : List (List (List ℕ)))
    → lines ≡ first_chunks 19 (length file / 19) file
    → let left = take (length lines - f) (drop f lines) in
    pairs ≡ first_chunks 2 (length left / 2) left
    → f + (2 * i + j) < length file / 19
    → i < length left / 2
    → j < 2
    → place ≡ 19 * f + 38 * i + 19 * j
    → get_or (get_or pairs i []) j [] ≡ take 19 (drop place file)
of_pair file f i j place lines pairs cut paired inside here two at =
    let left = take (length lines - f) (drop f lines) in
    let same : 19 * (f + (2 * i + j)) ≡ place = omega arith in
    ap (λ ps. get_or (get_or ps i []) j []) paired
    ∙ ap (λ p. get_or p j []) (piece 2 (length left / 2) i left [] here)
    ∙ get_or-take 2 (drop (2 * i) left) j [] two
    ∙ get_or-drop (2 * i) left j []
    ∙ ap (λ l. get_or l (2 * i + j) []) (left_lines f lines)
    ∙ get_or-drop f lines (2 * i + j) []
    ∙ ap (λ l. get_or l (f + (2 * i + j)) []) cut
    ∙ piece 19 (length file / 19) (f + (2 * i + j)) file [] inside
    ∙ ap (λ k. take 19 (drop k file)) same
