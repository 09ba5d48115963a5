-- Laws of a window on a list of words, and of words that are laid in an output.
use Prim.Native.Nat.{ℕ, zero, suc, ◌+◌, ◌-◌, ◌*◌, ◌≤◌, ◌<◌}
use native.Mathlib.Nat.{zero-sub, sub-zero, suc-sub-suc}
use native.Mathlib.Omega.{arith}
use mathlib.Core.Path.{◌≡◌, refl, sym, ap, ◌∙◌}
use mathlib.Core.Bool.{Bool, true, false, cond, not}
use mathlib.Core.List.{List, [], ◌∷◌, ◌++◌, map, flatten, append-nil, append_assoc, map-append}
use lib.ListN.{length, take, drop, length-append, length-drop, drop_of_length-le}
use lib.Seq.{take-nil, append_snoc}
use Rattle.lister_theory.specs.Listers.{blocks, listing}
use Rattle.lister.specs.Outputs.{window, laid}
use Rattle.gray_theory.specs.Places.{placed}
use Rattle.gray_theory.proofs.Places.{placed-none, placed-append}
use Rattle.gray_theory.specs.Words.{even, upward, downward}

-- ---- the window
take-append : (t : ℕ) (a b : List (List ℕ)) → take t (a ++ b) ≡ take t a ++ take (t - length a) b
take-append zero a b = rw (zero-sub (length a))
take-append (suc t) [] b = rw (sub-zero (suc t))
take-append (suc t) (w ∷ a) b = rw (suc-sub-suc t (length a)) (ap (λ r. w ∷ r) (take-append t a b))

drop-append : (s : ℕ) (a b : List (List ℕ)) → drop s (a ++ b) ≡ drop s a ++ drop (s - length a) b
drop-append zero a b = rw (zero-sub (length a))
drop-append (suc s) [] b = rw (sub-zero (suc s))
drop-append (suc s) (w ∷ a) b = rw (suc-sub-suc s (length a)) (drop-append s a b)

pub window-append : (s t : ℕ) (a b : List (List ℕ))
    → window s t (a ++ b) ≡ window s t a ++ window (s - length a) (t - (length a - s)) b
unfolding window
window-append s t a b =
    ap (take t) (drop-append s a b) ∙ take-append t (drop s a) (drop (s - length a) b)
    ∙ ap (λ k. take t (drop s a) ++ take (t - k) (drop (s - length a) b)) (length-drop s a)

pub window-none : (s : ℕ) (ws : List (List ℕ)) → window s 0 ws ≡ []
unfolding window
window-none s ws = refl

pub window-past : (s t : ℕ) (ws : List (List ℕ)) → length ws ≤ s → window s t ws ≡ []
unfolding window
window-past s t ws h = rw (drop_of_length-le ws h) (take-nil t)

pub one_word : (s t : ℕ) → s < 1 → 0 < t → window s t ([] ∷ []) ≡ [] ∷ []
unfolding window
one_word zero zero begins some = absurd (omega arith)
one_word zero (suc t) begins some = ap (λ r. [] ∷ r) (take-nil t)
one_word (suc s) t begins some = absurd (omega arith)

map-take : (f : List ℕ → List ℕ) (t : ℕ) (ws : List (List ℕ)) → take t (map f ws) ≡ map f (take t ws)
map-take f zero ws = refl
map-take f (suc t) [] = refl
map-take f (suc t) (w ∷ ws) = ap (λ r. f w ∷ r) (map-take f t ws)

map-drop : (f : List ℕ → List ℕ) (s : ℕ) (ws : List (List ℕ)) → drop s (map f ws) ≡ map f (drop s ws)
map-drop f zero ws = refl
map-drop f (suc s) [] = refl
map-drop f (suc s) (w ∷ ws) = map-drop f s ws

pub window-map : (f : List ℕ → List ℕ) (s t : ℕ) (ws : List (List ℕ)) → window s t (map f ws) ≡ map f (window s t ws)
unfolding window
window-map f s t ws = ap (take t) (map-drop f s ws) ∙ map-take f t (drop s ws)

length_taken : (t : ℕ) (ws : List (List ℕ)) → length (take t ws) ≡ t - (t - length ws)
length_taken zero ws = omega arith
length_taken (suc t) [] = omega arith
length_taken (suc t) (w ∷ ws) = let ih = length_taken t ws in omega arith

pub length-window : (s t : ℕ) (ws : List (List ℕ)) → length (window s t ws) ≡ t - (t - (length ws - s))
unfolding window
length-window s t ws = length_taken t (drop s ws) ∙ rw (length-drop s ws)

-- ---- blocks
pub blocks-append : (same other : List (List ℕ)) (a b : List ℕ)
    → blocks same other (a ++ b) ≡ blocks same other a ++ blocks same other b
unfolding blocks
blocks-append same other [] b = refl
blocks-append same other (x ∷ a) b =
    let first = map (λ w. x ∷ w) (cond (even x) same other) in
    ap (λ r. first ++ r) (blocks-append same other a b) ∙ sym (append_assoc first (blocks same other a) (blocks same other b))

-- ---- words of one length
abbrev pub Each : ℕ → List (List ℕ) → Type 0
Each k [] = Unit
Each k (w ∷ ws) = (length w ≡ k) × Each k ws

each_append : (k : ℕ) (a b : List (List ℕ)) → Each k a → Each k b → Each k (a ++ b)
each_append k [] b ea eb = eb
each_append k (w ∷ a) b ea eb = (ea.0, each_append k a b ea.1 eb)

each_after : (k x : ℕ) (ws : List (List ℕ)) → Each k ws → Each (suc k) (map (λ w. x ∷ w) ws)
each_after k x [] e = tt
each_after k x (w ∷ ws) e = (ap suc e.0, each_after k x ws e.1)

each_take : (k t : ℕ) (ws : List (List ℕ)) → Each k ws → Each k (take t ws)
each_take k zero ws e = tt
each_take k (suc t) [] e = tt
each_take k (suc t) (w ∷ ws) e = (e.0, each_take k t ws e.1)

each_drop : (k s : ℕ) (ws : List (List ℕ)) → Each k ws → Each k (drop s ws)
each_drop k zero ws e = e
each_drop k (suc s) [] e = tt
each_drop k (suc s) (w ∷ ws) e = each_drop k s ws e.1

pub each_window : (k s t : ℕ) (ws : List (List ℕ)) → Each k ws → Each k (window s t ws)
unfolding window
each_window k s t ws e = each_take k t (drop s ws) (each_drop k s ws e)

pub each_blocks : (k : ℕ) (same other : List (List ℕ)) (notches : List ℕ) → Each k same → Each k other
    → Each (suc k) (blocks same other notches)
unfolding blocks
each_blocks k same other [] es eo = tt
each_blocks k same other (a ∷ rest) es eo =
    each_append (suc k) (map (λ w. a ∷ w) (cond (even a) same other)) (blocks same other rest)
    (each_after k a (cond (even a) same other) (either (even a)))
    (each_blocks k same other rest es eo)
  where
    either : (b : Bool) → Each k (cond b same other)
    either true = es
    either false = eo

pub each_listing : (d : Bool) (ms : List ℕ) → Each (length ms) (listing d ms)
unfolding listing
each_listing d [] = (refl, tt)
each_listing d (m ∷ ms) =
    each_blocks (length ms) (listing d ms) (listing (not d) ms) (cond d (downward m) (upward m))
    (each_listing d ms) (each_listing (not d) ms)

-- ---- words laid in an output
pub flatten-append : (a b : List (List ℕ)) → flatten (a ++ b) ≡ flatten a ++ flatten b
unfolding flatten
flatten-append [] b = refl
flatten-append (w ∷ a) b = ap (λ r. w ++ r) (flatten-append a b) ∙ sym (append_assoc w (flatten a) (flatten b))

pub length-laid : (k : ℕ) (p : List ℕ) (ws : List (List ℕ)) → Each k ws
    → length (flatten (map (λ w. p ++ w) ws)) ≡ length ws * (length p + k)
unfolding flatten
length-laid k p [] e = omega arith
length-laid k p (w ∷ ws) e =
    let ih = length-laid k p ws e.1 in
    let one = length-append p w in
    let all = length-append (p ++ w) (flatten (map (λ v. p ++ v) ws)) in
    let word = e.0 in
    omega arith

pub laid_none : (at : ℕ) (p out : List ℕ) → laid at p [] out ≡ out
unfolding laid flatten
laid_none at p out = placed-none at out

pub laid_word : (at : ℕ) (p out : List ℕ) → laid at p ([] ∷ []) out ≡ placed at p out
unfolding laid flatten
laid_word at p out = ap (λ l. placed at l out) (append-nil (p ++ []) ∙ append-nil p)

-- words after words of one length
pub laid-append : (at k : ℕ) (p : List ℕ) (a b : List (List ℕ)) (out : List ℕ) → Each k a → at ≤ length out
    → laid at p (a ++ b) out ≡ laid (at + length a * (length p + k)) p b (laid at p a out)
unfolding laid
laid-append at k p a b out e h =
    let bytes_of : List (List ℕ) → List ℕ = λ ws. flatten (map (λ w. p ++ w) ws) in
    ap (λ (l : List ℕ). placed at l out)
    (ap flatten (map-append (λ w. p ++ w) a b) ∙ flatten-append (map (λ w. p ++ w) a) (map (λ w. p ++ w) b))
    ∙ sym (placed-append at (bytes_of a) (bytes_of b) out h)
    ∙ ap (λ (l : ℕ). placed (at + l) (bytes_of b) (placed at (bytes_of a) out)) (length-laid k p a e)

-- one digit more is fixed, or it begins every word
pub laid-after : (at x : ℕ) (p : List ℕ) (ws : List (List ℕ)) (out : List ℕ)
    → laid at (p ++ (x ∷ [])) ws out ≡ laid at p (map (λ w. x ∷ w) ws) out
unfolding laid
laid-after at x p ws out = ap (λ (l : List (List ℕ)). placed at (flatten l) out) (same ws)
  where
    same : (ws : List (List ℕ)) → map (λ w. p ++ (x ∷ []) ++ w) ws ≡ map (λ w. p ++ w) (map (λ w. x ∷ w) ws)
    same [] = refl
    same (w ∷ ws) = rw (append_snoc p x w) (ap (λ r. (p ++ (x ∷ w)) ∷ r) (same ws))
