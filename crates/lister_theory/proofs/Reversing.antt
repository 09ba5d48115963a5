-- The list read backward, and the list with one digit more at its slow end.
use Rattle.std.specs.Prelude.{ℕ, zero, suc, ◌+◌, ◌*◌, ◌/◌, ◌%◌, ◌≡◌, refl, Bool, true, false, cond, List, [], ◌∷◌, ◌++◌, map, reverse, eqb, length}
use Rattle.std.proofs.Math.Decide.{dec_lt}
use Rattle.std.proofs.Common.{add-zero, zero-add, arith, sym, ap, ◌∙◌, append-nil, append_assoc, eqb-true, eq-eqb, ne_eqb, length-append}
use Rattle.std.proofs.lemmas.List.{map-append, length-map, length-reverse}
use Rattle.std.proofs.lemmas.Simd.{map-map}
use mathlib.Core.List.{reverse-cons, reverse-append, reverse-reverse}
use Rattle.std.proofs.lemmas.Bool.{eqb-false}
use Rattle.gray_theory.proofs.Members.{length-upward}
use Rattle.gray_theory.specs.Words.{even, upward, downward, notches, through, list}

reverse-map : {A B : Type 0} (f : A → B) (l : List A) → reverse (map f l) ≡ map f (reverse l)
reverse-map f [] = refl
reverse-map f (x ∷ l) =
    reverse-cons (f x) (map f l)
    ∙ ap (λ r. r ++ (f x ∷ [])) (reverse-map f l)
    ∙ sym (map-append f (reverse l) (x ∷ []))
    ∙ ap (map f) (sym (reverse-cons x l))

-- ---- one digit's notches
pub reverse-upward : (m : ℕ) → reverse (upward m) ≡ downward m
unfolding upward downward
reverse-upward zero = refl
reverse-upward (suc m) = reverse-append (upward m) (m ∷ []) ∙ ap (λ l. m ∷ l) (reverse-upward m)

reverse-downward : (m : ℕ) → reverse (downward m) ≡ upward m
reverse-downward m = ap reverse (sym (reverse-upward m)) ∙ reverse-reverse (upward m)

-- the notches backward are those of a rank of the other parity
reverse-notches : (m r k : ℕ) → k % 2 ≡ suc r % 2 → reverse (notches m r) ≡ notches m k
unfolding notches
reverse-notches m r k e =
    elim (dec_lt (r % 2) 1) [
      | yes p ↦ rw (eq-eqb (r % 2) 0 (omega arith), ne_eqb (k % 2) 0 (λ z. omega arith)) (reverse-upward m)
      | no q ↦ rw (ne_eqb (r % 2) 0 (λ z. omega arith), eq-eqb (k % 2) 0 (omega arith)) (reverse-downward m)
    ]

-- ---- the list through one more digit, at its fast end
-- of a rank only the parity matters
through_parity : (m r k : ℕ) (cs : List (List ℕ)) → r % 2 ≡ k % 2 → through m r cs ≡ through m k cs
unfolding through notches
through_parity m r k [] e = refl
through_parity m r k (c ∷ cs) e =
    ap (λ (p : ℕ). map (λ a. a ∷ c) (cond (eqb p 0) (upward m) (downward m)) ++ through m (suc r) cs) e
    ∙ ap (λ l. map (λ a. a ∷ c) (notches m k) ++ l) (through_parity m (suc r) (suc k) cs (omega arith))

through-append : (m r : ℕ) (cs ds : List (List ℕ)) → through m r (cs ++ ds) ≡ through m r cs ++ through m (r + length cs) ds
unfolding through
through-append m r [] ds = ap (λ (k : ℕ). through m k ds) (sym (add-zero r))
through-append m r (c ∷ cs) ds =
    let e : suc r + length cs ≡ r + suc (length cs) = omega arith in
    ap (λ l. map (λ a. a ∷ c) (notches m r) ++ l) (through-append m (suc r) cs ds)
    ∙ sym (append_assoc (map (λ a. a ∷ c) (notches m r)) (through m (suc r) cs) (through m (suc r + length cs) ds))
    ∙ ap (λ (k : ℕ). map (λ a. a ∷ c) (notches m r) ++ through m (suc r) cs ++ through m k ds) e

-- one word's notches backward: as it has them at a rank of the other parity
reverse-block : (m r k : ℕ) (c : List ℕ) → k % 2 ≡ suc r % 2 → reverse (map (λ a. a ∷ c) (notches m r)) ≡ through m k (c ∷ [])
unfolding through
reverse-block m r k c e =
    reverse-map (λ a. a ∷ c) (notches m r)
    ∙ ap (map (λ a. a ∷ c)) (reverse-notches m r k e)
    ∙ sym (append-nil (map (λ a. a ∷ c) (notches m k)))

-- backward, the words follow one another from the rank after the last: each stands at the other parity then
through-reverse : (m r : ℕ) (cs : List (List ℕ)) → reverse (through m r cs) ≡ through m (r + length cs) (reverse cs)
unfolding through
through-reverse m r [] = refl
through-reverse m r (c ∷ cs) =
    let first = map (λ a. a ∷ c) (notches m r) in
    let end : ℕ = r + suc (length cs) in
    let same = length-reverse cs in
    let e : suc r + length cs ≡ end = omega arith in
    reverse-append first (through m (suc r) cs)
    ∙ ap (λ l. l ++ reverse first) (through-reverse m (suc r) cs)
    ∙ ap (λ (k : ℕ). through m k (reverse cs) ++ reverse first) e
    ∙ ap (λ l. through m end (reverse cs) ++ l) (reverse-block m r (end + length (reverse cs)) c (omega arith))
    ∙ sym (through-append m end (reverse cs) (c ∷ []))
    ∙ ap (through m end) (sym (reverse-cons c cs))

-- ---- one more digit at the slow end
-- the words, each with a notch more at its end
abbrev pub ending : ℕ → List (List ℕ) → List (List ℕ)
ending a words = map (λ w. w ++ (a ∷ [])) words

-- the words that end with each of the notches in turn: `same` stand before an even one, `other` before an odd one
unfoldable pub stacks : List (List ℕ) → List (List ℕ) → List ℕ → List (List ℕ)
stacks same other [] = []
stacks same other (a ∷ rest) = ending a (cond (even a) same other) ++ stacks same other rest

stacks-append : (same other : List (List ℕ)) (ns more : List ℕ)
    → stacks same other (ns ++ more) ≡ stacks same other ns ++ stacks same other more
unfolding stacks
stacks-append same other [] more = refl
stacks-append same other (a ∷ ns) more =
    let first = ending a (cond (even a) same other) in
    ap (λ l. first ++ l) (stacks-append same other ns more)
    ∙ sym (append_assoc first (stacks same other ns) (stacks same other more))

length-stacks : (same other : List (List ℕ)) (ns : List ℕ)
    → length other ≡ length same
    → length (stacks same other ns) ≡ length ns * length same
unfolding stacks
length-stacks same other [] e = omega arith
length-stacks same other (a ∷ ns) e =
    let ih = length-stacks same other ns e in
    let first = go (even a) in
    simp (length-append, length-map) (omega arith)
  where
    go : (b : Bool) → length (cond b same other) ≡ length same
    go true = refl
    go false = e

pub reverse-stacks : (same other : List (List ℕ)) (ns : List ℕ)
    → reverse (stacks same other ns) ≡ stacks (reverse same) (reverse other) (reverse ns)
unfolding stacks
reverse-stacks same other [] = refl
reverse-stacks same other (a ∷ ns) =
    reverse-append (ending a (cond (even a) same other)) (stacks same other ns)
    ∙ ap (λ l. l ++ reverse (ending a (cond (even a) same other))) (reverse-stacks same other ns)
    ∙ ap (λ l. stacks (reverse same) (reverse other) (reverse ns) ++ l) (go (even a))
    ∙ sym (stacks-append (reverse same) (reverse other) (reverse ns) (a ∷ []))
    ∙ ap (stacks (reverse same) (reverse other)) (sym (reverse-cons a ns))
  where
    go : (b : Bool) → reverse (ending a (cond b same other)) ≡ ending a (cond b (reverse same) (reverse other)) ++ []
    go true = reverse-map (λ w. w ++ (a ∷ [])) same ∙ sym (append-nil (ending a (reverse same)))
    go false = reverse-map (λ w. w ++ (a ∷ [])) other ∙ sym (append-nil (ending a (reverse other)))

-- with no other digit, the stacks are the notches
stacks_alone : (ns : List ℕ) → stacks ([] ∷ []) ([] ∷ []) ns ≡ map (λ a. a ∷ []) ns
unfolding stacks
stacks_alone [] = refl
stacks_alone (a ∷ ns) =
    ap (λ l. ending a l ++ stacks ([] ∷ []) ([] ∷ []) ns) (go (even a) ([] ∷ []))
    ∙ ap (λ l. (a ∷ []) ∷ l) (stacks_alone ns)
  where
    go : (b : Bool) (ws : List (List ℕ)) → cond b ws ws ≡ ws
    go true ws = refl
    go false ws = refl

-- a digit more at the fast end of words with a digit more at the slow end
through-ending : (m r a : ℕ) (cs : List (List ℕ)) → through m r (ending a cs) ≡ ending a (through m r cs)
unfolding through
through-ending m r a [] = refl
through-ending m r a (c ∷ cs) =
    let first = map (λ b. b ∷ c) (notches m r) in
    ap (λ l. l ++ through m (suc r) (ending a cs)) (sym (map-map (λ w. w ++ (a ∷ [])) (λ b. b ∷ c) (notches m r)))
    ∙ ap (λ l. ending a first ++ l) (through-ending m (suc r) a cs)
    ∙ sym (map-append (λ w. w ++ (a ∷ [])) first (through m (suc r) cs))

-- u stacks of n words each: where u is even so is their number, and where u is odd it has the parity of n
even_times : (u n : ℕ) → even u ≡ true → (u * n) % 2 ≡ 0
even_times u n e =
    let z = eqb-true (u % 2) 0 e in
    let h : u ≡ u / 2 + u / 2 = omega arith in
    ap (λ (k : ℕ). (k * n) % 2) h ∙ omega arith

odd_times : (u n : ℕ) → even u ≡ false → (u * n) % 2 ≡ n % 2
odd_times u n e =
    let z = eqb-false (u % 2) 0 e in
    let h : u ≡ u / 2 + u / 2 + 1 = omega arith in
    ap (λ (k : ℕ). (k * n) % 2) h ∙ omega arith

-- the stack of one notch, through one more digit
through_stack : (m u r : ℕ) (ws : List (List ℕ))
    → r ≡ u * length ws
    → through m r (stacks ws (reverse ws) (u ∷ [])) ≡ stacks (through m 0 ws) (reverse (through m 0 ws)) (u ∷ [])
unfolding stacks
through_stack m u r ws h =
    ap (through m r) (append-nil (ending u (cond (even u) ws (reverse ws))))
    ∙ through-ending m r u (cond (even u) ws (reverse ws))
    ∙ ap (ending u) (go (even u) refl)
    ∙ sym (append-nil (ending u (cond (even u) (through m 0 ws) (reverse (through m 0 ws)))))
  where
    go : (b : Bool) → even u ≡ b → through m r (cond b ws (reverse ws)) ≡ cond b (through m 0 ws) (reverse (through m 0 ws))
    go true e = through_parity m r 0 ws (ap (λ (k : ℕ). k % 2) h ∙ even_times u (length ws) e)
    go false e =
        through_parity m r (length ws) (reverse ws) (ap (λ (k : ℕ). k % 2) h ∙ odd_times u (length ws) e)
        ∙ ap (λ (k : ℕ). through m k (reverse ws)) (sym (zero-add (length ws)))
        ∙ sym (through-reverse m 0 ws)

through-stacks : (m u : ℕ) (ws : List (List ℕ))
    → through m 0 (stacks ws (reverse ws) (upward u)) ≡ stacks (through m 0 ws) (reverse (through m 0 ws)) (upward u)
unfolding upward stacks through
through-stacks m zero ws = refl
through-stacks m (suc u) ws =
    let before = stacks ws (reverse ws) (upward u) in
    let n : length before ≡ length (upward u) * length ws = length-stacks ws (reverse ws) (upward u) (length-reverse ws) in
    let r : 0 + length before ≡ u * length ws = zero-add (length before) ∙ n ∙ ap (λ (k : ℕ). k * length ws) (length-upward u) in
    ap (through m 0) (stacks-append ws (reverse ws) (upward u) (u ∷ []))
    ∙ through-append m 0 before (stacks ws (reverse ws) (u ∷ []))
    ∙ ap (λ l. l ++ through m (0 + length before) (stacks ws (reverse ws) (u ∷ []))) (through-stacks m u ws)
    ∙ ap (λ l. stacks (through m 0 ws) (reverse (through m 0 ws)) (upward u) ++ l) (through_stack m u (0 + length before) ws r)
    ∙ sym (stacks-append (through m 0 ws) (reverse (through m 0 ws)) (upward u) (u ∷ []))

-- a slowest digit more: after its even notches comes the list as it stands, after its odd ones the list backward
pub list_slower : (ms : List ℕ) (m : ℕ) → list (ms ++ (m ∷ [])) ≡ stacks (list ms) (reverse (list ms)) (upward m)
unfolding list through notches
list_slower [] m = append-nil (map (λ a. a ∷ []) (upward m)) ∙ sym (stacks_alone (upward m))
list_slower (k ∷ ms) m = ap (through k 0) (list_slower ms m) ∙ through-stacks k m (list ms)
