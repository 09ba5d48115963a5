-- The counter of the producer: the mixed-radix digits of the entries finished, with the places cleared by carries.
use Rattle.std.specs.Prelude.{ℕ, zero, suc, ◌+◌, ◌-◌, ◌*◌, ◌/◌, ◌%◌, ◌≤◌, ◌<◌, ◌≡◌, Bool, true, false, cond, leb, ltb, eqb, length, get_or, set, replicate}
use Rattle.std.proofs.Math.Nat.{zero-div, zero-mod, mul_comm, mul-mod_right, mul-div_cancel_left}
use Rattle.std.proofs.Common.{mod-lt, mul_assoc, add-one, sym, ap, ◌∙◌, leb-true, le-leb, lt-ltb, eq-eqb, ne_eqb, length-append, length-drop}
use native.Mathlib.Omega.{arith}
use Rattle.std.proofs.Math.Path.{refl}
use Rattle.std.proofs.Math.Bool.{and-eq-true_iff}
use mathlib.Core.List.{List, [], ◌∷◌}
use Rattle.std.proofs.Math.Dec.{leb-suc-suc}
use Rattle.std.proofs.lemmas.List.{length-replicate}
use Rattle.std.proofs.Math.Seq.{drop-nil}
use Rattle.gray_theory.specs.Radices.{size, mixed_digits, all_from}
use Rattle.gray_theory.specs.Changes.{ruler}
use Rattle.gray_theory.proofs.Sizes.{all_from-append, size-append, quotient_below}
use Rattle.gray_theory.proofs.Increments.{Increment, Increment.no_carry, Increment.carry, increment}
use Rattle.gray_theory.proofs.Rulers.{ruler_carry, ruler_no_carry, ruler_pos}
use Rattle.ahead_theory.specs.States.{places}
use Rattle.ahead_theory.specs.Counters.{cleared}

-- ---- the counter's radices
pub all_from-places : (k : ℕ) (ms : List ℕ) → k ≤ 2 → all_from k ms ≡ true → all_from k (places ms) ≡ true
unfolding all_from
all_from-places k ms h e = rw (all_from-append k ms (2 ∷ []), e, le-leb k 2 h)

pub length-places : (ms : List ℕ) → length (places ms) ≡ length ms + 1
length-places ms = length-append ms (2 ∷ [])

pub size-places : (ms : List ℕ) → size (places ms) ≡ 2 * size ms
size-places ms = size-append ms (2 ∷ []) ∙ unfold size in mul_comm (size ms) 2

-- ---- the ruler function
pub ruler_most : (ms : List ℕ) (j : ℕ) → ruler ms j ≤ suc (length ms)
unfolding ruler
ruler_most [] j = omega arith
ruler_most (m ∷ ms) j = either (eqb (j % m) 0) (ruler_most ms (j / m))
  where
    either : (b : Bool) {r : ℕ} → r ≤ suc (length ms) → cond b (suc r) 1 ≤ suc (suc (length ms))
    either true h = omega arith
    either false h = omega arith

-- at every multiple of N it is n + 1
pub ruler_at_multiple : (ms : List ℕ) → all_from 1 ms ≡ true → (q : ℕ) → ruler ms (size ms * q) ≡ suc (length ms)
unfolding all_from size
ruler_at_multiple [] e q = unfold ruler in refl
ruler_at_multiple (m ∷ ms) e q =
    let (first, others) = (and-eq-true_iff (leb 1 m) (all_from 1 ms)).0 e in
    ap (ruler (m ∷ ms)) (mul_assoc m (size ms) q)
    ∙ ruler_carry m ms (m * (size ms * q)) (mul-mod_right m (size ms * q))
    ∙ ap (λ (n : ℕ). suc (ruler ms n)) (mul-div_cancel_left (size ms * q) (leb-true 1 m first))
    ∙ ap suc (ruler_at_multiple ms others q)

increment_places : (m : ℕ) (ms : List ℕ) (e : ℕ) → Increment m e
    → (suc e / m ≡ suc (e / m) → ruler (places ms) (suc (e / m)) ≡ ruler ms (suc (e / m)))
    → ruler (places (m ∷ ms)) (suc e) ≡ ruler (m ∷ ms) (suc e)
increment_places m ms e (no_carry q b below) slower =
    ruler_no_carry m (places ms) (suc e) (e % m) b ∙ sym (ruler_no_carry m ms (suc e) (e % m) b)
increment_places m ms e (carry q b whole) slower =
    rw (ruler_carry m (places ms) (suc e) b, ruler_carry m ms (suc e) b, q) (ap suc (slower q))

-- the last place makes no difference before entry 2 N
pub ruler-places : (ms : List ℕ)
    → all_from 1 ms ≡ true
    → (e : ℕ)
    → suc e < 2 * size ms
    → ruler (places ms) (suc e) ≡ ruler ms (suc e)
unfolding all_from
ruler-places [] f e h =
    let b : suc e % 2 ≡ suc 0 = unfold size in omega arith in
    ruler_no_carry 2 [] (suc e) 0 b ∙ unfold ruler in refl
ruler-places (m ∷ ms) f e h =
    let (first, others) = (and-eq-true_iff (leb 1 m) (all_from 1 ms)).0 f in
    let below : suc e / m < size (places ms) = quotient_below m (places ms) (suc e) (rw (size-places (m ∷ ms)) h) in
    increment_places m ms e
    (increment m e (leb-true 1 m first))
    (λ q. ruler-places ms others (e / m) (rw (q, size-places ms) at below))

-- ---- the digits
pub length-mixed_digits : (ms : List ℕ) (e : ℕ) → length (mixed_digits ms e) ≡ length ms
unfolding mixed_digits
length-mixed_digits [] e = refl
length-mixed_digits (m ∷ ms) e = ap suc (length-mixed_digits ms (e / m))

pub mixed_below : (ms : List ℕ) → all_from 1 ms ≡ true → (e i : ℕ) → i < length ms → get_or (mixed_digits ms e) i 0 < get_or ms i 0
unfolding mixed_digits all_from
mixed_below [] f e i h = absurd (omega arith)
mixed_below (m ∷ ms) f e zero h = mod-lt e (leb-true 1 m ((and-eq-true_iff (leb 1 m) (all_from 1 ms)).0 f).0)
mixed_below (m ∷ ms) f e (suc i) h =
    mixed_below ms ((and-eq-true_iff (leb 1 m) (all_from 1 ms)).0 f).1 (e / m) i (omega arith)

pub mixed_start : (ms : List ℕ) → mixed_digits ms 0 ≡ replicate (length ms) 0
unfolding mixed_digits
mixed_start [] = refl
mixed_start (m ∷ ms) = rw (zero-mod m, zero-div m, mixed_start ms)

-- ---- cleared places
pub length-cleared : (p : ℕ) (l : List ℕ) → p ≤ length l → length (cleared p l) ≡ length l
length-cleared p l h = simp (length-append, length-drop, length-replicate) (omega arith)

pub cleared_at : (p : ℕ) (l : List ℕ) → get_or (cleared p l) p 0 ≡ get_or l p 0
cleared_at zero l = refl
cleared_at (suc p) [] = rw (drop-nil p) at (cleared_at p [])
cleared_at (suc p) (x ∷ l) = cleared_at p l

pub cleared_below : (p : ℕ) (l : List ℕ) (i : ℕ) → get_or (cleared p l) i 0 ≤ get_or l i 0
cleared_below zero l i = omega arith
cleared_below (suc p) [] zero = omega arith
cleared_below (suc p) [] (suc i) = rw (drop-nil p) at (cleared_below p [] i)
cleared_below (suc p) (x ∷ l) zero = omega arith
cleared_below (suc p) (x ∷ l) (suc i) = cleared_below p l i

-- ---- the steps towards an entry
-- a carry clears one more place
pub carry_clears : (p : ℕ) (l : List ℕ) → p < length l → set (cleared p l) p 0 ≡ cleared (suc p) l
carry_clears zero [] h = absurd (omega arith)
carry_clears zero (x ∷ l) h = refl
carry_clears (suc p) [] h = absurd (omega arith)
carry_clears (suc p) (x ∷ l) h = ap (λ (r : List ℕ). 0 ∷ r) (carry_clears p l (omega arith))

increment_test : (m : ℕ) (ms : List ℕ) (e p : ℕ) → Increment m e
    → ((o : ℕ) → p ≡ suc o → o < ruler ms (suc (e / m))
    → eqb (get_or (mixed_digits ms (e / m)) o 0) (get_or ms o 0 - 1) ≡ ltb (suc o) (ruler ms (suc (e / m))))
    → p < ruler (m ∷ ms) (suc e)
    → eqb (get_or (mixed_digits (m ∷ ms) e) p 0) (get_or (m ∷ ms) p 0 - 1) ≡ ltb (suc p) (ruler (m ∷ ms) (suc e))
unfolding mixed_digits
increment_test m ms e zero (no_carry q b below) slower h =
    rw (ruler_no_carry m ms (suc e) (e % m) b, ne_eqb (e % m) (m - 1) (λ z. omega arith))
increment_test m ms e (suc p) (no_carry q b below) slower h = absurd (omega (arith, ruler_no_carry m ms (suc e) (e % m) b))
increment_test m ms e zero (carry q b whole) slower h =
    let more : 1 < suc (ruler ms (suc e / m)) = omega (arith, ruler_pos ms (suc e / m)) in
    rw (ruler_carry m ms (suc e) b, eq-eqb (e % m) (m - 1) (omega arith), lt-ltb 1 (suc (ruler ms (suc e / m))) more)
increment_test m ms e (suc p) (carry q b whole) slower h =
    let r = ruler_carry m ms (suc e) b ∙ ap (λ (n : ℕ). suc (ruler ms n)) q in
    rw r (slower p refl (omega arith) ∙ sym (leb-suc-suc (suc (suc p)) (ruler ms (suc (e / m)))))

-- after p carries the digit at place p + 1 is its radix less 1 exactly if another carry is to come
pub carry_test : (ms : List ℕ)
    → all_from 1 ms ≡ true
    → (e p : ℕ)
    → p < length ms
    → p < ruler ms (suc e)
    → eqb (get_or (mixed_digits ms e) p 0) (get_or ms p 0 - 1) ≡ ltb (suc p) (ruler ms (suc e))
unfolding all_from
carry_test [] f e p h t = absurd (omega arith)
carry_test (m ∷ ms) f e p h t =
    let (first, others) = (and-eq-true_iff (leb 1 m) (all_from 1 ms)).0 f in
    increment_test m ms e p (increment m e (leb-true 1 m first)) (λ o z l. carry_test ms others (e / m) o (omega arith) l) t

increment_counts : (m : ℕ) (ms : List ℕ) (e p : ℕ) → Increment m e
    → ((o : ℕ) → p ≡ suc o → suc o ≡ ruler ms (suc (e / m))
    → set (cleared o (mixed_digits ms (e / m))) o (get_or (mixed_digits ms (e / m)) o 0 + 1) ≡ mixed_digits ms (suc (e / m)))
    → suc p ≡ ruler (m ∷ ms) (suc e)
    → set (cleared p (mixed_digits (m ∷ ms) e)) p (get_or (mixed_digits (m ∷ ms) e) p 0 + 1) ≡ mixed_digits (m ∷ ms) (suc e)
unfolding mixed_digits
increment_counts m ms e zero (no_carry q b below) slower h = rw (q, b, add-one)
increment_counts m ms e (suc p) (no_carry q b below) slower h = absurd (omega (arith, ruler_no_carry m ms (suc e) (e % m) b))
increment_counts m ms e zero (carry q b whole) slower h =
    absurd (omega (arith, ruler_carry m ms (suc e) b, ruler_pos ms (suc e / m)))
increment_counts m ms e (suc p) (carry q b whole) slower h =
    let r = ruler_carry m ms (suc e) b ∙ ap (λ (n : ℕ). suc (ruler ms n)) q in
    rw (q, b) (ap (λ (l : List ℕ). 0 ∷ l) (slower p refl (omega arith)))

-- with all its carries made, an entry is finished by adding 1 at its place
pub append_counts : (ms : List ℕ)
    → all_from 1 ms ≡ true
    → (e p : ℕ)
    → p < length ms
    → suc p ≡ ruler ms (suc e)
    → set (cleared p (mixed_digits ms e)) p (get_or (mixed_digits ms e) p 0 + 1) ≡ mixed_digits ms (suc e)
unfolding all_from
append_counts [] f e p h t = absurd (omega arith)
append_counts (m ∷ ms) f e p h t =
    let (first, others) = (and-eq-true_iff (leb 1 m) (all_from 1 ms)).0 f in
    increment_counts m ms e p (increment m e (leb-true 1 m first)) (λ o z l. append_counts ms others (e / m) o (omega arith) l) t
