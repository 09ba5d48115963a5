-- Bounds on the cost of entries: each costs what the ruler function says, entry j less than 2 j in all, and a run of d entries at
-- most 2 d + n − 1.
use Rattle.std.specs.Prelude.{ℕ, zero, suc, ◌+◌, ◌-◌, ◌*◌, ◌/◌, ◌%◌, ◌≤◌, ◌<◌, ◌≡◌, refl, true, List, [], ◌∷◌, leb, length}
use Rattle.std.proofs.Math.Nat.{div-div-eq-div-mul, zero-div}
use Rattle.std.proofs.Common.{div-one, div-add-mod', mod-lt, mul-le-mul_left, eq-zero-or-pos, add-zero, le-div_iff_mul-le, sym, ap, ◌∙◌, ⊎_elim, leb-true}
use native.Mathlib.Omega.{arith}
use Rattle.std.proofs.Math.Bool.{and-eq-true_iff}
use Rattle.gray_theory.specs.Radices.{all_from}
use Rattle.gray_theory.specs.Changes.{ruler}
use Rattle.gray_theory.specs.Costs.{whole_parts, cost}
use Rattle.gray_theory.proofs.Rulers.{ruler_carry, ruler_no_carry}
use Rattle.gray_theory.proofs.Increments.{Increment, Increment.no_carry, Increment.carry, increment}
use Rattle.gray_theory.specs.Bounds.{nested}

nested_parts : (ms : List ℕ) (j p : ℕ) → j / p + whole_parts j p ms ≡ nested ms (j / p)
unfolding nested whole_parts
nested_parts [] j p = omega arith
nested_parts (m ∷ ms) j p =
    let ih : j / (p * m) + whole_parts j (p * m) ms ≡ nested ms (j / p / m) =
    nested_parts ms j (p * m) ∙ ap (nested ms) (sym (div-div-eq-div-mul j p m)) in
    omega arith

-- the products and the nested divisions give one number
pub cost_is_nested : (ms : List ℕ) (j : ℕ) → cost ms j ≡ nested ms j
cost_is_nested ms j = rw (div-one j) at (nested_parts ms j 1)

-- ---- each entry costs as many steps as the ruler function says
increment_costs : (m : ℕ) (ms : List ℕ) (j : ℕ) → Increment m j
    → nested ms (suc (j / m)) ≡ nested ms (j / m) + ruler ms (suc (j / m))
    → nested (m ∷ ms) (suc j) ≡ nested (m ∷ ms) j + ruler (m ∷ ms) (suc j)
unfolding nested
increment_costs m ms j (no_carry q b below) slower =
    let r = ruler_no_carry m ms (suc j) (j % m) b in
    let e = ap (nested ms) q in
    omega arith
increment_costs m ms j (carry q b whole) slower =
    let r = ruler_carry m ms (suc j) b ∙ ap (λ (n : ℕ). suc (ruler ms n)) q in
    let e = ap (nested ms) q in
    omega arith

nested-suc : (ms : List ℕ) → all_from 1 ms ≡ true → (j : ℕ) → nested ms (suc j) ≡ nested ms j + ruler ms (suc j)
unfolding all_from
nested-suc [] e j = unfold nested ruler in omega arith
nested-suc (m ∷ ms) e j =
    let (first, others) = (and-eq-true_iff (leb 1 m) (all_from 1 ms)).0 e in
    increment_costs m ms j (increment m j (leb-true 1 m first)) (nested-suc ms others (j / m))

pub entry_costs_ruler : (ms : List ℕ) → all_from 1 ms ≡ true → (j : ℕ) → cost ms (suc j) ≡ cost ms j + ruler ms (suc j)
entry_costs_ruler ms e j = rw (cost_is_nested ms (suc j), cost_is_nested ms j) (nested-suc ms e j)

-- ---- less than two steps an entry
nested-zero : (ms : List ℕ) → nested ms 0 ≡ 0
unfolding nested
nested-zero [] = refl
nested-zero (m ∷ ms) = let e = ap (nested ms) (zero-div m) in let ih = nested-zero ms in omega arith

-- with a divisor of at least 2 the quotient is at most half
half : (j m : ℕ) → 2 ≤ m → 2 * (j / m) ≤ j
half j m h = let s = div-add-mod' j m in let t = mul-le-mul_left (j / m) h in omega arith

nested_double : (ms : List ℕ) → all_from 2 ms ≡ true → (j : ℕ) → 0 < j → nested ms j < 2 * j
unfolding all_from nested
nested_double [] e j pos = omega arith
nested_double (m ∷ ms) e j pos =
    let (first, others) = (and-eq-true_iff (leb 2 m) (all_from 2 ms)).0 e in
    let h = half j m (leb-true 2 m first) in
    ⊎_elim
    (λ z. let s = ap (nested ms) z in let t = nested-zero ms in omega arith)
    (λ p. let ih = nested_double ms others (j / m) p in omega arith)
    (eq-zero-or-pos (j / m))

pub cost_below_double : (ms : List ℕ) → all_from 2 ms ≡ true → (j : ℕ) → 0 < j → cost ms j < 2 * j
cost_below_double ms e j pos = rw (cost_is_nested ms j) (nested_double ms e j pos)

-- ---- a burst: d entries in a row, wherever they start
growth : (j d m f : ℕ) → 2 ≤ m → (j + d) / m ≡ j / m + suc f → 2 * suc f ≤ d + 1
growth j d m f h e =
    let s = div-add-mod' j m in
    let t = div-add-mod' (j + d) m in
    let b : j % m < m = mod-lt j (omega arith) in
    let c : (j + d) / m * m ≡ j / m * m + f * m + m = rw e (omega arith) in
    let g = mul-le-mul_left f h in
    omega arith

-- with a divisor of at least 2, d more in the dividend are at most (d + 1) / 2 more in the quotient
quotient_grows : (j d m : ℕ) → 2 ≤ m → (f : ℕ) × ((j + d) / m ≡ j / m + f) × (2 * f ≤ d + 1)
quotient_grows j d m h =
    let s = div-add-mod' j m in
    let pos : 0 < m = omega arith in
    let more : j / m ≤ (j + d) / m = (le-div_iff_mul-le pos).1 (omega arith) in
    go ((j + d) / m - j / m) (omega arith)
  where
    go : (f : ℕ) → (j + d) / m ≡ j / m + f → (f : ℕ) × ((j + d) / m ≡ j / m + f) × (2 * f ≤ d + 1)
    go zero e = (zero, e, omega arith)
    go (suc f) e = (suc f, e, growth j d m f h e)

nested_burst : (ms : List ℕ) → all_from 2 ms ≡ true → (j d : ℕ) → 0 < d → nested ms (j + d) + 1 ≤ nested ms j + 2 * d + length ms
unfolding all_from nested
nested_burst [] e j d pos = omega arith
nested_burst (m ∷ ms) e j d pos =
    let (first, others) = (and-eq-true_iff (leb 2 m) (all_from 2 ms)).0 e in
    let (f, q, small) = quotient_grows j d m (leb-true 2 m first) in
    let r = ap (nested ms) q in
    ⊎_elim
    (λ z. let t = ap (λ (n : ℕ). nested ms (j / m + n)) z in let u = ap (nested ms) (add-zero (j / m)) in omega arith)
    (λ p. let ih = nested_burst ms others (j / m) f p in omega arith)
    (eq-zero-or-pos f)

pub cost_burst : (ms : List ℕ) → all_from 2 ms ≡ true → (j d : ℕ) → 0 < d → cost ms (j + d) + 1 ≤ cost ms j + 2 * d + length ms
cost_burst ms e j d pos = rw (cost_is_nested ms (j + d), cost_is_nested ms j) (nested_burst ms e j d pos)
