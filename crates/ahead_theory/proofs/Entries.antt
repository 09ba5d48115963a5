-- What entries cost, further laws.
use Rattle.std.specs.Prelude.{ℕ, zero, suc, ◌+◌, ◌*◌, ◌/◌, ◌≤◌, ◌<◌, ◌≡◌, refl, true, List, [], ◌∷◌, leb, length}
use Rattle.std.proofs.Math.Nat.{zero-div}
use Rattle.std.proofs.Common.{add-zero, add-suc, one-mul, le-div_iff_mul-le, le-mul_of_pos_right, arith, leb-true}
use Rattle.std.proofs.Math.Bool.{and-eq-true_iff}
use Rattle.gray_theory.specs.Radices.{size, all_from}
use Rattle.gray_theory.proofs.Sizes.{size_pos}
use Rattle.gray_theory.specs.Costs.{whole_parts, cost}
use Rattle.gray_theory.proofs.Bounds.{entry_costs_ruler}

parts_zero : (p : ℕ) (ms : List ℕ) → whole_parts 0 p ms ≡ 0
unfolding whole_parts
parts_zero p [] = refl
parts_zero p (m ∷ ms) = rw (zero-div (p * m), parts_zero (p * m) ms)

pub cost-zero : (ms : List ℕ) → cost ms 0 ≡ 0
cost-zero ms = rw (parts_zero 1 ms)

pub cost_least : (ms : List ℕ) (j : ℕ) → j ≤ cost ms j
cost_least ms j = omega arith

pub cost_mono : (ms : List ℕ) → all_from 1 ms ≡ true → (i d : ℕ) → cost ms i ≤ cost ms (i + d)
cost_mono ms f i zero = rw (add-zero i) (omega arith)
cost_mono ms f i (suc d) =
    let so_far = cost_mono ms f i d in
    let one_more = entry_costs_ruler ms f (i + d) in
    rw (add-suc i d) (omega arith)

-- from entry N on a step for each entry is not enough
pub cost_from_N : (ms : List ℕ) → all_from 1 ms ≡ true → (j : ℕ) → 0 < length ms → size ms ≤ j → j < cost ms j
unfolding all_from size whole_parts
cost_from_N [] f j some h = absurd (omega arith)
cost_from_N (m ∷ ms) f j some h =
    let (first, others) = (and-eq-true_iff (leb 1 m) (all_from 1 ms)).0 f in
    let pos : 0 < m = leb-true 1 m first in
    let least : m ≤ m * size ms = le-mul_of_pos_right m (size_pos ms others) in
    let part : 1 ≤ j / m = (le-div_iff_mul-le pos).1 (omega arith) in
    rw (one-mul m) (omega arith)
