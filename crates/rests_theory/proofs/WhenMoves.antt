-- Which changes of the list are a sluice's.
use Prim.Native.Nat.{ℕ, zero, suc, ◌-◌, ◌*◌, ◌%◌, ◌≤◌, ◌<◌}
use Rattle.std.proofs.Common.{mul-one, sym, ap₂, ◌∙◌, take-suc}
use Rattle.std.proofs.Math.Decide.{ℕ_discrete}
use native.Mathlib.Omega.{arith}
use Rattle.std.specs.Prelude.{◌≡◌, ◌↔◌, true, List, [], ◌∷◌, length, take}
use Rattle.std.proofs.Math.Path.{ap}
use Rattle.gray_theory.specs.Radices.{size, all_from}
use Rattle.gray_theory.specs.Changes.{Change, change, ruler, descends}
use Rattle.gray_theory.proofs.Rulers.{change_is_ruler, ruler-divides}
use Rattle.gray_theory.proofs.Sizes.{size-append}
use Rattle.rests_theory.specs.Rests.{count_of, P, Q, Moving}
use Rattle.rests_theory.proofs.ProductBelow.{P_is_the_product_below}

-- ---- Q is the product up to sluice k
pub product_to : (ms : List ℕ) (k : ℕ) → all_from 1 ms ≡ true → 1 ≤ k → k ≤ length ms → size (take k ms) ≡ Q ms k
unfolding size
product_to ms k e one h =
    let i : suc (k - 1) ≡ k = omega arith in
    ap (λ (n : ℕ). size (take n ms)) (sym i)
    ∙ ap size (take-suc ms (k - 1) 0 (omega arith))
    ∙ size-append (take (k - 1) ms) (count_of ms k ∷ [])
    ∙ ap₂ ◌*◌ (sym (P_is_the_product_below ms k e)) (mul-one (count_of ms k))

-- ---- change j by the ruler function
pub change_is : (ms : List ℕ) (j : ℕ) → 1 ≤ j → j < size ms → change ms j ≡ record { digit = ruler ms j; down = descends ms j }
change_is ms zero one h = absurd (omega arith)
change_is ms (suc j) one h = (change_is_ruler ms j h).0

-- For j from 1 to N − 1, change j is of sluice k exactly if P divides j and Q does not.
pub moves_when_P-divides : (ms : List ℕ) (k j : ℕ)
    → all_from 1 ms ≡ true
    → Moving ms k
    → 1 ≤ j
    → j < size ms
    → ((change ms j).digit ≡ k) ↔ ((j % P ms k ≡ 0) × (j % Q ms k ≡ 0 → ⊥))
moves_when_P-divides ms k j e v one h =
    let first = v.from_1 in
    let last = v.to_n in
    let named : (change ms j).digit ≡ ruler ms j = ap (λ (c : Change). c.digit) (change_is ms j one h) in
    let below = P_is_the_product_below ms k e in
    let upto = product_to ms k e first last in
    let (p-there, p_back) = ruler-divides ms e j (k - 1) (omega arith) in
    let (q-there, q_back) = ruler-divides ms e j k last in (
      λ same. (
        ap (λ (n : ℕ). j % n) below ∙ p-there (omega arith),
        λ z. let more = q_back (ap (λ (n : ℕ). j % n) upto ∙ z) in omega arith,
      ),
      λ both.
          let least = p_back (ap (λ (n : ℕ). j % n) (sym below) ∙ both.0) in
          elim (ℕ_discrete (ruler ms j) k) [
            | yes same ↦ named ∙ same
            | no other ↦ absurd (both.1 (ap (λ (n : ℕ). j % n) (sym upto) ∙ q-there (omega arith)))
          ],
    )
