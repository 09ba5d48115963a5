-- What happens to the quotient and the remainder of a rank by a radix when the rank grows by one: the remainder grows, or it
-- starts again and the quotient grows.
use Rattle.std.specs.Prelude.{ℕ, suc, ◌+◌, ◌*◌, ◌/◌, ◌%◌, ◌<◌, ◌≡◌, not}
use Rattle.std.proofs.Common.{div-add-mod', mod-lt, arith, ap, ◌∙◌, eq-eqb, ne_eqb}
use Rattle.std.proofs.Math.Decide.{dec_lt, ℕ_discrete}
use Rattle.std.proofs.Math.Arith.{digits_div, digits_mod}
use Rattle.gray_theory.specs.Words.{even}

pub data Increment (m j : ℕ) : Type 0 where
  no_carry : suc j / m ≡ j / m → suc j % m ≡ suc (j % m) → suc (j % m) < m → Increment m j
  carry : suc j / m ≡ suc (j / m) → suc j % m ≡ 0 → suc (j % m) ≡ m → Increment m j

pub increment : (m j : ℕ) → 0 < m → Increment m j
increment m j pos =
    let split = div-add-mod' j m in
    let below : j % m < m = mod-lt j pos in
    elim (dec_lt (suc (j % m)) m) [
      | yes p ↦
          let e : suc j ≡ j / m * m + suc (j % m) = omega arith in
          no_carry (ap (λ (n : ℕ). n / m) e ∙ digits_div (j / m) p) (ap (λ (n : ℕ). n % m) e ∙ digits_mod (j / m) p) p
      | no q ↦
          let whole : suc (j % m) ≡ m = omega arith in
          let e : suc j ≡ suc (j / m) * m + 0 = omega arith in
          carry
          (ap (λ (n : ℕ). n / m) e ∙ digits_div (suc (j / m)) pos)
          (ap (λ (n : ℕ). n % m) e ∙ digits_mod (suc (j / m)) pos)
          whole
    ]

-- the next number has the other parity
pub even-suc : (q : ℕ) → even (suc q) ≡ not (even q)
even-suc q =
    elim (ℕ_discrete (q % 2) 0) [
      | yes p ↦ rw (eq-eqb (q % 2) 0 p) (ne_eqb (suc q % 2) 0 (λ z. omega arith))
      | no h ↦ rw (ne_eqb (q % 2) 0 h) (eq-eqb (suc q % 2) 0 (omega arith))
    ]
