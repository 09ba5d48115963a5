-- Laws of the multiples of P that are none of P m: which one comes next, how many there are, and where they turn a digit.
use Rattle.std.specs.Prelude.{ℕ, suc, ◌+◌, ◌-◌, ◌*◌, ◌/◌, ◌%◌, ◌≤◌, ◌<◌, ◌≡◌, refl, ◌↔◌, Bool, true, false, cond, ◌&&◌, not, eqb}
use Rattle.std.proofs.Common.{div-add-mod', mul-div_cancel, lt_of_mul-lt-mul_right, mul-lt-mul_of_pos_right, arith, sym, ap, ◌∙◌, eq-eqb, ne_eqb}
use Rattle.std.proofs.Math.Nat.{mul-mod_left}
use Rattle.std.proofs.Math.Decide.{dec_lt, ℕ_discrete}
use Rattle.gray_theory.specs.Bools.{impossible}
use Rattle.gray_theory.proofs.Sizes.{divides_product}
use Rattle.gray_theory.proofs.Increments.{Increment, Increment.no_carry, Increment.carry, increment}
use Rattle.rests_theory.specs.Rests.{divides, turns, at_an_end}

-- ---- which comes next
-- j is a multiple of P alone, not of P m: it is u P, and m does not divide u
pub record Alone (P m j : ℕ) : Type 0 where
  pub times : j ≡ j / P * P
  pub left : 0 < j / P % m

-- what follows u among the numbers that m does not divide: the next number, in the same round of m, or the one after that, in
-- the next round
pub data Next (m u u' : ℕ) : Type 0 where
  straight : u' ≡ suc u → u' / m ≡ u / m → suc (u % m) < m → Next m u u'
  turning : u' ≡ suc (suc u) → u' / m ≡ suc (u / m) → suc (u % m) ≡ m → Next m u u'

module _ (P m : ℕ) (pos : 0 < P) (two : 2 ≤ m) where
  pub alone : (j : ℕ) → ((j % P ≡ 0) × (j % (P * m) ≡ 0 → ⊥)) ↔ Alone P m j
  alone j =
      let split = div-add-mod' j P in
      let (apart, both) = divides_product j P m pos (omega arith) in (
        λ h.
            let by-P = h.0 in
            record {
              times = omega arith;
              left = elim (ℕ_discrete (j / P % m) 0) [
                | yes z ↦ absurd (h.1 (both (by-P, z)))
                | no n ↦ omega arith
              ];
            },
        λ a. let left = a.left in (ap (λ (n : ℕ). n % P) a.times ∙ mul-mod_left (j / P) P, λ z. let none = (apart z).1 in omega arith),
      )

  next : (u u' : ℕ)
      → u < u'
      → 0 < u' % m
      → ((v : ℕ) → u < v → v < u' → v % m ≡ 0)
      → Next m u u'
  next u u' h left none =
      elim (increment m u (omega arith)) [
        | no_carry q b below ↦
            elim (dec_lt (suc u) u') [
              | yes more ↦ let z = none (suc u) (omega arith) more in absurd (omega arith)
              | no last ↦ let same : u' ≡ suc u = omega arith in straight same (ap (λ (n : ℕ). n / m) same ∙ q) below
            ]
        | carry q b whole ↦
            elim (ℕ_discrete u' (suc u)) [
              | yes same ↦ let z : u' % m ≡ 0 = ap (λ (n : ℕ). n % m) same ∙ b in absurd (omega arith)
              | no other ↦ turned q b whole (increment m (suc u) (omega arith)) (omega arith)
            ]
      ]
    where
      turned : suc u / m ≡ suc (u / m) → suc u % m ≡ 0 → suc (u % m) ≡ m → Increment m (suc u) → suc u < u' → Next m u u'
      turned q b whole (no_carry r c below) h =
          elim (dec_lt (suc (suc u)) u') [
            | yes more ↦ let z = none (suc (suc u)) (omega arith) more in absurd (omega arith)
            | no last ↦ let same : u' ≡ suc (suc u) = omega arith in turning same (ap (λ (n : ℕ). n / m) same ∙ r ∙ q) whole
          ]
      turned q b whole (carry r c again) h = absurd (omega arith)

  -- with u for j / P: two such multiples, and none of them between
  pub next_multiple : (j j' : ℕ)
      → Alone P m j
      → Alone P m j'
      → j < j'
      → ((i : ℕ) → j < i → i < j' → Alone P m i → ⊥)
      → Next m (j / P) (j' / P)
  next_multiple j j' a a' h none =
      let from = a.times in
      let to = a'.times in
      next (j / P) (j' / P)
      (lt_of_mul-lt-mul_right P (omega arith))
      a'.left
      (λ v low high.
      elim (ℕ_discrete (v % m) 0) [
        | yes z ↦ z
        | no n ↦
            let below = mul-lt-mul_of_pos_right {m = j / P} {n = v} {k = P} low pos in
            let above = mul-lt-mul_of_pos_right {m = v} {n = j' / P} {k = P} high pos in
            let q : v * P / P ≡ v = mul-div_cancel v pos in
            absurd (none (v * P) (omega arith) (omega arith) (record { times = ap (λ (n : ℕ). n * P) (sym q); left = rw q (omega arith) }))
      ])

-- ---- how many there are
-- the quotient by d counts the multiples of d
pub quotient_counts : (d t : ℕ) → 0 < d → suc t / d ≡ t / d + cond (divides d (suc t)) 1 0
quotient_counts d t pos = by (increment d t pos)
  where
    by : Increment d t → suc t / d ≡ t / d + cond (divides d (suc t)) 1 0
    by (no_carry q b below) = rw (ne_eqb (suc t % d) 0 (λ z. omega arith), q) (omega arith)
    by (carry q b whole) = rw (eq-eqb (suc t % d) 0 b, q) (omega arith)

-- what passes a and not b, and what passes b, is what passes a, if what passes b does
pub one_of_two : (a b : Bool) → (b ≡ true → a ≡ true) → cond (a && not b) 1 0 + cond b 1 0 ≡ cond a 1 0
one_of_two true true h = refl
one_of_two true false h = refl
one_of_two false true h = let no = h refl in impossible (cc)
one_of_two false false h = refl

-- ---- as tests
-- a number is what it should be exactly if a is 0 and b is not
pub tested : (x y a b : ℕ) → (x ≡ y) ↔ ((a ≡ 0) × (b ≡ 0 → ⊥)) → eqb x y ≡ eqb a 0 && not (eqb b 0)
tested x y a b (there, back) =
    elim (ℕ_discrete x y) [
      | yes same ↦ let (is, is-not) = there same in rw (eq-eqb x y same, eq-eqb a 0 is, ne_eqb b 0 is-not)
      | no other ↦
          elim (ℕ_discrete a 0) [
            | no n ↦ rw (ne_eqb x y other, ne_eqb a 0 n)
            | yes is ↦
                elim (ℕ_discrete b 0) [
                  | yes z ↦ rw (ne_eqb x y other, eq-eqb a 0 is, eq-eqb b 0 z)
                  | no n ↦ absurd (other (back (is, n)))
                ]
          ]
    ]

-- ---- turning
-- in a round of m the notch is b upward, m − 1 − b downward: at an end after b = 0 only where b is the last
pub not_at_an_end : (m b : ℕ) (up : Bool) → 0 < b → suc b < m → at_an_end m (cond up b (m - 1 - b)) ≡ false
not_at_an_end m b true some h = rw (ne_eqb b 0 (λ z. omega arith), ne_eqb b (m - 1) (λ z. omega arith))
not_at_an_end m b false some h = rw (ne_eqb (m - 1 - b) 0 (λ z. omega arith), ne_eqb (m - 1 - b) (m - 1) (λ z. omega arith))

pub at_an_end_lem : (m b : ℕ) (up : Bool) → 0 < b → suc b ≡ m → at_an_end m (cond up b (m - 1 - b)) ≡ true
at_an_end_lem m b true some h = rw (ne_eqb b 0 (λ z. omega arith), eq-eqb b (m - 1) (omega arith))
at_an_end_lem m b false some h = rw (eq-eqb (m - 1 - b) 0 (omega arith))

pub straight_on : (d : Bool) → turns d d ≡ false
straight_on true = refl
straight_on false = refl

pub turned_round : (d : Bool) → turns d (not d) ≡ true
turned_round true = refl
turned_round false = refl
