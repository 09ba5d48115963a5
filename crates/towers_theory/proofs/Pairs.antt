-- Odd radices: three pegs, and the pair of the turn.
use Rattle.std.specs.Prelude.{ℕ, zero, suc, ◌+◌, ◌-◌, ◌*◌, ◌/◌, ◌%◌, ◌≤◌, ◌<◌, ◌≡◌, Bool, true, false, cond, List, [], ◌∷◌, eqb, leb, length, get_or}
use Rattle.std.proofs.Common.{div-add-mod', arith, ap, ◌∙◌, eq-eqb, ne_eqb, leb-true}
use Rattle.std.proofs.Math.Decide.{ℕ_discrete}
use Rattle.std.proofs.Math.Bool.{and-eq-true_iff}
use Rattle.gray_theory.specs.Radices.{all_from}
use Rattle.gray_theory.specs.Words.{even, reflect}
use Rattle.gray_theory.specs.Indexed.{word_at}
use Rattle.gray_theory.specs.Changes.{ruler}
use Rattle.gray_theory.proofs.Increments.{Increment.no_carry, Increment.carry, increment}
use Rattle.gray_theory.proofs.Rulers.{ruler_carry, ruler_no_carry, ruler_pos}
use Rattle.towers_theory.specs.Choices.{left, middle, right, side_peg}
use Rattle.towers_theory.proofs.Stacks.{Stacked}

-- the peg of the disk at index k at rank r, and the one that is not of the turn then
abbrev pub side_at : List ℕ → ℕ → ℕ → ℕ
side_at ms r k = side_peg (get_or ms k 0) (get_or (word_at ms r) k 0)

abbrev pub left_out : ℕ → ℕ
left_out r = cond (even r) right left

-- ---- parities
odd_times : (q m : ℕ) → m % 2 ≡ 1 → q * m % 2 ≡ q % 2
odd_times zero m odd = omega arith
odd_times (suc q) m odd = let ih = odd_times q m odd in omega arith

-- a rank is as odd as its quotient and its remainder together
parity : (m r : ℕ) → m % 2 ≡ 1 → r % 2 ≡ (r / m + r % m) % 2
parity m r odd =
    let split = div-add-mod' r m in
    let times = odd_times (r / m) m odd in
    omega arith

-- ---- one disk
on_left : (m a : ℕ) → side_peg m a ≡ left → a ≡ 0
on_left m a e =
    elim (ℕ_discrete a 0) [
      | yes z ↦ z
      | no nz ↦ absurd (go (eqb a (m - 1)) (rw (ne_eqb a 0 nz) at e))
    ]
  where
    go : (b : Bool) → cond b right middle ≡ left → ⊥
    go true e = omega arith
    go false e = omega arith

on_right : (m a : ℕ) → side_peg m a ≡ right → a ≡ m - 1
on_right m a e =
    elim (ℕ_discrete a (m - 1)) [
      | yes t ↦ t
      | no nt ↦ absurd (go (eqb a 0) (rw (ne_eqb a (m - 1) nt) at e))
    ]
  where
    go : (b : Bool) → cond b left middle ≡ right → ⊥
    go true e = omega arith
    go false e = omega arith

-- disk 1 goes up at even q and down at odd q. c notches on its way, it is not on the peg left out, if that is the far one at the
-- start and the near one at the end
off_aside : (m q c r : ℕ)
    → c < m
    → (c ≡ 0 → r % 2 ≡ q % 2)
    → (c ≡ m - 1 → r % 2 ≡ suc q % 2)
    → side_peg m (reflect m q c) ≡ left_out r
    → ⊥
off_aside m q c r below start stop e =
    elim (ℕ_discrete (q % 2) 0) [
      | yes up ↦
          let there = rw (eq-eqb (q % 2) 0 up) at e in
          elim (ℕ_discrete (r % 2) 0) [
            | yes p ↦ let top : c ≡ m - 1 = on_right m c (rw (eq-eqb (r % 2) 0 p) at there) in omega (arith, stop top)
            | no h ↦ let bottom : c ≡ 0 = on_left m c (rw (ne_eqb (r % 2) 0 h) at there) in omega (arith, start bottom)
          ]
      | no down ↦
          let there = rw (ne_eqb (q % 2) 0 down) at e in
          elim (ℕ_discrete (r % 2) 0) [
            | yes p ↦
                let top : m - 1 - c ≡ m - 1 = on_right m (m - 1 - c) (rw (eq-eqb (r % 2) 0 p) at there) in
                omega (arith, start (omega arith))
            | no h ↦
                let bottom : m - 1 - c ≡ 0 = on_left m (m - 1 - c) (rw (ne_eqb (r % 2) 0 h) at there) in
                omega (arith, stop (omega arith))
          ]
    ]

-- at the end of its way it is on the peg left out, if that is the far one
end-aside : (m q b r : ℕ) → 2 ≤ m → suc b ≡ m → r % 2 ≡ q % 2 → side_peg m (reflect m q b) ≡ left_out r
end-aside m q b r two whole same =
    elim (ℕ_discrete (q % 2) 0) [
      | yes up ↦ rw (same, eq-eqb (q % 2) 0 up, ne_eqb b 0 (λ z. omega arith), eq-eqb b (m - 1) (omega arith))
      | no down ↦ rw (same, ne_eqb (q % 2) 0 down, eq-eqb (m - 1 - b) 0 (omega arith))
    ]

-- ---- all disks
-- disk 1 moves: there is none below it
first_moves_lem : (m : ℕ) (ms : List ℕ) (r : ℕ)
    → m % 2 ≡ 1
    → suc r / m ≡ r / m
    → suc r % m ≡ suc (r % m)
    → suc (r % m) < m
    → Stacked (m ∷ ms) (side_at (m ∷ ms)) r (left_out r)
unfolding word_at
first_moves_lem m ms r odd q b below =
    record { covered = λ k h l. absurd (omega (arith, ruler_no_carry m ms (suc r) (r % m) b)); free = free; lands = lands }
  where
    free : (i : ℕ) → ruler (m ∷ ms) (suc r) ≡ suc i → i < suc (length ms) → side_at (m ∷ ms) r i ≡ left_out r → ⊥
    free zero e l =
        off_aside m (r / m) (r % m) r (omega arith) (λ z. omega (arith, parity m r odd)) (λ t. absurd (omega arith))
    free (suc i) e l = absurd (omega (arith, ruler_no_carry m ms (suc r) (r % m) b))

    lands : (i : ℕ) → ruler (m ∷ ms) (suc r) ≡ suc i → i < suc (length ms) → side_at (m ∷ ms) (suc r) i ≡ left_out r → ⊥
    lands zero e l =
        rw (q, b)
        (off_aside m (r / m) (suc (r % m)) r below (λ z. absurd (omega arith)) (λ t. omega (arith, parity m r odd)))
    lands (suc i) e l = absurd (omega (arith, ruler_no_carry m ms (suc r) (r % m) b))

-- disk 1 is at its end, and the others are those of the quotient
later-moves : (m : ℕ) (ms : List ℕ) (r : ℕ)
    → 2 ≤ m
    → m % 2 ≡ 1
    → suc r / m ≡ suc (r / m)
    → suc r % m ≡ 0
    → suc (r % m) ≡ m
    → Stacked ms (side_at ms) (r / m) (left_out (r / m))
    → Stacked (m ∷ ms) (side_at (m ∷ ms)) r (left_out r)
unfolding word_at
later-moves m ms r two odd q b whole rest = record { covered = covered; free = free; lands = lands }
  where
    same : r % 2 ≡ r / m % 2
    same = omega (arith, parity m r odd)

    slower : ruler (m ∷ ms) (suc r) ≡ suc (ruler ms (suc (r / m)))
    slower = ruler_carry m ms (suc r) b ∙ ap (λ (j : ℕ). suc (ruler ms j)) q

    covered : (k : ℕ) → suc k < ruler (m ∷ ms) (suc r) → k < suc (length ms) → side_at (m ∷ ms) r k ≡ left_out r
    covered zero h l = end-aside m (r / m) (r % m) r two whole same
    covered (suc k) h l = rw same (rest.covered k (omega (arith, slower)) (omega arith))

    free : (i : ℕ) → ruler (m ∷ ms) (suc r) ≡ suc i → i < suc (length ms) → side_at (m ∷ ms) r i ≡ left_out r → ⊥
    free zero e l = absurd (omega (arith, slower, ruler_pos ms (suc (r / m))))
    free (suc i) e l = rw same (rest.free i (omega (arith, slower)) (omega arith))

    lands : (i : ℕ) → ruler (m ∷ ms) (suc r) ≡ suc i → i < suc (length ms) → side_at (m ∷ ms) (suc r) i ≡ left_out r → ⊥
    lands zero e l = absurd (omega (arith, slower, ruler_pos ms (suc (r / m))))
    lands (suc i) e l = rw (same, q) (rest.lands i (omega (arith, slower)) (omega arith))

pub pairs_stacked : (ms : List ℕ)
    → all_from 2 ms ≡ true
    → ((i : ℕ) → i < length ms → get_or ms i 0 % 2 ≡ 1)
    → (r : ℕ)
    → Stacked ms (side_at ms) r (left_out r)
unfolding all_from
pairs_stacked [] two odd r =
    record {
      covered = λ k h l. absurd (omega arith);
      free = λ i e l f. omega arith;
      lands = λ i e l f. omega arith;
    }
pairs_stacked (m ∷ ms) two odd r =
    let (first, others) = (and-eq-true_iff (leb 2 m) (all_from 2 ms)).0 two in
    let two_here : 2 ≤ m = leb-true 2 m first in
    let odd_here : m % 2 ≡ 1 = odd 0 (omega arith) in
    elim (increment m r (omega arith)) [
      | no_carry q b below ↦ first_moves_lem m ms r odd_here q b below
      | carry q b whole ↦
          later-moves m ms r two_here odd_here q b whole (pairs_stacked ms others (λ i h. odd (suc i) (omega arith)) (r / m))
    ]
