-- Tests gathered over all 48 places of an engine's array, whatever the number of digits: a place past the digits passes. Loops of a
-- fixed length run on vectors, which is why the range rules are tested so.
use Rattle.std.specs.Prelude.{ℕ, zero, suc, ◌+◌, ◌≤◌, ◌≡◌, refl, Bool, ◌&&◌, ◌||◌, List, ltb, length, take}
use Rattle.std.proofs.Math.Decide.{dec_le}
use Rattle.std.proofs.Common.{arith, sym, ap, ap₂, ◌∙◌, lt-ltb, le-ltb, length-take-le, take_all}
use Rattle.std.proofs.Math.Bool.{and-true}
use Rattle.gray_theory.specs.Directions.{all_below}
use Rattle.gray_theory.proofs.DigitRanges.{all_below_same, tested_more}

-- ---- places past the digits
past : (n k : ℕ) (test : ℕ → Bool) → n ≤ k → all_below k (λ j. ltb n (j + 1) || test j) ≡ all_below n test
unfolding all_below
past n zero test h = let z : n ≡ 0 = omega arith in rw z refl
past n (suc k) test h =
    elim (dec_le n k) [
      | yes p ↦
          ap₂ ◌&&◌ (past n k test p) (ap (λ b. b || test k) (lt-ltb n (k + 1) (omega arith))) ∙ and-true (all_below n test)
      | no q ↦
          let at : suc k ≡ n = omega arith in
          all_below_same (suc k) (λ j. ltb n (j + 1) || test j) test
          (λ j l. ap (λ b. b || test j) (le-ltb n (j + 1) (omega arith)))
          ∙ ap (λ (m : ℕ). all_below m test) at
    ]

first_places : (n : ℕ) (l : List ℕ) (test : ℕ → Bool)
    → length l ≡ 48
    → all_below 48 (λ j. ltb n (j + 1) || test j) ≡ all_below (length (take n l)) test
first_places n l test long =
    elim (dec_le n 48) [
      | yes p ↦ past n 48 test p ∙ ap (λ (k : ℕ). all_below k test) (sym (length-take-le n l (omega arith)))
      | no q ↦
          all_below_same 48 (λ j. ltb n (j + 1) || test j) test (λ j h. ap (λ b. b || test j) (le-ltb n (j + 1) (omega arith)))
          ∙ ap (λ (k : ℕ). all_below k test) (sym (ap length (take_all n l (omega arith)) ∙ long))
    ]

-- ---- the loop
-- a place more, whose number is counted beside its index
pub gathered_more : (n : ℕ) (test : ℕ → ℕ → Bool) (ok next : Bool) (i number : ℕ)
    → number ≡ i
    → ok ≡ all_below i (λ j. ltb n (j + 1) || test (j + 1) j)
    → next ≡ (ltb n (number + 1) || test (number + 1) i)
    → ok && next ≡ all_below (i + 1) (λ j. ltb n (j + 1) || test (j + 1) j)
gathered_more n test ok next i number same e f =
    tested_more (λ j. ltb n (j + 1) || test (j + 1) j) ok next i e (f ∙ ap (λ k. ltb n (k + 1) || test (k + 1) i) same)

-- all places: the test holds of each of the first n of an array l (of all, where n is over 48)
pub gathered : (n : ℕ) (l : List ℕ) (test : ℕ → ℕ → Bool) (ok : Bool) (i : ℕ)
    → length l ≡ 48
    → i ≤ 48
    → 48 ≤ i
    → ok ≡ all_below i (λ j. ltb n (j + 1) || test (j + 1) j)
    → ok ≡ all_below (length (take n l)) (λ j. test (j + 1) j)
gathered n l test ok i long h k e =
    let all : i ≡ 48 = omega arith in
    e ∙ ap (λ (m : ℕ). all_below m (λ j. ltb n (j + 1) || test (j + 1) j)) all ∙ first_places n l (λ j. test (j + 1) j) long
