-- An answer after checks: the number of one of them, or a value that passed them all.
use Rattle.std.specs.Prelude.{ℕ, ◌≤◌, ◌≡◌, refl, Bool, true, false, List, ltb, length}
use Rattle.std.proofs.Common.{arith, ◌∙◌, ltb-false}
use Rattle.gray_theory.specs.Answers.{Answer, given, refused, refusing, fitting}
use Rattle.gray_theory.specs.Radices.{wrong_count, wrong_radix, too_many, of_radices, Limits}
use Rattle.gray_theory.specs.Capacities.{wrong_capacity, of_survey, Openable}
use Rattle.gray_theory.proofs.Refusals.{within_limits, limits_pass, within_openable}

-- a value that is good, or a refusal by a number from 1 to `most`
pub data Checked {A : Type 0} (most : ℕ) (Good : A → Type 0) : Answer A → Type 0 where
  valued : {a : A} → Good a → Checked most Good (given a)
  numbered : {k : ℕ} → 1 ≤ k → k ≤ most → Checked most Good (refused k)

module _ {A : Type 0} (most : ℕ) (Good : A → Type 0) where
  -- one check: its number is one of them, and what comes after it may count on there being no fault
  pub after_check : (k : ℕ) (fault : Bool) (rest : Answer A)
      → 1 ≤ k
      → k ≤ most
      → (fault ≡ false → Checked most Good rest)
      → Checked most Good (refusing k fault rest)
  after_check k true rest one within later = numbered one within
  after_check k false rest one within later = later refl

  -- the checks of a survey, and of a survey with a capacity
  pub after_radices : (ms : List ℕ) (rest : Answer A) → 4 ≤ most → (Limits ms → Checked most Good rest) → Checked most Good (of_radices ms rest)
  after_radices ms rest four later =
      after_check 2 (wrong_count ms) _ (omega arith) (omega arith)
      (λ a. after_check 3 (wrong_radix ms) _ (omega arith) (omega arith)
      (λ b. after_check 4 (too_many ms) rest (omega arith) four (λ c. later (within_limits {A = ℕ} ms (given 0) 0 (rw (a, b, c))).0)))

  pub after-survey : (ms : List ℕ) (c : ℕ) (rest : Answer A) → 5 ≤ most → (Openable ms c → Checked most Good rest) → Checked most Good (of_survey ms c rest)
  after-survey ms c rest five later =
      after_radices ms (refusing 5 (wrong_capacity c) rest) (omega arith)
      (λ l. after_check 5 (wrong_capacity c) rest (omega arith) five
      (λ e. later (within_openable {A = ℕ} ms c (given 0) 0 (limits_pass ms (refusing 5 (wrong_capacity c) (given 0)) l ∙ rw e)).0))

-- the last check of every writer: what it gives fits the room that is lent
pub after-fitting : (most : ℕ) (Good : List ℕ → Type 0) (room : ℕ) (bytes : List ℕ)
    → 9 ≤ most
    → (length bytes ≤ room → Good bytes)
    → Checked most Good (fitting room bytes)
after-fitting most Good room bytes nine good =
    after_check most Good 9 (ltb room (length bytes)) (given bytes) (omega arith) nine
    (λ e. valued (good (ltb-false room (length bytes) e)))
