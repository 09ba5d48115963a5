-- Laws of the smallest disk for which a test holds.
use Rattle.std.specs.Prelude.{ℕ, zero, suc, ◌<◌, ◌≡◌, refl, Bool, true, false, cond, ◌&&◌, not, eqb}
use Rattle.std.proofs.Math.Decide.{dec_lt}
use Rattle.std.proofs.Common.{arith, sym, ap₂, ◌∙◌, eqb-true, ne_eqb}
use Rattle.std.proofs.Math.Bool.{and-false}
use Rattle.std.proofs.Math.Option.{Option, none, some}
use Rattle.std.proofs.lemmas.Bool.{eqb-false, not-true, not-false}
use Rattle.gray_theory.specs.Directions.{all_below}
use Rattle.gray_theory.proofs.DigitRanges.{each_all_below}
use Rattle.gray_theory.specs.Bools.{impossible}
use Rattle.towers_theory.specs.Choices.{or_else, smallest}

pub smallest-none : (n : ℕ) (test : ℕ → Bool) → ((k : ℕ) → k < n → test k ≡ false) → smallest n test ≡ none
unfolding smallest
smallest-none zero test none-holds = refl
smallest-none (suc n) test none-holds =
    rw (smallest-none n test (λ k h. none-holds k (omega arith)), none-holds n (omega arith))

pub smallest_some : (n : ℕ) (test : ℕ → Bool) (i : ℕ)
    → i < n
    → test i ≡ true
    → ((k : ℕ) → k < i → test k ≡ false)
    → smallest n test ≡ some i
unfolding smallest
smallest_some zero test i h holds before = absurd (omega arith)
smallest_some (suc n) test i h holds before =
    elim (dec_lt i n) [
      | yes p ↦ rw (smallest_some n test i p holds before)
      | no q ↦
          let last : n ≡ i = omega arith in
          rw (smallest-none n test (λ k below. before k (omega arith)), last, holds)
    ]

pub smallest_same : (n : ℕ) (f g : ℕ → Bool) → ((i : ℕ) → i < n → f i ≡ g i) → smallest n f ≡ smallest n g
unfolding smallest
smallest_same zero f g same = refl
smallest_same (suc n) f g same =
    ap₂ (λ (o : Option ℕ) (b : Bool). or_else o (cond b (some n) none))
    (smallest_same n f g (λ i h. same i (omega arith)))
    (same n (omega arith))

-- what it says that a disk was found
pub record Found (n : ℕ) (test : ℕ → Bool) (i : ℕ) : Type 0 where
  pub within : i < n
  pub holds : test i ≡ true
  pub before : (k : ℕ) → k < i → test k ≡ false

-- the test holds of a first disk, or of none
data First (n : ℕ) (test : ℕ → Bool) : Type 0 where
  at : (i : ℕ) → Found n test i → First n test
  nowhere : ((k : ℕ) → k < n → test k ≡ false) → First n test

first_more : (n : ℕ) (test : ℕ → Bool) → First n test → (b : Bool) → test n ≡ b → First (suc n) test
first_more n test (at i f) b e = at i (record { within = let h = f.within in omega arith; holds = f.holds; before = f.before })
first_more n test (nowhere fails) true e = at n (record { within = omega arith; holds = e; before = fails })
first_more n test (nowhere fails) false e =
    nowhere
    (λ k h.
    elim (dec_lt k n) [
      | yes p ↦ fails k p
      | no q ↦ let last : k ≡ n = omega arith in rw last e
    ])

first : (n : ℕ) (test : ℕ → Bool) → First n test
first zero test = nowhere (λ k h. absurd (omega arith))
first (suc n) test = first_more n test (first n test) (test n) refl

pub smallest-says : (n : ℕ) (test : ℕ → Bool) (i : ℕ) → smallest n test ≡ some i → Found n test i
smallest-says n test i e =
    elim (first n test) [
      | at j f ↦
          let there = smallest_some n test j f.within f.holds f.before in
          let same : j ≡ i = cc in
          rw same at f
      | nowhere fails ↦ let none-there = smallest-none n test fails in impossible (cc)
    ]

-- the smallest disk that is not on a given peg is a top disk: so it is the smallest of the top disks there
pub smallest-elsewhere_is_top : (n : ℕ) (peg : ℕ → ℕ) (p : ℕ)
    → smallest n (λ i. all_below i (λ k. not (eqb (peg k) (peg i))) && not (eqb (peg i) p))
    ≡ smallest n (λ i. not (eqb (peg i) p))
smallest-elsewhere_is_top n peg p =
    elim (first n elsewhere) [
      | at i f ↦
          smallest_some n (λ j. top j && elsewhere j) i
          f.within
          (rw (is_top_lem i f) f.holds)
          (λ k h. rw (f.before k h) (and-false (top k)))
          ∙ sym (smallest_some n elsewhere i f.within f.holds f.before)
      | nowhere fails ↦
          smallest-none n (λ j. top j && elsewhere j) (λ k h. rw (fails k h) (and-false (top k))) ∙ sym (smallest-none n elsewhere fails)
    ]
  where
    top : ℕ → Bool
    top i = all_below i (λ k. not (eqb (peg k) (peg i)))

    elsewhere : ℕ → Bool
    elsewhere i = not (eqb (peg i) p)

    -- the smaller disks are all on that peg
    is_top_lem : (i : ℕ) → Found n elsewhere i → top i ≡ true
    is_top_lem i f =
        each_all_below i (λ k. not (eqb (peg k) (peg i)))
        (λ k h.
        let on_it : peg k ≡ p = eqb-true (peg k) p (not-false (eqb (peg k) p) (f.before k h)) in
        let off-it = eqb-false (peg i) p (not-true (eqb (peg i) p) f.holds) in
        rw (ne_eqb (peg k) (peg i) (λ z. off-it (sym z ∙ on_it))))
