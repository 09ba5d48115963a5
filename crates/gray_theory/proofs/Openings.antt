-- Openings, whatever the state: opening, picking up and the like. What they answer, and which state they hand back.
use Rattle.std.specs.Prelude.{ℕ, ◌≡◌, refl, true}
use Rattle.gray_theory.specs.Answers.{Answer, given, refused, is_given}
use Rattle.gray_theory.specs.Bools.{impossible}
use Rattle.gray_theory.specs.Engines.{open_with}

-- a check that gives something gives the one thing there is
pub given_unit : (check : Answer Unit) → is_given check ≡ true → check ≡ given tt
given_unit (given u) e = refl
given_unit (refused k) e = impossible (cc)

module _ {S : Type 0} (s opened : S) where
  -- an opening answers what its checks do
  pub opening_answers_its_check : (check : Answer Unit) → (open_with s opened check).answer ≡ check
  opening_answers_its_check (given u) = refl
  opening_answers_its_check (refused k) = refl

  -- accepted, it hands back the state that it opens, whatever state it was made on
  pub accepted_opening_opens : (check : Answer Unit) → (open_with s opened check).answer ≡ given tt → (open_with s opened check).state ≡ opened
  accepted_opening_opens (given u) e = refl
  accepted_opening_opens (refused k) e = impossible (cc)

  -- refused, it hands back the state as it came
  pub refused_opening_keeps : (check : Answer Unit) (k : ℕ) → (open_with s opened check).answer ≡ refused k → (open_with s opened check).state ≡ s
  refused_opening_keeps (given u) k e = impossible (cc)
  refused_opening_keeps (refused i) k e = refl
