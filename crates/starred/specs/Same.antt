-- Tests for equal numbers, changes, events, lists and answers, and that a test that passes shows the equation.
use Rattle.std.specs.Prelude.{ℕ, ◌≡◌, refl, Bool, true, false, ◌&&◌, List, [], ◌∷◌, eqb}
use Rattle.std.proofs.Common.{ap, ap₂, eqb-true}
use Rattle.std.specs.Bool.{beq}
use Rattle.std.proofs.Math.Bool.{and-eq-true_iff}
use Rattle.gray_theory.specs.Answers.{Answer, given, refused}
use Rattle.gray_theory.specs.Changes.{Change}
use Rattle.gray_theory.specs.Engines.{Event, moved, ended}
use Rattle.gray_theory.specs.Bools.{impossible}

-- a test of equality
pub record Test (A : Type 0) : Type 0 where
  pub same : A → A → Bool
  pub shows : (a b : A) → same a b ≡ true → a ≡ b

abbrev pub numbers : Test ℕ
numbers = record { same = eqb; shows = eqb-true }

shows_bool : (a b : Bool) → beq a b ≡ true → a ≡ b
shows_bool true true e = refl
shows_bool true false e = impossible (cc)
shows_bool false true e = impossible (cc)
shows_bool false false e = refl

abbrev same_change : Change → Change → Bool
same_change c d = eqb c.digit d.digit && beq c.down d.down

pub shows_change : (c d : Change) → same_change c d ≡ true → c ≡ d
shows_change c d e =
    let (digits, downs) = (and-eq-true_iff (eqb c.digit d.digit) (beq c.down d.down)).0 e in
    ap₂ (λ n b. record { digit = n; down = b }) (eqb-true c.digit d.digit digits) (shows_bool c.down d.down downs)

abbrev pub changes : Test Change
changes = record { same = same_change; shows = shows_change }

abbrev same_event : Event → Event → Bool
same_event (moved c a) (moved d b) = same_change c d && eqb a b
same_event (moved c a) ended = false
same_event ended (moved d b) = false
same_event ended ended = true

pub shows_event : (x y : Event) → same_event x y ≡ true → x ≡ y
shows_event (moved c a) (moved d b) e =
    let (changed, reached) = (and-eq-true_iff (same_change c d) (eqb a b)).0 e in
    ap₂ moved (shows_change c d changed) (eqb-true a b reached)
shows_event (moved c a) ended e = impossible (cc)
shows_event ended (moved d b) e = impossible (cc)
shows_event ended ended e = refl

abbrev pub events : Test Event
events = record { same = same_event; shows = shows_event }

-- there is only one value of Unit
abbrev pub units : Test Unit
units = record { same = λ a b. true; shows = λ a b e. refl }

module _ {A : Type 0} (t : Test A) where
  abbrev same_list : List A → List A → Bool
  same_list [] [] = true
  same_list [] (b ∷ m) = false
  same_list (a ∷ l) [] = false
  same_list (a ∷ l) (b ∷ m) = t.same a b && same_list l m

  pub shows_list : (l m : List A) → same_list l m ≡ true → l ≡ m
  shows_list [] [] e = refl
  shows_list [] (b ∷ m) e = impossible (cc)
  shows_list (a ∷ l) [] e = impossible (cc)
  shows_list (a ∷ l) (b ∷ m) e =
      let (first, others) = (and-eq-true_iff (t.same a b) (same_list l m)).0 e in
      ap₂ (λ x y. x ∷ y) (t.shows a b first) (shows_list l m others)

  abbrev same_answer : Answer A → Answer A → Bool
  same_answer (given a) (given b) = t.same a b
  same_answer (given a) (refused k) = false
  same_answer (refused j) (given b) = false
  same_answer (refused j) (refused k) = eqb j k

  pub shows_answer : (x y : Answer A) → same_answer x y ≡ true → x ≡ y
  shows_answer (given a) (given b) e = ap given (t.shows a b e)
  shows_answer (given a) (refused k) e = impossible (cc)
  shows_answer (refused j) (given b) e = impossible (cc)
  shows_answer (refused j) (refused k) e = ap refused (eqb-true j k e)

  abbrev pub lists : Test (List A)
  lists = record { same = same_list; shows = shows_list }

  abbrev pub answers : Test (Answer A)
  answers = record { same = same_answer; shows = shows_answer }
