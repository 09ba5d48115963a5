-- Which surveys and capacities are opened: those within the limits, and no other.
use Rattle.std.specs.Prelude.{ℕ, ◌≡◌, ◌↔◌, true, List}
use Rattle.std.proofs.Common.{sym, ◌∙◌}
use Rattle.gray_theory.specs.Answers.{given, refused, is_given}
use Rattle.gray_theory.specs.Radices.{digits}
use Rattle.gray_theory.specs.Capacities.{Openable}
use Rattle.gray_theory.proofs.Refusals.{within_openable, openable_passes}
use Rattle.gray_theory.proofs.Openings.{given_unit, opening_answers_its_check, accepted_opening_opens, refused_opening_keeps}
use Rattle.ahead_theory.specs.States.{Walk, open_check}
use Rattle.ahead_theory.specs.Calls.{fresh, open_of}

-- ---- the checks
given_openable : (ms : List ℕ) (c : ℕ) → open_check c ms ≡ given tt → Openable ms c
given_openable ms c e = (within_openable ms c (given tt) tt e).0

pub openable : (ms : List ℕ) (c : ℕ) → is_given (open_check c ms) ≡ true → Openable ms c
openable ms c e = given_openable ms c (given_unit (open_check c ms) e)

pub opens : {ms : List ℕ} {c : ℕ} → Openable ms c → open_check c ms ≡ given tt
opens {ms} {c} o = openable_passes ms c (given tt) o

-- ---- the call
module _ (w : Walk) (radices : List ℕ) (c : ℕ) where
  -- an opening is accepted exactly if its survey and its capacity are within the limits
  pub opens_exactly : ((open_of w radices c).answer ≡ given tt) ↔ Openable (digits radices) c
  unfolding open_of
  opens_exactly =
      let check = opening_answers_its_check _ _ (open_check c (digits radices)) in
      (λ e. given_openable (digits radices) c (sym check ∙ e), λ o. check ∙ opens o)

  -- it then hands back the fresh state, whatever state it was made on
  pub opens_fresh : (open_of w radices c).answer ≡ given tt → (open_of w radices c).state ≡ fresh (digits radices) c
  unfolding open_of
  opens_fresh = accepted_opening_opens _ _ (open_check c (digits radices))

  -- a refused one hands back the state as it came
  pub refused_opening_keeps_the_state : (k : ℕ) → (open_of w radices c).answer ≡ refused k → (open_of w radices c).state ≡ w
  unfolding open_of
  refused_opening_keeps_the_state = refused_opening_keeps _ _ (open_check c (digits radices))
