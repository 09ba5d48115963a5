-- Which surveys are opened: those within the limits whose counts the game can be played with, and no other.
use Rattle.std.specs.Prelude.{ℕ, ◌≡◌, ◌↔◌, true, ◌||◌, List}
use Rattle.std.proofs.Common.{sym, ◌∙◌}
use Rattle.std.proofs.lemmas.Bool.{not-false}
use Rattle.gray_theory.specs.Locks.{unlocked}
use Rattle.gray_theory.specs.Answers.{given, refused, refusing, is_given}
use Rattle.gray_theory.specs.Radices.{digits}
use Rattle.gray_theory.proofs.Refusals.{within_limits, limits_pass, passed}
use Rattle.gray_theory.proofs.Openings.{given_unit, opening_answers_its_check, accepted_opening_opens, refused_opening_keeps}
use Rattle.towers_theory.specs.States.{Towers, all_odd, all_even_and_equal, wrong_counts, open_check, Openable}
use Rattle.towers_theory.specs.Calls.{fresh, open_of}

-- ---- the checks
given_openable : (ms : List ℕ) → open_check ms ≡ given tt → Openable ms
given_openable ms e =
    let (limits, value) = within_limits ms (refusing 6 (wrong_counts ms) (given tt)) tt e in
    record {
      survey = limits;
      counts = not-false (all_odd (unlocked ms) || all_even_and_equal (unlocked ms)) (passed 6 (wrong_counts ms) (given tt) tt value).0;
    }

pub openable : (ms : List ℕ) → is_given (open_check ms) ≡ true → Openable ms
openable ms e = given_openable ms (given_unit (open_check ms) e)

pub opens : {ms : List ℕ} → Openable ms → open_check ms ≡ given tt
opens {ms} o = limits_pass ms (refusing 6 (wrong_counts ms) (given tt)) o.survey ∙ rw o.counts

-- ---- the call
module _ (s : Towers) (radices : List ℕ) where
  -- an opening is accepted exactly if its survey is within the limits and its counts are all odd, or all even and equal
  pub opens_exactly : ((open_of s radices).answer ≡ given tt) ↔ Openable (digits radices)
  unfolding open_of
  opens_exactly =
      let check = opening_answers_its_check _ _ (open_check (digits radices)) in
      (λ e. given_openable (digits radices) (sym check ∙ e), λ o. check ∙ opens o)

  -- it then hands back the fresh state, whatever state it was made on
  pub opens_fresh : (open_of s radices).answer ≡ given tt → (open_of s radices).state ≡ fresh (digits radices)
  unfolding open_of
  opens_fresh = accepted_opening_opens _ _ (open_check (digits radices))

  -- a refused one hands back the state as it came
  pub refused_opening_keeps_the_state : (k : ℕ) → (open_of s radices).answer ≡ refused k → (open_of s radices).state ≡ s
  unfolding open_of
  refused_opening_keeps_the_state = refused_opening_keeps _ _ (open_check (digits radices))
