-- What a run can say, of a walk from the start, of one that is picked up, or by the disk engine: all moves made, the end, dry,
-- or refused by a number below 10. So a caller can tell how a run went by its code and the number of its moves
-- (`codes_tell_runs_apart`).
use Rattle.std.specs.Prelude.{ℕ, ◌≡◌, refl, Bool, true, List, length}
use Rattle.std.proofs.Math.Decide.{dec_lt}
use Rattle.std.proofs.Common.{arith, sym, subst, ap, ◌∙◌}
use Rattle.std.proofs.Math.Option.{Option, none, some}
use Rattle.gray_theory.specs.Answers.{Answer, given, refused}
use Rattle.gray_theory.specs.Bools.{impossible}
use Rattle.gray_theory.specs.Engines.{Event, Handed, after}
use Rattle.gray_theory.specs.RunCalls.{Stop, nothing, end, refusal, Running, run_with}
use Rattle.gray_theory.specs.SingleCalls.{Stops, Stops.all, Stops.ends, Stops.refuses}
use Rattle.gray_theory.proofs.SingleCalls.{run_is_single_calls}
use Rattle.gray_theory.proofs.SingleCalls.{run_in_range_is_made, run_into_shorter_memory_is_refused}
use Rattle.ahead_theory.specs.States as walks
use Rattle.ahead_theory.specs.Calls as ahead
use Rattle.ahead_theory.proofs.Clauses.{only_dry}
use Rattle.towers_theory.specs.States as games
use Rattle.towers_theory.specs.Calls as towers
use Rattle.towers_theory.specs.Choices.{chosen}
use Rattle.runs_theory.specs.MoveCalls.{opened_run}
use Rattle.capi.specs.Told.{Tells, over, dry}
use Rattle.capi.proofs.Checked.{Checked, numbered}

-- ---- any run
-- what stopped it
stop_tells : (made : ℕ) (stop s : Stop) → stop ≡ s → Tells (given (record { made = made; stop = s })) → Tells (given (record { made = made; stop = stop }))
stop_tells made stop s e = subst (λ x. Tells (given (record { made = made; stop = x }))) (sym e)

-- from a state in range, where calls are refused by 10 alone, if at all
module _ {S : Type 0} (in_range : S → Bool) (call : S → Handed S Event) (s : S) (ranged : in_range s ≡ true)
    (only : (j x : ℕ) → (call (after call s j)).answer ≡ refused x → x ≡ 10) (t : ℕ) (out : List ℕ) where
  made_tells : (made : ℕ) (left : S) (stop : Stop) → Stops call s t made left stop → Tells (given (record { made = made; stop = stop }))
  made_tells made left stop (all z e is) = stop_tells made stop nothing z Tells.all
  made_tells made left stop (ends z h a is) = stop_tells made stop end z over
  made_tells made left stop (refuses x z h a is) = stop_tells made stop (refusal 10) (z ∙ ap refusal (only made x a)) dry

  pub run_tells : Tells (run_with in_range call s t out).answer
  run_tells =
      elim (dec_lt (length out) t) [
        | yes short ↦ rw (run_into_shorter_memory_is_refused in_range call s t out ranged short) (Tells.number {k = 9} (omega arith) (omega arith))
        | no fits ↦
            rw (run_in_range_is_made in_range call s t out ranged (omega (arith, fits)))
            (made_tells _ _ _ (run_is_single_calls call s t).stops)
      ]

-- after an opening, which is refused by a number below 10, if it is
abbrev pub Any : Unit {0} → Type 0
Any u = Unit {0}

pub opened_run_tells : {S : Type 0} (opening check : Answer Unit) (run : Running S) (out : List ℕ)
    → opening ≡ check
    → Checked 9 Any check
    → (opening ≡ given tt → Tells run.answer)
    → Tells (opened_run opening run out).answer
opened_run_tells (given u) check run out same checked tells = tells refl
opened_run_tells (refused k) (given u) run out same checked tells = impossible (cc)
opened_run_tells (refused k) (refused l) run out same (numbered one nine) tells =
    let same_number : k ≡ l = cc in Tells.number {k = k} (omega arith) (omega arith)

-- ---- the buffered engine
-- ---- a walk whose states are all in range is refused by 10 alone, so it tells how a run of it went
pub walk_tells : (w : walks.Walk) → ((j : ℕ) → walks.in_range (after ahead.step_of w j) ≡ true) → (t : ℕ) (out : List ℕ) → Tells (ahead.run_of w t out).answer
unfolding after
walk_tells w ranged t out = run_tells walks.in_range ahead.step_of w (ranged 0) (λ j x. only_dry (after ahead.step_of w j) (ranged j) x) t out

-- ---- the disk engine
-- ---- a call on a state in range is not refused
pub never_refused : (s : games.Towers) → games.in_range s ≡ true → (x : ℕ) → (towers.step_of s).answer ≡ refused x → x ≡ 10
unfolding towers.step_of towers.move_of
never_refused s ranged x e = by (chosen s) (rw ranged at e)
  where
    by : (choice : Option ℕ) → (towers.move_by s choice).answer ≡ refused x → x ≡ 10
    by none f = impossible (cc)
    by (some i) f = impossible (cc)
