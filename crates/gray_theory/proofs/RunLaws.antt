-- Runs of calls, one after another: a run is its first calls and a run from where they have come to.
use Prim.Native.Nat.{ℕ, suc, ◌+◌, ◌-◌, ◌≤◌, ◌<◌}
use native.Mathlib.Omega.{arith}
use Rattle.std.proofs.Common.{add-one, sym, ◌∙◌}
use Rattle.std.specs.Prelude.{◌≡◌, refl, Bool, true, length, drop}
use Rattle.std.proofs.Math.Path.{ap}
use mathlib.Core.List.{List, [], ◌∷◌, ◌++◌, append-nil, append_assoc}
use Rattle.std.proofs.Math.ListN.{length-append}
use Rattle.gray_theory.specs.Answers.{Answer, given, refused}
use Rattle.gray_theory.specs.MoveBytes.{move_byte}
use Rattle.gray_theory.specs.Changes.{Change}
use Rattle.gray_theory.specs.Engines.{Event, moved, ended, Handed, after}
use Rattle.gray_theory.specs.Places.{placed}
use Rattle.gray_theory.specs.RunCalls.{Stop, nothing, end, refusal, Ran, run_then, run_from, onto, Running, run_makes, run_with}
use Rattle.gray_theory.proofs.SingleCalls.{run_in_range_is_made}
use Rattle.gray_theory.specs.RunLaws.{Moved}

module _ {S : Type 0} (call : S → Handed S Event) (s : S) where
  pub moved_none : Moved call s 0 []
  unfolding after
  moved_none = record { count = refl; rest = λ t. let z : 0 + t ≡ t = omega arith in ap (λ (j : ℕ). run_from call s j) z }

  -- one call more that moves, and its byte
  pub moved_more : (k : ℕ) (done : List ℕ) (c : Change) (notch b : ℕ)
      → Moved call s k done
      → (call (after call s k)).answer ≡ given (moved c notch)
      → b ≡ move_byte c.digit c.down
      → Moved call s (k + 1) (done ++ (b ∷ []))
  unfolding run_from after
  moved_more k done c notch b m says byte = rw (add-one k)
      (record {
        count = length-append done (b ∷ []) ∙ (let n = m.count in omega arith);
        rest = λ t.
            let here : suc k + t ≡ k + suc t = omega arith in
            let next = run_from call (call (after call s k)).state t in
            ap (λ (j : ℕ). run_from call s j) here
            ∙ m.rest (suc t)
            ∙ ap (λ (a : Answer Event). onto done (run_then a (call (after call s k)).state next)) says
            ∙ ap (λ (x : ℕ). onto done (record { state = next.state; bytes = x ∷ next.bytes; stop = next.stop })) (sym byte)
            ∙ ap (λ (l : List ℕ). record { state = next.state; bytes = l; stop = next.stop }) (sym (append_assoc done (b ∷ []) next.bytes));
      })

  -- ---- what the run is
  module _ (k t : ℕ) (done : List ℕ) (m : Moved call s k done) where
    pub all_made : t ≡ k → run_from call s t ≡ record { state = after call s k; bytes = done; stop = nothing }
    unfolding run_from
    all_made e =
        let z : t ≡ k + 0 = omega arith in
        ap (λ (j : ℕ). run_from call s j) z
        ∙ m.rest 0
        ∙ ap (λ (l : List ℕ). record { state = after call s k; bytes = l; stop = nothing }) (append-nil done)

    module _ (less : k < t) where
      stops_by : (a : Answer Event) (stop : Stop)
          → (call (after call s k)).answer ≡ a
          → ((r : Ran S) → run_then a (call (after call s k)).state r ≡ record { state = (call (after call s k)).state; bytes = []; stop = stop })
          → run_from call s t ≡ record { state = (call (after call s k)).state; bytes = done; stop = stop }
      unfolding run_from
      stops_by a stop says last =
          let z : t ≡ k + suc (t - suc k) = omega arith in
          let next = run_from call (call (after call s k)).state (t - suc k) in
          ap (λ (j : ℕ). run_from call s j) z
          ∙ m.rest (suc (t - suc k))
          ∙ ap (λ (x : Answer Event). onto done (run_then x (call (after call s k)).state next)) says
          ∙ ap (onto done) (last next)
          ∙ ap (λ (l : List ℕ). record { state = (call (after call s k)).state; bytes = l; stop = stop }) (append-nil done)

      pub ends_there : (call (after call s k)).answer ≡ given ended
          → run_from call s t ≡ record { state = (call (after call s k)).state; bytes = done; stop = end }
      ends_there says = stops_by (given ended) end says (λ r. refl)

      pub refused_there : (x : ℕ) → (call (after call s k)).answer ≡ refused x
          → run_from call s t ≡ record { state = (call (after call s k)).state; bytes = done; stop = refusal x }
      refused_there x says = stops_by (refused x) (refusal x) says (λ r. refl)

-- the call where it is accepted, from what an engine has in its hands when its calls have stopped
pub run-made_by : {S : Type 0} (in_range : S → Bool) (call : S → Handed S Event) (s : S) (t : ℕ) (before : List ℕ)
    → in_range s ≡ true
    → t ≤ length before
    → (r : Ran S) (left : S) (made : ℕ) (out : List ℕ)
    → run_from call s t ≡ r
    → left ≡ r.state
    → made ≡ length r.bytes
    → out ≡ placed 0 r.bytes before
    → record { state = left; answer = given (record { made = made; stop = r.stop }); out = out } ≡ run_with in_range call s t before
unfolding placed
run-made_by {S} in_range call s t before ranged fits r left made out is same count holds =
    let place : 0 + length r.bytes ≡ length r.bytes = omega arith in
    let says : S → ℕ → List ℕ → Running S =
    λ x k l. record { state = x; answer = given (record { made = k; stop = r.stop }); out = l } in
    ap (λ (x : S). says x made out) same
    ∙ ap (λ (k : ℕ). says r.state k out) count
    ∙ ap (λ (l : List ℕ). says r.state (length r.bytes) l) (holds ∙ ap (λ j. r.bytes ++ drop j before) place)
    ∙ sym (run_in_range_is_made in_range call s t before ranged fits ∙ ap (λ (x : Ran S). run_makes x before) is)
