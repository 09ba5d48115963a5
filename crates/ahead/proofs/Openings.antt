-- What the stages of an opening and of a picking up say, and what the calls hand back. Assumes nothing.
use Prim.Native.Nat.{ℕ, ◌≤◌}
use native.Mathlib.Omega.{arith}
use mathlib.Core.Path.{◌≡◌, sym, ap, ◌∙◌}
use mathlib.Core.Bool.{true, not}
use borrow.Author.Tests.{not-false}
use mathlib.Core.List.{List}
use lib.ListN.{length, take, length-reverse}
use Rattle.gray_theory.specs.Bools.{impossible}
use Rattle.gray_theory.specs.Answers.{given, refused, refusing}
use Rattle.gray_theory.specs.Radices.{digits}
use Rattle.gray_theory.specs.Words.{is_word, rank}
use Rattle.gray_theory.specs.Locks.{MovingDigits, moving_digits}
use Rattle.gray_theory.specs.Calls.{rank_call}
use Rattle.gray_theory.specs.Arrays.{digit_array}
use Rattle.gray_theory.proofs.Refusals.{given_same, limits_pass, passed, still_refused, openable_passes}
use Rattle.gray_theory.specs.DirectedWords.{fresh_with}
use Rattle.gray_theory.proofs.WordRanges.{fresh_from_lent}
use Rattle.gray_theory.specs.Engines.{refused_with, open_with}
use Rattle.gray_theory.specs.Capacities.{Openable}
use Rattle.std.specs.Prelude.{Result, Ok, Err}
use Rattle.gray.specs.Enums.{refusal_number, answer_as}
use Rattle.gray.specs.declared.Refusal.{Refusal}
use Rattle.ahead_theory.specs.States.{Walk, open_check}
use Rattle.ahead_theory.specs.Calls.{fresh_on, fresh, open_of}
use Rattle.ahead_theory.specs.Pickups.{resume_check, picked_up, resume_of}

-- ---- a survey that passes its checks has few digits
pub few_digits : (l : List ℕ) (c : ℕ) → Openable (digits l) c → length l ≤ 48
few_digits l c opens = let most = opens.survey.most in let long = length-reverse l in omega arith

-- ---- what an opening hands back
module _ (w : Walk) (l : List ℕ) (c : ℕ) where
  pub opening_refused : (k : ℕ) → refused k ≡ open_check c (digits l) → refused_with k w ≡ open_of w l c
  unfolding open_of
  opening_refused k e = ap (open_with w (fresh (digits l) c)) e

  pub opening_given : Openable (digits l) c
      → (opened : Walk) (radices : List ℕ) (moving : MovingDigits)
      → radices ≡ digit_array l
      → moving ≡ moving_digits (take 48 (take (length l) radices))
      → opened ≡ fresh_on (fresh_with radices (length l) moving) c
      → record { state = opened; answer = given tt } ≡ open_of w l c
  unfolding open_of fresh
  opening_given opens opened radices moving g m h =
      let made : opened ≡ fresh (digits l) c =
      h ∙ ap (λ d. fresh_on d c) (fresh_from_lent l (few_digits l c opens) radices g moving m) in
      ap (λ t. record { state = t; answer = given tt }) made
      ∙ ap (open_with w (fresh (digits l) c)) (sym (openable_passes (digits l) c (given tt) opens))

-- ---- picking up: the rank of a word, once the survey passes
module _ (l : List ℕ) (c : ℕ) (opens : Openable (digits l) c) (word : List ℕ) (o : Result ℕ Refusal) (ranks : answer_as o ≡ rank_call l word) where
  word_tested : answer_as o ≡ refusing 8 (not (is_word (digits l) (digits word))) (given (rank (digits l) (digits word)))
  unfolding rank_call
  word_tested = ranks ∙ limits_pass (digits l) _ opens.survey

  pub ranked_on : (r : Refusal) → o ≡ Err r → refused (refusal_number r) ≡ resume_check (digits l) c (digits word)
  ranked_on r f =
      let wrong = not (is_word (digits l) (digits word)) in
      sym (openable_passes (digits l) c (refusing 8 wrong (given tt)) opens
      ∙ still_refused 8 wrong (given (rank (digits l) (digits word))) (given tt) (refusal_number r) (λ e. impossible (cc)) (sym word_tested ∙ ap answer_as f))

  pub ranked_through : (r : ℕ) → o ≡ Ok r → (is_word (digits l) (digits word) ≡ true) × (r ≡ rank (digits l) (digits word))
  ranked_through r f =
      let (right, e) = passed 8 (not (is_word (digits l) (digits word))) (given (rank (digits l) (digits word))) r (sym word_tested ∙ ap answer_as f) in
      (not-false (is_word (digits l) (digits word)) right, sym (given_same (rank (digits l) (digits word)) r e))

pub resuming_refused : (w : Walk) (l : List ℕ) (c : ℕ) (word : List ℕ) (k : ℕ)
    → refused k ≡ resume_check (digits l) c (digits word)
    → refused_with k w ≡ resume_of w l c word
unfolding resume_of
resuming_refused w l c word k e = ap (open_with w (picked_up (digits l) c (digits word))) e
