-- The 49th count decides: a line of more counts gets the answer of its first 49.
use Rattle.std.specs.Prelude.{ℕ, ◌<◌, ◌≡◌, refl, List, length, take}
use Rattle.std.proofs.Common.{arith, sym, ap, ◌∙◌, ne_eqb, lt-ltb, take_all, length-take-le}
use Rattle.std.proofs.Math.Decide.{dec_lt}
use Rattle.std.proofs.lemmas.List.{length-reverse}
use Rattle.gray_theory.specs.Answers.{refused}
use Rattle.gray_theory.specs.Radices.{digits}
use Rattle.gray_theory.specs.Calls.{size_call}

too_many_lem : (radices : List ℕ) → 48 < length radices → size_call radices ≡ refused 2
unfolding size_call
too_many_lem radices h =
    let all = length-reverse radices in
    let n = length (digits radices) in
    rw (ne_eqb n 0 (λ z. omega arith), lt-ltb 48 n (omega arith)) refl

-- what is passed over changes no answer: 49 counts are refused as all of them are
pub kept_counts_answer_alike : (cs : List ℕ) → size_call (take 49 cs) ≡ size_call cs
kept_counts_answer_alike cs =
    elim (dec_lt 49 (length cs)) [
      | yes many ↦ too_many_lem (take 49 cs) (omega (arith, length-take-le 49 cs (omega arith))) ∙ sym (too_many_lem cs (omega arith))
      | no few ↦ ap size_call (take_all 49 cs (omega arith))
    ]
