-- What the stages of the rank say of its answer, over plain lists and numbers. Assumes nothing.
use Prim.Native.Nat.{ℕ}
use mathlib.Core.Path.{◌≡◌, refl, sym, ap, ◌∙◌}
use mathlib.Core.Bool.{Bool, true, false}
use mathlib.Core.List.{List}
use Rattle.gray_theory.specs.Answers.{given, refused}
use Rattle.gray_theory.specs.Radices.{digits}
use Rattle.gray_theory.specs.Words.{is_word}
use Rattle.gray_theory.specs.Calls.{size_call, rank_call}
use Rattle.gray_theory.proofs.Ranking.{word_refused}
use Rattle.gray_theory.specs.Bools.{impossible}
use Rattle.gray.specs.Enums.{refusal_number}
use Rattle.gray.specs.declared.Refusal.{Refusal}
use Rattle.gray.specs.declared.Refusal.TheVariants.{Word}
use Rattle.two_pass.specs.Stages.{checked_as}
use Rattle.std.specs.Prelude.{Result, Ok, Err}

pub fine_says : (b : Bool) → checked_as b ≡ Ok tt → b ≡ true
fine_says true e = refl
fine_says false e = impossible (cc)

refused_says : (b : Bool) (r : Refusal) → checked_as b ≡ Err r → (b ≡ false) × (Word ≡ r)
refused_says true r e = impossible (cc)
refused_says false r e = (refl, cc)

-- a word that its check refuses, with the refusal that it gives
pub check_refused : (l w : List ℕ) (n : ℕ)
    → size_call l ≡ given n
    → (o : Result Unit Refusal) (r : Refusal)
    → o ≡ checked_as (is_word (digits l) (digits w))
    → o ≡ Err r
    → refused (refusal_number r) ≡ rank_call l w
check_refused l w n size_is o r e f =
    let said = refused_says (is_word (digits l) (digits w)) r (sym e ∙ f) in
    ap (λ x. refused (refusal_number x)) (sym said.1) ∙ word_refused l w n size_is said.0
