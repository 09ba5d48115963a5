-- Radices in the other order have the same size and the same faults.
use Rattle.std.specs.Prelude.{ℕ, ◌≡◌, refl, leb}
use Rattle.std.proofs.Common.{mul_comm, mul-one, ap, ◌∙◌}
use Rattle.std.proofs.Math.Bool.{and_comm, and-true}
use mathlib.Core.List.{List, [], ◌∷◌, reverse-cons}
use Rattle.std.proofs.lemmas.List.{length-reverse}
use Rattle.gray_theory.specs.Answers.{Answer}
use Rattle.gray_theory.specs.Radices.{digits, size, all_from, of_radices}
use Rattle.gray_theory.proofs.Sizes.{size-append, all_from-append}

pub size-reverse : (ms : List ℕ) → size (digits ms) ≡ size ms
unfolding size
size-reverse [] = refl
size-reverse (m ∷ ms) =
    ap size (reverse-cons m ms)
    ∙ size-append (digits ms) (m ∷ [])
    ∙ rw (mul-one m, size-reverse ms) (mul_comm (size ms) m)

pub all_from-reverse : (k : ℕ) (ms : List ℕ) → all_from k (digits ms) ≡ all_from k ms
unfolding all_from
all_from-reverse k [] = refl
all_from-reverse k (m ∷ ms) =
    ap (all_from k) (reverse-cons m ms)
    ∙ all_from-append k (digits ms) (m ∷ [])
    ∙ rw (and-true (leb k m), all_from-reverse k ms) (and_comm (all_from k ms) (leb k m))

pub of_radices-reverse : {A : Type 0} (ms : List ℕ) (rest : Answer A) → of_radices (digits ms) rest ≡ of_radices ms rest
of_radices-reverse ms rest = rw (length-reverse ms, all_from-reverse 1 ms, size-reverse ms)
