-- The words that the writer owes are the list's members from rank r on.
use Rattle.std.specs.Prelude.{ℕ, ◌+◌, ◌≤◌, ◌<◌, ◌≡◌, List, [], length, get_or, drop}
use Rattle.std.proofs.Common.{arith, ◌∙◌, length-drop, get_or-take, get_or-drop, length-take-le}
use Rattle.gray_theory.specs.Radices.{size}
use Rattle.gray_theory.specs.Words.{list, member}
use Rattle.gray_theory.proofs.Members.{list_has_size}
use Rattle.lister_theory.specs.Calls.{words_from}

-- word k of them, from 0, is the member of rank r + k
pub words_from_r_are_the_members : (ms : List ℕ) (r t k : ℕ) → k < t → get_or (words_from ms r t) k [] ≡ member ms (r + k)
words_from_r_are_the_members ms r t k h = get_or-take t (drop r (list ms)) k [] h ∙ get_or-drop r (list ms) k []

-- where the list does not end before them, there are as many as were asked for
pub words_from_r_are_all_there : (ms : List ℕ) (r t : ℕ) → r + t ≤ size ms → length (words_from ms r t) ≡ t
words_from_r_are_all_there ms r t h =
    length-take-le t (drop r (list ms)) (omega (arith, length-drop r (list ms), list_has_size ms))
