-- Cases of the call that pin what no theorem says: a run may end where the list ends, and refusals in their order.
use Rattle.std.specs.Prelude.{◌≡◌, refl}
use mathlib.Core.List.{[], ◌∷◌, flatten}
use Rattle.gray_theory.specs.Answers.{given, refused}
use Rattle.gray_theory.specs.Radices.{size, all_from}
use Rattle.gray_theory.specs.Words.{upward, downward, notches, through, list}
use Rattle.lister_theory.specs.Calls.{list_call}

-- the last word of 2, 3 (document 01), alone
pub last-word_of_2_3 : list_call (2 ∷ 3 ∷ []) 5 1 2 ≡ given (1 ∷ 0 ∷ [])
unfolding list_call size all_from upward downward notches through list flatten
last-word_of_2_3 = refl

-- the lowest refusal that applies to nine words from rank 9 with no room: a radix of 0, a list of 2 words, one of 18
pub listing_is_refused_in_order :
    list_call (0 ∷ []) 9 9 0 ∷ list_call (2 ∷ []) 9 9 0 ∷ list_call (18 ∷ []) 9 9 0 ∷ [] ≡ refused 3 ∷ refused 8 ∷ refused 9 ∷ []
unfolding list_call size all_from upward downward notches through list flatten
listing_is_refused_in_order = refl
