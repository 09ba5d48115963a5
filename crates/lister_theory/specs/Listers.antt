-- What the upward and the downward lister list. Radices and words have the slowest digit first, as lent bytes have it.
use Rattle.std.specs.Prelude.{ℕ, Bool, cond, not, List, [], ◌∷◌, ◌++◌, map}
use Rattle.gray_theory.specs.Words.{even, upward, downward}

-- the words that begin with each of the notches in turn: the words `same` follow an even one, the words `other` an odd one
unfoldable pub blocks : List (List ℕ) → List (List ℕ) → List ℕ → List (List ℕ)
blocks same other [] = []
blocks same other (a ∷ rest) = map (λ w. a ∷ w) (cond (even a) same other) ++ blocks same other rest

-- the upward lister takes the first digit through its notches upward, the downward one downward. After an even notch it lists the
-- digits that remain itself, after an odd one the other lister does. Where no digit remains there is one empty word
unfoldable pub listing : Bool → List ℕ → List (List ℕ)
listing down [] = [] ∷ []
listing down (m ∷ ms) = blocks (listing down ms) (listing (not down) ms) (cond down (downward m) (upward m))
