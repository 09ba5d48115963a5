-- The word and the directions of a rank in index form, by one division a digit. The list has these words (`member_is_word_at`), and the
-- walk from its start these directions (`walk_advances`).
use Rattle.std.specs.Prelude.{ℕ, suc, ◌/◌, ◌%◌, Bool, ◌&&◌, not, List, [], ◌∷◌, leb}
use Rattle.gray_theory.specs.Words.{even, reflect}

-- digit 1 of the word of rank r, and then the word of rank r / m of the slower digits
unfoldable pub word_at : List ℕ → ℕ → List ℕ
word_at [] r = []
word_at (m ∷ ms) r = reflect m (r / m) (r % m) ∷ word_at ms (r / m)

-- digit 1 goes down where (r + 1) / m is odd, which turns it at its ends; a locked one stays up; the slower digits have the
-- directions of rank r / m
unfoldable pub downs_at : List ℕ → ℕ → List Bool
downs_at [] r = []
downs_at (m ∷ ms) r = (leb 2 m && not (even (suc r / m))) ∷ downs_at ms (r / m)
