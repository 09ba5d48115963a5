-- What the program `walk` reads (document 01): one line, notch counts with sluice n first, one to three digits each, up to 255,
-- single spaces, a newline. A newline alone is no sluice; other text up to there, or no newline, is not read. What follows the
-- newline is ignored.
use Rattle.std.specs.Prelude.{ℕ, Bool, true, false, cond, ◌&&◌, ◌||◌, List, [], ◌∷◌, map, leb, eqb, length}
use Rattle.text_theory.specs.Decimals.{is_number, value}

-- what is read: counts, or that there is no line of counts
pub data Input : Type 0 where
  counts : List ℕ → Input
  unread : Input

abbrev pub newline : ℕ
newline = 10

abbrev pub space : ℕ
space = 32

-- what stands before the first newline, and whether there is one
unfoldable pub first_line : List ℕ → List ℕ
first_line [] = []
first_line (b ∷ input) = cond (eqb b newline) [] (b ∷ first_line input)

unfoldable pub has_newline : List ℕ → Bool
has_newline [] = false
has_newline (b ∷ input) = eqb b newline || has_newline input

-- the fields of a line: what stands before, between and behind its spaces
abbrev pub joined_to : ℕ → List (List ℕ) → List (List ℕ)
joined_to b [] = (b ∷ []) ∷ []
joined_to b (field ∷ others) = (b ∷ field) ∷ others

unfoldable pub fields : List ℕ → List (List ℕ)
fields [] = [] ∷ []
fields (b ∷ line) = cond (eqb b space) ([] ∷ fields line) (joined_to b (fields line))

-- a notch count: one to three digits, up to 255
unfoldable pub is_count : List ℕ → Bool
is_count field = leb (length field) 3 && is_number field && leb (value field) 255

unfoldable pub all_counts : List (List ℕ) → Bool
all_counts [] = true
all_counts (field ∷ others) = is_count field && all_counts others

-- a line without its newline
unfoldable pub line_as : List ℕ → Input
line_as [] = counts []
line_as (b ∷ line) = cond (all_counts (fields (b ∷ line))) (counts (map value (fields (b ∷ line)))) unread

-- the whole input
unfoldable pub input_as : List ℕ → Input
input_as input = cond (has_newline input) (line_as (first_line input)) unread
