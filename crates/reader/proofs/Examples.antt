-- Texts that `number` reads, and texts that it does not; and what a reader has found of a line of which a part has come.
use Rattle.std.specs.Prelude.{ℕ, ◌≡◌, refl, List, [], ◌∷◌, map, Some, None}
use Rattle.text_theory.specs.Ascii.{ascii}
use Rattle.text_theory.specs.Decimals.{all_digits, value_from, is_number}
use Rattle.text_theory.specs.Surveys.{is_count}
use Rattle.reader.specs.Parsing.{number_of}
use Rattle.reader.specs.Readers.{fresh_reader, byte_read, field_read, line_read, more_read, read, found_in}
use Rattle.reader.specs.declared.Found.{Found}
use Rattle.reader.specs.declared.Found.TheVariants.{More, Counts, Unread}

-- a number, with a zero in front too; no digit, and a byte that is none
pub numbers-read :
    map number_of (ascii "40" ∷ ascii "040" ∷ [] ∷ ascii "4 0" ∷ []) ≡ Some 40 ∷ Some 40 ∷ None ∷ None ∷ []
unfolding number_of is_number all_digits value_from
numbers-read = refl

-- before the newline a line goes on, unless a fourth digit or an empty field shows that it cannot be read; with it, it has
-- counts
abbrev found_of : List ℕ → Found
found_of text = found_in (read fresh_reader text).phase (read fresh_reader text).kept

pub found_so_far :
    map found_of ([] ∷ ascii "2 3" ∷ ascii "2 3 " ∷ ascii "2222" ∷ ascii "2  " ∷ ascii "2 3\n" ∷ [])
    ≡ More ∷ More ∷ More ∷ Unread ∷ Unread ∷ Counts 2 ∷ []
unfolding read byte_read field_read line_read more_read is_count is_number all_digits value_from
found_so_far = refl
