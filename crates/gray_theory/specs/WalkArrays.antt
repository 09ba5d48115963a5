-- The word and the directions of the walk at rank r, in the arrays of an engine's state.
use Rattle.std.specs.Prelude.{ℕ, Bool, false, List}
use Rattle.gray_theory.specs.Arrays.{filled}
use Rattle.gray_theory.specs.Indexed.{word_at, downs_at}

abbrev pub word_array : List ℕ → ℕ → List ℕ
word_array ms r = filled 48 0 (word_at ms r)

abbrev pub down_array : List ℕ → ℕ → List Bool
down_array ms r = filled 48 false (downs_at ms r)
