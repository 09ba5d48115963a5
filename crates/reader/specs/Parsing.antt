-- What `number` answers: the number that decimal digits say.
use Rattle.std.specs.Prelude.{ℕ, cond, List, Option, Some, None}
use Rattle.text_theory.specs.Decimals.{value, is_number}

unfoldable pub number_of : List ℕ → Option ℕ
number_of bs = cond (is_number bs) (Some (value bs)) None
