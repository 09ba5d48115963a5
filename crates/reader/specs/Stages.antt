-- What private functions of this crate answer.
use Rattle.std.specs.Prelude.{ℕ, ◌-◌, cond, List, Option, Some, None}
use Rattle.text_theory.specs.Decimals.{is_digit, value}
use Rattle.text_theory.specs.Surveys.{is_count}

unfoldable pub digit_at : ℕ → Option ℕ
digit_at byte = cond (is_digit byte) (Some (byte - 48)) None

unfoldable pub count_of : List ℕ → Option ℕ
count_of field = cond (is_count field) (Some (value field)) None
