-- The call that moves a digit in its direction.
use Rattle.std.specs.Prelude.{ℕ, Bool, cond, ◌&&◌, leb}
use Rattle.gray_theory.specs.Directions.{moved_from, turned_at, digit_in_range}
use Rattle.digit.specs.declared.Directed.{Directed}

-- a digit one notch on, turned where it must
abbrev pub onward : ℕ → ℕ → Bool → Directed
onward m a down = record { digit = moved_from a down; down = turned_at m (moved_from a down) down }

-- a digit in range that is not locked moves; any other stays as it came
unfoldable pub advanced_from : ℕ → ℕ → Bool → Directed
advanced_from m a down = cond (leb 2 m && digit_in_range m a down) (onward m a down) (record { digit = a; down = down })
