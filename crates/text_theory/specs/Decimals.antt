-- Decimal numbers as text. A byte is its ASCII code.
use Rattle.std.specs.Prelude.{ℕ, zero, suc, ◌+◌, ◌-◌, ◌*◌, ◌/◌, ◌%◌, ◌^◌, Bool, true, cond, ◌&&◌, List, [], ◌∷◌, ◌++◌, leb, ltb, length}

-- ---- written
-- a digit below 10
abbrev pub glyph : ℕ → ℕ
glyph d = 48 + d

-- a number without leading zeros: one digit if it is below 10, else the digits of its tenth part and then the last one. Each turn
-- makes the number smaller, so n + 1 turns are enough
unfoldable pub decimal_in : ℕ → ℕ → List ℕ
decimal_in zero n = []
decimal_in (suc turns) n = cond (ltb n 10) (glyph n ∷ []) (decimal_in turns (n / 10) ++ (glyph (n % 10) ∷ []))

unfoldable pub decimal : ℕ → List ℕ
decimal n = decimal_in (suc n) n

-- ---- read
abbrev pub is_digit : ℕ → Bool
is_digit b = leb 48 b && leb b 57

unfoldable pub all_digits : List ℕ → Bool
all_digits [] = true
all_digits (b ∷ bs) = is_digit b && all_digits bs

-- the number that digits say, behind digits that say v
unfoldable pub value_from : ℕ → List ℕ → ℕ
value_from v [] = v
value_from v (b ∷ bs) = value_from (v * 10 + (b - 48)) bs

abbrev pub value : List ℕ → ℕ
value bs = value_from 0 bs

-- one digit or more, and a value that 64 bits hold. Leading zeros are digits like any other
unfoldable pub is_number : List ℕ → Bool
is_number bs = ltb 0 (length bs) && all_digits bs && ltb (value bs) (2 ^ 64)

-- the value of a digit, and 10, which is no digit's, for any other byte
unfoldable pub digit_of : ℕ → ℕ
digit_of b = cond (is_digit b) (b - 48) 10
