-- Radices: a survey's notch counts (document 01). Lists of the theory have digit 1 first, the fastest digit; lent bytes have
-- digit n first.
use Rattle.std.specs.Prelude.{ℕ, ◌*◌, ◌/◌, ◌%◌, ◌^◌, ◌≤◌, ◌≡◌, Bool, true, ◌&&◌, ◌||◌, not, List, [], ◌∷◌, reverse, leb, ltb, eqb, length}
use Rattle.gray_theory.specs.Answers.{Answer, refusing}

-- the digits that lent bytes hold, and the bytes of a list of digits: a setting as bytes is a_n first
abbrev pub digits : List ℕ → List ℕ
digits bytes = reverse bytes

abbrev pub bytes : List ℕ → List ℕ
bytes ds = reverse ds

-- N, the number of settings: the product of all radices
unfoldable pub size : List ℕ → ℕ
size [] = 1
size (m ∷ ms) = m * size ms

-- the mixed-radix digits of a number, that of the fastest digit first
unfoldable pub mixed_digits : List ℕ → ℕ → List ℕ
mixed_digits [] e = []
mixed_digits (m ∷ ms) e = e % m ∷ mixed_digits ms (e / m)

-- every radix is at least k
unfoldable pub all_from : ℕ → List ℕ → Bool
all_from k [] = true
all_from k (m ∷ ms) = leb k m && all_from k ms

-- refusals 2, 3 and 4 of a survey: no sluice or more than 48; a notch count of 0; N over 2^62
abbrev pub wrong_count : List ℕ → Bool
wrong_count ms = eqb (length ms) 0 || ltb 48 (length ms)

abbrev pub wrong_radix : List ℕ → Bool
wrong_radix ms = not (all_from 1 ms)

abbrev pub too_many : List ℕ → Bool
too_many ms = ltb (2 ^ 62) (size ms)

-- the checks of a survey, and then the rest
abbrev pub of_radices : {A : Type 0} → List ℕ → Answer A → Answer A
of_radices ms rest = refusing 2 (wrong_count ms) (refusing 3 (wrong_radix ms) (refusing 4 (too_many ms) rest))

-- document 01, "Limits": what holds of radices that pass refusals 2, 3 and 4
pub record Limits (ms : List ℕ) : Type 0 where
  pub some : 1 ≤ length ms
  pub most : length ms ≤ 48
  pub one : all_from 1 ms ≡ true
  pub limit : size ms ≤ 2 ^ 62
