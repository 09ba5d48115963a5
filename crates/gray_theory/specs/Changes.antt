-- The changes from each setting of the list to the next, and the ruler function that names their digits (document 004, section
-- 10.3).
use Rattle.std.specs.Prelude.{ℕ, suc, ◌-◌, ◌/◌, ◌%◌, ◌<◌, ◌≡◌, ◌⊎◌, Bool, true, false, cond, not, List, [], ◌∷◌, eqb, ltb, take, length, get_or}
use Rattle.gray_theory.specs.Radices.{size}
use Rattle.gray_theory.specs.Words.{even, member}

-- a move of one digit by one notch: the digit's number, from 1, and whether it goes down
pub record Change : Type 0 where
  pub digit : ℕ
  pub down : Bool

abbrev pub later : Change → Change
later c = record { digit = suc c.digit; down = c.down }

-- where two words differ: the digit, and down unless it grows. For words that do not differ the digit is n + 1, no digit's number
unfoldable pub difference : List ℕ → List ℕ → Change
difference [] v = record { digit = 1; down = false }
difference (a ∷ u) [] = record { digit = 1; down = false }
difference (a ∷ u) (b ∷ v) = cond (eqb a b) (later (difference u v)) (record { digit = 1; down = ltb b a })

-- change j: how the settings of ranks j − 1 and j differ
abbrev pub change : List ℕ → ℕ → Change
change ms j = difference (member ms (j - 1)) (member ms j)

-- the second word is the first with digit k moved by one notch, up or down, and no other digit changed
pub data Moves : ℕ → Bool → List ℕ → List ℕ → Type 0 where
  up : {a : ℕ} {w : List ℕ} → Moves 1 false (a ∷ w) (suc a ∷ w)
  down : {a : ℕ} {w : List ℕ} → Moves 1 true (suc a ∷ w) (a ∷ w)
  next : {k a : ℕ} {d : Bool} {u v : List ℕ} → Moves k d u v → Moves (suc k) d (a ∷ u) (a ∷ v)

-- two words that are apart by one notch at index i, in digit i + 1, and nowhere else
pub record OneApart (i : ℕ) (u v : List ℕ) : Type 0 where
  pub within : i < length u
  pub long : length v ≡ length u
  pub by_one : (get_or v i 0 ≡ suc (get_or u i 0)) ⊎ (get_or u i 0 ≡ suc (get_or v i 0))
  pub others : (o : ℕ) → (o ≡ i → ⊥) → get_or v o 0 ≡ get_or u o 0

-- the ruler function: one more than how many of m_1, m_1 m_2, .. divide j
unfoldable pub ruler : List ℕ → ℕ → ℕ
ruler [] j = 1
ruler (m ∷ ms) j = cond (eqb (j % m) 0) (suc (ruler ms (j / m))) 1

-- with k the ruler function of j: whether j / (m_1 .. m_k) is odd, which is when change j goes down
unfoldable pub descends : List ℕ → ℕ → Bool
descends ms j = not (even (j / size (take (ruler ms j) ms)))
