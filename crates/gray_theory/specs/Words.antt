-- The list of settings and the rank of a setting, as document 01 defines them. A word is a setting; like radices, its list has
-- digit 1 first.
use Rattle.std.specs.Prelude.{ℕ, zero, suc, ◌+◌, ◌-◌, ◌*◌, ◌%◌, Bool, true, false, cond, ◌&&◌, List, [], ◌∷◌, ◌++◌, map, eqb, ltb, get_or}

abbrev pub even : ℕ → Bool
even r = eqb (r % 2) 0

-- the notches 0 up to m − 1, and m − 1 down to 0
unfoldable pub upward : ℕ → List ℕ
upward zero = []
upward (suc m) = upward m ++ (m ∷ [])

unfoldable pub downward : ℕ → List ℕ
downward zero = []
downward (suc m) = m ∷ downward m

-- the notches below m as they follow a word of rank r: upward where r is even, downward where it is odd
unfoldable pub notches : ℕ → ℕ → List ℕ
notches m r = cond (even r) (upward m) (downward m)

-- the words of `slower`, whose ranks are r, r + 1, .., each with every notch below m for one digit more, which stands in front
unfoldable pub through : ℕ → ℕ → List (List ℕ) → List (List ℕ)
through m r [] = []
through m r (c ∷ slower) = map (λ a. a ∷ c) (notches m r) ++ through m (suc r) slower

-- the list: one empty word for no digits; the list through digit i is made from that of the slower digits, n to i + 1
unfoldable pub list : List ℕ → List (List ℕ)
list [] = [] ∷ []
list (m ∷ ms) = through m 0 (list ms)

-- the setting of rank r
abbrev pub member : List ℕ → ℕ → List ℕ
member ms r = get_or (list ms) r []

-- document 01's a_k: the notch of digit k in a setting
abbrev pub notch_of : List ℕ → ℕ → ℕ
notch_of w k = get_or w (k - 1) 0

-- a setting of these radices: a digit for each radix, below it
unfoldable pub is_word : List ℕ → List ℕ → Bool
is_word [] [] = true
is_word [] (a ∷ w) = false
is_word (m ∷ ms) [] = false
is_word (m ∷ ms) (a ∷ w) = ltb a m && is_word ms w

-- document 01's b: a where p is even, else m − 1 − a
abbrev pub reflect : ℕ → ℕ → ℕ → ℕ
reflect m p a = cond (even p) a (m - 1 - a)

-- document 01's rank: p is 0 at first; from digit n down to digit 1, p becomes p · m + b
unfoldable pub rank : List ℕ → List ℕ → ℕ
rank [] w = 0
rank (m ∷ ms) [] = 0
rank (m ∷ ms) (a ∷ w) = rank ms w * m + reflect m (rank ms w) a
