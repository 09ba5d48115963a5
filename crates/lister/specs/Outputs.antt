-- What the functions of this crate leave in the memory that they are lent.
use Rattle.std.specs.Prelude.{ℕ, suc, ◌+◌, ◌-◌, ◌*◌, ◌^◌, ◌≤◌, ◌<◌, ◌≡◌, Bool, true, not, cond, length, get_or, take, drop}
use mathlib.Core.List.{List, ◌++◌, map, flatten}
use Rattle.gray_theory.specs.Radices.{size, all_from}
use Rattle.gray_theory.specs.Words.{even}
use Rattle.gray_theory.specs.Places.{placed}
use Rattle.lister_theory.specs.Listers.{listing}

-- t words from word s on
unfoldable pub window : ℕ → ℕ → List (List ℕ) → List (List ℕ)
window s t words = take t (drop s words)

-- words from place `at` on, each after the digits that are fixed
unfoldable pub laid : ℕ → List ℕ → List (List ℕ) → List ℕ → List ℕ
laid at fixed words out = placed at (flatten (map (λ w. fixed ++ w) words)) out

-- the notch that a lister comes to after u others, of m
abbrev pub notch_after : Bool → ℕ → ℕ → ℕ
notch_after down m u = cond down (m - 1 - u) u

-- the lister of the digits after one at notch a: the same after an even notch, the other after an odd one
abbrev pub way_after : Bool → ℕ → Bool
way_after down a = cond (even a) down (not down)

-- the window after a block of q words of n bytes each
abbrev pub Past : (n q s t at s' t' at' : ℕ) → Type 0
Past n q s t at s' t' at' = (s' ≡ s - q) × (t' ≡ t - (q - s)) × (at' + t' * n ≡ at + t * n)

-- a table that has for each digit the number of words of those after it
abbrev pub Sized : List ℕ → List ℕ → Type 0
Sized radices sizes = (j : ℕ) → j < length radices → get_or sizes j 0 ≡ size (drop (suc j) radices)

-- what a lister may rely on: i digits are fixed, the window begins within the words of the others, and its bytes fit
pub record Reached (radices sizes word : List ℕ) (i s t : ℕ) (out : List ℕ) (at : ℕ) : Type 0 where
  pub few : length radices ≤ 48
  pub inside : i ≤ length radices
  pub whole : all_from 1 radices ≡ true
  pub table : length sizes ≡ 48
  pub sized : Sized radices sizes
  pub long : length word ≡ 48
  pub begun : s < size (drop i radices)
  pub some : 0 < t
  pub short : s + t ≤ 2 ^ 62
  pub room : at + t * length radices ≤ length out

-- what the writer of one digit's words may rely on
pub record RowRoom (word : List ℕ) (n m s t : ℕ) (out : List ℕ) (at : ℕ) : Type 0 where
  pub three : 3 ≤ n
  pub few : n ≤ 48
  pub long : length word ≡ 48
  pub byte : m < 256
  pub begun : s < m
  pub short : s + t ≤ 2 ^ 62
  pub room : at + t * n ≤ length out

-- what a lister leaves: in the output the words of its window, each after the digits that are fixed, and in the word the digits
-- before i as they were
pub record Listed (down : Bool) (radices : List ℕ) (i : ℕ) (fixed word word' : List ℕ) (s t at : ℕ) (out out' : List ℕ) : Type 0 where
  pub wrote : out' ≡ laid at fixed (window s t (listing down radices)) out
  pub kept : take i word' ≡ take i word
  pub long : length word' ≡ 48
