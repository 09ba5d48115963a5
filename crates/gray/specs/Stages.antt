-- What the stages of the calls answer: definitions that only this crate's private functions cite.
use Rattle.std.specs.Prelude.{ℕ, Option, Some, None, ◌+◌, ◌*◌, ◌^◌, ◌≤◌, ◌<◌, ◌≡◌, true, cond, ◌&&◌, List, ◌++◌, ltb, length, get_or, drop}
use Rattle.gray_theory.specs.Radices.{digits, bytes, size, all_from}
use Rattle.gray_theory.specs.Words.{is_word, reflect, rank}
use Rattle.gray_theory.specs.Indexed.{word_at}

-- a product that is within 2^62, or over it
abbrev pub product_as : ℕ → Option ℕ
product_as n = cond (ltb (2 ^ 62) n) None (Some n)

-- what a product tells of radices: it is theirs and within 2^62; or it is over, as theirs is unless one of them is 0
abbrev pub Multiplied : List ℕ → Option ℕ → Type 0
Multiplied radices (Some p) = (p ≡ size (digits radices)) × (p ≤ 2 ^ 62)
Multiplied radices None = all_from 1 (digits radices) ≡ true → 2 ^ 62 < size (digits radices)

-- a digit that is below its radix, or one that is not
abbrev pub digit_as : ℕ → ℕ → Option (ℕ × ℕ)
digit_as m a = cond (ltb a m) (Some (m, a)) None

-- two digits as one, the slower first: below their radices, or not both
abbrev pub two_as : ℕ → ℕ → ℕ → ℕ → Option (ℕ × ℕ)
two_as m a l b = cond (ltb a m && ltb b l) (Some (m * l, a * l + reflect l a b)) None

-- the two at i and after it
abbrev pub pair_as : List ℕ → List ℕ → ℕ → Option (ℕ × ℕ)
pair_as radices word i = two_as (get_or radices i 0) (get_or word i 0) (get_or radices (i + 1) 0) (get_or word (i + 1) 0)

-- radices that have passed their checks, and bytes for a word of theirs
pub record Rankable (radices word : List ℕ) : Type 0 where
  pub long : length word ≡ length radices
  pub least : all_from 1 (digits radices) ≡ true
  pub limit : size (digits radices) ≤ 2 ^ 62

-- the rank of what is a setting
abbrev pub place_as : List ℕ → List ℕ → Option ℕ
place_as radices word = cond (is_word (digits radices) (digits word)) (Some (rank (digits radices) (digits word))) None

-- radices that have passed their checks, and an output that has room for a word
pub record Room (radices out : List ℕ) : Type 0 where
  pub least : all_from 1 (digits radices) ≡ true
  pub room : length radices ≤ length out

-- the output with the word of rank r at its start, and every byte past it as it was
abbrev pub put_word : List ℕ → ℕ → List ℕ → List ℕ
put_word radices r out = bytes (word_at (digits radices) r) ++ drop (length radices) out
