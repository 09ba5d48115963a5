-- Lists in arrays of a fixed length.
use Rattle.std.specs.Prelude.{ℕ, ◌-◌, List, ◌++◌, length, take, replicate}
use Rattle.gray_theory.specs.Radices.{digits}

-- an array of k places: the list, and zeros or the like after it
abbrev pub filled : {A : Type 0} → ℕ → A → List A → List A
filled k z l = l ++ replicate (k - length l) z

-- the digits that lent bytes hold, digit 1 first, in an array of 48 places with zeros after them; a 49th digit and later ones are
-- left out
abbrev pub digit_array : List ℕ → List ℕ
digit_array bytes = take 48 (filled 48 0 (digits bytes))
