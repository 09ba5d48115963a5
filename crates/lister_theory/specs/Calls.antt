-- What the call of `lister` answers, in document 01's terms: the refusals in their order, and then the bytes.
use Rattle.std.specs.Prelude.{ℕ, ◌+◌, ltb, take, drop}
use mathlib.Core.List.{List, map, flatten}
use Rattle.gray_theory.specs.Answers.{Answer, refusing, fitting}
use Rattle.gray_theory.specs.Radices.{digits, bytes, size, of_radices}
use Rattle.gray_theory.specs.Words.{list}

-- the t words (settings) of the list from rank r on
abbrev pub words_from : List ℕ → ℕ → ℕ → List (List ℕ)
words_from ms r t = take t (drop r (list ms))

-- the bytes of these words, one word after another, for an output of `room` bytes
unfoldable pub list_call : List ℕ → ℕ → ℕ → ℕ → Answer (List ℕ)
list_call radices r t room =
    of_radices (digits radices)
    (refusing 8 (ltb (size (digits radices)) (r + t)) (fitting room (flatten (map bytes (words_from (digits radices) r t)))))
