-- What the calls of the crate `gray` answer, in document 01's terms: the refusals in their order, and then the value. Radices and
-- words are lent bytes, digit n first.
use Rattle.std.specs.Prelude.{ℕ, not, List, leb}
use Rattle.gray_theory.specs.Answers.{Answer, given, refusing, fitting}
use Rattle.gray_theory.specs.Radices.{digits, bytes, size, of_radices}
use Rattle.gray_theory.specs.Capacities.{of_survey}
use Rattle.gray_theory.specs.Words.{member, is_word, rank}

-- N
unfoldable pub size_call : List ℕ → Answer ℕ
size_call radices = of_radices (digits radices) (given (size (digits radices)))

-- N, for a survey and a capacity that pass refusals 2 to 5
unfoldable pub survey_call : List ℕ → ℕ → Answer ℕ
survey_call radices c = of_survey (digits radices) c (given (size (digits radices)))

-- the rank of a setting
unfoldable pub rank_call : List ℕ → List ℕ → Answer ℕ
rank_call radices word =
    of_radices (digits radices)
    (refusing 8 (not (is_word (digits radices) (digits word))) (given (rank (digits radices) (digits word))))

-- the bytes of the setting of a rank, for an output of `room` bytes
unfoldable pub word_call : List ℕ → ℕ → ℕ → Answer (List ℕ)
word_call radices r room =
    of_radices (digits radices) (refusing 8 (leb (size (digits radices)) r) (fitting room (bytes (member (digits radices) r))))
