-- Bytes that are made of records: a start, as many digit records as it says numbered from 1, then moves, then at most one end
-- as the last record (document 01, refusal 1).
use Rattle.std.specs.Prelude.{ℕ, ◌≡◌, List, [], ◌∷◌, ◌++◌, length}
use Rattle.movelog_theory.specs.Logs.{start_record, move_record_of, end_record_of, digit_records}

-- ---- what has the shape
-- the records of moves with these bytes, whatever they are
unfoldable pub move_records : List ℕ → List ℕ
move_records [] = []
move_records (byte ∷ others) = move_record_of byte ++ move_records others

-- at most one end: no bytes at all, or an end with 8 bytes, whatever they are
pub data AtMostOneEnd (l : List ℕ) : Type 0 where
  none : l ≡ [] → AtMostOneEnd l
  one : (body : List ℕ) → length body ≡ 8 → l ≡ end_record_of body → AtMostOneEnd l

-- a start, a record for each digit numbered from 1, moves, at most one end, and nothing else
pub record Shaped (log : List ℕ) : Type 0 where
  pub capacity : ℕ
  pub radices : List ℕ
  pub moves : List ℕ
  pub end : List ℕ
  pub at_most_one : AtMostOneEnd end
  pub bytes : log ≡ start_record (length radices) capacity ++ digit_records 1 radices ++ move_records moves ++ end

-- ---- its parts, from the last
-- moves, then at most one end
pub record OfMoves (l : List ℕ) : Type 0 where
  pub moves : List ℕ
  pub end : List ℕ
  pub at_most_one : AtMostOneEnd end
  pub bytes : l ≡ move_records moves ++ end

-- n digit records numbered from i, then moves
pub record OfDigits (n i : ℕ) (l : List ℕ) : Type 0 where
  pub radices : List ℕ
  pub rest : List ℕ
  pub count : length radices ≡ n
  pub then : OfMoves rest
  pub bytes : l ≡ digit_records i radices ++ rest
