-- The test for the shape of a log passes exactly the bytes that are made of records: a start, as many digit records as it says
-- numbered from 1, then moves, then at most one end as the last record (document 01, refusal 1).
use Rattle.std.specs.Prelude.{ℕ, zero, suc, ◌≡◌, refl, Bool, true, false, cond, ◌&&◌, ◌↔◌, List, [], ◌∷◌, ◌++◌, eqb, length, drop}
use Rattle.std.proofs.Common.{arith, sym, ap₂, ◌∙◌, append_assoc, eqb-true, eq-eqb, drop_at}
use Rattle.std.proofs.Math.Path.{ap}
use Rattle.std.proofs.Math.Bool.{and-eq-true_iff}
use Rattle.gray_theory.specs.Bools.{impossible}
use Rattle.movelog_theory.specs.Logs.{start_record, end_record_of, digit_records, end_length, head_length}
use Rattle.movelog_theory.specs.Shapes.{shaped, digits_then_moves, moves_then_end, is_end}
use Rattle.movelog_theory.specs.Shapes.{count_in, capacity_in, radices_in, count_moves, moves_in}
use Rattle.movelog_theory.proofs.Lengths.{length-digit_records}
use Rattle.movelog_theory.proofs.Parsing.{digits_pass, radices_told}
use Rattle.movelog_theory.specs.ShapedExactly.{move_records, AtMostOneEnd, AtMostOneEnd.none, AtMostOneEnd.one, Shaped, OfMoves, OfDigits}

-- ---- what passes the test is made of records
-- one record: a move, or else the end, with 8 bytes behind its kind
record_shown : (kind byte : ℕ) (rest : List ℕ) (move : Bool) → eqb kind 3 ≡ move
    → cond move (moves_then_end rest) (is_end (kind ∷ byte ∷ rest)) ≡ true
    → (moves_then_end rest ≡ true → OfMoves rest)
    → OfMoves (kind ∷ byte ∷ rest)
unfolding move_records
record_shown kind byte rest true is e more =
    let h = more e in
    record {
      moves = byte ∷ h.moves;
      end = h.end;
      at_most_one = h.at_most_one;
      bytes = ap₂ (λ k l. k ∷ byte ∷ l) (eqb-true kind 3 is) h.bytes;
    }
record_shown kind byte rest false is e more =
    let (four, nine) = (and-eq-true_iff (eqb kind 4) (eqb (length (kind ∷ byte ∷ rest)) end_length)).0 e in
    let long = eqb-true (length (kind ∷ byte ∷ rest)) end_length nine in
    record {
      moves = [];
      end = kind ∷ byte ∷ rest;
      at_most_one = one (byte ∷ rest) (omega arith) (ap (λ k. k ∷ byte ∷ rest) (eqb-true kind 4 four));
      bytes = refl;
    }

moves_shown : (l : List ℕ) → moves_then_end l ≡ true → OfMoves l
unfolding moves_then_end move_records
moves_shown [] e = record { moves = []; end = []; at_most_one = none refl; bytes = refl }
moves_shown (kind ∷ []) e = impossible (cc)
moves_shown (kind ∷ byte ∷ rest) e = record_shown kind byte rest (eqb kind 3) refl e (λ f. moves_shown rest f)

-- a digit record in front of the rest
digit_shown : (n i kind number radix : ℕ) (rest : List ℕ) → eqb kind 2 ≡ true → eqb number i ≡ true
    → OfDigits n (suc i) rest
    → OfDigits (suc n) i (kind ∷ number ∷ radix ∷ rest)
unfolding digit_records
digit_shown n i kind number radix rest two numbered h = record {
  radices = radix ∷ h.radices;
  rest = h.rest;
  count = ap suc h.count;
  then = h.then;
  bytes =
      ap₂ (λ k j. k ∷ j ∷ radix ∷ rest) (eqb-true kind 2 two) (eqb-true number i numbered)
      ∙ ap (λ l. 2 ∷ i ∷ radix ∷ l) h.bytes;
}

digits_shown : (n i : ℕ) (l : List ℕ) → digits_then_moves n i l ≡ true → OfDigits n i l
unfolding digits_then_moves digit_records
digits_shown zero i l e = record { radices = []; rest = l; count = refl; then = moves_shown l e; bytes = refl }
digits_shown (suc n) i [] e = impossible (cc)
digits_shown (suc n) i (kind ∷ []) e = impossible (cc)
digits_shown (suc n) i (kind ∷ number ∷ []) e = impossible (cc)
digits_shown (suc n) i (kind ∷ number ∷ radix ∷ rest) e =
    let (front, others) = (and-eq-true_iff (eqb kind 2 && eqb number i) (digits_then_moves n (suc i) rest)).0 e in
    let (two, numbered) = (and-eq-true_iff (eqb kind 2) (eqb number i)).0 front in
    digit_shown n i kind number radix rest two numbered (digits_shown n (suc i) rest others)

shape_shown : (log : List ℕ) → shaped log ≡ true → Shaped log
unfolding shaped
shape_shown [] e = impossible (cc)
shape_shown (kind ∷ []) e = impossible (cc)
shape_shown (kind ∷ n ∷ []) e = impossible (cc)
shape_shown (kind ∷ n ∷ c ∷ rest) e =
    let (first, others) = (and-eq-true_iff (eqb kind 1) (digits_then_moves n 1 rest)).0 e in
    let d = digits_shown n 1 rest others in
    let m = d.then in
    let records = digit_records 1 d.radices in
    record {
      capacity = c;
      radices = d.radices;
      moves = m.moves;
      end = m.end;
      at_most_one = m.at_most_one;
      bytes =
          ap₂ (λ k j. k ∷ j ∷ c ∷ rest) (eqb-true kind 1 first) (sym d.count)
          ∙ ap (λ l. start_record (length d.radices) c ++ l)
          (d.bytes
          ∙ ap (λ l. records ++ l) m.bytes
          ∙ sym (append_assoc records (move_records m.moves) m.end));
    }

-- ---- what is made of records passes the test
moves_pass : (moves l : List ℕ) → moves_then_end (move_records moves ++ l) ≡ moves_then_end l
unfolding moves_then_end move_records
moves_pass [] l = refl
moves_pass (byte ∷ others) l = moves_pass others l

end_passes : (body : List ℕ) → length body ≡ 8 → moves_then_end (end_record_of body) ≡ true
unfolding moves_then_end
end_passes [] h = absurd (omega arith)
end_passes (byte ∷ rest) h = eq-eqb (length (4 ∷ byte ∷ rest)) end_length (omega arith)

at_most_one_passes : (end : List ℕ) → AtMostOneEnd end → moves_then_end end ≡ true
unfolding moves_then_end
at_most_one_passes end (none e) = ap moves_then_end e
at_most_one_passes end (one body eight e) = ap moves_then_end e ∙ end_passes body eight

module _ (log : List ℕ) (s : Shaped log) where
  -- the bytes of the start, and what stands after them
  parts : log ≡ 1 ∷ length s.radices ∷ s.capacity ∷ (digit_records 1 s.radices ++ (move_records s.moves ++ s.end))
  parts =
      s.bytes
      ∙ ap (λ l. 1 ∷ length s.radices ∷ s.capacity ∷ l)
      (append_assoc (digit_records 1 s.radices) (move_records s.moves) s.end)

  shape_passes : shaped log ≡ true
  unfolding shaped
  shape_passes =
      ap shaped parts
      ∙ digits_pass 1 s.radices (move_records s.moves ++ s.end)
      ∙ moves_pass s.moves s.end
      ∙ at_most_one_passes s.end s.at_most_one

-- Bytes have the shape of a log exactly if they are a start with a number n and any capacity, n digit records numbered from 1
-- with any radices, any number of move records with any bytes, and at most one end with any 8 bytes, in this order, and nothing
-- else.
pub shaped_exactly : (log : List ℕ) → (shaped log ≡ true) ↔ Shaped log
shaped_exactly log = (shape_shown log, shape_passes log)

-- ---- what it says
-- each move is counted, and no end is
moves_counted : (moves end : List ℕ) → AtMostOneEnd end → count_moves (move_records moves ++ end) ≡ length moves
unfolding count_moves move_records
moves_counted [] end (none e) = ap count_moves e
moves_counted [] end (one [] eight e) = absurd (omega arith)
moves_counted [] end (one (byte ∷ rest) eight e) = ap count_moves e
moves_counted (byte ∷ others) end h = ap suc (moves_counted others end h)

module _ (log : List ℕ) (s : Shaped log) where
  -- what stands behind the digit records
  behind-digits : drop (head_length (length s.radices)) log ≡ move_records s.moves ++ s.end
  behind-digits =
      let n = length s.radices in
      let head = start_record n s.capacity ++ digit_records 1 s.radices in
      let d = length-digit_records 1 s.radices in
      let long : length head ≡ head_length n = omega arith in
      ap (drop (head_length n)) (parts log s) ∙ drop_at head (move_records s.moves ++ s.end) (head_length n) long

  -- Of bytes with the shape of a log, the number of digits, the capacity, the radices and the number of moves that are read off
  -- them are those that they are made of.
  pub shaped-says :
      (count_in log ≡ length s.radices)
      × (capacity_in log ≡ s.capacity)
      × (radices_in log ≡ s.radices)
      × (moves_in log ≡ length s.moves)
  shaped-says =
      let counted = ap count_in (parts log s) in (
        counted,
        ap capacity_in (parts log s),
        ap radices_in (parts log s) ∙ radices_told 1 s.radices (move_records s.moves ++ s.end),
        ap (λ n. count_moves (drop (head_length n) log)) counted
            ∙ ap count_moves behind-digits
            ∙ moves_counted s.moves s.end s.at_most_one,
      )
