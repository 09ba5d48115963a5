-- What a call can answer: a value below 2^63, or a refusal by a number from 1 to 255 (it is one of document 01's eleven or of
-- document 02's two so far). So a caller can tell its answers apart by their codes (`codes_tell_answers_apart`).
use Rattle.std.specs.Prelude.{ℕ, ◌+◌, ◌-◌, ◌^◌, ◌≤◌, ◌<◌, Bool, true, false, not, leb, ltb, length}
use Rattle.std.proofs.Common.{arith, ap, leb-true, leb-false}
use Rattle.std.proofs.Math.Bool.{and-eq-true_iff}
use mathlib.Core.List.{List, map, flatten}
use Rattle.std.proofs.lemmas.Bool.{not-false}
use Rattle.std.proofs.lemmas.List.{length-reverse, length-map}
use Rattle.gray_theory.specs.Answers.{Answer, given, refusing, fitting, byte_count}
use Rattle.gray_theory.specs.Radices.{digits, bytes, size}
use Rattle.gray_theory.specs.Words.{member, is_word}
use Rattle.gray_theory.proofs.Ranks.{rank_below}
use Rattle.gray_theory.proofs.Members.{member_is_word_at, length-word_at}
use Rattle.gray_theory.specs.Calls.{size_call, rank_call, word_call}
use Rattle.lister_theory.specs.Calls.{words_from, list_call}
use Rattle.movelog_theory.specs.Logs.{log_of}
use Rattle.movelog_theory.specs.Shapes.{shaped, capacity_in, radices_in, moves_in, same_bytes}
use Rattle.movelog_theory.specs.Calls.{write_call, read_call, is_log_of}
use Rattle.tides_theory.specs.Lines.{lines_in, all_lines}
use Rattle.tides_theory.specs.Windows.{in_order, any_allows, moves_that_fit}
use Rattle.tides_theory.specs.Calls.{tides_in, windows_in, unreadable, disordered, counts_call, may_begin_call, Accepted}
use Rattle.tides_theory.proofs.Few.{windows_are_few}
use Rattle.capi.specs.Encoding.{as_number}
use Rattle.capi.specs.Told.{Fits, value, number}
use Rattle.capi.proofs.Checked.{Checked, valued, numbered, after_check, after_radices, after-survey, after-fitting}
use Rattle.capi.specs.TellsApart.{last, Short, last_of_tides}

number_fits : {a : Answer ℕ} → Checked last Short a → Fits a
number_fits (valued {a} short) = value {v = a} (omega arith)
number_fits (numbered one within) = number one (omega arith)

-- N is at most 2^62.
pub size_fits : (radices : List ℕ) → Fits (size_call radices)
unfolding size_call
size_fits radices =
    number_fits (after_radices last Short (digits radices) _ (omega arith) (λ l. let limit = l.limit in valued (omega arith)))

-- A rank is below N.
pub rank_fits : (radices word : List ℕ) → Fits (rank_call radices word)
unfolding rank_call
rank_fits radices word =
    let ms = digits radices in
    number_fits
    (after_radices last Short ms _ (omega arith) (λ l.
    after_check last Short 8 (not (is_word ms (digits word))) _ (omega arith) (omega arith) (λ e.
    let limit = l.limit in
    let below = rank_below ms (digits word) (not-false (is_word ms (digits word)) e) in
    valued (omega arith))))

-- A log has at most N − 1 moves.
pub log_read_fits : (log : List ℕ) → Fits (read_call log)
unfolding read_call
log_read_fits log =
    let ms = radices_in log in
    let c = capacity_in log in
    let t = moves_in log in
    number_fits
    (after_check last Short 1 (not (shaped log)) _ (omega arith) (omega arith) (λ shape.
    after-survey last Short ms c _ (omega arith) (λ o.
    after_check last Short 11 (not (is_log_of ms c t log)) _ (omega arith) (omega arith) (λ e.
    let tests = not-false (is_log_of ms c t log) e in
    let few = leb-true t (size ms - 1) ((and-eq-true_iff (leb t (size ms - 1)) (same_bytes log (log_of ms c t))).0 tests).0 in
    let limit = o.survey.limit in
    valued (omega arith)))))

-- ---- bytes written
abbrev Within : ℕ → List ℕ → Type 0
Within room bs = length bs ≤ room

bytes_fit : {room most : ℕ} {a : Answer (List ℕ)} → room < 2 ^ 63 → most < 256 → Checked most (Within room) a → Fits (byte_count a)
bytes_fit short few (valued {a} within) = value {v = length a} (omega arith)
bytes_fit short few (numbered one within) = number one (omega arith)

-- A setting has at most 48 bytes.
pub word_fits : (radices : List ℕ) (r room : ℕ) → Fits (byte_count (word_call radices r room))
unfolding word_call
word_fits radices r room =
    let ms = digits radices in
    bytes_fit {room = 48} (omega arith) (omega arith)
    (after_radices last (Within 48) ms _ (omega arith) (λ l.
    after_check last (Within 48) 8 (leb (size ms) r) _ (omega arith) (omega arith) (λ e.
    after-fitting last (Within 48) room (bytes (member ms r)) (omega arith) (λ room-is.
    let most = l.most in
    let long = length-reverse (member ms r) in
    let same = ap length (member_is_word_at ms r (leb-false (size ms) r e)) in
    let word = length-word_at ms r in
    omega arith))))

-- Other writers write at most as many bytes as they are lent. That these are fewer than 2^63 is assumed: no object of C or of
-- Rust is larger than that.
module _ (out : List ℕ) (short : length out < 2 ^ 63) where
  abbrev Lent : List ℕ → Type 0
  Lent = Within (length out)

  lent : (bs : List ℕ) → Checked last Lent (fitting (length out) bs)
  lent bs = after-fitting last Lent (length out) bs (omega arith) (λ within. within)

  -- A writer of settings.
  pub list_fits : (radices : List ℕ) (r t : ℕ) → Fits (byte_count (list_call radices r t (length out)))
  unfolding list_call
  list_fits radices r t =
      let ms = digits radices in
      bytes_fit short (omega arith)
      (after_radices last Lent ms _ (omega arith) (λ l.
      after_check last Lent 8 (ltb (size ms) (r + t)) _ (omega arith) (omega arith) (λ e.
      lent (flatten (map bytes (words_from ms r t))))))

  -- A writer of a log.
  pub log_write_fits : (radices : List ℕ) (c t : ℕ) → Fits (byte_count (write_call radices c t (length out)))
  unfolding write_call
  log_write_fits radices c t =
      let ms = digits radices in
      bytes_fit short (omega arith)
      (after-survey last Lent ms c _ (omega arith) (λ o.
      after_check last Lent 8 (ltb (size ms - 1) t) _ (omega arith) (omega arith) (λ e.
      lent (log_of ms c t))))

-- A harbour file has at most as many windows as a century has minutes.
pub tide_counts_fit : (file : List ℕ) (room : ℕ) → Fits (byte_count (counts_call file room))
unfolding counts_call
tide_counts_fit file room =
    let all : List ℕ = map moves_that_fit (windows_in file) in
    bytes_fit {room = 52596000} (omega arith) (omega arith)
    (after_check last_of_tides (Within 52596000) 12 (unreadable file) _ (omega arith) (omega arith) (λ read.
    after_check last_of_tides (Within 52596000) 13 (disordered file) _ (omega arith) (omega arith) (λ ordered.
    after-fitting last_of_tides (Within 52596000) room all (omega arith) (λ room-is.
    let accepted : Accepted file = record {
      read = not-false (all_lines (lines_in file)) read;
      ordered = not-false (in_order (tides_in file)) ordered;
    } in
    let few = windows_are_few file accepted in
    omega (arith, length-map (windows_in file) moves_that_fit)))))

-- A minute is allowed or not.
pub may_begin_fits : (file : List ℕ) (minute : ℕ) → Fits (as_number (may_begin_call file minute))
unfolding may_begin_call
may_begin_fits file minute = by (unreadable file) (disordered file) (any_allows (windows_in file) minute)
  where
    by : (u d a : Bool) → Fits (as_number (refusing 12 u (refusing 13 d (given a))))
    by true d a = number {k = 12} (omega arith) (omega arith)
    by false true a = number {k = 13} (omega arith) (omega arith)
    by false false true = value {v = 1} (omega arith)
    by false false false = value {v = 0} (omega arith)
