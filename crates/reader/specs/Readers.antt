-- The reader of the line of counts as a machine over bytes, so that the input can come in parts. What it comes to is in
-- `Reading`.
use Rattle.std.specs.Prelude.{ℕ, ◌+◌, min, cond, ◌&&◌, List, [], ◌∷◌, ltb, eqb, take, set, replicate}
use Rattle.text_theory.specs.Decimals.{value}
use Rattle.text_theory.specs.Surveys.{Input, counts, unread, newline, space, is_count}
use Rattle.reader.specs.declared.Phase.{Phase}
use Rattle.reader.specs.declared.Phase.TheVariants.{More, Ended, Unread}
use Rattle.reader.specs.declared.Reader.{Reader}
use Rattle.reader.specs.declared.Found.{Found}
use Rattle.reader.specs.declared.Found.TheVariants.{More as FoundMore, Counts, Unread as FoundUnread}

-- before the first byte
abbrev pub fresh_reader : Reader
fresh_reader = record { counts = replicate 49 0; kept = 0; field = replicate 3 0; digits = 0; phase = More }

-- the bytes of the field that is being read, three at the most
abbrev pub field_of : Reader → List ℕ
field_of r = take (min r.digits 3) r.field

-- the same reader in another phase
abbrev pub in_phase : Phase → Reader → Reader
in_phase p r = record { counts = r.counts; kept = r.kept; field = r.field; digits = r.digits; phase = p }

-- one byte more in the field
abbrev pub byte_kept : Reader → ℕ → Reader
byte_kept r b = record {
  counts = r.counts;
  kept = r.kept;
  field = set r.field r.digits b;
  digits = r.digits + 1;
  phase = r.phase;
}

-- a byte of a field; a fourth is too many
unfoldable pub byte_read : Reader → ℕ → Reader
byte_read r b = cond (ltb r.digits 3) (byte_kept r b) (in_phase Unread r)

-- one count more; the 50th and later ones are passed over
abbrev pub count_kept : Reader → ℕ → Phase → Reader
count_kept r m next = record {
  counts = cond (ltb r.kept 49) (set r.counts r.kept m) r.counts;
  kept = cond (ltb r.kept 49) (r.kept + 1) r.kept;
  field = r.field;
  digits = 0;
  phase = next;
}

-- the end of a field, with the phase that comes then
unfoldable pub field_read : Reader → Phase → Reader
field_read r next = cond (is_count (field_of r)) (count_kept r (value (field_of r)) next) (in_phase Unread r)

-- the end of the line: where nothing has come before it there is no count
unfoldable pub line_read : Reader → Reader
line_read r = cond (eqb r.digits 0 && eqb r.kept 0) (in_phase Ended r) (field_read r Ended)

-- one byte of a line that goes on
unfoldable pub more_read : Reader → ℕ → Reader
more_read r b = cond (eqb b newline) (line_read r) (cond (eqb b space) (field_read r More) (byte_read r b))

-- one byte of the input; once the line has ended or cannot be read, nothing changes
abbrev pub read_in : Phase → Reader → ℕ → Reader
read_in More r b = more_read r b
read_in Ended r b = r
read_in Unread r b = r

-- a part of the input
unfoldable pub read : Reader → List ℕ → Reader
read r [] = r
read r (b ∷ input) = read (read_in r.phase r b) input

-- what has been found: that the line goes on, how many of its counts are kept, or that it cannot be read
abbrev pub found_in : Phase → ℕ → Found
found_in More n = FoundMore
found_in Ended n = Counts (min n 49)
found_in Unread n = FoundUnread

-- the same as a line, if no more input comes
abbrev pub input_in : Found → List ℕ → Input
input_in FoundMore kept = unread
input_in (Counts n) kept = counts (take n kept)
input_in FoundUnread kept = unread

abbrev pub reader_input : Reader → Input
reader_input r = input_in (found_in r.phase r.kept) r.counts

-- of a line no more than 49 counts are kept, since 49 are too many already
abbrev pub up_to49 : Input → Input
up_to49 (counts cs) = counts (take 49 cs)
up_to49 unread = unread
