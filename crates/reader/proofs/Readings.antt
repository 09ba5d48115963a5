-- The line of counts read byte by byte: what the proofs of the reader's functions cite.
use Prim.Native.Nat.{ℕ, ◌≤◌, ◌<◌}
use native.Mathlib.Omega.{arith}
use mathlib.Core.Path.{◌≡◌, refl, sym, ap, ◌∙◌}
use mathlib.Core.Bool.{◌&&◌, and-false}
use mathlib.Core.List.{List}
use borrow.Author.Tests.{le-ltb, le-leb, lt-leb, eq-eqb, ne_eqb}
use Rattle.std.specs.Prelude.{Some, None, Result, Ok, Err}
use Rattle.std.specs.Result.{OkIff, result_ok}
use Rattle.std.proofs.lemmas.Option.{cond_some}
use lib.Dec.{leb}
use lib.ListN.{length}
use Rattle.text_theory.specs.Decimals.{value, is_number}
use Rattle.text_theory.specs.Surveys.{is_count}
use Rattle.reader.specs.Parsing.{number_of}
use Rattle.reader.specs.Stages.{count_of}
use Rattle.reader.proofs.Numbers.{some_no}
use Rattle.reader.specs.Readers.{field_of, in_phase, byte_read, count_kept, field_read, line_read, more_read}
use Rattle.reader.specs.declared.Phase.{Phase}
use Rattle.reader.specs.declared.Phase.TheVariants.{More, Unread}
use Rattle.reader.specs.declared.Reader.{Reader}

pub full : (r : Reader) (b : ℕ) → 3 ≤ r.digits → byte_read r b ≡ in_phase Unread r
unfolding byte_read
full r b h = rw (le-ltb r.digits 3 h) refl

-- ---- a field as a count
pub no_number : (f : List ℕ) → number_of f ≡ None → None ≡ count_of f
unfolding number_of count_of is_count
no_number f e =
    rw (some_no (is_number f) (value f) e, and-false (leb (length f) 3)) refl

large_number : (f : List ℕ) (v : ℕ) → number_of f ≡ Some v → 255 < v → None ≡ count_of f
unfolding number_of count_of is_count
large_number f v e h =
    let (is, same) = cond_some (is_number f) (value f) v e in
    rw (lt-leb (value f) 255 (omega arith), and-false (leb (length f) 3 && is_number f)) refl

small_number : (f : List ℕ) (v : ℕ) → length f ≤ 3 → number_of f ≡ Some v → v ≤ 255 → Some v ≡ count_of f
unfolding number_of count_of is_count
small_number f v short e h =
    let (is, same) = cond_some (is_number f) (value f) v e in
    rw (le-leb (length f) 3 short, is, le-leb (value f) 255 (omega arith)) (ap Some (sym same))

-- a number as a byte is what the field is as a count
pub as_byte : {E : Type 0} (f : List ℕ) (v : ℕ) (r : Result ℕ E) → length f ≤ 3 → number_of f ≡ Some v → OkIff r (v < 256) v
    → result_ok r ≡ count_of f
as_byte f v (Ok x) short e holds = ap Some holds.1 ∙ small_number f v short e (omega arith)
as_byte f v (Err d) short e large = large_number f v e (omega arith)

-- ---- the end of a field
pub field_unread : (r : Reader) (next : Phase) → count_of (field_of r) ≡ None → in_phase Unread r ≡ field_read r next
unfolding count_of field_read
field_unread r next e = rw (some_no (is_count (field_of r)) (value (field_of r)) e) refl

pub field_counted : (r : Reader) (next : Phase) (m : ℕ) → count_of (field_of r) ≡ Some m → count_kept r m next ≡ field_read r next
unfolding count_of field_read
field_counted r next m e =
    let (is, same) = cond_some (is_count (field_of r)) (value (field_of r)) m e in
    rw (is, same) refl

-- ---- one byte
pub newline-read : (r : Reader) (b : ℕ) → b ≡ 10 → line_read r ≡ more_read r b
unfolding more_read
newline-read r b e = rw (eq-eqb b 10 e) refl

pub space-read : (r : Reader) (b : ℕ) → (b ≡ 10 → ⊥) → b ≡ 32 → field_read r More ≡ more_read r b
unfolding more_read
space-read r b n e = rw (ne_eqb b 10 n, eq-eqb b 32 e) refl

pub other_read : (r : Reader) (b : ℕ) → (b ≡ 10 → ⊥) → (b ≡ 32 → ⊥) → byte_read r b ≡ more_read r b
unfolding more_read
other_read r b n o = rw (ne_eqb b 10 n, ne_eqb b 32 o) refl
