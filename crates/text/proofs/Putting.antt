-- Text put piece after piece: what the proofs of the functions that write lines cite.
use Prim.Native.Nat.{ℕ, ◌+◌, ◌/◌, ◌%◌, ◌≤◌, ◌<◌, min}
use native.Mathlib.Omega.{arith}
use native.Mathlib.Decide.{dec_lt}
use native.Mathlib.Nat.{zero-add}
use native.Mathlib.Numerals.{add-one}
use mathlib.Core.Path.{◌≡◌, refl, sym, ap, ◌∙◌}
use mathlib.Core.Bool.{cond}
use mathlib.Core.List.{List, [], ◌∷◌, ◌++◌, append_assoc, append-nil}
use borrow.Author.Tests.{eq-eqb, ne_eqb, lt-ltb, le-ltb}
use lib.Dec.{eqb}
use lib.ListN.{length, get_or, take, drop, length-append, drop_of_length-le}
use lib.Seq.{take_all, drop-cons}
use Rattle.gray_theory.specs.Answers.{given, refused, Wrote}
use Rattle.gray_theory.proofs.Refusals.{wrote_nothing, wrote_bytes}
use Rattle.text_theory.specs.Ascii.{ascii}
use Rattle.text_theory.specs.Decimals.{glyph, decimal}
use Rattle.text_theory.specs.Lines.{point_after, setting_text, line_text, line_call}
use Rattle.text_theory.proofs.Numerals.{decimal_below_ten, decimal_from_ten}
use Rattle.text_theory.specs.declared.Line.{Line}
use Rattle.text.specs.declared.Text.{Text}
use Rattle.text.specs.Stages.{text_of, Put}

-- nothing put
pub put-none : (t : Text) → Put [] t t
put-none t = record { stands = sym (append-nil (text_of t)); ends = omega arith }

-- one piece after another
pub and_then : {a b : List ℕ} {o p q : Text} → Put a o p → Put b p q → Put (a ++ b) o q
and_then {a} {b} {o} {p} {q} first second =
    record {
      stands = second.stands ∙ ap (λ l. l ++ b) first.stands ∙ append_assoc (text_of o) a b;
      ends = omega (arith, first.ends, second.ends, length-append a b);
    }

-- the same text said otherwise
pub same_text : {a b : List ℕ} {o p : Text} → a ≡ b → Put a o p → Put b o p
same_text {a} {b} {o} {p} h so =
    record { stands = so.stands ∙ ap (λ l. text_of o ++ l) h; ends = so.ends ∙ ap (λ l. o.len + length l) h }

-- ---- a number
-- how many digits the tenth part leaves
pub tenth_length : (n : ℕ) → 10 ≤ n → length (decimal n) ≡ length (decimal (n / 10)) + 1
tenth_length n h = ap length (decimal_from_ten n h) ∙ length-append (decimal (n / 10)) (glyph (n % 10) ∷ [])

pub digit_put : (n : ℕ) {o p : Text} → n < 10 → Put ((48 + n) ∷ []) o p → Put (decimal n) o p
digit_put n h so = same_text (sym (decimal_below_ten n h)) so

pub last-put : (n : ℕ) {o p q : Text} → 10 ≤ n → Put (decimal (n / 10)) o p → Put ((48 + n % 10) ∷ []) p q → Put (decimal n) o q
last-put n h so last = same_text (sym (decimal_from_ten n h)) (and_then so last)

-- ---- a setting
-- the notches from j on are notch j in front of the others; a point follows those if there are any
notches_from : (j : ℕ) (setting : List ℕ) → j < length setting → drop j setting ≡ get_or setting j 0 ∷ drop (j + 1) setting
notches_from j setting inside = rw (add-one j) (drop-cons setting j 0 inside)

none_from : (setting : List ℕ) → drop (length setting) setting ≡ []
none_from setting = drop_of_length-le setting (omega arith)

point_before : (j : ℕ) (setting : List ℕ) → j < length setting
    → cond (eqb (j + 1) (length setting)) [] (ascii ".") ≡ point_after (drop (j + 1) setting)
point_before j setting inside =
    elim (dec_lt (j + 1) (length setting)) [
      | yes more ↦
          rw (ne_eqb (j + 1) (length setting) (λ e. omega arith), notches_from (j + 1) setting more) refl
      | no last ↦
          let e : j + 1 ≡ length setting = omega arith in
          rw (eq-eqb (j + 1) (length setting) e, e, none_from setting) refl
    ]

pub setting-begun : (setting : List ℕ) (t : Text) → Put (setting_text (drop (length setting) setting)) t t
unfolding setting_text
setting-begun setting t = same_text (ap setting_text (sym (none_from setting))) (put-none t)

pub notch_put : {o p q : Text} (j : ℕ) (setting : List ℕ) → j < length setting
    → Put (setting_text (drop (j + 1) setting)) o p
    → Put (cond (eqb (j + 1) (length setting)) [] (ascii ".") ++ decimal (get_or setting j 0)) p q
    → Put (setting_text (drop j setting)) o q
unfolding setting_text
notch_put j setting inside first second =
    let slower = drop (j + 1) setting in
    let a = get_or setting j 0 in
    same_text
    (ap (λ point. setting_text slower ++ (point ++ decimal a)) (point_before j setting inside)
    ∙ sym (append_assoc (setting_text slower) (point_after slower) (decimal a))
    ∙ ap setting_text (sym (notches_from j setting inside)))
    (and_then first second)

-- ---- pieces that were put together
-- the two numbers of the first line
pub sizes_text : (a b c : List ℕ) → (a ++ (b ++ c)) ++ ascii "\n" ≡ a ++ b ++ c ++ ascii "\n"
sizes_text a b c = simp append_assoc

-- a move behind a rank and its setting
pub regroup : (x a b c d e : List ℕ) → x ++ (a ++ b ++ c ++ d ++ e) ≡ x ++ a ++ b ++ c ++ d ++ e
regroup x a b c d e = simp append_assoc

-- ---- a line at the start of an output
-- a word has 48 digits at the most
pub shown : (n : ℕ) (word : List ℕ) → length word ≡ 48 → take (min n 48) word ≡ take n word
shown n word all =
    elim (dec_lt 48 n) [
      | yes more ↦ take_all (min n 48) word (omega arith) ∙ sym (take_all n word (omega arith))
      | no few ↦
          let e : min n 48 ≡ n = omega arith in
          ap (λ k. take k word) e
    ]

module _ (line : Line) (word : List ℕ) {o t : Text} (empty : o.len ≡ 0) (made : Put (line_text line word) o t) (out : List ℕ) where
  -- the line is all of the text
  whole : text_of t ≡ line_text line word
  whole = made.stands ∙ ap (λ k. take k o.bytes ++ line_text line word) empty

  long : t.len ≡ length (line_text line word)
  long = made.ends ∙ ap (λ k. k + length (line_text line word)) empty ∙ zero-add (length (line_text line word))

  pub line_refused : length out < t.len → Wrote (line_call line word) (refused 9) out out
  unfolding line_call
  line_refused short =
      wrote_nothing (line_call line word) 9 out
      (rw (lt-ltb (length out) (length (line_text line word)) (omega (arith, long))) refl)

  pub line_written : {after : List ℕ} → t.len ≤ length out → after ≡ text_of t ++ drop t.len out
      → Wrote (line_call line word) (given t.len) out after
  unfolding line_call
  line_written {after} room copied =
      let text = line_text line word in
      wrote_bytes (line_call line word) text out after t.len
      (rw (le-ltb (length out) (length text) (omega (arith, long))) refl)
      long
      (copied ∙ ap (λ l. l ++ drop t.len out) whole)
