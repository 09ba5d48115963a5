-- Reading is exact: what can be said has one line, which is read as that, and a line that is read is that line. So it is with
-- files, which are such lines one after another.
use Rattle.std.specs.Prelude.{ℕ, ◌≤◌, ◌<◌, ◌≡◌, refl, Bool, true, false, cond, ◌&&◌, ◌||◌, eqb, leb, get_or}
use Rattle.std.proofs.Common.{arith, sym, ap, ap₂, subst, ◌∙◌, eqb-true, leb-true, take_at, drop_at}
use Rattle.std.proofs.Math.Bool.{and-eq-true_iff}
use mathlib.Core.List.{List, [], ◌∷◌, ◌++◌, map, flatten}
use Rattle.gray_theory.specs.Bools.{impossible}
use Rattle.text_theory.specs.Ascii.{ascii}
use Rattle.text_theory.specs.Decimals.{is_digit, all_digits, value}
use Rattle.tides_theory.specs.Calendar.{exists, is_leap, has_thirty_days, days_in_month}
use Rattle.tides_theory.specs.Lines.{high_letter, low_letter, form, fits_place, has_form, is_line, lines_in, all_lines, all_in_range, ReadAs, IsFileOf}
use Rattle.tides_theory.specs.Lines.{Notice, in_range, notice_in, notices_in, digits_of, line_of}
use Rattle.tides_theory.proofs.FieldDigits.{glyph_is_digit, digits-read_back, digits-written_back}
use Rattle.tides_theory.proofs.Chunks.{line_formed, line_length, line_in_front, lines_make_the_file}

-- ---- fields of two digits, and of four
two_digits : (a b : ℕ) → is_digit a ≡ true → is_digit b ≡ true → digits_of 2 (value (a ∷ b ∷ [])) ≡ a ∷ b ∷ []
unfolding all_digits
two_digits a b e f = digits-written_back (a ∷ b ∷ []) (rw (e, f) refl)

four_digits : (a b c d : ℕ) → is_digit a ≡ true → is_digit b ≡ true → is_digit c ≡ true → is_digit d ≡ true
    → digits_of 4 (value (a ∷ b ∷ c ∷ d ∷ [])) ≡ a ∷ b ∷ c ∷ d ∷ []
unfolding all_digits
four_digits a b c d e f g h = digits-written_back (a ∷ b ∷ c ∷ d ∷ []) (rw (e, f, g, h) refl)

-- ---- the letter: it is written for what was read from it, what it was written for is read from it, and it fits its place
letter_written : (high low : Bool) (b : ℕ) → eqb b high_letter ≡ high → eqb b low_letter ≡ low → (high || low) ≡ true
    → cond high (ascii "H") (ascii "L") ≡ b ∷ []
letter_written true low b e f some = ap (λ x. x ∷ []) (sym (eqb-true b high_letter e))
letter_written false true b e f some = ap (λ x. x ∷ []) (sym (eqb-true b low_letter f))
letter_written false false b e f some = impossible (cc)

letter_read : (high : Bool) → eqb (get_or (cond high (ascii "H") (ascii "L") ++ ascii "\n") 0 0) high_letter ≡ high
letter_read true = refl
letter_read false = refl

letter_fits : (high : Bool) → has_form (ascii "H\n") (cond high (ascii "H") (ascii "L") ++ ascii "\n") ≡ true
unfolding has_form
letter_fits true = refl
letter_fits false = refl

-- ---- a line by its bytes
-- what holds of whatever bytes fit the places of a form,
abbrev OfFitting : List ℕ → (List ℕ → Type 0) → Type 0
OfFitting [] P = P []
OfFitting (f ∷ fs) P = (b : ℕ) → fits_place f b ≡ true → OfFitting fs (λ line. P (b ∷ line))

-- holds of what has the form
by_form : (fs : List ℕ) (P : List ℕ → Type 0) → OfFitting fs P → (line : List ℕ) → has_form fs line ≡ true → P line
unfolding has_form
by_form [] P each [] e = each
by_form [] P each (b ∷ line) e = impossible (cc)
by_form (f ∷ fs) P each [] e = impossible (cc)
by_form (f ∷ fs) P each (b ∷ line) e =
    let (fits, others) = (and-eq-true_iff (fits_place f b) (has_form fs line)).0 e in
    by_form fs (λ l. P (b ∷ l)) (each b fits) line others

-- ---- the fields of what is in range
-- no month has more than 31 days
longest_month : (february leap thirty : Bool) → cond february (cond leap 29 28) (cond thirty 30 31) ≤ 31
longest_month true true thirty = omega arith
longest_month true false thirty = omega arith
longest_month false leap true = omega arith
longest_month false leap false = omega arith

-- what is in range has fields of four digits and of two
record Fits (n : Notice) : Type 0 where
  year : n.date.year < 10000
  month : n.date.month < 100
  day : n.date.day < 100
  hour : n.hour < 100
  minute : n.minute < 100

in_range_fits : (n : Notice) → in_range n ≡ true → Fits n
unfolding in_range days_in_month
in_range_fits n e =
    let y = n.date.year in
    let m = n.date.month in
    let d = n.date.day in
    let years = leb 2000 y && leb y 2099 in
    let months = leb 1 m && leb m 12 in
    let (hours, minute) = (and-eq-true_iff (years && exists n.date && leb n.hour 23) (leb n.minute 59)).0 e in
    let (dates, hour) = (and-eq-true_iff (years && exists n.date) (leb n.hour 23)).0 hours in
    let (year, date) = (and-eq-true_iff years (exists n.date)).0 dates in
    let (first, day) = (and-eq-true_iff (months && leb 1 d) (leb d (days_in_month y m))).0 date in
    let month = ((and-eq-true_iff months (leb 1 d)).0 first).0 in
    let a = leb-true y 2099 ((and-eq-true_iff (leb 2000 y) (leb y 2099)).0 year).1 in
    let b = leb-true m 12 ((and-eq-true_iff (leb 1 m) (leb m 12)).0 month).1 in
    let c = leb-true d (days_in_month y m) day in
    let most = longest_month (eqb m 2) (is_leap y) (has_thirty_days m) in
    let h = leb-true n.hour 23 hour in
    let k = leb-true n.minute 59 minute in
    record { year = omega arith; month = omega arith; day = omega arith; hour = omega arith; minute = omega arith }

-- ---- the line of a notice has the form, and says it
line_has_form : (n : Notice) → has_form form (line_of n) ≡ true
unfolding line_of digits_of has_form
line_has_form n = simp (glyph_is_digit, letter_fits)

line_says : (n : Notice) → Fits n → notice_in (line_of n) ≡ n
unfolding notice_in line_of digits_of
line_says n f = λ i. record {
  date = record {
    year = digits-read_back 4 n.date.year f.year i;
    month = digits-read_back 2 n.date.month f.month i;
    day = digits-read_back 2 n.date.day f.day i;
  };
  hour = digits-read_back 2 n.hour f.hour i;
  minute = digits-read_back 2 n.minute f.minute i;
  high = letter_read n.high i;
}

-- ---- lines
-- Every date, time and letter in range has a line, which is read as them.
pub notices_have_lines : (n : Notice) → in_range n ≡ true → ReadAs (line_of n) n
unfolding is_line
notices_have_lines n e =
    let says = line_says n (in_range_fits n e) in
    record { read = ap₂ (λ s t. s && t) (line_has_form n) (ap in_range says ∙ e); says = says }

-- A line that is read is the line of what it says.
pub lines_are_their_notices : (line : List ℕ) → is_line line ≡ true → line ≡ line_of (notice_in line)
unfolding notice_in line_of
lines_are_their_notices line e =
    by_form form (λ l. l ≡ line_of (notice_in l))
    (λ y0 e0 y1 e1 y2 e2 y3 e3 s0 f0 m0 g0 m1 g1 s1 f1 d0 h0 d1 h1 s2 f2 k0 i0 k1 i1 s3 f3 n0 j0 n1 j1 s4 f4 c l z f5.
    rw (
      four_digits y0 y1 y2 y3 e0 e1 e2 e3,
      two_digits m0 m1 g0 g1,
      two_digits d0 d1 h0 h1,
      two_digits k0 k1 i0 i1,
      two_digits n0 n1 j0 j1,
      letter_written (eqb c high_letter) (eqb c low_letter) c refl refl l,
      eqb-true s0 45 f0,
      eqb-true s1 45 f1,
      eqb-true s2 44 f2,
      eqb-true s3 58 f3,
      eqb-true s4 44 f4,
      eqb-true z 10 f5,
    ) refl)
    line (line_formed line e)

-- What a line says is in range.
pub lines_say_what_is_in_range : (line : List ℕ) → is_line line ≡ true → in_range (notice_in line) ≡ true
unfolding is_line
lines_say_what_is_in_range line e = ((and-eq-true_iff (has_form form line) (in_range (notice_in line))).0 e).1

-- No two different lines say the same.
pub different_lines_say_different_things : (a b : List ℕ) → is_line a ≡ true → is_line b ≡ true → notice_in a ≡ notice_in b → a ≡ b
different_lines_say_different_things a b e f same =
    lines_are_their_notices a e ∙ ap line_of same ∙ sym (lines_are_their_notices b f)

-- ---- files
-- ---- a line in front of a file is its first line
pub line_then_file : (line file : List ℕ) → is_line line ≡ true → lines_in (line ++ file) ≡ line ∷ lines_in file
line_then_file line file e =
    let long = line_length line e in
    let front = take_at line file 19 long in
    let rest = drop_at line file 19 long in
    line_in_front (line ++ file) (ap is_line front ∙ e) ∙ ap₂ (λ l m. l ∷ lines_in m) front rest

lines_make_a_file : (lines : List (List ℕ)) → all_lines lines ≡ true → IsFileOf (flatten lines) (map notice_in lines)
unfolding all_in_range all_lines flatten
lines_make_a_file [] e = record { ranged = refl; bytes = refl }
lines_make_a_file (line ∷ lines) e =
    let (first, others) = (and-eq-true_iff (is_line line) (all_lines lines)).0 e in
    let file = lines_make_a_file lines others in
    record {
      ranged = ap₂ (λ s t. s && t) (lines_say_what_is_in_range line first) file.ranged;
      bytes = ap₂ (λ a b. a ++ b) (lines_are_their_notices line first) file.bytes;
    }

-- A file that is read is the file of what it says, which is in range.
pub files_are_their_notices : (file : List ℕ) → all_lines (lines_in file) ≡ true → IsFileOf file (notices_in file)
files_are_their_notices file e =
    subst (λ (f : List ℕ). IsFileOf f (notices_in file)) (lines_make_the_file file) (lines_make_a_file (lines_in file) e)
