-- 19 bytes are a line that is read exactly if they pass the code's tests, and then they say what the code counts.
use Rattle.std.specs.Prelude.{Option, Some, None}
use Prim.Native.Nat.{ℕ, zero, suc, ◌+◌, ◌-◌, ◌/◌, ◌%◌, ◌≤◌, ◌<◌}
use native.Mathlib.Omega.{arith}
use mathlib.Core.Path.{◌≡◌, refl, sym, ap, subst, ◌∙◌}
use mathlib.Core.Bool.{Bool, true, false, cond, ◌||◌, and-eq-true_iff}
use mathlib.Core.List.{List, [], ◌∷◌}
use borrow.Author.Tests.{eqb-true, eq-eqb}
use lib.Dec.{eqb}
use lib.ListN.{length, get_or, take, drop}
use lib.Seq.{drop-cons, take_all}
use Rattle.gray_theory.specs.Bools.{impossible}
use Rattle.text_theory.specs.Ascii.{ascii}
use Rattle.text_theory.specs.Decimals.{glyph, is_digit}
use Rattle.tides_theory.specs.Lines.{high_letter, low_letter, Notice, notice_in, in_range, is_line, digits_of, line_of}
use Rattle.tides_theory.specs.Windows.{tide_of}
use Rattle.tides_theory.proofs.FieldDigits.{glyph_is_digit}
use Rattle.tides_theory.proofs.Exact.{notices_have_lines, lines_are_their_notices, lines_say_what_is_in_range}
use Rattle.tides.specs.declared.line.Water.{Water}
use Rattle.tides.specs.declared.line.Tide.{Tide}
use Rattle.tides.specs.declared.line.Fields.{Fields}
use Rattle.tides.specs.Stages.{date_marks, time_marks, date_ones, time_ones, is_letter, pair_of, fields_of}
use Rattle.tides.specs.Stages.{date_ranged, time_ranged, minute_in, dated, day_of, Right, tide_in, letter_of, water, water_of, says, line_as}
use Rattle.tides.proofs.line.Answered.{all_three, all_pass}
use Rattle.tides.proofs.line.Ranges.{time_ranged_says}
use Rattle.tides.proofs.line.Notices.{InRange, in_range_says, day_bound, notice_of, ranged_in_range, in_range_ranged}
use Rattle.tides.proofs.line.Dates.{Paired, paired, date-says}

-- ---- the bytes of a line
-- k of them, the first of them byte i. At 0 and 19 it computes to `line_bytes`
bytes_from : List ℕ → ℕ → ℕ → List ℕ
bytes_from line i zero = []
bytes_from line i (suc k) = get_or line i 0 ∷ bytes_from line (suc i) k

taken : (line : List ℕ) (i k : ℕ) → i + k ≤ length line → take k (drop i line) ≡ bytes_from line i k
unfolding bytes_from
taken line i zero h = refl
taken line i (suc k) h =
    rw (drop-cons line i 0 (omega arith))
    (ap (λ l. get_or line i 0 ∷ l) (taken line (suc i) k (omega arith)))

abbrev line_bytes : List ℕ → List ℕ
line_bytes line =
    get_or line 0 0 ∷ get_or line 1 0 ∷ get_or line 2 0 ∷ get_or line 3 0 ∷ get_or line 4 0 ∷ get_or line 5 0 ∷ get_or line 6 0
    ∷ get_or line 7 0 ∷ get_or line 8 0 ∷ get_or line 9 0 ∷ get_or line 10 0 ∷ get_or line 11 0 ∷ get_or line 12 0
    ∷ get_or line 13 0 ∷ get_or line 14 0 ∷ get_or line 15 0 ∷ get_or line 16 0 ∷ get_or line 17 0 ∷ get_or line 18 0 ∷ []

line_bytes_lem : (line : List ℕ) → length line ≡ 19 → line ≡ line_bytes line
unfolding bytes_from
line_bytes_lem line h = sym (take_all 19 line (omega arith)) ∙ taken line 0 19 (omega arith)

-- ---- digits
-- two digits of a number below 100, and the last two of a year
two_read : (v : ℕ) → v < 100 → pair_of (glyph (v / 10 % 10)) (glyph (v / 1 % 10)) - 528 ≡ v
two_read v h = omega arith

four_read : (y : ℕ) → 2000 ≤ y → y ≤ 2099 → 2000 + (pair_of (glyph (y / 10 % 10)) (glyph (y / 1 % 10)) - 528) ≡ y
four_read y from to = omega arith

-- and from the two bytes of a number back
two_written : (a b : ℕ) → Paired a b → digits_of 2 (pair_of a b - 528) ≡ a ∷ b ∷ []
unfolding digits_of
two_written a b p =
    let tens : glyph ((pair_of a b - 528) / 10 % 10) ≡ a = omega arith in
    let ones : glyph ((pair_of a b - 528) / 1 % 10) ≡ b = omega arith in
    rw (tens, ones) refl

four_written : (a b : ℕ) → Paired a b → digits_of 4 (2000 + (pair_of a b - 528)) ≡ 50 ∷ 48 ∷ a ∷ b ∷ []
unfolding digits_of
four_written a b p =
    let y = 2000 + (pair_of a b - 528) in
    let thousands : glyph (y / 1000 % 10) ≡ 50 = omega arith in
    let hundreds : glyph (y / 100 % 10) ≡ 48 = omega arith in
    let tens : glyph (y / 10 % 10) ≡ a = omega arith in
    let ones : glyph (y / 1 % 10) ≡ b = omega arith in
    rw (thousands, hundreds, tens, ones) refl

-- ---- the letter
-- it is that of what is read from it, it is written as itself, and it fits its place
letter_is : (l : ℕ) → is_letter l ≡ true → letter_of (eqb l high_letter) ≡ l
letter_is l some = go (eqb l high_letter) (eqb l low_letter) refl refl some
  where
    go : (high low : Bool) → eqb l high_letter ≡ high → eqb l low_letter ≡ low → (high || low) ≡ true → letter_of high ≡ l
    go true low e f some = sym (eqb-true l high_letter e)
    go false true e f some = sym (eqb-true l low_letter f)
    go false false e f some = impossible (cc)

letter_written : (high : Bool) → cond high (ascii "H") (ascii "L") ≡ letter_of high ∷ []
letter_written true = refl
letter_written false = refl

letter_fits : (high : Bool) → is_letter (letter_of high) ≡ true
letter_fits true = refl
letter_fits false = refl

-- what it says
pub no_water : (l : ℕ) → water_of l ≡ None → is_letter l ≡ false
unfolding water_of
no_water l e = by (is_letter l) e
  where
    by : (t : Bool) → cond t (Some (water (eqb l high_letter))) None ≡ None → t ≡ false
    by true f = impossible (cc)
    by false f = refl

pub water_read : (l : ℕ) (w : Water) → water_of l ≡ Some w → (is_letter l ≡ true) × (w ≡ water (eqb l high_letter))
unfolding water_of
water_read l w e = by (is_letter l) refl e
  where
    by : (t : Bool) → is_letter l ≡ t → cond t (Some (water (eqb l high_letter))) None ≡ Some w
        → (is_letter l ≡ true) × (w ≡ water (eqb l high_letter))
    by true is f = (is, cc)
    by false is f = impossible (cc)

-- ---- a line that is read passes the tests
-- the code's tests
pub record Passes (line : List ℕ) : Type 0 where
  pub date : dated line ≡ true
  pub marked : time_marks line ≡ true
  pub digits : time_ones line ≡ true
  pub letter : is_letter (get_or line 17 0) ≡ true
  pub range : time_ranged (fields_of line) ≡ true

-- the numbers of the line of a notice say the notice
numbers_say : (n : Notice) → InRange n → notice_of (fields_of (line_of n)) n.high ≡ n
unfolding line_of digits_of
numbers_say n r =
    let d = n.date in
    λ i. record {
      date = record {
        year = four_read d.year r.from r.to i;
        month = two_read d.month (omega arith) i;
        day = two_read d.day (omega (arith, day_bound n r)) i;
      };
      hour = two_read n.hour (omega arith) i;
      minute = two_read n.minute (omega arith) i;
      high = n.high;
    }

-- so the line of a notice in range passes the tests, and with it any line that is read: it is that of what it says
written_ranged : (n : Notice) → in_range n ≡ true
    → (date_ranged (fields_of (line_of n)) ≡ true) × (time_ranged (fields_of (line_of n)) ≡ true)
unfolding line_of digits_of
written_ranged n e =
    in_range_ranged (fields_of (line_of n)) n.high
    (record { years = omega arith; month = omega arith; day = omega arith; hour = omega arith; minute = omega arith })
    (ap in_range (numbers_say n (in_range_says n e)) ∙ e)

written_passes : (n : Notice) → in_range n ≡ true → Passes (line_of n)
unfolding line_of digits_of
written_passes n e =
    let r = in_range_says n e in
    let y = n.date.year in
    let (date, time) = written_ranged n e in
    record {
      date =
          all_pass (date_marks (line_of n)) (date_ones (line_of n)) (date_ranged (fields_of (line_of n)))
          (rw (eq-eqb (glyph (y / 1000 % 10)) 50 (omega arith), eq-eqb (glyph (y / 100 % 10)) 48 (omega arith)) refl)
          (simp glyph_is_digit)
          date;
      marked = rw (letter_written n.high) refl;
      digits = simp glyph_is_digit;
      letter = rw (letter_written n.high) (letter_fits n.high);
      range = time;
    }

read_passes : (line : List ℕ) → is_line line ≡ true → Passes line
read_passes line e =
    subst Passes (sym (lines_are_their_notices line e)) (written_passes (notice_in line) (lines_say_what_is_in_range line e))

-- and its minute is the one that the code counts
minute_of_lem : (f : Fields) (high : Bool) → minute_in f ≡ (tide_of (notice_of f high)).at
minute_of_lem f high = omega arith

minute_said : (line : List ℕ) → is_line line ≡ true → minute_in (fields_of line) ≡ (tide_in line).at
minute_said line e =
    let n = notice_in line in
    let f = fields_of (line_of n) in
    ap (λ l. minute_in (fields_of l)) (lines_are_their_notices line e)
    ∙ minute_of_lem f n.high
    ∙ ap (λ m. (tide_of m).at) (numbers_say n (in_range_says n (lines_say_what_is_in_range line e)))

-- its letter is that of what it says
pub line_letter : (line : List ℕ) → is_line line ≡ true → letter_of (notice_in line).high ≡ get_or line 17 0
unfolding notice_in
line_letter line e = letter_is (get_or line 17 0) (read_passes line e).letter

-- and its day is right
pub day_right : (line : List ℕ) → is_line line ≡ true → Right (day_of line)
day_right line e = record { line = line; read = (read_passes line e).date; is = refl }

-- ---- and what passes the tests is a line that is read
-- 19 bytes that pass are those of the notice of their numbers
line_written : (line : List ℕ) → line ≡ line_bytes line → Passes line
    → line ≡ line_of (notice_of (fields_of line) (eqb (get_or line 17 0) high_letter))
unfolding line_of
line_written line whole p =
    let b : ℕ → ℕ = λ i. get_or line i 0 in
    let d = date-says line p.date in
    let t = time_ranged_says (fields_of line) p.range in
    let (e13, e16, e18) = all_three (eqb (b 13) 58) (eqb (b 16) 44) (eqb (b 18) 10) p.marked in
    let (d12, d15) = (and-eq-true_iff (is_digit (b 12)) (is_digit (b 15))).0 p.digits in
    whole
    ∙ rw (
      four_written (b 2) (b 3) d.years,
      two_written (b 5) (b 6) d.month,
      two_written (b 8) (b 9) d.day,
      two_written (b 11) (b 12) (paired (b 11) (b 12) 0 23 d12 t.hour (omega arith)),
      two_written (b 14) (b 15) (paired (b 14) (b 15) 0 59 d15 t.minute (omega arith)),
      letter_written (eqb (b 17) high_letter),
      letter_is (b 17) p.letter,
      d.is0,
      d.is1,
      d.is4,
      d.is7,
      d.is10,
      eqb-true (b 13) 58 e13,
      eqb-true (b 16) 44 e16,
      eqb-true (b 18) 10 e18,
    )

-- what is answered, by whether it is one
abbrev pub answer : List ℕ → Bool → Option Tide
answer line is = cond is (Some (says line)) None

-- what the code makes of its numbers and its letter
abbrev pub coded : List ℕ → Tide
coded line = record { minute = minute_in (fields_of line); water = water (eqb (get_or line 17 0) high_letter); day = day_of line }

pub line_read_lem : (line : List ℕ) → length line ≡ 19 → Passes line → Some (coded line) ≡ line_as line
unfolding line_as
line_read_lem line long p =
    let f = fields_of line in
    let l = get_or line 17 0 in
    let same = line_written line (line_bytes_lem line long) p in
    let high = eqb l high_letter in
    let d = date-says line p.date in
    let r = notices_have_lines (notice_of f high) (ranged_in_range f high d.ranged (time_ranged_says f p.range)) in
    sym (
    ap (answer line) (ap is_line same ∙ r.read)
    ∙ ap (λ m. Some (record { minute = (tide_of m).at; water = water (tide_of m).high; day = day_of line })) (ap notice_in same ∙ r.says)
    ∙ ap (λ m. Some (record { minute = m; water = water high; day = day_of line })) (sym (minute_of_lem f high))
    )

-- and where a test fails that each line passes
pub line_unread : (line : List ℕ) (test : Bool) → (Passes line → test ≡ true) → test ≡ false → None ≡ line_as line
unfolding line_as
line_unread line test needed fails = by (is_line line) refl
  where
    by : (is : Bool) → is_line line ≡ is → None ≡ answer line (is_line line)
    by true e = let passes = needed (read_passes line e) in impossible (cc)
    by false e = sym (ap (answer line) e)

-- ---- of a line that has been read before
module _ (line : List ℕ) (e : is_line line ≡ true) where
  pub line_ranged : (date_ranged (fields_of line) ≡ true) × (time_ranged (fields_of line) ≡ true)
  line_ranged =
      let p = read_passes line e in
      ((all_three (date_marks line) (date_ones line) (date_ranged (fields_of line)) p.date).2, p.range)

  pub line_minute : minute_in (fields_of line) ≡ (tide_in line).at
  line_minute = minute_said line e
