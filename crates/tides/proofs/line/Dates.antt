-- The date of a line: what its bytes are where it is read, and that it is known by its two numbers.
use Rattle.std.specs.Prelude.{Some, None}
use Prim.Native.Nat.{ℕ, ◌-◌, ◌≤◌, ◌<◌}
use native.Mathlib.Omega.{arith}
use mathlib.Core.Path.{◌≡◌, refl, ap, ◌∙◌}
use mathlib.Core.Bool.{Bool, true, false, cond, and-eq-true_iff}
use mathlib.Core.List.{List}
use borrow.Author.Tests.{leb-true, eqb-true}
use lib.Dec.{eqb, leb}
use lib.ListN.{get_or}
use Rattle.gray_theory.specs.Bools.{impossible}
use Rattle.text_theory.specs.Ascii.{ascii}
use Rattle.text_theory.specs.Decimals.{is_digit}
use Rattle.tides_theory.specs.Calendar.{days_of_years, days_of_months}
use Rattle.tides.specs.declared.line.Day.{Day}
use Rattle.tides.specs.Stages.{date_marks, date_ones, pair_of, fields_of, leap_day, length_of, date_ranged, start_in}
use Rattle.tides.specs.Stages.{word_of, dated, day_of, day_as, Right, has_numbers, first_known}
use Rattle.tides.proofs.line.Answered.{all_three, all_five}
use Rattle.tides.proofs.line.Ranges.{Among, DateRanged, date_ranged_says}
use Rattle.tides.proofs.line.Words.{Bytes, none, one, eight_at, word_tells}

-- ---- what a date that is read says
-- two bytes that are a number: where the last is a digit, the first is one too
pub record Paired (a b : ℕ) : Type 0 where
  pub first : 48 ≤ b
  pub last : b ≤ 57
  pub from : 528 ≤ pair_of a b
  pub to : pair_of a b ≤ 627

pub paired : (a b first last : ℕ) → is_digit b ≡ true → Among (pair_of a b) first last → last ≤ 99 → Paired a b
paired a b first last e r h =
    let (from, to) = (and-eq-true_iff (leb 48 b) (leb b 57)).0 e in
    record { first = leb-true 48 b from; last = leb-true b 57 to; from = omega arith; to = omega arith }

-- its bytes
pub record DateSays (line : List ℕ) : Type 0 where
  pub is0 : get_or line 0 0 ≡ 50
  pub is1 : get_or line 1 0 ≡ 48
  pub is4 : get_or line 4 0 ≡ 45
  pub is7 : get_or line 7 0 ≡ 45
  pub is10 : get_or line 10 0 ≡ 44
  pub years : Paired (get_or line 2 0) (get_or line 3 0)
  pub month : Paired (get_or line 5 0) (get_or line 6 0)
  pub day : Paired (get_or line 8 0) (get_or line 9 0)
  pub ranged : DateRanged (fields_of line)

pub date-says : (line : List ℕ) → dated line ≡ true → DateSays line
date-says line e =
    let b : ℕ → ℕ = λ i. get_or line i 0 in
    let f = fields_of line in
    let (marks, ones, range) = all_three (date_marks line) (date_ones line) (date_ranged f) e in
    let (e0, e1, e4, e7, e10) = all_five (eqb (b 0) 50) (eqb (b 1) 48) (eqb (b 4) 45) (eqb (b 7) 45) (eqb (b 10) 44) marks in
    let (d3, d6, d9) = all_three (is_digit (b 3)) (is_digit (b 6)) (is_digit (b 9)) ones in
    let r = date_ranged_says f range in
    record {
      is0 = eqb-true (b 0) 50 e0;
      is1 = eqb-true (b 1) 48 e1;
      is4 = eqb-true (b 4) 45 e4;
      is7 = eqb-true (b 7) 45 e7;
      is10 = eqb-true (b 10) 44 e10;
      years = paired (b 2) (b 3) 0 99 d3 r.years (omega arith);
      month = paired (b 5) (b 6) 1 12 d6 r.month (omega arith);
      day = paired (b 8) (b 9) 1 (length_of (f.years - 528) (f.month - 528)) d9 r.day (omega arith);
      ranged = r;
    }

-- ---- the bytes of a date by its two numbers
record Small (line : List ℕ) : Type 0 where
  byte0 : get_or line 0 0 < 256
  byte1 : get_or line 1 0 < 256
  byte2 : get_or line 2 0 < 256
  byte3 : get_or line 3 0 < 256
  byte4 : get_or line 4 0 < 256
  byte5 : get_or line 5 0 < 256
  byte6 : get_or line 6 0 < 256
  byte7 : get_or line 7 0 < 256
  byte8 : get_or line 8 0 < 256
  byte9 : get_or line 9 0 < 256
  byte10 : get_or line 10 0 < 256

head_bytes : (line : List ℕ) → Small line → Bytes (eight_at line 0)
head_bytes line s =
    one s.byte0 (one s.byte1 (one s.byte2 (one s.byte3
    (one s.byte4 (one s.byte5 (one s.byte6 (one s.byte7 none)))))))

tail_bytes : (line : List ℕ) → Small line → Bytes (eight_at line 3)
tail_bytes line s =
    one s.byte3 (one s.byte4 (one s.byte5 (one s.byte6
    (one s.byte7 (one s.byte8 (one s.byte9 (one s.byte10 none)))))))

-- they are small where it is read, and in a line of bytes
date_small : (line : List ℕ) → DateSays line → Small line
date_small line s = record {
  byte0 = omega arith;
  byte1 = omega arith;
  byte2 = omega arith;
  byte3 = omega arith;
  byte4 = omega arith;
  byte5 = omega arith;
  byte6 = omega arith;
  byte7 = omega arith;
  byte8 = omega arith;
  byte9 = omega arith;
  byte10 = omega arith;
}

bytes_small : (line : List ℕ) → ((i : ℕ) → get_or line i 0 < 256) → Small line
bytes_small line below = record {
  byte0 = below 0;
  byte1 = below 1;
  byte2 = below 2;
  byte3 = below 3;
  byte4 = below 4;
  byte5 = below 5;
  byte6 = below 6;
  byte7 = below 7;
  byte8 = below 8;
  byte9 = below 9;
  byte10 = below 10;
}

-- what has the bytes of a date has its date
same_date : (a b : List ℕ) → eight_at a 0 ≡ eight_at b 0 → eight_at a 3 ≡ eight_at b 3
    → (dated a ≡ dated b) × (start_in (fields_of a) ≡ start_in (fields_of b))
unfolding date_ranged
same_date a b head tail = (cc, cc)

-- ---- the day of a line
pub undated : (line : List ℕ) → dated line ≡ false → None ≡ day_as line
unfolding day_as
undated line e = rw e refl

pub dated_as : (line : List ℕ) (day : Day) → dated line ≡ true → day ≡ day_of line → Some day ≡ day_as line
unfolding day_as
dated_as line day e is = rw e (ap (λ (d : Day). Some d) is)

-- and back
pub no_day : (line : List ℕ) → day_as line ≡ None → dated line ≡ false
unfolding day_as
no_day line e = by (dated line) e
  where
    by : (t : Bool) → cond t (Some (day_of line)) None ≡ None → t ≡ false
    by true f = impossible (cc)
    by false f = refl

pub record DayRead (line : List ℕ) (day : Day) : Type 0 where
  pub read : dated line ≡ true
  pub is : day ≡ day_of line

pub day_read : (line : List ℕ) (day : Day) → day_as line ≡ Some day → DayRead line day
unfolding day_as
day_read line day e = by (dated line) refl e
  where
    by : (t : Bool) → dated line ≡ t → cond t (Some (day_of line)) None ≡ Some day → DayRead line day
    by true is f = record { read = is; is = cc }
    by false is f = impossible (cc)

-- one with the numbers of a day that is right is that day
pub known_day : (line : List ℕ) (day : Day) → ((i : ℕ) → get_or line i 0 < 256) → Right day → has_numbers line day ≡ true
    → Some day ≡ day_as line
known_day line day below r e =
    let a = r.line in
    let (h, t) = (and-eq-true_iff (eqb (word_of line 0) day.head) (eqb (word_of line 3) day.tail)).0 e in
    let heads : word_of line 0 ≡ word_of a 0 = eqb-true _ _ h ∙ ap (λ d. d.head) r.is in
    let tails : word_of line 3 ≡ word_of a 3 = eqb-true _ _ t ∙ ap (λ d. d.tail) r.is in
    let here = bytes_small line below in
    let there = date_small a (date-says a r.read) in
    let (same, start) =
    same_date line a
    (word_tells line a 0 (head_bytes line here) (head_bytes a there) heads)
    (word_tells line a 3 (tail_bytes line here) (tail_bytes a there) tails) in
    dated_as line day (same ∙ r.read) (cc)

-- ---- days that are right
pub first_right : Right first_known
unfolding date_ranged length_of leap_day days_of_years days_of_months
first_right = record { line = ascii "2000-01-01,"; read = refl; is = refl }
