-- A file read 19 bytes at a time: what the proofs of the code cite.
use Rattle.std.specs.Prelude.{ℕ, suc, ◌<◌, ◌≡◌, refl, Bool, true, false, cond, ◌&&◌, not, eqb, length, take, drop}
use Rattle.std.proofs.Common.{arith, ap, ◌∙◌, eqb-true, take_at}
use Rattle.std.proofs.Math.Bool.{and-eq-true_iff}
use mathlib.Core.List.{List, [], ◌∷◌, ◌++◌, flatten}
use Rattle.std.proofs.lemmas.Bool.{not-true}
use Rattle.gray_theory.specs.Bools.{impossible}
use Rattle.text_theory.specs.Ascii.{ascii}
use Rattle.text_theory.specs.Surveys.{newline, joined_to}
use Rattle.tides_theory.specs.Lines.{lines_in, form, fits_place, has_form, notice_in, in_range, is_line, all_lines}

-- what has a form is as long as the form
form-length : (fs line : List ℕ) → has_form fs line ≡ true → length line ≡ length fs
unfolding has_form
form-length [] [] e = refl
form-length [] (b ∷ line) e = impossible (cc)
form-length (f ∷ fs) [] e = impossible (cc)
form-length (f ∷ fs) (b ∷ line) e =
    ap suc (form-length fs line ((and-eq-true_iff (fits_place f b) (has_form fs line)).0 e).1)

pub line_formed : (line : List ℕ) → is_line line ≡ true → has_form form line ≡ true
unfolding is_line
line_formed line e = ((and-eq-true_iff (has_form form line) (in_range (notice_in line))).0 e).0

pub line_length : (line : List ℕ) → is_line line ≡ true → length line ≡ 19
line_length line e = form-length form line (line_formed line e)

-- ---- a line in front
-- the first line ends at the first newline
at_newline : (b : ℕ) (file : List ℕ) → eqb b newline ≡ true → lines_in (b ∷ file) ≡ (b ∷ []) ∷ lines_in file
unfolding lines_in
at_newline b file e = ap (λ t. cond t ((b ∷ []) ∷ lines_in file) (joined_to b (lines_in file))) e

before_newline : (b : ℕ) (file line : List ℕ) (others : List (List ℕ)) → eqb b newline ≡ false → lines_in file ≡ line ∷ others
    → lines_in (b ∷ file) ≡ (b ∷ line) ∷ others
unfolding lines_in
before_newline b file line others e behind =
    ap (λ t. cond t ((b ∷ []) ∷ lines_in file) (joined_to b (lines_in file))) e ∙ ap (joined_to b) behind

-- no newline fits any of these places
without_newline : List ℕ → Bool
without_newline [] = true
without_newline (f ∷ fs) = not (fits_place f newline) && without_newline fs

fits_no_newline : (is : Bool) (f b : ℕ) → eqb b newline ≡ is → fits_place f newline ≡ false → fits_place f b ≡ true → is ≡ false
fits_no_newline true f b e none fits = let same = ap (fits_place f) (eqb-true b newline e) in impossible (cc)
fits_no_newline false f b e none fits = refl

-- bytes that have a form with its only newline at the end are the first line
form_in_front : (fs file : List ℕ) → without_newline fs ≡ true
    → has_form (fs ++ (newline ∷ [])) (take (suc (length fs)) file) ≡ true
    → lines_in file ≡ take (suc (length fs)) file ∷ lines_in (drop (suc (length fs)) file)
unfolding has_form without_newline
form_in_front [] [] none e = impossible (cc)
form_in_front [] (b ∷ file) none e = at_newline b file ((and-eq-true_iff (eqb b newline) true).0 e).0
form_in_front (f ∷ fs) [] none e = impossible (cc)
form_in_front (f ∷ fs) (b ∷ file) none e =
    let n = suc (length fs) in
    let (here, there) = (and-eq-true_iff (not (fits_place f newline)) (without_newline fs)).0 none in
    let (fits, others) = (and-eq-true_iff (fits_place f b) (has_form (fs ++ (newline ∷ [])) (take n file))).0 e in
    before_newline b file (take n file) (lines_in (drop n file))
    (fits_no_newline (eqb b newline) f b refl (not-true (fits_place f newline) here) fits)
    (form_in_front fs file there others)

-- 19 bytes that are a line are the first line
pub line_in_front : (file : List ℕ) → is_line (take 19 file) ≡ true → lines_in file ≡ take 19 file ∷ lines_in (drop 19 file)
unfolding without_newline
line_in_front file e = form_in_front (ascii "0000-00-00,00:00,H") file refl (line_formed (take 19 file) e)

-- ---- no line in front
-- the lines of a file, one after another, are the file
byte_in_front : (ends : Bool) (b : ℕ) (lines : List (List ℕ))
    → flatten (cond ends ((b ∷ []) ∷ lines) (joined_to b lines)) ≡ b ∷ flatten lines
unfolding flatten
byte_in_front true b lines = refl
byte_in_front false b [] = refl
byte_in_front false b (line ∷ others) = refl

pub lines_make_the_file : (file : List ℕ) → flatten (lines_in file) ≡ file
unfolding lines_in flatten
lines_make_the_file [] = refl
lines_make_the_file (b ∷ file) = byte_in_front (eqb b newline) b (lines_in file) ∙ ap (λ l. b ∷ l) (lines_make_the_file file)

-- so if the first of its lines is one, it is the first 19 bytes
first_is_in_front : (all : Bool) (file : List ℕ) (lines : List (List ℕ)) → flatten lines ≡ file → 0 < length file
    → is_line (take 19 file) ≡ false
    → all_lines lines ≡ all
    → all ≡ false
unfolding flatten all_lines
first_is_in_front false file lines whole some e a = refl
first_is_in_front true file [] whole some e a = let none = ap length whole in absurd (omega arith)
first_is_in_front true file (line ∷ others) whole some e a =
    let first = ((and-eq-true_iff (is_line line) (all_lines others)).0 a).0 in
    let same = ap (take 19) whole in
    let front = take_at line (flatten others) 19 (line_length line first) in
    impossible (cc)

-- and where they are none, the first line is none either
pub no_line_in_front : (file : List ℕ) → 0 < length file → is_line (take 19 file) ≡ false → all_lines (lines_in file) ≡ false
no_line_in_front file some e =
    first_is_in_front (all_lines (lines_in file)) file (lines_in file) (lines_make_the_file file) some e refl
