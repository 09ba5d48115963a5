-- How long the lines of a walk of at most 4,096 settings are: a rank or a notch has at most four digits, so that no line has
-- more than 254 bytes.
use Rattle.std.specs.Prelude.{ℕ, ◌*◌, ◌≤◌, ◌<◌, ◌≡◌, Bool, true, false, List, [], ◌∷◌, ◌++◌, ltb, leb, length}
use Rattle.std.proofs.Common.{arith, le-mul_of_pos_right, mul-le-mul_right, ltb-true, leb-true, length-append}
use Rattle.std.proofs.Math.Bool.{and-eq-true_iff}
use Rattle.gray_theory.specs.Radices.{size, all_from}
use Rattle.gray_theory.specs.Words.{is_word}
use Rattle.gray_theory.specs.Bools.{impossible}
use Rattle.gray_theory.proofs.Sizes.{size_pos}
use Rattle.text_theory.specs.Decimals.{decimal}
use Rattle.text_theory.specs.Lines.{point_after, setting_text, direction_text, line_text}
use Rattle.text_theory.proofs.Numerals.{decimal-length}
use Rattle.text_theory.specs.declared.Line.{Line}
use Rattle.text_theory.specs.declared.Line.TheVariants.{Unread, Refused, Long, Sizes, Start, Moved, End}

-- ---- a setting
point_length : (slower : List ℕ) → length (point_after slower) ≤ 1
point_length [] = omega arith
point_length (b ∷ slower) = omega arith

-- each digit has at most four numerals and a point
pub setting-length : (ms word : List ℕ) → is_word ms word ≡ true → all_from 1 ms ≡ true → size ms ≤ 4096
    → length (setting_text word) ≤ 5 * length word
unfolding is_word all_from size setting_text
setting-length [] [] w one most = omega arith
setting-length [] (a ∷ word) w one most = impossible (cc)
setting-length (m ∷ ms) [] w one most = impossible (cc)
setting-length (m ∷ ms) (a ∷ word) w one most =
    let (here, slower) = (and-eq-true_iff (ltb a m) (is_word ms word)).0 w in
    let (some, others) = (and-eq-true_iff (leb 1 m) (all_from 1 ms)).0 one in
    let pos = size_pos ms others in
    let below = ltb-true a m here in
    let from_one = leb-true 1 m some in
    let all : m ≤ m * size ms = le-mul_of_pos_right m pos in
    let rest : 1 * size ms ≤ m * size ms = mul-le-mul_right (size ms) from_one in
    let so_far = setting-length ms word slower others (omega arith) in
    let last = decimal-length 3 a (omega arith) in
    omega
    (arith, point_length word, length-append (setting_text word ++ point_after word) (decimal a), length-append (setting_text word) (point_after word))

-- ---- lines
direction_length : (down : Bool) → length (direction_text down) ≤ 4
direction_length true = omega arith
direction_length false = omega arith

pub refused_length : (k : ℕ) (word : List ℕ) → k < 10 → length (line_text (Refused k) word) ≤ 254
unfolding line_text
refused_length k word h =
    let number = decimal-length 0 k h in
    simp length-append (omega arith)

pub sizes_length : (n total : ℕ) (word : List ℕ) → n < 100 → total ≤ 4096 → length (line_text (Sizes n total) word) ≤ 254
unfolding line_text
sizes_length n total word few most =
    let first = decimal-length 1 n few in
    let second = decimal-length 3 total (omega arith) in
    simp length-append (omega arith)

pub end-length : (last : ℕ) (word : List ℕ) → last < 4096 → length (line_text (End last) word) ≤ 254
unfolding line_text
end-length last word most =
    let number = decimal-length 3 last (omega arith) in
    simp length-append (omega arith)

pub start_length_lem : (word : List ℕ) → length (setting_text word) ≤ 240 → length (line_text Start word) ≤ 254
unfolding line_text
start_length_lem word short =
    let number = decimal-length 0 0 (omega arith) in
    simp length-append (omega arith)

pub moved_length : (rank digit : ℕ) (down : Bool) (word : List ℕ) → rank < 4096 → digit < 100 → length (setting_text word) ≤ 240
    → length (line_text (Moved rank digit down) word) ≤ 254
unfolding line_text
moved_length rank digit down word most few short =
    let first = decimal-length 3 rank (omega arith) in
    let second = decimal-length 1 digit few in
    let third = direction_length down in
    simp length-append (omega arith)

-- a line has its newline at least
pub line_some : (line : Line) (word : List ℕ) → 0 < length (line_text line word)
unfolding line_text
line_some Unread word = omega arith
line_some (Refused k) word = simp length-append (omega arith)
line_some Long word = omega arith
line_some (Sizes n total) word = simp length-append (omega arith)
line_some Start word = simp length-append (omega arith)
line_some (Moved rank digit down) word = simp length-append (omega arith)
line_some (End last) word = simp length-append (omega arith)
