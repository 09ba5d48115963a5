-- A file that is accepted has fewer windows than a century has minutes, since times rise: a caller can tell their number from a
-- refusal.
use Rattle.std.specs.Prelude.{ℕ, ◌+◌, ◌≤◌, ◌<◌, ◌≡◌, Bool, true, false, cond, ◌&&◌, not, List, [], ◌∷◌, map, length}
use Rattle.std.proofs.Common.{arith, ◌∙◌}
use Rattle.std.proofs.Math.Bool.{and-eq-true_iff}
use Rattle.std.proofs.lemmas.List.{length-map}
use Rattle.tides_theory.specs.Lines.{lines_in, notice_in, is_line, all_lines, notices_in}
use Rattle.tides_theory.specs.Windows.{Tide, tide_of, in_order, window_of, windows}
use Rattle.tides_theory.specs.Calls.{tides_in, windows_in, Accepted}
use Rattle.tides_theory.proofs.Exact.{lines_say_what_is_in_range}
use Rattle.tides_theory.proofs.Apart.{ordered}
use Rattle.tides_theory.proofs.QuickDays.{minutes_of_a_century}

-- a line says a minute of the century
pub minute_of_a_line : (line : List ℕ) → is_line line ≡ true → (tide_of (notice_in line)).at < 52596000
minute_of_a_line line is = minutes_of_a_century (notice_in line) (lines_say_what_is_in_range line is)

-- each tide opens one window at the most
at_most : (ts : List Tide) → length (windows ts) ≤ length ts
unfolding windows
at_most [] = omega arith
at_most (a ∷ []) = omega arith
at_most (a ∷ b ∷ ts) = by (a.high && not b.high) (at_most (b ∷ ts))
  where
    by : (t : Bool) → length (windows (b ∷ ts)) ≤ length (b ∷ ts)
        → length (cond t (window_of a b ∷ windows (b ∷ ts)) (windows (b ∷ ts))) ≤ length (a ∷ b ∷ ts)
    by true h = omega arith
    by false h = omega arith

-- each line is a minute later at least
rising : (l : List ℕ) (ls : List (List ℕ)) → all_lines (l ∷ ls) ≡ true → in_order (map tide_of (map notice_in (l ∷ ls))) ≡ true
    → (tide_of (notice_in l)).at + length ls < 52596000
unfolding all_lines
rising l [] read order =
    let bound = minute_of_a_line l ((and-eq-true_iff (is_line l) true).0 read).0 in omega arith
rising l (m ∷ ls) read order =
    let o = ordered (tide_of (notice_in l)) (tide_of (notice_in m)) (map tide_of (map notice_in ls)) order in
    let later = o.rises in
    let rest = rising m ls ((and-eq-true_iff (is_line l) (all_lines (m ∷ ls))).0 read).1 o.others in
    omega arith

few_lines : (ls : List (List ℕ)) → all_lines ls ≡ true → in_order (map tide_of (map notice_in ls)) ≡ true → length ls ≤ 52596000
few_lines [] read order = omega arith
few_lines (l ∷ ls) read order = let h = rising l ls read order in omega arith

pub windows_are_few : (file : List ℕ) → Accepted file → length (windows_in file) ≤ 52596000
windows_are_few file a =
    let fewer = at_most (tides_in file) in
    let lines = few_lines (lines_in file) a.read a.ordered in
    let same : length (tides_in file) ≡ length (lines_in file) = length-map (notices_in file) tide_of ∙ length-map (lines_in file) notice_in in
    omega arith
