-- What the calls of `tides` answer: the refusals in their order, and then the value (document 02, request 1).
use Rattle.std.specs.Prelude.{ℕ, ◌≤◌, ◌≡◌, Bool, true, not, List, map, get_or}
use Rattle.gray_theory.specs.Answers.{Answer, given, refusing, fitting}
use Rattle.tides_theory.specs.Lines.{lines_in, all_lines, notices_in}
use Rattle.tides_theory.specs.Windows.{Tide, tide_of, in_order, Window, windows, window_at, any_allows, moves_that_fit}

-- the tides of a file, and its windows, in file order
abbrev pub tides_in : List ℕ → List Tide
tides_in file = map tide_of (notices_in file)

abbrev pub windows_in : List ℕ → List Window
windows_in file = windows (tides_in file)

-- refusal 12: a line that is not read; and then 13: times that do not rise or letters that do not alternate
abbrev pub unreadable : List ℕ → Bool
unreadable file = not (all_lines (lines_in file))

abbrev pub disordered : List ℕ → Bool
disordered file = not (in_order (tides_in file))

abbrev pub of_file : {A : Type 0} → List ℕ → Answer A → Answer A
of_file file rest = refusing 12 (unreadable file) (refusing 13 (disordered file) rest)

-- how many moves fit in each window, for a list with room for so many counts
unfoldable pub counts_call : List ℕ → ℕ → Answer (List ℕ)
counts_call file room = of_file file (fitting room (map moves_that_fit (windows_in file)))

-- whether a move may begin at a minute
unfoldable pub may_begin_call : List ℕ → ℕ → Answer Bool
may_begin_call file minute = of_file file (given (any_allows (windows_in file) minute))

-- ---- a file that is not refused by 12 or 13
pub record Accepted (file : List ℕ) : Type 0 where
  pub read : all_lines (lines_in file) ≡ true
  pub ordered : in_order (tides_in file) ≡ true

-- the two calls agree at the start of window i: its count is at least 1 exactly if a move may begin there
pub record Agrees (file counts : List ℕ) (i : ℕ) : Type 0 where
  pub begins : 1 ≤ get_or counts i 0 → may_begin_call file (window_at (windows_in file) i).from ≡ given true
  pub counts_one : may_begin_call file (window_at (windows_in file) i).from ≡ given true → 1 ≤ get_or counts i 0
