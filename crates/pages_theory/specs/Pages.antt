-- The output of the program `walk` as it is made: a line after the other, each from the walk as it stands there, and pages that
-- hold whole lines. That the pages together are `output` (text_theory) is in Printed.
use Rattle.std.specs.Prelude.{ℕ, zero, suc, ◌+◌, ◌-◌, ◌/◌, ◌≤◌, Bool, true, false, cond, List, [], ◌++◌, eqb, ltb, length, take, drop, replicate}
use Rattle.gray_theory.specs.Answers.{Answer, given, refused}
use Rattle.gray_theory.specs.Engines.{Event, moved, ended}
use Rattle.gray_theory.specs.Locks.{unlocked}
use Rattle.ahead_theory.specs.States.{Walk, setting}
use Rattle.ahead_theory.specs.Calls.{closed_walk, open_of, step_of}
use Rattle.text_theory.specs.Surveys.{Input, counts, unread}
use Rattle.text_theory.specs.Lines.{line_text, survey_line}
use Rattle.text_theory.specs.declared.Line.{Line}
use Rattle.text_theory.specs.declared.Line.TheVariants.{Unread, Refused, Long, Sizes, Start, Moved, End}

-- what is still to be printed: the line that comes next, and the walk as it stands at that line
pub record Printing : Type 0 where
  pub line : Line
  pub walk : Walk

-- its text: a line of the walk shows the setting
abbrev pub text_of : Printing → List ℕ
text_of p = line_text p.line (setting p.walk)

-- ---- where it begins
-- the capacity that `walk` takes: half of the digits that move, rounded up, and 1 where none does
abbrev pub half_of : ℕ → ℕ
half_of count = cond (eqb count 0) 1 ((count + 1) / 2)

-- the first line for a survey, and a walk opened on it (closed where that is refused)
unfoldable pub printing_of : List ℕ → Printing
printing_of radices = record {
  line = survey_line radices;
  walk = (open_of closed_walk radices (half_of (length (unlocked radices)))).state;
}

-- what is to be printed for what was read
abbrev pub begun : Input → Printing
begun unread = record { line = Unread; walk = closed_walk }
begun (counts radices) = printing_of radices

-- ---- line after line
-- nothing comes behind these lines
abbrev pub is_last : Line → Bool
is_last Unread = true
is_last (Refused k) = true
is_last Long = true
is_last (Sizes n total) = false
is_last Start = false
is_last (Moved rank digit down) = false
is_last (End last) = true

-- the line of a call that has made j moves then: its move, the end, or the number of a refusal
abbrev pub call_line : Answer Event → ℕ → Line
call_line (given (moved c notch)) j = Moved j c.digit c.down
call_line (given ended) j = End j
call_line (refused k) j = Refused k

abbrev pub called : Walk → Printing
called w = record { line = call_line (step_of w).answer (step_of w).state.moves; walk = (step_of w).state }

-- what comes behind a line: the start behind the first one, and a call for every line after it. Behind a last line nothing
-- does, and it stays
abbrev pub behind : Line → Walk → Printing
behind (Sizes n total) w = record { line = Start; walk = w }
behind Start w = called w
behind (Moved rank digit down) w = called w
behind Unread w = record { line = Unread; walk = w }
behind (Refused k) w = record { line = Refused k; walk = w }
behind Long w = record { line = Long; walk = w }
behind (End last) w = record { line = End last; walk = w }

-- what comes next k lines further on
unfoldable pub onward : ℕ → Printing → Printing
onward zero p = p
onward (suc k) p = onward k (behind p.line p.walk)

-- ---- pages
-- so much room holds every line from p on
abbrev pub HoldsLines : ℕ → Printing → Type 0
HoldsLines room p = (k : ℕ) → length (text_of (onward k p)) ≤ room

-- a page: its text, what is to be printed behind it, and whether it is the last one
pub record Page : Type 0 where
  pub text : List ℕ
  pub rest : Printing
  pub last : Bool

-- a page that holds no more
abbrev pub full : Printing → Page
full p = record { text = []; rest = p; last = false }

-- a line in front of a page
abbrev pub joined : List ℕ → Page → Page
joined line page = record { text = line ++ page.text; rest = page.rest; last = page.last }

-- as many whole lines as fit into `room` bytes, and no more than `turns`; behind the last line of all nothing comes
unfoldable pub page_in : ℕ → ℕ → Printing → Page
page_in zero room p = full p
page_in (suc turns) room p =
    cond (ltb room (length (text_of p))) (full p)
    (cond (is_last p.line) (record { text = text_of p; rest = p; last = true })
    (joined (text_of p) (page_in turns (room - length (text_of p)) (behind p.line p.walk))))

-- every line has a byte at least, so that `room` turns are enough
abbrev pub page_of : ℕ → Printing → Page
page_of room p = page_in room room p

-- ---- the call, and what is written
-- what the filling of a lent page hands back: what is to be printed behind it, how many of its bytes are used, and whether it
-- is the last one; and the page, with its text at the start and every byte past that as it came
pub record Filled : Type 0 where
  pub rest : Printing
  pub used : ℕ
  pub last : Bool
  pub page : List ℕ

unfoldable pub filling : Printing → List ℕ → Filled
filling p page =
    let made = page_of (length page) p in
    record {
      rest = made.rest;
      used = length made.text;
      last = made.last;
      page = made.text ++ drop (length made.text) page;
    }

-- the page of `walk`: a buffer of 4,096 zero bytes
abbrev pub buffer : List ℕ
buffer = replicate 4096 0

-- what is written of at most `turns` pages: of each the bytes that are used, and then the next, filled over it
unfoldable pub written : ℕ → Printing → List ℕ → List ℕ
written zero p page = []
written (suc turns) p page =
    take (filling p page).used (filling p page).page
    ++ cond (filling p page).last [] (written turns (filling p page).rest (filling p page).page)
