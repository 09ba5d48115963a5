-- The pages that `walk` writes are its output: for whatever was read, and pages of any size that holds a line.
use Rattle.std.specs.Prelude.{ℕ, suc, ◌-◌, ◌≤◌, ◌<◌, ◌≡◌, refl, Bool, true, false, cond, List, [], ◌++◌, length}
use Rattle.std.proofs.Common.{arith, sym, ap, ◌∙◌, subst, append_assoc, lt-ltb, le-ltb}
use Rattle.std.proofs.Math.Decide.{dec_lt}
use Rattle.gray_theory.specs.Answers.{Answer, given, refused, refusing}
use Rattle.gray_theory.specs.Radices.{digits, size, wrong_count, wrong_radix, too_many}
use Rattle.gray_theory.specs.Words.{member}
use Rattle.gray_theory.specs.Calls.{size_call}
use Rattle.gray_theory.specs.Engines.{after}
use Rattle.gray_theory.specs.Bools.{impossible}
use Rattle.gray_theory.proofs.Refusals.{accepted}
use Rattle.gray_theory.proofs.Sizes.{size_pos}
use Rattle.ahead_theory.specs.States.{setting}
use Rattle.text_theory.specs.Surveys.{Input, counts, unread}
use Rattle.text_theory.specs.Lines.{line_text, survey_line}
use Rattle.text_theory.specs.Output.{move_lines, walk_text, survey_text, input_text}
use Rattle.text_theory.specs.declared.Line.TheVariants.{Unread, Refused, Long, Sizes, Start, End}
use Rattle.pages_theory.specs.Pages.{Printing, printing_of, begun, called, onward, HoldsLines, written}
use Rattle.pages_theory.proofs.Lengths.{refused_length, sizes_length, start_length_lem, line_some}
use Rattle.pages_theory.proofs.PageLaws.{Prints, prints_in, prints_hold, written_lines}
use Rattle.pages_theory.proofs.WalkLines.{first_line_lem, walked, last_prints, more_prints, member-length, moves_print}

-- the numbers of a refused survey
survey_number : (a b c : Bool) (n k : ℕ) → refusing 2 a (refusing 3 b (refusing 4 c (given n))) ≡ refused k → k < 10
survey_number true b c n k e = let same : 2 ≡ k = cc in omega arith
survey_number false true c n k e = let same : 3 ≡ k = cc in omega arith
survey_number false false true n k e = let same : 4 ≡ k = cc in omega arith
survey_number false false false n k e = impossible (cc)

refused_number : (radices : List ℕ) (k : ℕ) → size_call radices ≡ refused k → k < 10
unfolding size_call
refused_number radices k e =
    let ms = digits radices in
    survey_number (wrong_count ms) (wrong_radix ms) (too_many ms) (size ms) k e

-- ---- what is printed for each input, in lines of at most 254 bytes
refused_prints : (radices : List ℕ) (k : ℕ) → size_call radices ≡ refused k → Prints 254 0 (printing_of radices) (survey_text radices (refused k))
unfolding printing_of survey_text line_text
refused_prints radices k e =
    let line = first_line_lem radices (refused k) e in
    subst (λ t. Prints 254 0 (printing_of radices) t) (sym (ap (λ l. line_text l []) line))
    (last_prints (printing_of radices) (Refused k) line (line_text (Refused k) []) refl (refused_length k [] (refused_number radices k e)) refl)

long_prints : (radices : List ℕ) (total : ℕ) → size_call radices ≡ given total → 4096 < total
    → Prints 254 0 (printing_of radices) (survey_text radices (given total))
unfolding printing_of survey_text line_text
long_prints radices total e long =
    let over = lt-ltb 4096 total long in
    let line : survey_line radices ≡ Long =
    first_line_lem radices (given total) e ∙ ap (λ b. cond b Long (Sizes (length radices) total)) over in
    let alone : survey_text radices (given total) ≡ line_text Long [] = rw (line, over) refl in
    subst (λ t. Prints 254 0 (printing_of radices) t) (sym alone)
    (last_prints (printing_of radices) Long line (line_text Long []) refl (omega arith) refl)

walk_prints : (radices : List ℕ) (total : ℕ) → size_call radices ≡ given total → total ≤ 4096
    → Prints 254 (suc (suc (total - 1))) (printing_of radices) (survey_text radices (given total))
unfolding printing_of survey_text walk_text line_text after
walk_prints radices total e short =
    let ms = digits radices in
    let w = (printing_of radices).walk in
    let a = accepted radices total e in
    let h = walked radices total e short in
    let some = size_pos ms a.one in
    let whole = a.whole in
    let few = a.most in
    let at_start : Printing = record { line = Start; walk = w } in
    let sizes = line_text (Sizes (length radices) total) [] in
    let start = line_text Start (member ms 0) in
    let moves = move_lines ms 1 (total - 1) in
    let end = line_text (End (total - 1)) [] in
    let under = le-ltb 4096 total short in
    let line : survey_line radices ≡ Sizes (length radices) total =
    first_line_lem radices (given total) e ∙ ap (λ b. cond b Long (Sizes (length radices) total)) under in
    let same : line_text (End (size ms - 1)) [] ≡ end = ap (λ n. line_text (End (n - 1)) []) (sym whole) in
    let all : survey_text radices (given total) ≡ sizes ++ (start ++ (moves ++ end)) =
    rw (line, under) (ap (λ t. sizes ++ t) (append_assoc start moves end)) in
    let rest : Prints 254 (total - 1) (called w) (moves ++ end) =
    subst (λ t. Prints 254 (total - 1) (called w) (moves ++ t)) same (moves_print ms w h (total - 1) 0 (omega arith)) in
    let started : Prints 254 (suc (total - 1)) at_start (start ++ (moves ++ end)) =
    more_prints at_start Start refl start (ap (line_text Start) h.start) (start_length_lem (member ms 0) (member-length ms w h 0 some))
    (total - 1) (called w) (moves ++ end) refl refl rest in
    subst (λ t. Prints 254 (suc (suc (total - 1))) (printing_of radices) t) (sym all)
    (more_prints (printing_of radices) (Sizes (length radices) total) line sizes refl
    (sizes_length (length radices) total [] (omega arith) short)
    (suc (total - 1)) at_start (start ++ (moves ++ end)) refl refl started)

-- what is read is printed in fewer than 4,098 lines behind the first
record PrintsAll (read : Input) : Type 0 where
  pub lines : ℕ
  pub few : lines < 4098
  pub prints : Prints 254 lines (begun read) (input_text read)

survey_prints : (radices : List ℕ) (a : Answer ℕ) → size_call radices ≡ a → PrintsAll (counts radices)
unfolding input_text
survey_prints radices (refused k) e =
    record { lines = 0; few = omega arith; prints = rw e (refused_prints radices k e) }
survey_prints radices (given total) e =
    elim (dec_lt 4096 total) [
      | yes long ↦ record { lines = 0; few = omega arith; prints = rw e (long_prints radices total e long) }
      | no short ↦
          record {
            lines = suc (suc (total - 1));
            few = omega arith;
            prints = rw e (walk_prints radices total e (omega arith));
          }
    ]

prints_all : (read : Input) → PrintsAll read
unfolding input_text line_text
prints_all unread =
    record {
      lines = 0;
      few = omega arith;
      prints = last_prints (begun unread) Unread refl (line_text Unread []) refl (omega arith) refl;
    }
prints_all (counts radices) = survey_prints radices (size_call radices) refl

-- ---- the theorems
-- For whatever was read, what is written, page after page, is what document 01 has `walk` print: with any page that holds every
-- line, whatever bytes it has at first. There are at most as many pages as lines, 4,098.
pub pages_are_the_output : (read : Input) (turns : ℕ) (page : List ℕ) → HoldsLines (length page) (begun read) → 4098 ≤ turns
    → written turns (begun read) page ≡ input_text read
unfolding onward
pages_are_the_output read turns page holds many =
    let all = prints_all read in
    let some : 0 < length page = omega (arith, line_some (begun read).line (setting (begun read).walk), holds 0) in
    let few = all.few in
    written_lines turns all.lines (begun read) (input_text read) page some (prints_in all.prints holds) (omega arith)

-- No line is longer than 254 bytes: pages as wide as that hold every line, and `walk`'s, of 4,096 bytes, do.
pub wide_pages_hold_every_line : (read : Input) (room : ℕ) → 254 ≤ room → HoldsLines room (begun read)
wide_pages_hold_every_line read room wide k =
    let short = prints_hold (prints_all read).prints k in
    omega arith
