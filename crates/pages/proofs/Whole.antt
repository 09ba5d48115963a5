-- What `walk` prints, from the bytes that it reads to the bytes that it writes.
use Rattle.std.specs.Prelude.{ℕ, ◌≤◌, ◌≡◌, refl, List, [], length, take}
use Rattle.std.proofs.Common.{arith, sym, ap, ◌∙◌, take_all}
use Rattle.gray_theory.specs.Answers.{Answer, given, refused}
use Rattle.gray_theory.specs.Calls.{size_call}
use Rattle.gray_theory.proofs.Refusals.{accepted}
use Rattle.text_theory.specs.Surveys.{Input, counts, unread, input_as}
use Rattle.text_theory.specs.Lines.{line_text}
use Rattle.text_theory.specs.Output.{survey_text, input_text, output}
use Rattle.text_theory.proofs.Kept.{kept_counts_answer_alike}
use Rattle.reader.specs.Readers.{fresh_reader, read, reader_input, up_to49}
use Rattle.reader.proofs.Reading.{reader_reads_the_line}
use Rattle.pages_theory.specs.Pages.{begun, HoldsLines, written}
use Rattle.pages_theory.proofs.WalkLines.{first_line_lem}
use Rattle.pages_theory.proofs.Printed.{pages_are_the_output}

-- ---- more counts than are kept change no text
kept_with : (cs : List ℕ) (a : Answer ℕ) → size_call cs ≡ a → input_text (counts (take 49 cs)) ≡ input_text (counts cs)
unfolding input_text survey_text
kept_with cs (given total) e =
    let most = (accepted cs total e).most in
    ap (λ l. survey_text l (size_call l)) (take_all 49 cs (omega arith))
kept_with cs (refused k) e =
    let kept : size_call (take 49 cs) ≡ refused k = kept_counts_answer_alike cs ∙ e in
    ap (survey_text (take 49 cs)) kept
    ∙ ap (λ l. line_text l []) (first_line_lem (take 49 cs) (refused k) kept ∙ sym (first_line_lem cs (refused k) e))
    ∙ sym (ap (survey_text cs) e)

kept_text : (i : Input) → input_text (up_to49 i) ≡ input_text i
kept_text unread = refl
kept_text (counts cs) = kept_with cs (size_call cs) refl

-- Whatever bytes come in, in whatever parts (`parts_read_as_one`), and read no further than need be (`read_no_further`): what
-- is written for them, page after page, is the output that document 01 has for them, with any page that holds every line.
pub walk_prints_the_output : (input : List ℕ) (turns : ℕ) (page : List ℕ)
    → HoldsLines (length page) (begun (reader_input (read fresh_reader input)))
    → 4098 ≤ turns
    → written turns (begun (reader_input (read fresh_reader input))) page ≡ output input
unfolding output
walk_prints_the_output input turns page holds many =
    pages_are_the_output (reader_input (read fresh_reader input)) turns page holds (omega arith)
    ∙ ap input_text (reader_reads_the_line input)
    ∙ kept_text (input_as input)
