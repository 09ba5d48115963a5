-- Examples: the places that `walk` takes, pages that just hold a line, and a walk whose calls are refused.
use Rattle.std.specs.Prelude.{◌≡◌, refl, true, false, [], ◌∷◌, map, ◌++◌, replicate}
use Rattle.gray_theory.specs.Radices.{size, all_from}
use Rattle.gray_theory.specs.DirectedWords.{word_in_range}
use Rattle.ahead_theory.specs.States.{in_range}
use Rattle.ahead_theory.specs.Calls.{fresh, closed_walk, course, step_of}
use Rattle.text_theory.specs.Ascii.{ascii}
use Rattle.text_theory.specs.Decimals.{decimal_in, decimal}
use Rattle.text_theory.specs.Lines.{setting_text, line_text}
use Rattle.text_theory.specs.declared.Line.TheVariants.{Refused, Sizes, Start}
use Rattle.pages_theory.specs.Pages.{Printing, half_of, page_in, filling}

-- half of the digits that move, rounded up, and 1 where none does
pub places_that_walk_takes : map half_of (0 ∷ 1 ∷ 2 ∷ 3 ∷ 47 ∷ 48 ∷ []) ≡ 1 ∷ 1 ∷ 1 ∷ 2 ∷ 24 ∷ 24 ∷ []
places_that_walk_takes = refl

-- the first line of 2, 3, in front of a walk that is closed
abbrev at_first : Printing
at_first = record { line = Sizes 2 6; walk = closed_walk }

-- a page one byte shorter than a line stays as it came; one just as long holds it; one longer by less than the next line holds
-- no more
pub whole_lines_that_fit :
    map (λ n. filling at_first (replicate n 7)) (20 ∷ 21 ∷ 23 ∷ [])
    ≡ record { rest = at_first; used = 0; last = false; page = replicate 20 7 }
    ∷ record { rest = record { line = Start; walk = closed_walk }; used = 21; last = false; page = ascii "sluices 2 settings 6\n" }
    ∷ record {
      rest = record { line = Start; walk = closed_walk };
      used = 21;
      last = false;
      page = ascii "sluices 2 settings 6\n" ++ replicate 2 7;
    }
    ∷ []
unfolding filling page_in line_text setting_text decimal decimal_in fresh
whole_lines_that_fit = refl

-- a call that is refused is the last line
pub refused_calls_are_last :
    filling at_first (replicate 40 0)
    ≡ record {
      rest = record { line = Refused 7; walk = closed_walk };
      used = 40;
      last = true;
      page = ascii "sluices 2 settings 6\n0  start\nrefused 7\n";
    }
unfolding filling page_in line_text setting_text decimal decimal_in fresh step_of course in_range word_in_range all_from size
refused_calls_are_last = refl
