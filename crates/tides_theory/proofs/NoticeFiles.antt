-- Notices in their ranges have a file, as each has its line.
use Rattle.std.specs.Prelude.{◌≡◌, refl, true, ◌&&◌}
use Rattle.std.proofs.Common.{ap, ap₂, ◌∙◌}
use Rattle.std.proofs.Math.Bool.{and-eq-true_iff}
use mathlib.Core.List.{List, [], ◌∷◌, map, flatten}
use Rattle.tides_theory.specs.Lines.{lines_in, all_lines, file_of, all_in_range, FileReadAs}
use Rattle.tides_theory.specs.Lines.{Notice, in_range, notice_in, line_of}
use Rattle.tides_theory.proofs.Exact.{notices_have_lines, line_then_file}

-- Notices in range have a file that is read as them.
pub notices_have_a_file : (ns : List Notice) → all_in_range ns ≡ true → FileReadAs (file_of ns) ns
unfolding all_in_range lines_in all_lines flatten
notices_have_a_file [] e = record { read = refl; says = refl }
notices_have_a_file (n ∷ ns) e =
    let (first, others) = (and-eq-true_iff (in_range n) (all_in_range ns)).0 e in
    let line = notices_have_lines n first in
    let file = notices_have_a_file ns others in
    let lines = line_then_file (line_of n) (file_of ns) line.read in
    record {
      read = ap all_lines lines ∙ ap₂ (λ s t. s && t) line.read file.read;
      says = ap (map notice_in) lines ∙ ap₂ (λ m ms. m ∷ ms) line.says file.says;
    }
