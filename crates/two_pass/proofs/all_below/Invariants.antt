-- `two_pass::all_below` meets its contract: after i turns it has tested the slowest i digits. Assumes nothing.
use mathlib.Core.Path.{◌≡◌}
use lib.ListN.{take}
use Rattle.gray_theory.specs.Radices.{digits}
use Rattle.gray_theory.specs.Words.{is_word}
use Rattle.two_pass.proofs.all_below.Given as goal

abbrev pub invariant-loop-i : goal.invariant-loop-i
invariant-loop-i l = l.ok ≡ is_word (digits (take l.i l.radices)) (digits (take l.i l.word))
