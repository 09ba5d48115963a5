-- `pages::Printing::fill` meets its contract: line after line, the page holds what it should. Assumes nothing.
use Prim.Native.Nat.{◌-◌}
use lib.ListN.{length}
use Rattle.pages.specs.Structs.{printing_as}
use Rattle.pages.proofs.Fillings.{FilledTo}
use Rattle.pages.proofs.Printing.fill.Given as goal

abbrev pub invariant-loop-k : goal.invariant-loop-k
invariant-loop-k l = FilledTo (printing_as l.initial.printing) l.initial.page (printing_as l.printing) l.page l.used

abbrev pub decreases-loop-k : goal.decreases-loop-k
decreases-loop-k l = length l.initial.page - l.used
