-- `lister::block_sizes` meets its contract: the entries from i on are there, and q is the one that comes next. Assumes nothing.
use Rattle.lister.proofs.Tables.{Tabled}
use Rattle.lister.proofs.block_sizes.Given as goal

abbrev pub invariant-loop-i : goal.invariant-loop-i
invariant-loop-i l = Tabled l.radices l.sizes l.q l.i
