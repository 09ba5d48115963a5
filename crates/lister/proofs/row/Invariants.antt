-- `lister::row` meets its contract: before word u the output holds the words from `skip` on that come before it. Assumes
-- nothing.
use Rattle.lister.proofs.Rows.{Rowed, staying}
use Rattle.lister.proofs.row.Given as goal

abbrev pub invariant-loop-u : goal.invariant-loop-u
invariant-loop-u l =
    Rowed (staying l.word l.n l.a l.b) l.n l.down l.m l.fn.w.skip l.end l.fn.w.at l.initial.out l.out l.at l.u
