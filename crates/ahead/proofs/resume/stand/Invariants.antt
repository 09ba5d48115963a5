-- `ahead::resume::stand` meets its contract: after i turns the first i digits are done. Assumes nothing.
use Rattle.ahead.proofs.Stands.{Standing}
use Rattle.ahead.proofs.resume.stand.Given as goal

abbrev pub invariant-loop-i : goal.invariant-loop-i
invariant-loop-i l = Standing l.radices l.word l.rank l.counter l.downs l.p l.place l.i
