-- `towers::pegs_within` meets its contract. Assumes nothing.
use lib.Dec.{leb}
use borrow.Author.Rules.{rules}
use Rattle.towers.proofs.pegs_within.Goals as goal

pub returns : goal.returns
returns c = c.all_pass.ensures (λ b. leb b c.args.m) (λ byte answer h post. search rules)
