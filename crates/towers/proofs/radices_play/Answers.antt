-- `towers::radices_play` meets its contract. Assumes nothing.
use Rattle.towers.specs.Stages.{plays}
use borrow.Author.Rules.{rules}
use Rattle.towers.proofs.radices_play.Goals as goal

pub returns : goal.returns
returns c = c.all_pass.ensures (plays c.args.m) (λ byte answer h post. search rules)
