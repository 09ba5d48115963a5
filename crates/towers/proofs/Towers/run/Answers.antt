-- `towers::Towers::run` meets its contract: what passes both tests is a run of calls. Assumes nothing.
use mathlib.Core.Path.{sym, ◌∙◌}
use borrow.Author.Rules.{rules}
use Rattle.gray_theory.proofs.SingleCalls.{run_out_of_range_is_refused, run_into_shorter_memory_is_refused}
use Rattle.towers_theory.specs.States.{Towers, Arrays}
use Rattle.towers.specs.Structs.{towers_as}
use Rattle.towers.proofs.Steps.{survey-right}
use Rattle.towers.proofs.Towers.run.Goals as goal
use Rattle.towers.proofs.Towers.run.Goals.{Start}

abbrev state : Start → Towers
state c = towers_as c.args.self

lengths : (c : Start) → Arrays (state c)
lengths c = search rules

pub returns-then-not-in_range : goal.returns-then-not-in_range
returns-then-not-in_range c = sym (run_out_of_range_is_refused _ _ _ _ _ (sym c.in_range.ensures ∙ c.if-not-in_range.true))

pub returns-then-out-t : goal.returns-then-out-t
returns-then-out-t c = sym (run_into_shorter_memory_is_refused _ _ _ _ _ (sym c.in_range.ensures ∙ c.if-not-in_range.false) c.if-out-t.true)

pub last_radix-m-requires : goal.last_radix-m-requires
last_radix-m-requires c =
    survey-right (towers_as c.args.self) (lengths (goal.at.last_radix-m-requires c).Start) (sym c.in_range.ensures ∙ c.if-not-in_range.false)
