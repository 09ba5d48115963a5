-- `two_pass::rank` meets its contract: a stage that refuses passes its number on, and what passes every stage has its rank.
-- Assumes nothing.
use mathlib.Core.Path.{◌≡◌, sym, ap, ◌∙◌}
use Rattle.gray_theory.specs.Answers.{given}
use Rattle.gray_theory.specs.Calls.{size_call, rank_call}
use Rattle.gray.specs.Enums.{answer_as}
use Rattle.gray_theory.proofs.Ranking.{word_ranked}
use Rattle.gray_theory.proofs.Refusals.{accepted}
use Rattle.gray.proofs.Passing.{passed_on}
use Rattle.two_pass.specs.Stages.{Rankable}
use Rattle.two_pass.proofs.Laws.{fine_says, check_refused}
use Rattle.two_pass.proofs.rank.Goals as goal
use Rattle.two_pass.proofs.rank.Goals.{After-check_word-tested, In-Ok-tested}

-- what has been learnt once the radices are accepted, and once the word is

size_is : (c : After-check_word-tested)
    →
    size_call c.args.radices.now ≡ given c.in-Ok.field-0
size_is c = sym c.size-counted.ensures ∙ ap answer_as c.in-Ok.is

rankable : (c : In-Ok-tested)
    →
    Rankable c.args.radices.now c.args.word.now
rankable c =
    let sized = accepted _ _ (sym c.size-counted.ensures ∙ ap answer_as c.in-Ok.is) in
    record {
      one = fine_says _ (sym c.check_word-tested.ensures ∙ c.in-Ok-tested.is);
      least = sized.one;
      limit = sized.limit;
    }

pub returns-in_default : goal.returns-in_default
unfolding rank_call
returns-in_default c =
    rw c.in_default.is (passed_on _ _ _ _ c.size-counted.ensures c.in_default.is)

pub returns-in_default-tested : goal.returns-in_default-tested
returns-in_default-tested c =
    check_refused _ _ _ (size_is (goal.at.returns-in_default-tested c).After-check_word-tested) _ _ c.check_word-tested.ensures c.unwrap_err.ensures

pub rank_from-requires : goal.rank_from-requires
rank_from-requires c = rankable (goal.at.rank_from-requires c).In-Ok-tested

pub returns : goal.returns
returns c =
    ap given c.rank_from.ensures ∙ word_ranked _ _ _ (size_is (goal.at.returns c).After-check_word-tested) (rankable (goal.at.returns c).In-Ok-tested).one
