-- `gray::rank` meets its contract: radices that are refused pass their number on, and what is no word is refused by 8. Assumes
-- nothing.
use mathlib.Core.Path.{◌≡◌, sym, ap, ◌∙◌}
use Rattle.gray_theory.specs.Answers.{given}
use Rattle.gray_theory.specs.Calls.{size_call, rank_call}
use Rattle.gray_theory.proofs.Ranking.{too_long_or_short, word_refused}
use Rattle.gray_theory.proofs.Refusals.{accepted}
use Rattle.gray.specs.Enums.{answer_as}
use Rattle.gray.proofs.Passing.{passed_on}
use Rattle.gray.proofs.Laws.{rank_answered}
use Rattle.gray.proofs.rank.Goals as goal
use Rattle.gray.proofs.rank.Goals.{In-Ok}

-- what has been learnt once the radices are accepted

size_is : (c : In-Ok)
    → size_call c.args.radices.now ≡ given c.in-Ok.field-0
size_is c = sym c.size-counted.ensures ∙ ap answer_as c.in-Ok.is

pub returns-in_default : goal.returns-in_default
unfolding rank_call
returns-in_default c = rw c.in_default.is (passed_on _ _ _ _ c.size-counted.ensures c.in_default.is)

pub returns-then-word-radices : goal.returns-then-word-radices
returns-then-word-radices c =
    let l = c.args.radices.now in
    let w = c.args.word.now in
    word_refused l w _ (size_is (goal.at.returns-then-word-radices c).In-Ok) (too_long_or_short l w c.if-word-radices.true)

pub place_of-requires : goal.place_of-requires
place_of-requires c =
    let sized = accepted _ _ (size_is (goal.at.place_of-requires c).In-Ok) in
    record { long = c.if-word-radices.false; least = sized.one; limit = sized.limit }

pub returns : goal.returns
returns c = rw (c.ok_or.ensures.value, c.place_of.ensures) (rank_answered _ _ _ (size_is (goal.at.returns c).In-Ok))
