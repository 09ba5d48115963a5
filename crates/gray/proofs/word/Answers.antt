-- `gray::word` meets its contract: a stage that refuses leaves the output as it came, and what passes every stage has its word's
-- bytes there. Assumes nothing.
use mathlib.Core.Path.{◌≡◌, sym, ap, ◌∙◌}
use Rattle.gray_theory.specs.Answers.{given}
use Rattle.gray_theory.specs.Radices.{digits, bytes}
use Rattle.gray_theory.specs.Indexed.{word_at}
use Rattle.gray_theory.specs.Calls.{size_call, word_call}
use Rattle.gray.specs.Enums.{answer_as}
use Rattle.gray_theory.proofs.Refusals.{accepted, wrote_nothing, wrote_bytes}
use Rattle.gray.proofs.Passing.{passed_on}
use Rattle.gray.proofs.Laws.{rank_refused, room_refused, word_given, word_long_as}
use Rattle.gray.proofs.word.Goals as goal
use Rattle.gray.proofs.word.Goals.{In-Ok}

size_is : (c : In-Ok)
    → size_call c.args.radices.now ≡ given c.in-Ok.total
size_is c = sym c.size-counted.ensures ∙ ap answer_as c.in-Ok.is

pub returns-in_default : goal.returns-in_default
unfolding word_call
returns-in_default c =
    wrote_nothing (word_call c.args.radices.now c.args.rank) _ c.args.out.now
    (sym (passed_on _ _ _ _ c.size-counted.ensures c.unwrap_err.ensures))

pub returns-then-total-rank : goal.returns-then-total-rank
returns-then-total-rank c =
    let sized = c in
    let start = sized in
    wrote_nothing (word_call start.args.radices.now start.args.rank) 8 start.args.out.now
    (rank_refused _ _ _ (size_is (goal.at.returns-then-total-rank c).In-Ok) _ c.if-total-rank.true)

pub returns-then-out-radices : goal.returns-then-out-radices
returns-then-out-radices c =
    let sized = c in
    let start = sized in
    wrote_nothing (word_call start.args.radices.now start.args.rank) 9 start.args.out.now
    (room_refused _ _ _ (size_is (goal.at.returns-then-out-radices c).In-Ok) _ c.if-total-rank.false c.if-out-radices.true)

pub put_word-requires : goal.put_word-requires
put_word-requires c =
    let sized = c in
    record { least = (accepted _ _ (size_is (goal.at.put_word-requires c).In-Ok)).one; room = c.if-out-radices.false }

pub returns : goal.returns
returns c =
    let put = c in
    let sized = put in
    let start = sized in
    let l = start.args.radices.now in
    let r = start.args.rank in
    wrote_bytes (word_call l r) (bytes (word_at (digits l) r)) start.args.out.now _ _
    (word_given l _ r (size_is (goal.at.returns c).In-Ok) _ put.if-total-rank.false put.if-out-radices.false)
    (word_long_as l r)
    put.put_word.ensures
