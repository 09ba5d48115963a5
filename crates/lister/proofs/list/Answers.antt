-- `lister::list` meets its contract: a stage that refuses leaves the output as it came, and what passes every stage has its run
-- of settings there. Assumes nothing.
use Prim.Native.Nat.{◌+◌, ◌≤◌}
use native.Mathlib.Omega.{arith}
use mathlib.Core.Path.{◌≡◌, refl, sym, ap, ◌∙◌}
use borrow.Author.Tests.{leb-true, leb-false}
use Rattle.gray_theory.specs.Answers.{given}
use Rattle.gray_theory.specs.Calls.{size_call}
use Rattle.gray.specs.Enums.{answer_as}
use Rattle.gray_theory.proofs.Refusals.{accepted, wrote_nothing}
use Rattle.gray.proofs.Passing.{passed_on}
use Rattle.lister_theory.specs.Calls.{list_call}
use Rattle.lister.proofs.Runs.{run_refused_lem, room_refused, table_asked, list_reached, run-written, none_written}
use Rattle.lister.proofs.list.Goals as goal
use Rattle.lister.proofs.list.Goals.{Else-not-within, In-Ok}

size_is : (c : In-Ok) → size_call c.args.radices.now ≡ given c.in-Ok.total
size_is c = sym c.size-counted.ensures ∙ ap answer_as c.in-Ok.is

-- the run is within the list
run_is : (c : Else-not-within) → c.args.from + c.args.count ≤ c.in-Ok.total
run_is c = leb-true _ _ (sym c.within.ensures ∙ c.if-not-within.false)

pub returns-in_default : goal.returns-in_default
unfolding list_call
returns-in_default c =
    wrote_nothing (list_call c.args.radices.now c.args.from c.args.count) _ c.args.out.now
    (sym (passed_on _ _ _ _ c.size-counted.ensures c.unwrap_err.ensures))

pub returns-then-not-within : goal.returns-then-not-within
returns-then-not-within c =
    wrote_nothing (list_call c.args.radices.now c.args.from c.args.count) 8 c.args.out.now
    (run_refused_lem _ _ (size_is (goal.at.returns-then-not-within c).In-Ok) _ _ _
    (leb-false _ _ (sym c.within.ensures ∙ c.if-not-within.true)))

pub nonzero_div-room : goal.nonzero_div-room
nonzero_div-room c = (accepted _ _ (size_is (goal.at.nonzero_div-room c).In-Ok)).some

pub returns-then-room-count : goal.returns-then-room-count
returns-then-room-count c =
    wrote_nothing (list_call c.args.radices.now c.args.from c.args.count) 9 c.args.out.now
    (room_refused _ _ (size_is (goal.at.returns-then-room-count c).In-Ok) _ _ _
    (run_is (goal.at.returns-then-room-count c).Else-not-within) (omega (arith, c.if-room-count.true)))

pub returns-then-count-eq0 : goal.returns-then-count-eq0
returns-then-count-eq0 c =
    let none = c.if-count-eq0.true in
    none_written _ _ (size_is (goal.at.returns-then-count-eq0 c).In-Ok) _ _
    (run_is (goal.at.returns-then-count-eq0 c).Else-not-within) _ (omega (arith, none)) (omega (arith, none))

pub block_sizes-sizes-requires : goal.block_sizes-sizes-requires
block_sizes-sizes-requires c = table_asked _ _ (size_is (goal.at.block_sizes-sizes-requires c).In-Ok)

pub up-requires : goal.up-requires
up-requires c =
    let made = c.block_sizes-sizes.ensures in
    list_reached _ _ (size_is (goal.at.up-requires c).In-Ok) _ _ _
    (run_is (goal.at.up-requires c).Else-not-within) _ _ _ made.1 made.0 refl
    (omega (arith, c.if-count-eq0.false)) refl (omega (arith, c.if-room-count.false))

pub returns : goal.returns
returns c =
    run-written _ _ (size_is (goal.at.returns c).In-Ok) _ _ (run_is (goal.at.returns c).Else-not-within) _
    (omega (arith, c.if-room-count.false)) _ c.up.ensures.wrote
