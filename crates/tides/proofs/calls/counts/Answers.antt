-- `tides::calls::counts` meets its contract. Assumes nothing.
use native.Mathlib.Omega.{arith}
use mathlib.Core.Path.{sym, ap, ◌∙◌}
use mathlib.Core.List.{map, ◌++◌}
use lib.ListN.{length, drop, length-map}
use Rattle.gray_theory.proofs.Refusals.{wrote_nothing, wrote_bytes}
use Rattle.tides_theory.specs.Windows.{moves_that_fit}
use Rattle.tides_theory.specs.Calls.{windows_in, counts_call}
use Rattle.tides.proofs.Answered.{refused_by, Passes, passes, no_room, all_counts_lem}
use Rattle.tides.proofs.calls.counts.Goals as goal
use Rattle.tides.proofs.calls.counts.Goals.{In-Ok}

-- a file that is not refused
good : (c : In-Ok) → Passes c.args.file.now 0 c.in-Ok.all
good c = passes _ _ _ _ c.pass-passed.ensures c.in-Ok.is

pub returns-in_default : goal.returns-in_default
returns-in_default c =
    let a = c.args in
    wrote_nothing (counts_call a.file.now) _ a.out.now
    ((refused_by _ _ _ _ c.pass-passed.ensures c.unwrap_err.ensures).counts (length a.out.now))

pub returns-then-out-all : goal.returns-then-out-all
returns-then-out-all c =
    let p = good (goal.at.returns-then-out-all c).In-Ok in
    let a = c.args in
    let counted = p.counted in
    wrote_nothing (counts_call a.file.now) 9 a.out.now (no_room a.file.now p.accepted (length a.out.now) (omega arith))

pub put_counts-requires : goal.put_counts-requires
put_counts-requires c = let p = good (goal.at.put_counts-requires c).In-Ok in let counted = p.counted in (p.accepted, omega arith)

pub returns : goal.returns
returns c =
    let p = good (goal.at.returns c).In-Ok in
    let a = c.args in
    let counted = p.counted in
    wrote_bytes (counts_call a.file.now) (map moves_that_fit (windows_in a.file.now)) a.out.now _ _
    (all_counts_lem a.file.now p.accepted (length a.out.now) (omega arith))
    (counted ∙ sym (length-map (windows_in a.file.now) moves_that_fit))
    (c.put_counts.ensures ∙ ap (λ n. map moves_that_fit (windows_in a.file.now) ++ drop n a.out.now) (sym counted))
