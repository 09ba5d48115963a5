-- `lister::row` meets its contract: before word u the output holds the words from `skip` on that come before it. Assumes
-- nothing.
use Rattle.lister.proofs.Rows.{row-begun, row_again, row_ended}
use Rattle.lister.proofs.row.Goals as goal

pub loop-u-init : goal.loop-u-init
loop-u-init c = row-begun _ _ _ _ _ _ _ _ _ _ _ c.requires c.min-end.ensures

pub loop-u-preserved : goal.loop-u-preserved
loop-u-preserved c =
    row_again _ _ _ _ _ _ _ _ _ _ _ c.requires c.min-end.ensures _ _ _ c.loop-u.invariant _ _
    c.loop-u-test.true
    c.notch.ensures
    c.put_word.ensures

pub returns : goal.returns
returns c =
    row_ended _ _ _ _ _ _ _ _ _ _ _ c.requires c.min-end.ensures _ _ _ c.loop-u.invariant
    c.loop-u-test.false
