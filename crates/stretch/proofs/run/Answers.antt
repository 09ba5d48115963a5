-- `stretch::run` meets its contract: the calls are made on a long queue, and what they leave is counted from the oldest entry
-- again. Assumes nothing.
use mathlib.Core.Path.{◌≡◌}
use lib.ListN.{length}
use borrow.Author.Rules.{rules}
use Rattle.stretch.proofs.Running.{refuses, runnable, window_fits, from_oldest_lem}
use Rattle.stretch.proofs.run.Goals as goal
use Rattle.stretch.proofs.run.Goals.{Start}

entries_long : (c : Start) → length c.args.entries ≡ 32
entries_long c = search rules

pub returns-then-not-fits : goal.returns-then-not-fits
returns-then-not-fits c = refuses _ _ _ _ _ _ _ _ _ _ _ _ c.fits.ensures c.if-not-fits.true

pub run_calls-ran-requires : goal.run_calls-ran-requires
run_calls-ran-requires c = runnable _ _ _ _ _ _ _ c.args.entries _ _ _ _ c.fits.ensures c.if-not-fits.false (entries_long (goal.at.run_calls-ran-requires c).Start) _ c.long_queue-queue.ensures

pub overflow_sub-result : goal.overflow_sub-result
overflow_sub-result c = (window_fits _ _ _ _ _ _ _ c.args.entries _ _ _ _ c.fits.ensures c.if-not-fits.false (entries_long (goal.at.overflow_sub-result c).Start) _ c.long_queue-queue.ensures _ _ _ _ _ _ c.run_calls-ran.ensures).0

pub window-requires : goal.window-requires
window-requires c = (window_fits _ _ _ _ _ _ _ c.args.entries _ _ _ _ c.fits.ensures c.if-not-fits.false (entries_long (goal.at.window-requires c).Start) _ c.long_queue-queue.ensures _ _ _ _ _ _ c.run_calls-ran.ensures).1

pub returns : goal.returns
returns c = from_oldest_lem _ _ _ _ _ _ _ c.args.entries _ _ _ _ c.fits.ensures c.if-not-fits.false (entries_long (goal.at.returns c).Start) _ c.long_queue-queue.ensures _ _ _ _ _ _ c.run_calls-ran.ensures _ c.window.ensures
