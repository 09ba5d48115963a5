-- `stretch::fits` meets its contract. Assumes nothing.
use Rattle.stretch.proofs.Paths.{fits_none, fits_some}
use Rattle.stretch.proofs.fits.Goals as goal

pub returns-then-out-done : goal.returns-then-out-done
returns-then-out-done c = fits_none _ _ _ _ _ _ _ _ _ _ c.if-out-done.true

pub returns : goal.returns
returns c = fits_some _ _ _ _ _ _ _ _ _ _ c.if-out-done.false
