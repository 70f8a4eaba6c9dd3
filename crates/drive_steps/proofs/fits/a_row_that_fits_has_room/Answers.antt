use Rattle.drive_steps.proofs.Fitting.{rows_that_fit}
use Rattle.drive_steps.proofs.fits.a_row_that_fits_has_room.Goals as goal

pub returns : goal.returns
returns c = rows_that_fit
