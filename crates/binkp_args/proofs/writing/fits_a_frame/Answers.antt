use Rattle.binkp_args.proofs.Fits.{argument_short}
use Rattle.binkp_args.proofs.writing.fits_a_frame.Goals as goal

pub returns : goal.returns
returns c = argument_short
