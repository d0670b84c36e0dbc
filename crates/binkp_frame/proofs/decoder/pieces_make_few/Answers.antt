use Rattle.binkp_frame.proofs.FewFrames.{few_frames}
use Rattle.binkp_frame.proofs.decoder.pieces_make_few.Goals as goal

pub returns : goal.returns
returns c = few_frames
