use Rattle.binkp_frame.proofs.OneReading.{reads_sent}
use Rattle.binkp_frame.proofs.writing.reads_what_is_sent.Goals as goal

pub returns : goal.returns
returns c = reads_sent
