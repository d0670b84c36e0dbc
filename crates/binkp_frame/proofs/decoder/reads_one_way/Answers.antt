use Rattle.binkp_frame.proofs.OneReading.{only_split}
use Rattle.binkp_frame.proofs.decoder.reads_one_way.Goals as goal

pub returns : goal.returns
returns c = λ stream rest left frames others a b. only_split stream frames others rest left a b
