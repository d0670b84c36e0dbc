use Rattle.world_pair.proofs.Parts.{receipts_are_whole}
use Rattle.world_pair.proofs.laws.receipts_are_whole.Goals as goal

pub returns : goal.returns
returns c = receipts_are_whole
