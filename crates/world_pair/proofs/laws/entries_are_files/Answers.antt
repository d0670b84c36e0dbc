use Rattle.world_pair.proofs.Parts.{entries_are_files}
use Rattle.world_pair.proofs.laws.entries_are_files.Goals as goal

pub returns : goal.returns
returns c = entries_are_files
