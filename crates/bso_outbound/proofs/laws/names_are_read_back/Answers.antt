use Rattle.bso_outbound.proofs.Bases.{read_back}
use Rattle.bso_outbound.proofs.laws.names_are_read_back.Goals as goal

pub returns : goal.returns
returns c = read_back
