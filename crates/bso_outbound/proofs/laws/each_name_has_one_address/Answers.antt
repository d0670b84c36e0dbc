use Rattle.bso_outbound.proofs.Bases.{one_name}
use Rattle.bso_outbound.proofs.laws.each_name_has_one_address.Goals as goal

pub returns : goal.returns
returns c = one_name
