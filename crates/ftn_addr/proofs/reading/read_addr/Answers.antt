use Rattle.ftn_addr.proofs.ReadLimits.{read_within}
use Rattle.ftn_addr.proofs.reading.read_addr.Goals as goal

pub returns-clause-limits : goal.returns-clause-limits
returns-clause-limits c = read_within _ _ _ c.spelled.ensures
