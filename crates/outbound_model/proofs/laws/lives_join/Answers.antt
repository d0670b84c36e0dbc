use Rattle.outbound_model.proofs.Once.{joins}
use Rattle.outbound_model.proofs.laws.lives_join.Goals as goal

pub returns : goal.returns
returns c = λ a es b fs d p q. joins a es b fs d p q
