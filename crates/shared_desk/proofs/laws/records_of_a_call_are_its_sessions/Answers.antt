use Rattle.shared_desk.proofs.OwnNumbers.{made_own}
use Rattle.shared_desk.proofs.laws.records_of_a_call_are_its_sessions.Goals as goal

pub returns : goal.returns
returns c = λ seat old call answer new made. made_own seat old call answer new made
