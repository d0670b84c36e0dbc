use Rattle.binkp_mailer.proofs.TopCalls.{calls_stay}
use Rattle.binkp_mailer.proofs.node_laws.receipts_stay_over_calls.Goals as goal

pub returns : goal.returns
returns c = λ store new turns. calls_stay store new turns
