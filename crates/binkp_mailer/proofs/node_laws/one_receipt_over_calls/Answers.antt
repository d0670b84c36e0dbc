use Rattle.binkp_mailer.proofs.TopCalls.{calls_once}
use Rattle.binkp_mailer.proofs.node_laws.one_receipt_over_calls.Goals as goal

pub returns : goal.returns
returns c = λ store new turns. calls_once store new turns
