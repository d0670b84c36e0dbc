use Rattle.ledger_rec.specs.Fold.{is_received}
use Rattle.ledger_rec.specs.Lists.{state_of}
use Rattle.ledger_rec.proofs.rules.is_received.Goals as goal

pub returns-in-Some : goal.returns-in-Some
returns-in-Some c = c.in-Some.ensures (λ from key. is_received from key (state_of c.args.lists.now).inbox) c.requires.received
