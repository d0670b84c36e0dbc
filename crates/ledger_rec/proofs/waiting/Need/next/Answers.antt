use Rattle.std.proofs.Common.{map}
use Rattle.ledger_rec.specs.Items.{entry}
use Rattle.ledger_rec.specs.Waiting.{is_needed}
use Rattle.ledger_rec.proofs.waiting.Need.next.Goals as goal

pub returns-in-Some : goal.returns-in-Some
returns-in-Some c = c.in-Some.ensures (is_needed c.args.self (map entry c.args.queue.now)) c.requires
