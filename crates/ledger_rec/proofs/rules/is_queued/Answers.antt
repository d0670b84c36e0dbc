use Rattle.std.proofs.Common.{map}
use Rattle.ledger_rec.specs.Indexed.{is_queued}
use Rattle.ledger_rec.specs.Items.{entry}
use Rattle.ledger_rec.proofs.rules.is_queued.Goals as goal

pub returns-in-Some : goal.returns-in-Some
returns-in-Some c = c.in-Some.ensures (λ dest key. is_queued dest key (map entry c.args.lists.now.queue.items)) c.requires.queued
