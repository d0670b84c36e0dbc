use Rattle.std.proofs.Common.{refl, rules}
use Rattle.ledger_rec.proofs.Changing.{changed_at, none_changed}
use Rattle.ledger_rec.specs.Fold.{is_live, settled}
use Rattle.ledger_rec.specs.Items.{entry}
use Rattle.ledger_rec.proofs.changes.settle.Goals as goal

pub returns-in-Some-clause-step : goal.returns-in-Some-clause-step
returns-in-Some-clause-step c = changed_at entry (is_live c.args.number) settled c.args.queue.now c.in-Some.i _ c.index-queue-i.result (search rules) refl

pub returns-in-None-clause-step : goal.returns-in-None-clause-step
returns-in-None-clause-step c = (none_changed entry (is_live c.args.number) settled c.args.queue.now (search rules), refl)
