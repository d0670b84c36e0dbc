use Rattle.std.proofs.Common.{refl, rules}
use Rattle.ledger_rec.proofs.Changing.{changed_at, none_changed}
use Rattle.ledger_rec.specs.Fold.{waits_for_answer, answered}
use Rattle.ledger_rec.specs.Items.{receipt}
use Rattle.ledger_rec.proofs.changes.answer.Goals as goal

pub returns-in-Some-clause-step : goal.returns-in-Some-clause-step
returns-in-Some-clause-step c = changed_at receipt (waits_for_answer c.args.number) answered c.args.inbox.now c.in-Some.i _ c.index-inbox-i.result (search rules) refl

pub returns-in-None-clause-step : goal.returns-in-None-clause-step
returns-in-None-clause-step c = (none_changed receipt (waits_for_answer c.args.number) answered c.args.inbox.now (search rules), refl)
