use Rattle.ledger_rec.specs.Fold.{is_refused}
use Rattle.ledger_rec.specs.Lists.{state_of}
use Rattle.ledger_rec.proofs.rules.is_refused.Goals as goal

pub returns-in-Some : goal.returns-in-Some
returns-in-Some c = c.in-Some.ensures (λ from key. is_refused from key (state_of c.args.lists.now).refused) c.requires.refused
