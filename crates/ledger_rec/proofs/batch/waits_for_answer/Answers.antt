use Rattle.std.proofs.Common.{◌≡◌, map, sym, ◌∙◌, rules}
use Rattle.std.specs.Prelude.{position, is_some}
use Rattle.ledger_rec.proofs.Changing.{position_any, changed_any}
use Rattle.ledger_rec.proofs.Mapped.{list_any_map}
use Rattle.ledger_rec.specs.Fold.{waits_for_answer, answered}
use Rattle.ledger_rec.specs.Items.{receipt}
use Rattle.ledger_rec.proofs.batch.waits_for_answer.Goals as goal

pub returns : goal.returns
returns c =
    let xs = c.args.lists.now.inbox.items in
    let there : c.is_some.result ≡ is_some (position (λ r. waits_for_answer c.args.receipt (receipt r)) xs) = search rules in
    there ∙ position_any (λ r. waits_for_answer c.args.receipt (receipt r)) xs ∙ sym (list_any_map (waits_for_answer c.args.receipt) receipt xs) ∙ sym (changed_any (waits_for_answer c.args.receipt) answered (map receipt xs))
