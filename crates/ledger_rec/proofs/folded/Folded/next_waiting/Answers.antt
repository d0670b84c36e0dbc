use Rattle.std.proofs.Common.{List, map, subst}
use Rattle.ftn_addr.specs.Address.{address}
use Rattle.file_index.specs.Turns.{NextTurn}
use Rattle.ledger_rec.specs.Fold.{Folding}
use Rattle.ledger_rec.specs.Items.{entry}
use Rattle.ledger_rec.specs.Waiting.{is_waiting}
use Rattle.ledger_rec.specs.declared.items.QueueItem.{QueueItem}
use Rattle.ledger_rec.proofs.folded.Folded.next_waiting.Goals as goal

pub returns : goal.returns
returns c =
    let to = address c.args.dest.now in
    let next = c.next.result in
    subst (λ (f : Folding). NextTurn (is_waiting f.state.queue to) c.args.after next) c.self.view_is
    (subst (λ (items : List QueueItem). NextTurn (is_waiting (map entry items) to) c.args.after next) c.as_slice.ensures.value c.next.ensures)
