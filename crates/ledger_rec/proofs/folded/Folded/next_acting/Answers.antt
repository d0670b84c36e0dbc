use Rattle.std.proofs.Common.{List, None, map, subst}
use Rattle.ftn_addr.specs.Address.{address}
use Rattle.file_index.specs.Turns.{FirstPast, NextTurn}
use Rattle.ledger_rec.specs.Acting.{is_acting}
use Rattle.ledger_rec.specs.Fold.{Folding}
use Rattle.ledger_rec.specs.Items.{entry}
use Rattle.ledger_rec.specs.declared.items.QueueItem.{QueueItem}
use Rattle.ledger_rec.proofs.Acts.{numbered}
use Rattle.ledger_rec.proofs.folded.Folded.next_acting.Goals as goal

pub returns-in-Some : goal.returns-in-Some
returns-in-Some c =
    let to = address c.args.dest.now in
    let turn = c.in-Some.turn in
    numbered c.args.self.now.state.queue to turn
    (subst (λ (f : Folding). FirstPast (is_acting f.state.queue to) None turn) c.self.view_is
    (subst (λ (items : List QueueItem). FirstPast (is_acting (map entry items) to) None turn) c.as_slice.ensures.value c.in-Some.ensures))

pub returns-in-None : goal.returns-in-None
returns-in-None c =
    let to = address c.args.dest.now in
    subst (λ (f : Folding). NextTurn (is_acting f.state.queue to) None None) c.self.view_is
    (subst (λ (items : List QueueItem). NextTurn (is_acting (map entry items) to) None None) c.as_slice.ensures.value c.in-None.ensures)
