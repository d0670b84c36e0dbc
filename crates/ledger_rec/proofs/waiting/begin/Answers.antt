use Rattle.std.proofs.Common.{◌≡◌, ◌∙◌, ◌&&◌, ◌||◌, List, true, sym, ap}
use Rattle.ftn_addr.specs.Address.{address, same_address}
use Rattle.file_index.specs.Turns.{same_turn}
use Rattle.file_index.specs.declared.turns.Turn.{Turn}
use Rattle.ledger_rec.specs.Items.{Entry}
use Rattle.ledger_rec.specs.Waiting.{has_need, is_needed}
use Rattle.ledger_rec.proofs.Waits.{begun_waits, is_turn, last_file}
use Rattle.ledger_rec.proofs.waiting.begin.Goals as goal

pub returns-then-is_open : goal.returns-then-is_open
returns-then-is_open c = λ whole to t.
    let need = c.args.need in
    let was = c.requires in
    let item = c.in-Some.item.now in
    let file = last_file c.args.queue.now was.old was.file item was.is c.in-Some.ensures.value in
    let waits : has_need need was.file ≡ true = ap (has_need need) (sym file) ∙ sym c.is_open.ensures ∙ c.if-is_open.true in
    c.note.ensures (is_needed need was.old) was.turns whole to t
    ∙ ap (λ (u : Turn). is_needed need was.old to t || (same_address to (address item.dest) && same_turn t u)) c.turn.ensures
    ∙ ap (λ (e : Entry). is_needed need was.old to t || is_turn need to t e) file
    ∙ begun_waits need was.old was.file to t waits
    ∙ ap (λ (queue : List Entry). is_needed need queue to t) (sym was.is)
