use Rattle.std.proofs.Common.{◌≡◌, ◌+◌, ◌++◌, List, [], ◌∷◌, map, take, sym, ap, ◌∙◌}
use Rattle.std.proofs.lemmas.List.{take_more}
use Rattle.ftn_addr.specs.Address.{address}
use Rattle.file_index.proofs.Turning.{next_alike}
use Rattle.file_index.specs.declared.turns.Turn.{Turn}
use Rattle.ledger_rec.specs.Items.{Entry, entry}
use Rattle.ledger_rec.specs.Waiting.{is_needed, needs_at}
use Rattle.ledger_rec.specs.declared.items.QueueItem.{QueueItem}
use Rattle.ledger_rec.proofs.Agreeing.{any_more, map_more}
use Rattle.ledger_rec.proofs.waiting.first_needed.Goals as goal

pub loop-item-preserved : goal.loop-item-preserved
loop-item-preserved c =
    let xs = c.args.queue.now in
    let i = c.loop-item.item-index in
    let x = c.item-item.result in
    let need = c.args.need in
    let to = address c.args.dest.now in
    let before = map entry (take i xs) in
    let longer : map entry (take (i + 1) xs) ≡ before ++ entry x ∷ [] =
    ap (map entry) (take_more xs i x c.loop-item-test.true ∙ ap (λ (y : QueueItem). take i xs ++ y ∷ []) (sym c.item-item.is)) ∙ sym (map_more entry (take i xs) x) in
    next_alike _ _ c.args.after c.earlier-first.result
    (λ t. sym (any_more (needs_at need to t) before (entry x)) ∙ ap (λ (queue : List Entry). is_needed need queue to t) (sym longer))
    (c.earlier-first.ensures (is_needed need before to) (λ (t : Turn). needs_at need to t (entry x)) c.args.after c.loop-item.invariant c.turn_past.ensures)
