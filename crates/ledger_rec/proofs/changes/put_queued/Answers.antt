use Rattle.std.proofs.Common.{◌≡◌, length, map, List, refl, sym, ap, subst, ◌∙◌, rules}
use Rattle.ledger_rec.proofs.Agreeing.{agrees_queued, map_more}
use Rattle.ledger_rec.proofs.Starting.{length_twice}
use Rattle.ledger_rec.specs.Indexed.{Agrees, is_queued}
use Rattle.ledger_rec.specs.Items.{Entry, entry}
use Rattle.ledger_rec.specs.Lists.{state_of}
use Rattle.ledger_rec.specs.Record.{new_file}
use Rattle.ledger_rec.specs.declared.index.Index.{Index}
use Rattle.ledger_rec.proofs.changes.put_queued.Goals as goal

pub returns-clause-agrees : goal.returns-clause-agrees
returns-clause-agrees c =
    let s = state_of c.args.lists.now in
    let x = c.args.lists.now.index in
    let y : Index = record { received = x.received; refused = x.refused; queued = c.note.new.self; numbers = c.note-2.new.self; receipts = x.receipts; parts = x.parts; takes = x.takes; greatest = c.args.rec.number } in
    let len : c.len.result ≡ length c.args.lists.now.queue.items = search rules in
    let queue = sym (ap (map entry) c.push.ensures.items ∙ sym (map_more entry c.args.lists.now.queue.items _)) in
    subst (λ (l : List Entry). Agrees y (record s { queue = l })) queue
    (agrees_queued x y s (new_file c.args.rec) c.requires.agrees c.requires.rising
    (c.note.ensures (λ dest key. is_queued dest key s.queue) c.requires.agrees.queued)
    (c.note-2.ensures (map (λ (e : Entry). e.number) s.queue) (len ∙ length_twice (λ (e : Entry). e.number) entry c.args.lists.now.queue.items) c.requires.agrees.numbers)
    refl refl refl refl refl refl)
