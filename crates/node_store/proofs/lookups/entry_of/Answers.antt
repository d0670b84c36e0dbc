use Rattle.std.proofs.Common.{◌==◌, ◌∙◌, sym, ap, subst}
use Rattle.std.specs.Prelude.{IsSome, find}
use Rattle.ledger_rec.specs.declared.items.QueueItem.{QueueItem}
use Rattle.node_store.proofs.Known.{find_behind, rest_of}
use Rattle.node_store.proofs.lookups.entry_of.Goals as goal

pub first_entry-requires : goal.first_entry-requires
first_entry-requires c =
    let xs = c.args.queue.now in
    subst IsSome (sym (ap (find (λ (x : QueueItem). x.number == c.args.number)) (rest_of c.args.start xs) ∙ find_behind (λ (x : QueueItem). x.number) c.args.number c.args.start xs c.requires.none)) c.requires.there

pub returns : goal.returns
returns c =
    let xs = c.args.queue.now in
    sym (ap (find (λ (x : QueueItem). x.number == c.args.number)) (rest_of c.args.start xs) ∙ find_behind (λ (x : QueueItem). x.number) c.args.number c.args.start xs c.requires.none) ∙ c.first_entry.ensures
