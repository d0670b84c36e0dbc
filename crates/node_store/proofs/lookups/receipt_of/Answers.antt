use Rattle.std.proofs.Common.{◌==◌, ◌∙◌, sym, ap, subst}
use Rattle.std.specs.Prelude.{IsSome, find}
use Rattle.ledger_rec.specs.declared.items.InboxItem.{InboxItem}
use Rattle.node_store.proofs.Known.{find_behind, rest_of}
use Rattle.node_store.proofs.lookups.receipt_of.Goals as goal

pub first_receipt-requires : goal.first_receipt-requires
first_receipt-requires c =
    let xs = c.args.inbox.now in
    subst IsSome (sym (ap (find (λ (x : InboxItem). x.receipt == c.args.receipt)) (rest_of c.args.start xs) ∙ find_behind (λ (x : InboxItem). x.receipt) c.args.receipt c.args.start xs c.requires.none)) c.requires.there

pub returns : goal.returns
returns c =
    let xs = c.args.inbox.now in
    sym (ap (find (λ (x : InboxItem). x.receipt == c.args.receipt)) (rest_of c.args.start xs) ∙ find_behind (λ (x : InboxItem). x.receipt) c.args.receipt c.args.start xs c.requires.none) ∙ c.first_receipt.ensures
