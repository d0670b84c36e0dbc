-- What look-ups find in the items of a fold, as they lie in memory (own).
use Rattle.ledger_rec.specs.declared.items.MarkItem.{MarkItem}
use Rattle.node_model.specs.declared.store.PartAt.{PartAt}

-- a mark's number, and how much of its file it keeps
abbrev pub at_mark : MarkItem → PartAt
at_mark m = record { part = m.part; len = m.len }
