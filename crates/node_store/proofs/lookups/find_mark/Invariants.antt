use Rattle.std.proofs.Common.{◌≡◌, drop}
use Rattle.std.specs.Prelude.{find}
use Rattle.ftn_addr.specs.Address.{address}
use Rattle.ftn_addr.specs.Files.{is_same}
use Rattle.ftn_addr.specs.Key.{key_of as key_in}
use Rattle.ledger_rec.specs.declared.items.MarkItem.{MarkItem}
use Rattle.node_store.proofs.lookups.find_mark.Given as goal

abbrev pub invariant-loop-mark : goal.invariant-loop-mark
invariant-loop-mark l =
    find (λ (m : MarkItem). is_same (address l.from) (key_in l.key) (address m.from) (key_in m.key)) (drop l.mark-index l.marks) ≡ find (λ (m : MarkItem). is_same (address l.from) (key_in l.key) (address m.from) (key_in m.key)) l.marks
