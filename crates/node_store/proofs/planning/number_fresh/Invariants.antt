use Rattle.std.proofs.Common.{◌≡◌, drop}
use Rattle.std.specs.Prelude.{find}
use Rattle.ftn_addr.specs.Address.{address}
use Rattle.ftn_addr.specs.Files.{is_same}
use Rattle.ftn_addr.specs.Key.{key_of}
use Rattle.ledger_rec.specs.declared.record.NewFileRec.{NewFileRec}
use Rattle.node_store.proofs.planning.number_fresh.Given as goal

abbrev pub invariant-loop-item : goal.invariant-loop-item
invariant-loop-item l =
    find (λ (x : NewFileRec). is_same (address l.file.dest) (key_of l.file.key) (address x.dest) (key_of x.key)) (drop l.item-index l.fresh) ≡ find (λ (x : NewFileRec). is_same (address l.file.dest) (key_of l.file.key) (address x.dest) (key_of x.key)) l.fresh
