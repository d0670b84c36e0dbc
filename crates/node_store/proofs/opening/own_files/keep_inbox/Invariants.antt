use Rattle.std.proofs.Common.{◌≡◌, map, take}
use Rattle.std.specs.List.{AllByRecursion}
use Rattle.disk_model.specs.Changes.{Every}
use Rattle.ledger_rec.specs.Items.{receipt}
use Rattle.node_store.specs.Keeping.{AreReceipts, Beside, IsKeptReceipt, IsUntouched, given_in}
use Rattle.node_store.proofs.opening.own_files.keep_inbox.Given as goal

abbrev pub invariant-loop-item : goal.invariant-loop-item
invariant-loop-item g l = record {
  untouched : IsUntouched g.D.Disk.files g.D.Disk.moment g.D.Disk.images l.fn.disk l.disk;
  kept : Beside g.D.Disk.files g.D.Disk.moment g.D.Disk.images (λ f c. AllByRecursion (λ r. IsKeptReceipt r f c) (map receipt (take l.item-index l.inbox))) l.disk;
  given : Every (g.D.Disk.files l.disk) (λ f. l.given.items ≡ given_in f (map receipt (take l.item-index l.inbox)));
  receipts : AreReceipts l.given.items (map receipt l.inbox);
  calm : g.D.Disk.fault_count l.disk ≡ g.D.Disk.fault_count l.fn.disk;
}
