use Rattle.std.proofs.Common.{List, ℕ, map, subst}
use Rattle.disk_model.specs.Folders.{ListsFolder}
use Rattle.mem_disk.specs.Holding.{under}
use Rattle.mem_disk.proofs.PlayLemmas.{told_by}
use Rattle.mem_disk.proofs.yard_calls.MemDiskYard.names.Goals as goal

pub returns-in-Ok-pass-clause-told : goal.returns-in-Ok-pass-clause-told
returns-in-Ok-pass-clause-told c =
    let old = c.args.self.now in
    let names = map (λ name. name.list) c.in-Ok.names.items in
    told_by old (λ w. ListsFolder c.args.folder.now.list w.outside names)
    (subst (λ (f : List ℕ). ListsFolder f (λ path. under path old.held.outside) names) c.as_slice.ensures c.in-Ok.ensures)
