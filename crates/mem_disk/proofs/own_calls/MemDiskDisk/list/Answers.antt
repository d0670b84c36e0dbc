use Rattle.disk_model.specs.Folders.{ListsFiles}
use Rattle.mem_disk.proofs.PlayLemmas.{told_by}
use Rattle.mem_disk.proofs.OwnLemmas.{lists_files}
use Rattle.mem_disk.proofs.own_calls.MemDiskDisk.list.Goals as goal

pub returns-in-Ok-pass-clause-told : goal.returns-in-Ok-pass-clause-told
returns-in-Ok-pass-clause-told c =
    let old = c.args.self.now in
    told_by old (λ w. ListsFiles w.own c.in-Ok.names.items) (lists_files old.held.own c.in-Ok.names.items c.in-Ok.ensures.names c.in-Ok.ensures.ascend)
