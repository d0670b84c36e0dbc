use Rattle.node_store.specs.Stored.{stand_of}
use Rattle.outbound_store.specs.Held.{drawn_as, left_in}
use Rattle.outbound_store.proofs.SeenKept.{calm_seen}
use Rattle.outbound_store.proofs.taking_store.TakingStore.now_is_told.Goals as goal

pub returns : goal.returns
returns g c =
    let s = c.args.self.now.store in
    calm_seen (stand_of g.D.Disk.tells g.D.Disk.content g.D.Disk.fault_count g.D.Disk.moment g.D.Disk.images s) (left_in s.memory.broken s.takes.left) (drawn_as s.takes.drawn s.takes.last) c.now_is_told.ensures
