use Rattle.node_store.specs.Tied.{tied}
use Rattle.outbound_store.proofs.HeldCalls.{tied_seen}
use Rattle.node_model.specs.StoreStates.{StoreStand}
use Rattle.node_store.specs.Stored.{Holding, stand_of}
use Rattle.outbound_store.proofs.taking_store.TakingStoreOutgoing.tied.Goals as goal

pub returns : goal.returns
returns g c =
    let St : Holding g.row.D.Denot → StoreStand = λ s. stand_of g.D.Disk.tells g.D.Disk.content g.D.Disk.fault_count g.D.Disk.moment g.D.Disk.images s in
    let a = c.args.self.now.store in
    tied_seen (St a) a.takes c.requires (c.takes_left.ensures.all c.requires) (tied g.D.Disk.tells (g.D.Disk.content c.args.self.now.store.disk) (g.D.Disk.fault_count c.args.self.now.store.disk) c.args.self.now.store.memory)
