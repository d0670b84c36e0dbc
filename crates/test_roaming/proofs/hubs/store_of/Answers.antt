use Rattle.outbound_desk.proofs.NewStores.{new_whole}
use Rattle.test_roaming.proofs.hubs.store_of.Goals as goal

pub returns-in-Ok : goal.returns-in-Ok
returns-in-Ok g c = λ settings.
    new_whole g.D.Disk.tells g.D.Disk.content g.D.Disk.fault_count g.D.Disk.moment g.D.Disk.images c.in-Ok.store settings (c.opens_soundly.ensures settings) c.in-Ok.ensures.memory c.opens_as_told.ensures.stopped
