use Rattle.outbound_store.specs.declared.taking_store.TakingStore.{TakingStore}
use Rattle.node_store.specs.Stored.{stand_of}
use Rattle.outbound_store.proofs.GoesOnLemmas.{store_goes_on}
use Rattle.outbound_round.proofs.taking.take_address.Goals as goal

pub returns-clause-goes_on : goal.returns-clause-goes_on
returns-clause-goes_on g c =
    store_goes_on (λ (t : TakingStore g.row.D.Denot). stand_of g.D.Disk.tells g.D.Disk.content g.D.Disk.fault_count g.D.Disk.moment g.D.Disk.images t.store) _ _ c.take_in.ensures.ruled
