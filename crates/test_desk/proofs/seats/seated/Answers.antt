use Rattle.std.proofs.Common.{◌∙◌, ap, subst, sym}
use Rattle.node_model.specs.Stores.{StoreStand}
use Rattle.node_store.specs.Stored.{Holding, stand_of}
use Rattle.hub_core.specs.Hubs.{HubState, settings_of}
use Rattle.hub_core.specs.Opening.{IsWhole, no_seats}
use Rattle.outbound_store.specs.declared.taking_store.TakingStore.{TakingStore}
use Rattle.test_desk.proofs.seats.seated.Goals as goal

pub returns : goal.returns
returns g c =
    let St : Holding g.row.D.Denot → StoreStand = λ s. stand_of g.D.Disk.tells g.D.Disk.content g.D.Disk.fault_count g.D.Disk.moment g.D.Disk.images s in
    let settings = settings_of c.conf.result in
    let same = ap (λ (s : TakingStore g.row.D.Denot). s.store) c.new-hub.ensures.store ∙ c.new.ensures.store in
    let at_store = subst (λ (s : Holding g.row.D.Denot). IsWhole (St s) (no_seats settings)) (sym same) (c.requires settings) in
    let whole = subst (λ (h : HubState). IsWhole (St c.new-hub.result.store.store) h) (sym c.new-hub.ensures.seats) at_store in
    let first = c.in_ok-_first.ensures.ready whole in
    c.in_ok-seat.ensures.ready (record { fitted = first.fitted; settled = first.settled })
