use Rattle.std.proofs.Common.{◌∙◌, ap, subst, sym}
use Rattle.node_model.specs.StoreStates.{StoreStand}
use Rattle.node_store.specs.Stored.{Holding, stand_of}
use Rattle.hub_core.specs.Hubs.{HubState, settings_of}
use Rattle.hub_core.specs.Opening.{IsWhole, no_seats, with_seat}
use Rattle.outbound_store.specs.declared.taking_store.TakingStore.{TakingStore}
use Rattle.outbound_desk.specs.Roaming.{home_behind, hub_behind, store_behind}
use Rattle.test_roaming.proofs.Seats.{two_rest}
use Rattle.test_roaming.proofs.hubs.desk_over.Goals as goal

pub returns : goal.returns
returns g c =
    let St : Holding g.row.D.Denot → StoreStand = λ s. stand_of g.D.Disk.tells g.D.Disk.content g.D.Disk.fault_count g.D.Disk.moment g.D.Disk.images s in
    let settings = settings_of c.args.conf in
    let same = ap (λ (s : TakingStore g.row.D.Denot). s.store) c.new-hub.ensures.store ∙ c.new.ensures.store in
    let at_store = subst (λ (s : Holding g.row.D.Denot). IsWhole (St s) (no_seats settings)) (sym same) (c.requires.fits settings) in
    let whole = subst (λ (h : HubState). IsWhole (St c.new-hub.result.store.store) h) (sym c.new-hub.ensures.seats) at_store in
    let first = c.in_ok-_first.ensures.ready whole in
    let ready = c.in_ok-seat.ensures.ready (record { fitted = first.fitted; settled = first.settled }) in
    let seats = c.in_ok-seat.ensures.ok ∙ ap with_seat (c.in_ok-_first.ensures.ok ∙ ap with_seat c.new-hub.ensures.seats) in
    λ k l. two_rest (store_behind g.D.Disk.tells g.D.Disk.content g.D.Disk.fault_count g.D.Disk.moment g.D.Disk.images) hub_behind home_behind _ settings _ seats (record { ready = ready; home_within = c.requires.home }) k l
