use Rattle.std.proofs.Common.{ap, map}
use Rattle.ftn_addr.specs.Address.{address}
use Rattle.hub_core.specs.Hubs.{hub_state}
use Rattle.node_model.specs.StoreStates.{StoreStand}
use Rattle.node_store.specs.Stored.{Holding, stand_of}
use Rattle.outbound_store.specs.declared.taking_store.TakingStore.{TakingStore}
use Rattle.outbound_desk.proofs.DeskOpening.{anew_before, opens_behind, refuses_behind}
use Rattle.outbound_desk.proofs.desk.LineDeskTakingStoreDesk.begin.Goals as goal

pub prepare-requires-clause-ready : goal.prepare-requires-clause-ready
prepare-requires-clause-ready g c = record { ready = c.look_anew.ensures.ready c.args.self.now.desk.seat c.requires.ready.ready; home_within = c.requires.ready.home_within }

pub returns-in-Ok-clause-made : goal.returns-in-Ok-clause-made
returns-in-Ok-clause-made g c =
    let St : Holding g.row.D.Denot → StoreStand = λ s. stand_of g.D.Disk.tells g.D.Disk.content g.D.Disk.fault_count g.D.Disk.moment g.D.Disk.images s in
    let desk = c.args.self.now.desk in
    let hub = c.look_anew.new.self in
    anew_before c.args.role (map address c.args.peers.now) c.args.secure c.args.now St (hub_state desk.hub.seats) (hub_state hub.seats) _ desk.seat _ desk.hub.store.store hub.store.store _ _ c.look_anew.ensures.seats (ap (λ (t : TakingStore g.row.D.Denot). t.store) c.look_anew.ensures.store)
    (opens_behind c.args.role (map address c.args.peers.now) c.args.secure c.args.now (hub_state hub.seats) _ _ desk.seat _ _ (St hub.store.store) _ _ _ c.prepare.ensures.seats c.prepare.ensures.seat c.begin-in-Ok.ensures.rule.0 c.in-Ok.ensures.takes.0 c.in-Ok.ensures.takes.1 c.begin-in-Ok.ensures.made)

pub returns-in-Err-clause-made : goal.returns-in-Err-clause-made
returns-in-Err-clause-made g c =
    let St : Holding g.row.D.Denot → StoreStand = λ s. stand_of g.D.Disk.tells g.D.Disk.content g.D.Disk.fault_count g.D.Disk.moment g.D.Disk.images s in
    let desk = c.args.self.now.desk in
    let hub = c.look_anew.new.self in
    anew_before c.args.role (map address c.args.peers.now) c.args.secure c.args.now St (hub_state desk.hub.seats) (hub_state hub.seats) _ desk.seat _ desk.hub.store.store hub.store.store _ _ c.look_anew.ensures.seats (ap (λ (t : TakingStore g.row.D.Denot). t.store) c.look_anew.ensures.store)
    (refuses_behind c.args.role (map address c.args.peers.now) c.args.secure c.args.now (hub_state hub.seats) _ desk.seat _ (St hub.store.store) _ _ c.prepare.ensures.seats c.prepare.ensures.seat c.in-Err.ensures.takes)
