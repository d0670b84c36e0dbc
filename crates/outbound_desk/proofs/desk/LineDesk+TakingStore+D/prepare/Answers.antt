use Rattle.std.proofs.Common.{ℕ, subst}
use Rattle.hub_core.specs.Hubs.{HubState, hub_state}
use Rattle.node_model.specs.StoreStates.{StoreStand}
use Rattle.node_store.specs.Stored.{Holding, stand_of}
use Rattle.outbound_desk.specs.Lines.{TakesPeers}
use Rattle.outbound_desk.proofs.Taking.{takes_both}
use Rattle.outbound_desk.proofs.desk.LineDesk+TakingStore+D.prepare.Goals as goal

pub returns-clause-takes : goal.returns-clause-takes
returns-clause-takes g c =
    let St : Holding g.row.D.Denot → StoreStand = λ s. stand_of g.D.Disk.tells g.D.Disk.content g.D.Disk.fault_count g.D.Disk.moment g.D.Disk.images s in
    let u = (St c.args.self.now.desk.hub.store.store) in
    let v = (St c.take_in_first.new.self.desk.hub.store.store) in
    let w = (St c.answer_first.new.self.desk.hub.store.store) in
    let second = subst (λ (x : HubState). TakesPeers x c.args.self.now.desk.seat v c.answer_first.result w) c.take_in_first.ensures.seats (subst (λ (k : ℕ). TakesPeers (hub_state c.take_in_first.new.self.desk.hub.seats) k v c.answer_first.result w) c.take_in_first.ensures.seat c.answer_first.ensures.takes) in
    takes_both (hub_state c.args.self.now.desk.hub.seats) c.args.self.now.desk.seat u v w c.answer_first.result c.in_ok-take_in_first.ensures.takes second
