use Rattle.std.proofs.Common.{refl, sym, ap}
use Rattle.node_model.specs.Calls.{Data_call, Refused, Disk}
use Rattle.node_model.specs.Stores.{StoreState}
use Rattle.node_model.specs.Desks.{data_answer}
use Rattle.hub_core.specs.Hubs.{hub_state}
use Rattle.hub_core.proofs.Owning.{own_same}
use Rattle.hub_core.proofs.Turning.{does_turn, turn_ready, refused_does}
use Rattle.hub_core.proofs.hub.HubDesk.data_row.Goals as goal

pub returns-in-Some-clause-does : goal.returns-in-Some-clause-does
returns-in-Some-clause-does g c =
    let u = g.S.Store.stand c.args.self.now.hub.store in
    let v = g.S.Store.stand c.take_turn.new.store in
    let h = hub_state c.args.self.now.hub.seats in
    let call = Data_call c.args.bytes.now in
    does_turn u v v h h c.args.self.now.seat call (Refused (Disk c.in-Some.count)) c.take_turn.ensures.made c.take_turn.ensures.leaves
    (refused_does v h h c.args.self.now.seat call c.in-Some.count (sym c.in-Some.ensures) (λ skips. skips) (λ k. refl) refl c.requires.ready.given (own_same c.args.self.now.seat h v (ap (λ (s : StoreState). s.seat) c.take_turn.ensures.made)))

pub data_now-requires-clause-turn : goal.data_now-requires-clause-turn
data_now-requires-clause-turn g c =
    turn_ready (g.S.Store.stand c.args.self.now.hub.store) (g.S.Store.stand c.take_turn.new.store) (hub_state c.args.self.now.hub.seats) c.args.self.now.seat c.requires.ready c.take_turn.ensures.made c.take_turn.ensures.settled (sym c.in_default.ensures)

pub returns-clause-does : goal.returns-clause-does
returns-clause-does g c =
    does_turn (g.S.Store.stand c.args.self.now.hub.store) (g.S.Store.stand c.take_turn.new.store) (g.S.Store.stand c.data_now.new.self.store) (hub_state c.args.self.now.hub.seats) (hub_state c.data_now.new.self.seats) c.args.self.now.seat (Data_call c.args.bytes.now) (data_answer c.data_now.result) c.take_turn.ensures.made c.take_turn.ensures.leaves c.data_now.ensures.does
