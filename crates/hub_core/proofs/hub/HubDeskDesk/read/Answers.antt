use Rattle.std.proofs.Common.{refl, sym, length, ap}
use Rattle.node_model.specs.Calls.{Read_call, Refused, Disk}
use Rattle.node_model.specs.Stores.{StoreState}
use Rattle.node_model.specs.Desks.{read_answer}
use Rattle.hub_core.specs.Hubs.{hub_state}
use Rattle.hub_core.proofs.Owning.{own_same}
use Rattle.hub_core.proofs.Turning.{kept_turn, turn_ready, refused_does}
use Rattle.hub_core.proofs.hub.HubDeskDesk.read.Goals as goal

pub returns-in-Some-clause-made : goal.returns-in-Some-clause-made
returns-in-Some-clause-made g c =
    let u = g.S.Store.stand c.args.self.now.hub.store in
    let v = g.S.Store.stand c.take_turn.new.store in
    let h = hub_state c.args.self.now.hub.seats in
    let call = Read_call c.args.at (length c.args.out.now) in
    kept_turn u v v h h c.args.self.now.seat call (Refused (Disk c.in-Some.count)) c.take_turn.ensures.made c.take_turn.ensures.leaves
    (refused_does v h h c.args.self.now.seat call c.in-Some.count (sym c.in-Some.ensures) (λ skips. skips) (λ k. refl) refl c.requires.ready.given (own_same c.args.self.now.seat h v (ap (λ (s : StoreState). s.seat) c.take_turn.ensures.made)))

pub read_now-requires-clause-turn : goal.read_now-requires-clause-turn
read_now-requires-clause-turn g c =
    turn_ready (g.S.Store.stand c.args.self.now.hub.store) (g.S.Store.stand c.take_turn.new.store) (hub_state c.args.self.now.hub.seats) c.args.self.now.seat c.requires.ready c.take_turn.ensures.made c.take_turn.ensures.settled (sym c.in_default.ensures)

pub returns-clause-made : goal.returns-clause-made
returns-clause-made g c =
    kept_turn (g.S.Store.stand c.args.self.now.hub.store) (g.S.Store.stand c.take_turn.new.store) (g.S.Store.stand c.read_now.new.self.store) (hub_state c.args.self.now.hub.seats) (hub_state c.read_now.new.self.seats) c.args.self.now.seat (Read_call c.args.at (length c.args.out.now)) (read_answer c.read_now.new.out c.read_now.result) c.take_turn.ensures.made c.take_turn.ensures.leaves c.read_now.ensures.does

pub returns-in-Some-clause-rule : goal.returns-in-Some-clause-rule
returns-in-Some-clause-rule g c =
    (refl, own_same c.args.self.now.seat (hub_state c.args.self.now.hub.seats) (g.S.Store.stand c.take_turn.new.store) (ap (λ (s : StoreState). s.seat) c.take_turn.ensures.made))
