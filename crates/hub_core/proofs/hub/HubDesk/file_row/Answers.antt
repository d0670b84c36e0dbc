use Rattle.std.proofs.Common.{refl, sym, ap, subst}
use Rattle.ftn_addr.specs.Key.{key_of}
use Rattle.node_model.specs.Calls.{File_call, Refused, Disk}
use Rattle.node_model.specs.Stores.{StoreState}
use Rattle.node_model.specs.Desks.{file_answer}
use Rattle.hub_core.specs.Indices.{ClaimsOf}
use Rattle.hub_core.proofs.Claiming.{dropped_finds}
use Rattle.hub_core.specs.Hubs.{HubState, hub_state}
use Rattle.hub_core.proofs.Dropping.{dropped_does}
use Rattle.hub_core.proofs.Turning.{does_turn, turn_ready}
use Rattle.hub_core.specs.Holders.{HoldsOf}
use Rattle.hub_core.proofs.HoldSteps.{dropped_holds}
use Rattle.hub_core.proofs.hub.HubDesk.file_row.Goals as goal

pub returns-in-Some-clause-does : goal.returns-in-Some-clause-does
returns-in-Some-clause-does g c =
    let u = g.S.Store.stand c.args.self.now.hub.store in
    let v = g.S.Store.stand c.take_turn.new.store in
    let h = hub_state c.args.self.now.hub.seats in
    let k = hub_state c.drop_hold.new.self in
    let key = key_of c.args.key.now in
    does_turn u v v h k c.args.self.now.seat (File_call key c.args.offset) (Refused (Disk c.in-Some.count)) c.take_turn.ensures.made c.take_turn.ensures.leaves
    (dropped_does v h k c.args.self.now.seat key c.args.offset c.in-Some.count (sym c.in-Some.ensures) (ap (λ (s : StoreState). s.seat) c.take_turn.ensures.made) c.requires.ready.given c.requires.in_session c.drop_hold.ensures)

pub file_now-requires-clause-turn : goal.file_now-requires-clause-turn
file_now-requires-clause-turn g c =
    turn_ready (g.S.Store.stand c.args.self.now.hub.store) (g.S.Store.stand c.take_turn.new.store) (hub_state c.args.self.now.hub.seats) c.args.self.now.seat c.requires.ready c.take_turn.ensures.made c.take_turn.ensures.settled (sym c.in_default.ensures)

pub returns-clause-does : goal.returns-clause-does
returns-clause-does g c =
    does_turn (g.S.Store.stand c.args.self.now.hub.store) (g.S.Store.stand c.take_turn.new.store) (g.S.Store.stand c.file_now.new.self.store) (hub_state c.args.self.now.hub.seats) (hub_state c.file_now.new.self.seats) c.args.self.now.seat (File_call (key_of c.args.key.now) c.args.offset) (file_answer c.file_now.result) c.take_turn.ensures.made c.take_turn.ensures.leaves c.file_now.ensures

pub invariant_of-self-in-Some : goal.invariant_of-self-in-Some
invariant_of-self-in-Some g c =
    let hub = c.args.self.now.hub in
    record { claimed = subst (λ (k : HubState). ClaimsOf hub.claims k.chairs) (sym c.drop_hold.ensures) (dropped_finds hub.claims (hub_state hub.seats) c.args.self.now.seat hub.claimed); held = subst (λ (k : HubState). HoldsOf hub.holds k.chairs) (sym c.drop_hold.ensures) (dropped_holds hub.holds (hub_state hub.seats) c.args.self.now.seat hub.held) }
