use Rattle.node_model.specs.Calls.{Skip_call, Settled}
use Rattle.node_model.specs.Desks.{number_in}
use Rattle.hub_core.specs.Hubs.{hub_state, seat_part}
use Rattle.hub_core.proofs.GotSteps.{turn_kept}
use Rattle.hub_core.proofs.Turning.{kept_turn}
use Rattle.hub_core.proofs.hub.HubDeskDesk.skip.Goals as goal

pub skip_now-requires-clause-ready : goal.skip_now-requires-clause-ready
skip_now-requires-clause-ready g c =
    turn_kept (g.S.Store.stand c.args.self.now.hub.store) (g.S.Store.stand c.take_turn.new.store) (hub_state c.args.self.now.hub.seats) c.args.self.now.seat c.requires.ready c.take_turn.ensures.made c.take_turn.ensures.settled

pub returns-clause-made : goal.returns-clause-made
returns-clause-made g c =
    kept_turn (g.S.Store.stand c.args.self.now.hub.store) (g.S.Store.stand c.take_turn.new.store) (g.S.Store.stand c.skip_now.new.self.store) (hub_state c.args.self.now.hub.seats) (hub_state c.skip_now.new.self.seats) c.args.self.now.seat (Skip_call (number_in (seat_part (hub_state c.args.self.now.hub.seats) c.args.self.now.seat).claim)) Settled c.take_turn.ensures.made c.take_turn.ensures.leaves c.skip_now.ensures
