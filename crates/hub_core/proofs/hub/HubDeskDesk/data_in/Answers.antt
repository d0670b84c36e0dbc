use Rattle.node_model.specs.Calls.{Data_call}
use Rattle.node_model.specs.Desks.{data_answer}
use Rattle.hub_core.specs.Hubs.{hub_state}
use Rattle.hub_core.proofs.Turning.{kept_does}
use Rattle.hub_core.proofs.hub.HubDeskDesk.data_in.Goals as goal

pub returns-clause-made : goal.returns-clause-made
returns-clause-made g c =
    kept_does (g.S.Store.stand c.args.self.now.hub.store) (g.S.Store.stand c.data_row.new.self.hub.store) (hub_state c.args.self.now.hub.seats) (hub_state c.data_row.new.self.hub.seats) c.args.self.now.seat c.data_row.new.self.seat (Data_call c.args.bytes.now) (data_answer c.data_row.result) c.data_row.ensures.seat c.data_row.ensures.does
