use Rattle.ftn_addr.specs.Key.{key_of}
use Rattle.node_model.specs.Calls.{File_call}
use Rattle.node_model.specs.Desks.{file_answer}
use Rattle.hub_core.specs.Hubs.{hub_state}
use Rattle.hub_core.proofs.Turning.{kept_does}
use Rattle.hub_core.proofs.hub.HubDeskDesk.file_in.Goals as goal

pub returns-clause-made : goal.returns-clause-made
returns-clause-made g c =
    kept_does (g.S.Store.stand c.args.self.now.hub.store) (g.S.Store.stand c.file_row.new.self.hub.store) (hub_state c.args.self.now.hub.seats) (hub_state c.file_row.new.self.hub.seats) c.args.self.now.seat c.file_row.new.self.seat (File_call (key_of c.args.key.now) c.args.offset) (file_answer c.file_row.result) c.file_row.ensures.seat c.file_row.ensures.does
