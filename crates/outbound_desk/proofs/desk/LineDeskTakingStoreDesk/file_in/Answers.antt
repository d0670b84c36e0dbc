use Rattle.std.proofs.Common.{Ok, sym, subst}
use Rattle.ftn_addr.specs.Address.{address}
use Rattle.ftn_addr.specs.Limits.{IsAddress}
use Rattle.hub_core.specs.Hubs.{hub_state}
use Rattle.node_model.specs.StoreStates.{StoreStand}
use Rattle.node_store.specs.Stored.{Holding, stand_of}
use Rattle.ftn_addr.specs.Key.{key_of}
use Rattle.hub_core.specs.HubCalls.{Does}
use Rattle.hub_core.proofs.Turning.{kept_does}
use Rattle.node_model.specs.Calls.{File_call}
use Rattle.node_model.specs.Desks.{file_answer}
use Rattle.node_model.specs.declared.desk.FileIn.TheVariants as V
use Rattle.outbound_desk.specs.declared.desk.DeskOutbound.{DeskOutbound}
use Rattle.outbound_desk.proofs.BehindDesk.{kept_behind, ready_behind}
use Rattle.outbound_desk.proofs.desk.LineDeskTakingStoreDesk.file_in.Goals as goal

pub returns-in-Ok-Whole-clause-made : goal.returns-in-Ok-Whole-clause-made
returns-in-Ok-Whole-clause-made g c =
    let St : Holding g.row.D.Denot → StoreStand = λ s. stand_of g.D.Disk.tells g.D.Disk.content g.D.Disk.fault_count g.D.Disk.moment g.D.Disk.images s in
    let does = subst (λ x. Does (St c.args.self.now.desk.hub.store.store) (hub_state c.args.self.now.desk.hub.seats) c.args.self.now.desk.seat (File_call (key_of c.args.key.now) c.args.offset) (file_answer (Ok x)) (St c.file_row.new.self.hub.store.store) (hub_state c.file_row.new.self.hub.seats)) c.in-Ok-Whole.field-0-is c.in-Ok-Whole.ensures.does in
    kept_behind St (St c.args.self.now.desk.hub.store.store) (hub_state c.args.self.now.desk.hub.seats) (hub_state c.file_row.new.self.hub.seats) c.args.self.now.desk.seat c.file_row.new.self.hub.store.store (File_call (key_of c.args.key.now) c.args.offset) (file_answer (Ok V.Whole)) does (hub_state c.answer_newest.new.self.desk.hub.seats) c.file_row.new.self.seat c.answer_newest.new.self.desk.seat c.answer_newest.new.self.desk.hub.store.store tt tt c.in-Ok-Whole.ensures.seat c.answer_newest.ensures.seat c.answer_newest.ensures.behind

pub returns-in-Ok-Whole-clause-ready : goal.returns-in-Ok-Whole-clause-ready
returns-in-Ok-Whole-clause-ready g c =
    let St : Holding g.row.D.Denot → StoreStand = λ s. stand_of g.D.Disk.tells g.D.Disk.content g.D.Disk.fault_count g.D.Disk.moment g.D.Disk.images s in
    let does = subst (λ x. Does (St c.args.self.now.desk.hub.store.store) (hub_state c.args.self.now.desk.hub.seats) c.args.self.now.desk.seat (File_call (key_of c.args.key.now) c.args.offset) (file_answer (Ok x)) (St c.file_row.new.self.hub.store.store) (hub_state c.file_row.new.self.hub.seats)) c.in-Ok-Whole.field-0-is c.in-Ok-Whole.ensures.does in
    record { ready = ready_behind St (St c.args.self.now.desk.hub.store.store) (hub_state c.args.self.now.desk.hub.seats) (hub_state c.file_row.new.self.hub.seats) c.args.self.now.desk.seat c.file_row.new.self.hub.store.store (File_call (key_of c.args.key.now) c.args.offset) (file_answer (Ok V.Whole)) does (hub_state c.answer_newest.new.self.desk.hub.seats) c.file_row.new.self.seat c.answer_newest.new.self.desk.seat c.answer_newest.new.self.desk.hub.store.store c.in-Ok-Whole.ensures.seat c.answer_newest.ensures.seat c.answer_newest.ensures.behind; home_within = subst (λ (x : DeskOutbound). IsAddress (address x.home)) (sym c.answer_newest.ensures.outbound) c.requires.ready.home_within }

pub returns-in-Ok-clause-made : goal.returns-in-Ok-clause-made
returns-in-Ok-clause-made g c =
    let St : Holding g.row.D.Denot → StoreStand = λ s. stand_of g.D.Disk.tells g.D.Disk.content g.D.Disk.fault_count g.D.Disk.moment g.D.Disk.images s in
    kept_does (St c.args.self.now.desk.hub.store.store) (St c.file_row.new.self.hub.store.store) (hub_state c.args.self.now.desk.hub.seats) (hub_state c.file_row.new.self.hub.seats) c.args.self.now.desk.seat c.file_row.new.self.seat (File_call (key_of c.args.key.now) c.args.offset) _ c.in-Ok.ensures.seat c.in-Ok.ensures.does

pub returns-in-Err-clause-made : goal.returns-in-Err-clause-made
returns-in-Err-clause-made g c =
    let St : Holding g.row.D.Denot → StoreStand = λ s. stand_of g.D.Disk.tells g.D.Disk.content g.D.Disk.fault_count g.D.Disk.moment g.D.Disk.images s in
    kept_does (St c.args.self.now.desk.hub.store.store) (St c.file_row.new.self.hub.store.store) (hub_state c.args.self.now.desk.hub.seats) (hub_state c.file_row.new.self.hub.seats) c.args.self.now.desk.seat c.file_row.new.self.seat (File_call (key_of c.args.key.now) c.args.offset) _ c.in-Err.ensures.seat c.in-Err.ensures.does
