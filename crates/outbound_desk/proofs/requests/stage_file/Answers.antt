use Rattle.std.proofs.Common.{Ok, Err}
use Rattle.node_model.specs.StoreStates.{StoreStand}
use Rattle.node_store.specs.Stored.{Holding, stand_of}
use Rattle.outbound_desk.proofs.AnswerRows.{answers_then, copy_so, memory_answers}
use Rattle.outbound_desk.proofs.requests.stage_file.Goals as goal

pub returns-in-Ok-Absent-clause-so : goal.returns-in-Ok-Absent-clause-so
returns-in-Ok-Absent-clause-so g c =
    let St : Holding g.row.D.Denot → StoreStand = λ s. stand_of g.D.Disk.tells g.D.Disk.content g.D.Disk.fault_count g.D.Disk.moment g.D.Disk.images s in
    copy_so (Ok c.in-Ok-Absent.field-0) c.args.path.now.list (St c.args.store.now) (St c.stage_copy.new.self) c.requires.whole c.in-Ok-Absent.ensures.kept

pub returns-in-Ok-Over-clause-so : goal.returns-in-Ok-Over-clause-so
returns-in-Ok-Over-clause-so g c =
    let St : Holding g.row.D.Denot → StoreStand = λ s. stand_of g.D.Disk.tells g.D.Disk.content g.D.Disk.fault_count g.D.Disk.moment g.D.Disk.images s in
    copy_so (Ok c.in-Ok-Over.field-0) c.args.path.now.list (St c.args.store.now) (St c.stage_copy.new.self) c.requires.whole c.in-Ok-Over.ensures.kept

pub returns-in-Err-clause-so : goal.returns-in-Err-clause-so
returns-in-Err-clause-so g c =
    let St : Holding g.row.D.Denot → StoreStand = λ s. stand_of g.D.Disk.tells g.D.Disk.content g.D.Disk.fault_count g.D.Disk.moment g.D.Disk.images s in
    copy_so (Err c.in-Err.fault) c.args.path.now.list (St c.args.store.now) (St c.stage_copy.new.self) c.requires.whole c.in-Err.ensures.kept

pub returns-in-Ok-clause-so : goal.returns-in-Ok-clause-so
returns-in-Ok-clause-so g c =
    let St : Holding g.row.D.Denot → StoreStand = λ s. stand_of g.D.Disk.tells g.D.Disk.content g.D.Disk.fault_count g.D.Disk.moment g.D.Disk.images s in
    copy_so (Ok c.in-Ok-Copied.field-0) c.args.path.now.list (St c.args.store.now) (St c.stage_copy.new.self) c.requires.whole c.in-Ok-Copied.ensures.kept

pub returns-in-Err-file_for-clause-so : goal.returns-in-Err-file_for-clause-so
returns-in-Err-file_for-clause-so g c =
    let St : Holding g.row.D.Denot → StoreStand = λ s. stand_of g.D.Disk.tells g.D.Disk.content g.D.Disk.fault_count g.D.Disk.moment g.D.Disk.images s in
    let so = copy_so (Ok c.in-Ok-Copied.field-0) c.args.path.now.list (St c.args.store.now) (St c.stage_copy.new.self) c.requires.whole c.in-Ok-Copied.ensures.kept in
    answers_then (St c.args.store.now) (St c.stage_copy.new.self) (St c.stage_copy.new.self) _ so.1 (memory_answers (St c.stage_copy.new.self) so.0)
