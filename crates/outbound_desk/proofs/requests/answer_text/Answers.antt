use Rattle.std.proofs.Common.{map, sym, subst}
use Rattle.ftn_addr.specs.Address.{address}
use Rattle.node_model.specs.StoreStates.{StoreStand}
use Rattle.node_model.specs.StoreWords.{entry_of}
use Rattle.node_store.specs.Stored.{Holding, stand_of}
use Rattle.node_model.specs.StoreWords.{slot_of}
use Rattle.outbound_desk.specs.Answering.{IsBatch}
use Rattle.outbound_desk.proofs.AnswerRows.{answers_then, memory_answers, queue_answers, refused_answers}
use Rattle.outbound_desk.proofs.Batches.{batch_new}
use Rattle.outbound_desk.proofs.requests.answer_text.Goals as goal

pub returns-in-Err-clause-answers : goal.returns-in-Err-clause-answers
returns-in-Err-clause-answers g c =
    let St : Holding g.row.D.Denot → StoreStand = λ s. stand_of g.D.Disk.tells g.D.Disk.content g.D.Disk.fault_count g.D.Disk.moment g.D.Disk.images s in
    memory_answers (St c.args.store.now) c.requires.whole

pub queue_all-requires-clause-batch : goal.queue_all-requires-clause-batch
queue_all-requires-clause-batch g c =
    let St : Holding g.row.D.Denot → StoreStand = λ s. stand_of g.D.Disk.tells g.D.Disk.content g.D.Disk.fault_count g.D.Disk.moment g.D.Disk.images s in
    let b = subst (λ l. IsBatch (address c.args.asked.now.dest.now) (map entry_of l) (St c.args.store.now).state (St c.stage_files.new.store).state) (sym c.as_slice-2.ensures.value) c.in-Ok-stage_files.ensures.batch in
    (batch_new (address c.args.asked.now.dest.now) (map entry_of c.as_slice-2.result.now) (St c.args.store.now).state (St c.stage_files.new.store).state c.args.asked.now.receipt c.requires.dest c.requires.open b)

pub returns-in-Ok-queue_all-clause-answers : goal.returns-in-Ok-queue_all-clause-answers
returns-in-Ok-queue_all-clause-answers g c =
    let St : Holding g.row.D.Denot → StoreStand = λ s. stand_of g.D.Disk.tells g.D.Disk.content g.D.Disk.fault_count g.D.Disk.moment g.D.Disk.images s in
    let b = subst (λ l. IsBatch (address c.args.asked.now.dest.now) (map entry_of l) (St c.args.store.now).state (St c.stage_files.new.store).state) (sym c.as_slice-2.ensures.value) c.in-Ok-stage_files.ensures.batch in
    answers_then (St c.args.store.now) (St c.stage_files.new.store) (St c.queue_all.new.self) _ c.in-Ok-stage_files.ensures.so.1 (queue_answers c.args.asked.now.receipt (map entry_of c.as_slice-2.result.now) (map slot_of c.in-Ok-queue_all.field-0.items) (St c.stage_files.new.store) (St c.queue_all.new.self) c.in-Ok-stage_files.ensures.so.0 (batch_new (address c.args.asked.now.dest.now) (map entry_of c.as_slice-2.result.now) (St c.args.store.now).state (St c.stage_files.new.store).state c.args.asked.now.receipt c.requires.dest c.requires.open b) c.in-Ok-queue_all.ensures.kept)

pub returns-in-Ok-queue_all-clause-request : goal.returns-in-Ok-queue_all-clause-request
returns-in-Ok-queue_all-clause-request g c =
    let St : Holding g.row.D.Denot → StoreStand = λ s. stand_of g.D.Disk.tells g.D.Disk.content g.D.Disk.fault_count g.D.Disk.moment g.D.Disk.images s in
    let b = subst (λ l. IsBatch (address c.args.asked.now.dest.now) (map entry_of l) (St c.args.store.now).state (St c.stage_files.new.store).state) (sym c.as_slice-2.ensures.value) c.in-Ok-stage_files.ensures.batch in
    record { mid = (St c.stage_files.new.store).state; state = b.state; files = map entry_of c.as_slice-2.result.now; for_dest = b.for_dest; slots = map slot_of c.in-Ok-queue_all.field-0.items; queued = c.in-Ok-queue_all.ensures.kept.made }

pub returns-clause-answers : goal.returns-clause-answers
returns-clause-answers g c =
    let St : Holding g.row.D.Denot → StoreStand = λ s. stand_of g.D.Disk.tells g.D.Disk.content g.D.Disk.fault_count g.D.Disk.moment g.D.Disk.images s in
    let b = subst (λ l. IsBatch (address c.args.asked.now.dest.now) (map entry_of l) (St c.args.store.now).state (St c.stage_files.new.store).state) (sym c.as_slice-2.ensures.value) c.in-Ok-stage_files.ensures.batch in
    answers_then (St c.args.store.now) (St c.stage_files.new.store) (St c.queue_all.new.self) _ c.in-Ok-stage_files.ensures.so.1 (refused_answers (Unit {0}) c.args.asked.now.receipt (map entry_of c.as_slice-2.result.now) c.in-Err-queue_all.fault (St c.stage_files.new.store) (St c.queue_all.new.self) c.in-Ok-stage_files.ensures.so.0 (batch_new (address c.args.asked.now.dest.now) (map entry_of c.as_slice-2.result.now) (St c.args.store.now).state (St c.stage_files.new.store).state c.args.asked.now.receipt c.requires.dest c.requires.open b) c.in-Err-queue_all.ensures.kept)
