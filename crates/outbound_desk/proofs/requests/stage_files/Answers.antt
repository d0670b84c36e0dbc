use Rattle.std.proofs.Common.{List, map, option_map, sym, ap, subst}
use Rattle.ftn_addr.specs.Address.{address}
use Rattle.node_model.specs.StoreStates.{StoreStand}
use Rattle.node_model.specs.Stocks.{NewEntry}
use Rattle.node_model.specs.StoreWords.{entry_of}
use Rattle.node_store.specs.Stored.{Holding, stand_of}
use Rattle.outbound_desk.specs.Answering.{IsBatch}
use Rattle.outbound_desk.proofs.AnswerRows.{answers_then, memory_answers, stages_none, stages_then}
use Rattle.outbound_desk.proofs.Batches.{batch_none, batch_step}
use Rattle.outbound_desk.proofs.requests.stage_files.Goals as goal

pub loop-path-init : goal.loop-path-init
loop-path-init g c =
    let St : Holding g.row.D.Denot → StoreStand = λ s. stand_of g.D.Disk.tells g.D.Disk.content g.D.Disk.fault_count g.D.Disk.moment g.D.Disk.images s in
    record { stages = stages_none (St c.args.store.now); batch = subst (λ (l : List NewEntry). IsBatch (address c.args.asked.now.dest.now) l (St c.args.store.now).state (St c.args.store.now).state) (sym (ap (map entry_of) c.new-files.ensures.items)) (batch_none (address c.args.asked.now.dest.now) (St c.args.store.now).state); whole = c.requires.whole }

pub returns-in-Err-clause-so : goal.returns-in-Err-clause-so
returns-in-Err-clause-so g c =
    let St : Holding g.row.D.Denot → StoreStand = λ s. stand_of g.D.Disk.tells g.D.Disk.content g.D.Disk.fault_count g.D.Disk.moment g.D.Disk.images s in
    answers_then (St c.args.store.now) (St c.loop-path.store) (St c.stage_file.new.store) _ c.loop-path.invariant.stages c.in-Err.ensures.so

pub returns-in-Err-add_file-clause-so : goal.returns-in-Err-add_file-clause-so
returns-in-Err-add_file-clause-so g c =
    let St : Holding g.row.D.Denot → StoreStand = λ s. stand_of g.D.Disk.tells g.D.Disk.content g.D.Disk.fault_count g.D.Disk.moment g.D.Disk.images s in
    answers_then (St c.args.store.now) (St c.stage_file.new.store) (St c.stage_file.new.store) _ (stages_then (St c.args.store.now) (St c.loop-path.store) (St c.stage_file.new.store) c.loop-path.invariant.stages c.in-Ok.ensures.so.1) (memory_answers (St c.stage_file.new.store) c.in-Ok.ensures.so.0)

pub loop-path-preserved : goal.loop-path-preserved
loop-path-preserved g c =
    let St : Holding g.row.D.Denot → StoreStand = λ s. stand_of g.D.Disk.tells g.D.Disk.content g.D.Disk.fault_count g.D.Disk.moment g.D.Disk.images s in
    record {
      stages = stages_then (St c.args.store.now) (St c.loop-path.store) (St c.stage_file.new.store) c.loop-path.invariant.stages c.in-Ok.ensures.so.1;
      batch = subst (λ (l : List NewEntry). IsBatch (address c.args.asked.now.dest.now) l (St c.args.store.now).state (St c.stage_file.new.store).state) (sym c.in_default.ensures)
          (batch_step (address c.args.asked.now.dest.now) (map entry_of c.loop-path.files.items) (St c.args.store.now).state (St c.loop-path.store).state (St c.stage_file.new.store).state c.loop-path.invariant.batch (option_map entry_of c.in-Ok.file) c.numbers_are_drawn.ensures.queued c.numbers_are_drawn.ensures.staged c.in-Ok.ensures.staged);
      whole = c.in-Ok.ensures.so.0;
    }
