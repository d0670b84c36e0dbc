use Rattle.std.proofs.Common.{◌∙◌, Ok, Err, refl}
use Rattle.node_model.specs.StoreStates.{StoreStand}
use Rattle.node_store.specs.Stored.{Holding, stand_of}
use Rattle.outbound_desk.proofs.AnswerRows.{answers_then, memory_answers, read_so, stages_none, stages_then}
use Rattle.outbound_desk.proofs.requests.read_request.Goals as goal

pub pieces-init : goal.pieces-init
pieces-init g c =
    let St : Holding g.row.D.Denot → StoreStand = λ s. stand_of g.D.Disk.tells g.D.Disk.content g.D.Disk.fault_count g.D.Disk.moment g.D.Disk.images s in
    record { stages = stages_none (St c.args.store.now); same = refl; whole = c.requires.whole }

pub returns-in-Err-clause-so : goal.returns-in-Err-clause-so
returns-in-Err-clause-so g c =
    let St : Holding g.row.D.Denot → StoreStand = λ s. stand_of g.D.Disk.tells g.D.Disk.content g.D.Disk.fault_count g.D.Disk.moment g.D.Disk.images s in
    answers_then (St c.args.store.now) (St c.pieces.store) (St c.part_read.new.self) _ c.pieces.invariant.stages (read_so (Err c.in-Err.fault) c.part_read.new.out c.args.receipt c.len.result _ (St c.pieces.store) (St c.part_read.new.self) c.pieces.invariant.whole c.in-Err.ensures.kept)

pub returns-in-Err-push_slice-clause-so : goal.returns-in-Err-push_slice-clause-so
returns-in-Err-push_slice-clause-so g c =
    let St : Holding g.row.D.Denot → StoreStand = λ s. stand_of g.D.Disk.tells g.D.Disk.content g.D.Disk.fault_count g.D.Disk.moment g.D.Disk.images s in
    let read = read_so (Ok c.in-Ok.count) c.part_read.new.out c.args.receipt c.len.result _ (St c.pieces.store) (St c.part_read.new.self) c.pieces.invariant.whole c.in-Ok.ensures.kept in
    answers_then (St c.args.store.now) (St c.part_read.new.self) (St c.part_read.new.self) _ (stages_then (St c.args.store.now) (St c.pieces.store) (St c.part_read.new.self) c.pieces.invariant.stages read.1) (memory_answers (St c.part_read.new.self) read.0)

pub returns-then-count-lt-PIECE-clause-so : goal.returns-then-count-lt-PIECE-clause-so
returns-then-count-lt-PIECE-clause-so g c =
    let St : Holding g.row.D.Denot → StoreStand = λ s. stand_of g.D.Disk.tells g.D.Disk.content g.D.Disk.fault_count g.D.Disk.moment g.D.Disk.images s in
    let read = read_so (Ok c.in-Ok.count) c.part_read.new.out c.args.receipt c.len.result _ (St c.pieces.store) (St c.part_read.new.self) c.pieces.invariant.whole c.in-Ok.ensures.kept in
    (read.0, stages_then (St c.args.store.now) (St c.pieces.store) (St c.part_read.new.self) c.pieces.invariant.stages read.1)

pub pieces-preserved : goal.pieces-preserved
pieces-preserved g c =
    let St : Holding g.row.D.Denot → StoreStand = λ s. stand_of g.D.Disk.tells g.D.Disk.content g.D.Disk.fault_count g.D.Disk.moment g.D.Disk.images s in
    let read = read_so (Ok c.in-Ok.count) c.part_read.new.out c.args.receipt c.len.result _ (St c.pieces.store) (St c.part_read.new.self) c.pieces.invariant.whole c.in-Ok.ensures.kept in
    record {
      stages = stages_then (St c.args.store.now) (St c.pieces.store) (St c.part_read.new.self) c.pieces.invariant.stages read.1;
      same = c.in-Ok.ensures.kept.made.1 ∙ c.pieces.invariant.same;
      whole = read.0;
    }
