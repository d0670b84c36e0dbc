use Rattle.std.proofs.Common.{◌∙◌, Ok, Err, refl}
use Rattle.node_model.specs.StoreStates.{StoreStand}
use Rattle.node_store.specs.Stored.{Holding, stand_of}
use Rattle.outbound_desk.proofs.AnswerRows.{answers_then, asked_so, memory_answers, stages_none, stages_then}
use Rattle.outbound_desk.proofs.requests.shares_of.Goals as goal

pub loop-folder-init : goal.loop-folder-init
loop-folder-init g c =
    let St : Holding g.row.D.Denot → StoreStand = λ s. stand_of g.D.Disk.tells g.D.Disk.content g.D.Disk.fault_count g.D.Disk.moment g.D.Disk.images s in
    record { stages = stages_none (St c.args.store.now); same = refl; whole = c.requires.whole }

pub returns-in-Err-clause-so : goal.returns-in-Err-clause-so
returns-in-Err-clause-so g c =
    let St : Holding g.row.D.Denot → StoreStand = λ s. stand_of g.D.Disk.tells g.D.Disk.content g.D.Disk.fault_count g.D.Disk.moment g.D.Disk.images s in
    answers_then (St c.args.store.now) (St c.loop-folder.store) (St c.names.new.self) _ c.loop-folder.invariant.stages (asked_so (Err c.in-Err.fault) (St c.loop-folder.store) (St c.names.new.self) c.loop-folder.invariant.whole c.in-Err.ensures.asks)

pub returns-in-Err-add_share-clause-so : goal.returns-in-Err-add_share-clause-so
returns-in-Err-add_share-clause-so g c =
    let St : Holding g.row.D.Denot → StoreStand = λ s. stand_of g.D.Disk.tells g.D.Disk.content g.D.Disk.fault_count g.D.Disk.moment g.D.Disk.images s in
    let asked = asked_so (Ok c.in-Ok.names) (St c.loop-folder.store) (St c.names.new.self) c.loop-folder.invariant.whole c.in-Ok.ensures.asks in
    answers_then (St c.args.store.now) (St c.names.new.self) (St c.names.new.self) _ (stages_then (St c.args.store.now) (St c.loop-folder.store) (St c.names.new.self) c.loop-folder.invariant.stages asked.1) (memory_answers (St c.names.new.self) asked.0)

pub loop-folder-preserved : goal.loop-folder-preserved
loop-folder-preserved g c =
    let St : Holding g.row.D.Denot → StoreStand = λ s. stand_of g.D.Disk.tells g.D.Disk.content g.D.Disk.fault_count g.D.Disk.moment g.D.Disk.images s in
    let asked = asked_so (Ok c.in-Ok.names) (St c.loop-folder.store) (St c.names.new.self) c.loop-folder.invariant.whole c.in-Ok.ensures.asks in
    record {
      stages = stages_then (St c.args.store.now) (St c.loop-folder.store) (St c.names.new.self) c.loop-folder.invariant.stages asked.1;
      same = c.in-Ok.ensures.asks.made ∙ c.loop-folder.invariant.same;
      whole = asked.0;
    }
