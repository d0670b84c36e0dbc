use Rattle.node_model.specs.StoreStates.{StoreStand}
use Rattle.node_store.specs.Stored.{Holding, stand_of}
use Rattle.outbound_desk.proofs.AnswerRows.{answers_then, stages_then}
use Rattle.outbound_desk.proofs.requests.answer.Goals as goal

pub returns-in-Err-shares_of-clause-answers : goal.returns-in-Err-shares_of-clause-answers
returns-in-Err-shares_of-clause-answers g c =
    let St : Holding g.row.D.Denot → StoreStand = λ s. stand_of g.D.Disk.tells g.D.Disk.content g.D.Disk.fault_count g.D.Disk.moment g.D.Disk.images s in
    answers_then (St c.args.store.now) (St c.read_request.new.store) (St c.shares_of.new.store) _ c.in-Ok.ensures.so.1 c.in-Err-shares_of.ensures.so

pub returns-clause-answers : goal.returns-clause-answers
returns-clause-answers g c =
    let St : Holding g.row.D.Denot → StoreStand = λ s. stand_of g.D.Disk.tells g.D.Disk.content g.D.Disk.fault_count g.D.Disk.moment g.D.Disk.images s in
    answers_then (St c.args.store.now) (St c.shares_of.new.store) (St c.answer_text.new.store) _ (stages_then (St c.args.store.now) (St c.read_request.new.store) (St c.shares_of.new.store) c.in-Ok.ensures.so.1 c.in-Ok-shares_of.ensures.so.1) c.answer_text.ensures.answers
