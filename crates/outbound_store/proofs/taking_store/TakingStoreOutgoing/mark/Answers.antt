use Rattle.node_store.specs.OutboundMarks.{marked_so}
use Rattle.outbound_take.specs.Calls.{MarksAt}
use Rattle.outbound_take.specs.Stand.{Settles, Tried}
use Rattle.outbound_store.proofs.HeldCalls.{takes_like}
use Rattle.outbound_store.proofs.SeenKept.{kept_seen}
use Rattle.outbound_store.proofs.TakeKept.{mark_steps, takes_kept}
use Rattle.node_model.specs.StoreStates.{StoreStand}
use Rattle.node_store.specs.Stored.{Holding, stand_of}
use Rattle.outbound_store.proofs.RefusedKept.{takes_break, takes_fault}
use Rattle.outbound_store.proofs.StepCalls.{takes_call}
use Rattle.outbound_store.proofs.taking_store.TakingStoreOutgoing.mark.Goals as goal

pub mark-requires-clause-whole : goal.mark-requires-clause-whole
mark-requires-clause-whole g c = c.requires

pub mark-requires-clause-note : goal.mark-requires-clause-note
mark-requires-clause-note g c = c.mark_file-own.ensures.note

pub returns-clause-kept : goal.returns-clause-kept
returns-clause-kept g c =
    let St : Holding g.row.D.Denot → StoreStand = λ s. stand_of g.D.Disk.tells g.D.Disk.content g.D.Disk.fault_count g.D.Disk.moment g.D.Disk.images s in
    let a = c.args.self.now.store in
    let b = c.mark.new.self in
    kept_seen (Tried c.mark.result (MarksAt c.args.path.now.list c.args.text.now.list)) (Settles c.mark.result) (St a) (St b) _ _ _ _ (takes_kept (marked_so c.args.path.now.list c.args.text.now.list c.mark.ensures.marks.0) (MarksAt c.args.path.now.list c.args.text.now.list) (St a) (St b) c.requires c.mark.result (mark_steps c.args.path.now.list c.args.text.now.list c.mark.ensures.marks.0 c.mark.result (St a).state c.mark.ensures.told) c.mark.ensures.marks.1)

pub returns-clause-memory : goal.returns-clause-memory
returns-clause-memory g c =
    let St : Holding g.row.D.Denot → StoreStand = λ s. stand_of g.D.Disk.tells g.D.Disk.content g.D.Disk.fault_count g.D.Disk.moment g.D.Disk.images s in
    let a = c.args.self.now.store in
    let b = c.mark.new.self in
    λ settled. takes_like (St a) a.takes c.requires (marked_so c.args.path.now.list c.args.text.now.list c.mark.ensures.marks.0) c.mark.result (St b) b.takes c.mark.ensures.marks.1 settled c.mark.ensures.takes

pub returns-clause-breaks : goal.returns-clause-breaks
returns-clause-breaks g c =
    let St : Holding g.row.D.Denot → StoreStand = λ s. stand_of g.D.Disk.tells g.D.Disk.content g.D.Disk.fault_count g.D.Disk.moment g.D.Disk.images s in
    let a = c.args.self.now.store in
    let b = c.mark.new.self in
    takes_break (marked_so c.args.path.now.list c.args.text.now.list c.mark.ensures.marks.0) c.mark.result (St a) (St b) b.takes c.mark.ensures.marks.1

pub returns-clause-fault : goal.returns-clause-fault
returns-clause-fault g c =
    let St : Holding g.row.D.Denot → StoreStand = λ s. stand_of g.D.Disk.tells g.D.Disk.content g.D.Disk.fault_count g.D.Disk.moment g.D.Disk.images s in
    let a = c.args.self.now.store in
    let b = c.mark.new.self in
    takes_fault (marked_so c.args.path.now.list c.args.text.now.list c.mark.ensures.marks.0) c.mark.result (St a).state (St b).state c.mark.ensures.marks.1.made

pub returns-clause-rule : goal.returns-clause-rule
returns-clause-rule g c =
    let St : Holding g.row.D.Denot → StoreStand = λ s. stand_of g.D.Disk.tells g.D.Disk.content g.D.Disk.fault_count g.D.Disk.moment g.D.Disk.images s in
    let a = c.args.self.now.store in
    let b = c.mark.new.self in
    takes_call c.args.self.now.wanting (marked_so c.args.path.now.list c.args.text.now.list c.mark.ensures.marks.0) c.mark.result (St a) (St b) c.requires c.mark.ensures.marks.1
