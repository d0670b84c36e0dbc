use Rattle.node_store.specs.OutboundMarks.{mark_gone}
use Rattle.outbound_take.specs.Calls.{UnmarksAt}
use Rattle.outbound_take.specs.Stand.{Settles, Tried}
use Rattle.outbound_store.proofs.HeldCalls.{takes_like}
use Rattle.outbound_store.proofs.SeenKept.{kept_seen}
use Rattle.outbound_store.proofs.TakeKept.{unmark_steps, takes_kept}
use Rattle.node_model.specs.StoreStates.{StoreStand}
use Rattle.node_store.specs.Stored.{Holding, stand_of}
use Rattle.outbound_store.proofs.RefusedKept.{takes_break, takes_fault}
use Rattle.outbound_store.proofs.StepCalls.{takes_call}
use Rattle.outbound_store.proofs.taking_store.TakingStoreOutgoing.unmark.Goals as goal

pub unmark-requires-clause-whole : goal.unmark-requires-clause-whole
unmark-requires-clause-whole g c = c.requires

pub unmark-requires-clause-note : goal.unmark-requires-clause-note
unmark-requires-clause-note g c = c.mark_file-own.ensures.note

pub returns-clause-kept : goal.returns-clause-kept
returns-clause-kept g c =
    let St : Holding g.row.D.Denot → StoreStand = λ s. stand_of g.D.Disk.tells g.D.Disk.content g.D.Disk.fault_count g.D.Disk.moment g.D.Disk.images s in
    let a = c.args.self.now.store in
    let b = c.unmark.new.self in
    kept_seen (Tried c.unmark.result (λ _. UnmarksAt c.args.path.now.list c.args.text.now.list)) (Settles c.unmark.result) (St a) (St b) _ _ _ _ (takes_kept (mark_gone c.args.path.now.list c.args.text.now.list) (λ _. UnmarksAt c.args.path.now.list c.args.text.now.list) (St a) (St b) c.requires c.unmark.result (unmark_steps c.args.path.now.list c.args.text.now.list c.unmark.result (St a).state) c.unmark.ensures.marks)

pub returns-clause-memory : goal.returns-clause-memory
returns-clause-memory g c =
    let St : Holding g.row.D.Denot → StoreStand = λ s. stand_of g.D.Disk.tells g.D.Disk.content g.D.Disk.fault_count g.D.Disk.moment g.D.Disk.images s in
    let a = c.args.self.now.store in
    let b = c.unmark.new.self in
    λ settled. takes_like (St a) a.takes c.requires (mark_gone c.args.path.now.list c.args.text.now.list) c.unmark.result (St b) b.takes c.unmark.ensures.marks settled c.unmark.ensures.takes

pub returns-clause-breaks : goal.returns-clause-breaks
returns-clause-breaks g c =
    let St : Holding g.row.D.Denot → StoreStand = λ s. stand_of g.D.Disk.tells g.D.Disk.content g.D.Disk.fault_count g.D.Disk.moment g.D.Disk.images s in
    let a = c.args.self.now.store in
    let b = c.unmark.new.self in
    takes_break (mark_gone c.args.path.now.list c.args.text.now.list) c.unmark.result (St a) (St b) b.takes c.unmark.ensures.marks

pub returns-clause-fault : goal.returns-clause-fault
returns-clause-fault g c =
    let St : Holding g.row.D.Denot → StoreStand = λ s. stand_of g.D.Disk.tells g.D.Disk.content g.D.Disk.fault_count g.D.Disk.moment g.D.Disk.images s in
    let a = c.args.self.now.store in
    let b = c.unmark.new.self in
    takes_fault (mark_gone c.args.path.now.list c.args.text.now.list) c.unmark.result (St a).state (St b).state c.unmark.ensures.marks.made

pub returns-clause-rule : goal.returns-clause-rule
returns-clause-rule g c =
    let St : Holding g.row.D.Denot → StoreStand = λ s. stand_of g.D.Disk.tells g.D.Disk.content g.D.Disk.fault_count g.D.Disk.moment g.D.Disk.images s in
    let a = c.args.self.now.store in
    let b = c.unmark.new.self in
    takes_call c.args.self.now.wanting (mark_gone c.args.path.now.list c.args.text.now.list) c.unmark.result (St a) (St b) c.requires c.unmark.ensures.marks
