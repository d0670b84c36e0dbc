use Rattle.std.proofs.Common.{◌∙◌, refl, sym}
use Rattle.node_store.specs.Tied.{tied}
use Rattle.outbound_store.proofs.AskKept.{like_same}
use Rattle.outbound_store.proofs.HeldCalls.{file_absent, file_done, file_kept, file_like, still_kept}
use Rattle.outbound_store.proofs.TakeFacts.{drawn_next, is_next}
use Rattle.node_model.specs.StoreStates.{StoreStand}
use Rattle.node_store.specs.Stored.{Holding, stand_of}
use Rattle.outbound_store.proofs.RefusedKept.{takes_break}
use Rattle.node_store.specs.Taking.{taken_so}
use Rattle.outbound_store.proofs.StepCalls.{takes_call, call_none}
use Rattle.outbound_store.proofs.Wanted.{wanted_breaks, wanted_kept}
use Rattle.outbound_store.proofs.taking_store.TakingStoreOutgoing.take_file.Goals as goal

pub take_file-requires-clause-whole : goal.take_file-requires-clause-whole
take_file-requires-clause-whole g c = c.requires.whole

pub take_file-requires-clause-next : goal.take_file-requires-clause-next
take_file-requires-clause-next g c = is_next c.args.own.now c.args.self.now.store.takes _ (sym c.take_number.ensures ∙ c.in-Some-take_number.is) c.requires.drawn

pub returns-in-Some-take_number-clause-kept : goal.returns-in-Some-take_number-clause-kept
returns-in-Some-take_number-clause-kept g c =
    let St : Holding g.row.D.Denot → StoreStand = λ s. stand_of g.D.Disk.tells g.D.Disk.content g.D.Disk.fault_count g.D.Disk.moment g.D.Disk.images s in
    let a = c.args.self.now.store in
    let b = c.take_file.new.self in
    file_kept (St a) a.takes c.requires.whole (c.takes_left.ensures.all c.requires.whole) c.args.path.now.list c.args.own.now c.take_file.result (St b) b.takes (tied g.D.Disk.tells (g.D.Disk.content c.args.self.now.store.disk) (g.D.Disk.fault_count c.args.self.now.store.disk) c.args.self.now.store.memory) (drawn_next a.takes _ c.requires.drawn).1 c.take_file.ensures.told c.take_file.ensures.takes

pub returns-in-Some-take_number-clause-done : goal.returns-in-Some-take_number-clause-done
returns-in-Some-take_number-clause-done g c =
    let St : Holding g.row.D.Denot → StoreStand = λ s. stand_of g.D.Disk.tells g.D.Disk.content g.D.Disk.fault_count g.D.Disk.moment g.D.Disk.images s in
    let a = c.args.self.now.store in
    let b = c.take_file.new.self in
    file_done (St a) a.takes c.requires.whole c.args.path.now.list c.args.own.now c.take_file.result (St b) b.takes c.take_file.ensures.takes c.take_file.ensures.moved

pub returns-in-Some-take_number-clause-absent : goal.returns-in-Some-take_number-clause-absent
returns-in-Some-take_number-clause-absent g c =
    let St : Holding g.row.D.Denot → StoreStand = λ s. stand_of g.D.Disk.tells g.D.Disk.content g.D.Disk.fault_count g.D.Disk.moment g.D.Disk.images s in
    let a = c.args.self.now.store in
    let b = c.take_file.new.self in
    file_absent (St a) a.takes c.requires.whole c.args.path.now.list c.args.own.now c.take_file.result (St b) b.takes c.take_file.ensures.takes c.take_file.ensures.moved

pub returns-in-Some-take_number-clause-err : goal.returns-in-Some-take_number-clause-err
returns-in-Some-take_number-clause-err g c =
    let St : Holding g.row.D.Denot → StoreStand = λ s. stand_of g.D.Disk.tells g.D.Disk.content g.D.Disk.fault_count g.D.Disk.moment g.D.Disk.images s in
    let a = c.args.self.now.store in
    let b = c.take_file.new.self in
    file_like (St a) a.takes c.requires.whole c.args.path.now.list c.args.own.now c.take_file.result (St b) b.takes c.take_file.ensures.takes c.take_file.ensures.moved

pub returns-in-None-clause-kept : goal.returns-in-None-clause-kept
returns-in-None-clause-kept g c = still_kept g.D.Disk.tells g.D.Disk.content g.D.Disk.fault_count g.D.Disk.moment g.D.Disk.images c.args.self.now.store (Unit {0}) c.args.self.now.store.takes c.args.self.now.store.takes c.refusal.ensures.told

pub returns-in-None-clause-err : goal.returns-in-None-clause-err
returns-in-None-clause-err g c =
    let St : Holding g.row.D.Denot → StoreStand = λ s. stand_of g.D.Disk.tells g.D.Disk.content g.D.Disk.fault_count g.D.Disk.moment g.D.Disk.images s in
    let a = c.args.self.now.store in
    λ settled. like_same (St a) (St a) a.takes a.takes c.requires.whole refl refl

pub returns-in-Some-take_number-clause-breaks : goal.returns-in-Some-take_number-clause-breaks
returns-in-Some-take_number-clause-breaks g c =
    let St : Holding g.row.D.Denot → StoreStand = λ s. stand_of g.D.Disk.tells g.D.Disk.content g.D.Disk.fault_count g.D.Disk.moment g.D.Disk.images s in
    let a = c.args.self.now.store in
    let b = c.take_file.new.self in
    takes_break (taken_so c.args.path.now.list c.args.own.now) c.take_file.result (St a) (St b) b.takes c.take_file.ensures.takes

pub returns-in-Some-take_number-clause-rule : goal.returns-in-Some-take_number-clause-rule
returns-in-Some-take_number-clause-rule g c =
    let St : Holding g.row.D.Denot → StoreStand = λ s. stand_of g.D.Disk.tells g.D.Disk.content g.D.Disk.fault_count g.D.Disk.moment g.D.Disk.images s in
    let a = c.args.self.now.store in
    let b = c.take_file.new.self in
    takes_call c.args.self.now.wanting (taken_so c.args.path.now.list c.args.own.now) c.take_file.result (St a) (St b) c.requires.whole c.take_file.ensures.takes

pub returns-in-None-clause-rule : goal.returns-in-None-clause-rule
returns-in-None-clause-rule g c =
    let St : Holding g.row.D.Denot → StoreStand = λ s. stand_of g.D.Disk.tells g.D.Disk.content g.D.Disk.fault_count g.D.Disk.moment g.D.Disk.images s in
    let a = c.args.self.now.store in
    call_none c.args.self.now.wanting (St a) c.requires.whole c.refusal.ensures.told

pub refusal-requires : goal.refusal-requires
refusal-requires g c = c.requires.whole

pub returns-in-Some-clause-kept : goal.returns-in-Some-clause-kept
returns-in-Some-clause-kept g c = wanted_kept c.args.self.now.wanting c.in-Some.fault c.in-Some.ensures.is _ _ _ (λ settles. still_kept g.D.Disk.tells g.D.Disk.content g.D.Disk.fault_count g.D.Disk.moment g.D.Disk.images c.args.self.now.store settles c.args.self.now.store.takes c.args.self.now.store.takes c.refusal.ensures.told)

pub returns-in-Some-clause-err : goal.returns-in-Some-clause-err
returns-in-Some-clause-err g c =
    let St : Holding g.row.D.Denot → StoreStand = λ s. stand_of g.D.Disk.tells g.D.Disk.content g.D.Disk.fault_count g.D.Disk.moment g.D.Disk.images s in
    let a = c.args.self.now.store in
    λ settled. like_same (St a) (St a) a.takes a.takes c.requires.whole refl refl

pub returns-in-Some-clause-breaks : goal.returns-in-Some-clause-breaks
returns-in-Some-clause-breaks g c = wanted_breaks c.args.self.now.wanting c.in-Some.fault c.in-Some.ensures.is _

pub returns-in-Some-clause-rule : goal.returns-in-Some-clause-rule
returns-in-Some-clause-rule g c =
    let St : Holding g.row.D.Denot → StoreStand = λ s. stand_of g.D.Disk.tells g.D.Disk.content g.D.Disk.fault_count g.D.Disk.moment g.D.Disk.images s in
    let a = c.args.self.now.store in
    call_none c.args.self.now.wanting (St a) c.requires.whole c.refusal.ensures.told
