use Rattle.std.proofs.Common.{true, refl}
use Rattle.node_store.specs.Tied.{tied}
use Rattle.outbound_store.proofs.HeldCalls.{drop_holds, drop_kept, drop_like, the_one, still_kept}
use Rattle.outbound_store.proofs.TakeFacts.{is_recorded_take}
use Rattle.node_model.specs.StoreStates.{StoreStand}
use Rattle.node_store.specs.Stored.{Holding, stand_of}
use Rattle.outbound_store.proofs.RefusedKept.{takes_break}
use Rattle.node_store.specs.Taking.{take_gone}
use Rattle.outbound_store.proofs.StepCalls.{takes_call, call_none}
use Rattle.outbound_store.proofs.AskKept.{like_same}
use Rattle.outbound_store.proofs.Wanted.{wanted_breaks, wanted_kept}
use Rattle.outbound_store.proofs.taking_store.TakingStoreOutgoing.finish_take.Goals as goal

pub finish_take-requires-clause-whole : goal.finish_take-requires-clause-whole
finish_take-requires-clause-whole g c = c.requires.whole

pub finish_take-requires-clause-recorded : goal.finish_take-requires-clause-recorded
finish_take-requires-clause-recorded g c =
    let St : Holding g.row.D.Denot → StoreStand = λ s. stand_of g.D.Disk.tells g.D.Disk.content g.D.Disk.fault_count g.D.Disk.moment g.D.Disk.images s in
    let a = c.args.self.now.store in
    is_recorded_take a.takes (St a).state (c.takes_left.ensures.all c.requires.whole) c.args.own.now (the_one (St a) a.takes c.requires.whole (c.takes_left.ensures.all c.requires.whole) c.args.own.now true c.requires.recorded)

pub returns-clause-kept : goal.returns-clause-kept
returns-clause-kept g c =
    let St : Holding g.row.D.Denot → StoreStand = λ s. stand_of g.D.Disk.tells g.D.Disk.content g.D.Disk.fault_count g.D.Disk.moment g.D.Disk.images s in
    let a = c.args.self.now.store in
    let b = c.finish_take.new.self in
    drop_kept (St a) a.takes c.requires.whole (c.takes_left.ensures.all c.requires.whole) c.args.own.now c.finish_take.result (St b) b.takes (tied g.D.Disk.tells (g.D.Disk.content c.args.self.now.store.disk) (g.D.Disk.fault_count c.args.self.now.store.disk) c.args.self.now.store.memory) c.requires.recorded c.finish_take.ensures.takes

pub returns-clause-memory : goal.returns-clause-memory
returns-clause-memory g c =
    let St : Holding g.row.D.Denot → StoreStand = λ s. stand_of g.D.Disk.tells g.D.Disk.content g.D.Disk.fault_count g.D.Disk.moment g.D.Disk.images s in
    let a = c.args.self.now.store in
    let b = c.finish_take.new.self in
    drop_holds (St a) a.takes c.requires.whole c.args.own.now c.finish_take.result (St b) b.takes c.finish_take.ensures.takes c.finish_take.ensures.removed

pub returns-clause-err : goal.returns-clause-err
returns-clause-err g c =
    let St : Holding g.row.D.Denot → StoreStand = λ s. stand_of g.D.Disk.tells g.D.Disk.content g.D.Disk.fault_count g.D.Disk.moment g.D.Disk.images s in
    let a = c.args.self.now.store in
    let b = c.finish_take.new.self in
    drop_like (St a) a.takes c.requires.whole c.args.own.now c.finish_take.result (St b) b.takes c.finish_take.ensures.takes c.finish_take.ensures.removed

pub returns-clause-breaks : goal.returns-clause-breaks
returns-clause-breaks g c =
    let St : Holding g.row.D.Denot → StoreStand = λ s. stand_of g.D.Disk.tells g.D.Disk.content g.D.Disk.fault_count g.D.Disk.moment g.D.Disk.images s in
    let a = c.args.self.now.store in
    let b = c.finish_take.new.self in
    takes_break (take_gone c.args.own.now) c.finish_take.result (St a) (St b) b.takes c.finish_take.ensures.takes

pub returns-clause-rule : goal.returns-clause-rule
returns-clause-rule g c =
    let St : Holding g.row.D.Denot → StoreStand = λ s. stand_of g.D.Disk.tells g.D.Disk.content g.D.Disk.fault_count g.D.Disk.moment g.D.Disk.images s in
    let a = c.args.self.now.store in
    let b = c.finish_take.new.self in
    takes_call c.args.self.now.wanting (take_gone c.args.own.now) c.finish_take.result (St a) (St b) c.requires.whole c.finish_take.ensures.takes

pub refusal-requires : goal.refusal-requires
refusal-requires g c = c.requires.whole

pub returns-in-Some-clause-kept : goal.returns-in-Some-clause-kept
returns-in-Some-clause-kept g c = wanted_kept c.args.self.now.wanting c.in-Some.fault c.in-Some.ensures.is _ _ _ (λ settles. still_kept g.D.Disk.tells g.D.Disk.content g.D.Disk.fault_count g.D.Disk.moment g.D.Disk.images c.args.self.now.store settles c.args.self.now.store.takes c.args.self.now.store.takes c.refusal.ensures.told)

pub returns-in-Some-clause-err : goal.returns-in-Some-clause-err
returns-in-Some-clause-err g c =
    let St : Holding g.row.D.Denot → StoreStand = λ s. stand_of g.D.Disk.tells g.D.Disk.content g.D.Disk.fault_count g.D.Disk.moment g.D.Disk.images s in
    let a = c.args.self.now.store in
    λ settled. like_same (St a) (St a) a.takes a.takes c.requires.whole refl refl

pub returns-in-Some-clause-breaks : goal.returns-in-Some-clause-breaks
returns-in-Some-clause-breaks g c = wanted_breaks c.args.self.now.wanting c.in-Some.fault c.in-Some.ensures.is _

pub returns-in-Some-clause-rule : goal.returns-in-Some-clause-rule
returns-in-Some-clause-rule g c =
    let St : Holding g.row.D.Denot → StoreStand = λ s. stand_of g.D.Disk.tells g.D.Disk.content g.D.Disk.fault_count g.D.Disk.moment g.D.Disk.images s in
    let a = c.args.self.now.store in
    call_none c.args.self.now.wanting (St a) c.requires.whole c.refusal.ensures.told
