use Rattle.std.proofs.Common.{false, refl}
use Rattle.outbound_take.specs.Stand.{SettledBy}
use Rattle.outbound_store.proofs.AskKept.{asks_like, like_same}
use Rattle.outbound_store.proofs.HeldCalls.{ask_kept, look_told_none, look_told_some, still_kept}
use Rattle.node_model.specs.StoreStates.{StoreStand}
use Rattle.node_store.specs.Stored.{Holding, stand_of}
use Rattle.outbound_store.proofs.RefusedKept.{ask_breaks}
use Rattle.outbound_store.proofs.StepCalls.{look_call, call_none}
use Rattle.outbound_store.proofs.Wanted.{wanted_breaks}
use Rattle.outbound_store.proofs.taking_store.TakingStoreOutgoing.look.Goals as goal

pub look-requires : goal.look-requires
look-requires g c = c.requires

pub returns-in-Ok-Some-clause-kept : goal.returns-in-Ok-Some-clause-kept
returns-in-Ok-Some-clause-kept g c =
    let St : Holding g.row.D.Denot → StoreStand = λ s. stand_of g.D.Disk.tells g.D.Disk.content g.D.Disk.fault_count g.D.Disk.moment g.D.Disk.images s in
    let a = c.args.self.now.store in
    let b = c.look.new.self in
    ask_kept false _ (Unit {0}) (St a) (St b) a.takes b.takes c.in-Ok-Some.ensures.asks

pub returns-in-Ok-Some-clause-memory : goal.returns-in-Ok-Some-clause-memory
returns-in-Ok-Some-clause-memory g c =
    let St : Holding g.row.D.Denot → StoreStand = λ s. stand_of g.D.Disk.tells g.D.Disk.content g.D.Disk.fault_count g.D.Disk.moment g.D.Disk.images s in
    let a = c.args.self.now.store in
    let b = c.look.new.self in
    λ settled. asks_like false _ (St a) (St b) a.takes b.takes c.in-Ok-Some.ensures.asks tt c.requires c.in-Ok-Some.ensures.takes

pub returns-in-Ok-Some-clause-told : goal.returns-in-Ok-Some-clause-told
returns-in-Ok-Some-clause-told g c =
    let St : Holding g.row.D.Denot → StoreStand = λ s. stand_of g.D.Disk.tells g.D.Disk.content g.D.Disk.fault_count g.D.Disk.moment g.D.Disk.images s in
    let a = c.args.self.now.store in
    look_told_some (St a).state.content c.args.path.now.list c.in-Ok-Some.stat (rw c.in-Ok-Some.field-0-is at c.in-Ok-Some.ensures.told)

pub returns-in-Ok-None-clause-kept : goal.returns-in-Ok-None-clause-kept
returns-in-Ok-None-clause-kept g c =
    let St : Holding g.row.D.Denot → StoreStand = λ s. stand_of g.D.Disk.tells g.D.Disk.content g.D.Disk.fault_count g.D.Disk.moment g.D.Disk.images s in
    let a = c.args.self.now.store in
    let b = c.look.new.self in
    ask_kept false _ (Unit {0}) (St a) (St b) a.takes b.takes c.in-Ok-None.ensures.asks

pub returns-in-Ok-None-clause-memory : goal.returns-in-Ok-None-clause-memory
returns-in-Ok-None-clause-memory g c =
    let St : Holding g.row.D.Denot → StoreStand = λ s. stand_of g.D.Disk.tells g.D.Disk.content g.D.Disk.fault_count g.D.Disk.moment g.D.Disk.images s in
    let a = c.args.self.now.store in
    let b = c.look.new.self in
    λ settled. asks_like false _ (St a) (St b) a.takes b.takes c.in-Ok-None.ensures.asks tt c.requires c.in-Ok-None.ensures.takes

pub returns-in-Ok-None-clause-told : goal.returns-in-Ok-None-clause-told
returns-in-Ok-None-clause-told g c =
    let St : Holding g.row.D.Denot → StoreStand = λ s. stand_of g.D.Disk.tells g.D.Disk.content g.D.Disk.fault_count g.D.Disk.moment g.D.Disk.images s in
    let a = c.args.self.now.store in
    look_told_none (St a).state.content c.args.path.now.list (rw c.in-Ok-None.field-0-is at c.in-Ok-None.ensures.told)

pub returns-in-Err-clause-kept : goal.returns-in-Err-clause-kept
returns-in-Err-clause-kept g c =
    let St : Holding g.row.D.Denot → StoreStand = λ s. stand_of g.D.Disk.tells g.D.Disk.content g.D.Disk.fault_count g.D.Disk.moment g.D.Disk.images s in
    let a = c.args.self.now.store in
    let b = c.look.new.self in
    ask_kept false _ (SettledBy c.in-Err.fault) (St a) (St b) a.takes b.takes c.in-Err.ensures.asks

pub returns-in-Err-clause-memory : goal.returns-in-Err-clause-memory
returns-in-Err-clause-memory g c =
    let St : Holding g.row.D.Denot → StoreStand = λ s. stand_of g.D.Disk.tells g.D.Disk.content g.D.Disk.fault_count g.D.Disk.moment g.D.Disk.images s in
    let a = c.args.self.now.store in
    let b = c.look.new.self in
    λ settled. asks_like false _ (St a) (St b) a.takes b.takes c.in-Err.ensures.asks settled c.requires c.in-Err.ensures.takes

pub returns-in-Err-clause-breaks : goal.returns-in-Err-clause-breaks
returns-in-Err-clause-breaks g c =
    let St : Holding g.row.D.Denot → StoreStand = λ s. stand_of g.D.Disk.tells g.D.Disk.content g.D.Disk.fault_count g.D.Disk.moment g.D.Disk.images s in
    let a = c.args.self.now.store in
    let b = c.look.new.self in
    ask_breaks false c.in-Err.fault (St a) (St b) b.takes c.in-Err.ensures.asks

pub returns-in-Ok-Some-clause-rule : goal.returns-in-Ok-Some-clause-rule
returns-in-Ok-Some-clause-rule g c =
    let St : Holding g.row.D.Denot → StoreStand = λ s. stand_of g.D.Disk.tells g.D.Disk.content g.D.Disk.fault_count g.D.Disk.moment g.D.Disk.images s in
    let a = c.args.self.now.store in
    let b = c.look.new.self in
    look_call c.args.self.now.wanting _ (St a) (St b) c.requires c.in-Ok-Some.ensures.asks

pub returns-in-Ok-None-clause-rule : goal.returns-in-Ok-None-clause-rule
returns-in-Ok-None-clause-rule g c =
    let St : Holding g.row.D.Denot → StoreStand = λ s. stand_of g.D.Disk.tells g.D.Disk.content g.D.Disk.fault_count g.D.Disk.moment g.D.Disk.images s in
    let a = c.args.self.now.store in
    let b = c.look.new.self in
    look_call c.args.self.now.wanting _ (St a) (St b) c.requires c.in-Ok-None.ensures.asks

pub returns-in-Err-clause-rule : goal.returns-in-Err-clause-rule
returns-in-Err-clause-rule g c =
    let St : Holding g.row.D.Denot → StoreStand = λ s. stand_of g.D.Disk.tells g.D.Disk.content g.D.Disk.fault_count g.D.Disk.moment g.D.Disk.images s in
    let a = c.args.self.now.store in
    let b = c.look.new.self in
    look_call c.args.self.now.wanting _ (St a) (St b) c.requires c.in-Err.ensures.asks

pub refusal-requires : goal.refusal-requires
refusal-requires g c = c.requires

pub returns-in-Some-clause-kept : goal.returns-in-Some-clause-kept
returns-in-Some-clause-kept g c = still_kept g.D.Disk.tells g.D.Disk.content g.D.Disk.fault_count g.D.Disk.moment g.D.Disk.images c.args.self.now.store (SettledBy c.in-Some.fault) c.args.self.now.store.takes c.args.self.now.store.takes c.refusal.ensures.told

pub returns-in-Some-clause-memory : goal.returns-in-Some-clause-memory
returns-in-Some-clause-memory g c =
    let St : Holding g.row.D.Denot → StoreStand = λ s. stand_of g.D.Disk.tells g.D.Disk.content g.D.Disk.fault_count g.D.Disk.moment g.D.Disk.images s in
    let a = c.args.self.now.store in
    λ settled. like_same (St a) (St a) a.takes a.takes c.requires refl refl

pub returns-in-Some-clause-breaks : goal.returns-in-Some-clause-breaks
returns-in-Some-clause-breaks g c = wanted_breaks c.args.self.now.wanting c.in-Some.fault c.in-Some.ensures.is _

pub returns-in-Some-clause-rule : goal.returns-in-Some-clause-rule
returns-in-Some-clause-rule g c =
    let St : Holding g.row.D.Denot → StoreStand = λ s. stand_of g.D.Disk.tells g.D.Disk.content g.D.Disk.fault_count g.D.Disk.moment g.D.Disk.images s in
    let a = c.args.self.now.store in
    call_none c.args.self.now.wanting (St a) c.requires c.refusal.ensures.told
