use Rattle.node_store.specs.Tied.{tied}
use Rattle.outbound_store.proofs.HeldCalls.{copy_like, copy_memory, copy_seen, copy_told, still_kept}
use Rattle.node_model.specs.StoreStates.{StoreStand}
use Rattle.node_store.specs.Stored.{Holding, stand_of}
use Rattle.outbound_store.proofs.RefusedKept.{copy_breaks}
use Rattle.outbound_store.proofs.StepCalls.{copy_call, call_none}
use Rattle.outbound_store.proofs.Wanted.{none_wanted, wanted_breaks}
use Rattle.outbound_take.specs.Stand.{SettledBy}
use Rattle.outbound_store.proofs.AskKept.{like_same}
use Rattle.std.proofs.Common.{refl}
use Rattle.outbound_store.proofs.taking_store.TakingStoreOutgoing.stage_copy.Goals as goal

pub stage_copy-staged-requires : goal.stage_copy-staged-requires
stage_copy-staged-requires g c = c.requires

pub returns-clause-kept : goal.returns-clause-kept
returns-clause-kept g c =
    let St : Holding g.row.D.Denot → StoreStand = λ s. stand_of g.D.Disk.tells g.D.Disk.content g.D.Disk.fault_count g.D.Disk.moment g.D.Disk.images s in
    let a = c.args.self.now.store in
    let b = c.stage_copy-staged.new.self in
    copy_seen (St a) a.takes c.requires c.args.path.now.list c.stage_copy-staged.result (St b) b.takes c.stage_copy-staged.ensures.kept

pub returns-clause-memory : goal.returns-clause-memory
returns-clause-memory g c =
    let St : Holding g.row.D.Denot → StoreStand = λ s. stand_of g.D.Disk.tells g.D.Disk.content g.D.Disk.fault_count g.D.Disk.moment g.D.Disk.images s in
    let a = c.args.self.now.store in
    let b = c.stage_copy-staged.new.self in
    copy_memory (St a) a.takes c.requires c.args.path.now.list c.stage_copy-staged.result (St b) b.takes (record { queued = c.numbers_are_drawn.ensures.queued; staged = c.numbers_are_drawn.ensures.staged }) c.stage_copy-staged.ensures.kept c.stage_copy-staged.ensures.takes

pub returns-clause-err : goal.returns-clause-err
returns-clause-err g c =
    let St : Holding g.row.D.Denot → StoreStand = λ s. stand_of g.D.Disk.tells g.D.Disk.content g.D.Disk.fault_count g.D.Disk.moment g.D.Disk.images s in
    let a = c.args.self.now.store in
    let b = c.stage_copy-staged.new.self in
    copy_like (St a) a.takes c.requires c.args.path.now.list c.stage_copy-staged.result (St b) b.takes c.stage_copy-staged.ensures.kept c.stage_copy-staged.ensures.takes

pub returns-clause-told : goal.returns-clause-told
returns-clause-told g c =
    let St : Holding g.row.D.Denot → StoreStand = λ s. stand_of g.D.Disk.tells g.D.Disk.content g.D.Disk.fault_count g.D.Disk.moment g.D.Disk.images s in
    let a = c.args.self.now.store in
    let b = c.stage_copy-staged.new.self in
    copy_told (St a) a.takes c.requires c.args.path.now.list c.stage_copy-staged.result (St b) (record { queued = c.numbers_are_drawn.ensures.queued; staged = c.numbers_are_drawn.ensures.staged }) (tied g.D.Disk.tells (g.D.Disk.content c.args.self.now.store.disk) (g.D.Disk.fault_count c.args.self.now.store.disk) c.args.self.now.store.memory) c.stage_copy-staged.ensures.kept

pub returns-clause-breaks : goal.returns-clause-breaks
returns-clause-breaks g c =
    let St : Holding g.row.D.Denot → StoreStand = λ s. stand_of g.D.Disk.tells g.D.Disk.content g.D.Disk.fault_count g.D.Disk.moment g.D.Disk.images s in
    let a = c.args.self.now.store in
    let b = c.stage_copy-staged.new.self in
    copy_breaks c.args.path.now.list c.stage_copy-staged.result (St a) (St b) b.takes c.stage_copy-staged.ensures.kept

pub returns-clause-rule : goal.returns-clause-rule
returns-clause-rule g c =
    let St : Holding g.row.D.Denot → StoreStand = λ s. stand_of g.D.Disk.tells g.D.Disk.content g.D.Disk.fault_count g.D.Disk.moment g.D.Disk.images s in
    let a = c.args.self.now.store in
    let b = c.stage_copy-staged.new.self in
    copy_call c.args.self.now.wanting c.want_in-self.result (St a) (St b) (none_wanted c.args.self.now.wanting c.in_default.ensures.is) c.requires c.args.path.now.list c.stage_copy-staged.result c.want_in-self.ensures c.stage_copy-staged.ensures.kept

pub refusal-requires : goal.refusal-requires
refusal-requires g c = c.requires

pub returns-in-Some-clause-kept : goal.returns-in-Some-clause-kept
returns-in-Some-clause-kept g c = still_kept g.D.Disk.tells g.D.Disk.content g.D.Disk.fault_count g.D.Disk.moment g.D.Disk.images c.args.self.now.store (SettledBy c.in-Some.fault) c.args.self.now.store.takes c.args.self.now.store.takes c.refusal.ensures.told

pub returns-in-Some-clause-err : goal.returns-in-Some-clause-err
returns-in-Some-clause-err g c =
    let St : Holding g.row.D.Denot → StoreStand = λ s. stand_of g.D.Disk.tells g.D.Disk.content g.D.Disk.fault_count g.D.Disk.moment g.D.Disk.images s in
    let a = c.args.self.now.store in
    λ settled. like_same (St a) (St a) a.takes a.takes c.requires refl refl

pub returns-in-Some-clause-breaks : goal.returns-in-Some-clause-breaks
returns-in-Some-clause-breaks g c = wanted_breaks c.args.self.now.wanting c.in-Some.fault c.in-Some.ensures.is _

pub returns-in-Some-clause-rule : goal.returns-in-Some-clause-rule
returns-in-Some-clause-rule g c =
    let St : Holding g.row.D.Denot → StoreStand = λ s. stand_of g.D.Disk.tells g.D.Disk.content g.D.Disk.fault_count g.D.Disk.moment g.D.Disk.images s in
    let a = c.args.self.now.store in
    call_none c.args.self.now.wanting (St a) c.requires c.refusal.ensures.told
