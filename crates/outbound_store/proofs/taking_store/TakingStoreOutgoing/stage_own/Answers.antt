use Rattle.std.proofs.Common.{false, refl}
use Rattle.node_store.specs.Tied.{tied}
use Rattle.outbound_store.proofs.HeldCalls.{own_like, own_memory, own_seen, own_told, the_one, still_kept}
use Rattle.outbound_store.proofs.TakeFacts.{is_standing}
use Rattle.node_model.specs.StoreStates.{StoreStand}
use Rattle.node_store.specs.Stored.{Holding, stand_of}
use Rattle.outbound_store.proofs.RefusedKept.{own_breaks}
use Rattle.outbound_store.proofs.StepCalls.{own_call, call_none}
use Rattle.outbound_store.proofs.Wanted.{none_wanted, wanted_breaks}
use Rattle.outbound_take.specs.Stand.{SettledBy}
use Rattle.outbound_store.proofs.AskKept.{like_same}
use Rattle.outbound_store.proofs.taking_store.TakingStoreOutgoing.stage_own.Goals as goal

pub stage_own-staged-requires-clause-whole : goal.stage_own-staged-requires-clause-whole
stage_own-staged-requires-clause-whole g c = c.requires.whole

pub stage_own-staged-requires-clause-stands : goal.stage_own-staged-requires-clause-stands
stage_own-staged-requires-clause-stands g c =
    let St : Holding g.row.D.Denot → StoreStand = λ s. stand_of g.D.Disk.tells g.D.Disk.content g.D.Disk.fault_count g.D.Disk.moment g.D.Disk.images s in
    let a = c.args.self.now.store in
    is_standing a.takes (St a).state (c.takes_left.ensures.all c.requires.whole) c.args.own.now false (the_one (St a) a.takes c.requires.whole (c.takes_left.ensures.all c.requires.whole) c.args.own.now false c.requires.left)

pub returns-clause-kept : goal.returns-clause-kept
returns-clause-kept g c =
    let St : Holding g.row.D.Denot → StoreStand = λ s. stand_of g.D.Disk.tells g.D.Disk.content g.D.Disk.fault_count g.D.Disk.moment g.D.Disk.images s in
    let a = c.args.self.now.store in
    let b = c.stage_own-staged.new.self in
    own_seen (St a) a.takes c.requires.whole c.args.own.now c.stage_own-staged.result (St b) b.takes c.stage_own-staged.ensures.stages

pub returns-clause-memory : goal.returns-clause-memory
returns-clause-memory g c =
    let St : Holding g.row.D.Denot → StoreStand = λ s. stand_of g.D.Disk.tells g.D.Disk.content g.D.Disk.fault_count g.D.Disk.moment g.D.Disk.images s in
    let a = c.args.self.now.store in
    let b = c.stage_own-staged.new.self in
    own_memory (St a) a.takes c.requires.whole c.args.own.now c.stage_own-staged.result (St b) b.takes (record { queued = c.numbers_are_drawn.ensures.queued; staged = c.numbers_are_drawn.ensures.staged }) c.stage_own-staged.ensures.stages c.stage_own-staged.ensures.takes

pub returns-clause-err : goal.returns-clause-err
returns-clause-err g c =
    let St : Holding g.row.D.Denot → StoreStand = λ s. stand_of g.D.Disk.tells g.D.Disk.content g.D.Disk.fault_count g.D.Disk.moment g.D.Disk.images s in
    let a = c.args.self.now.store in
    let b = c.stage_own-staged.new.self in
    own_like (St a) a.takes c.requires.whole c.args.own.now c.stage_own-staged.result (St b) b.takes c.stage_own-staged.ensures.stages c.stage_own-staged.ensures.takes

pub returns-clause-told : goal.returns-clause-told
returns-clause-told g c =
    let St : Holding g.row.D.Denot → StoreStand = λ s. stand_of g.D.Disk.tells g.D.Disk.content g.D.Disk.fault_count g.D.Disk.moment g.D.Disk.images s in
    let a = c.args.self.now.store in
    let b = c.stage_own-staged.new.self in
    own_told (St a) a.takes c.requires.whole c.args.own.now c.stage_own-staged.result (St b) (record { queued = c.numbers_are_drawn.ensures.queued; staged = c.numbers_are_drawn.ensures.staged }) (tied g.D.Disk.tells (g.D.Disk.content c.args.self.now.store.disk) (g.D.Disk.fault_count c.args.self.now.store.disk) c.args.self.now.store.memory) c.stage_own-staged.ensures.stages

pub returns-clause-breaks : goal.returns-clause-breaks
returns-clause-breaks g c =
    let St : Holding g.row.D.Denot → StoreStand = λ s. stand_of g.D.Disk.tells g.D.Disk.content g.D.Disk.fault_count g.D.Disk.moment g.D.Disk.images s in
    let a = c.args.self.now.store in
    let b = c.stage_own-staged.new.self in
    own_breaks c.args.own.now c.stage_own-staged.result (St a) (St b) b.takes c.stage_own-staged.ensures.stages

pub returns-clause-rule : goal.returns-clause-rule
returns-clause-rule g c =
    let St : Holding g.row.D.Denot → StoreStand = λ s. stand_of g.D.Disk.tells g.D.Disk.content g.D.Disk.fault_count g.D.Disk.moment g.D.Disk.images s in
    let a = c.args.self.now.store in
    let b = c.stage_own-staged.new.self in
    own_call c.args.self.now.wanting c.want_in-self.result (St a) (St b) (none_wanted c.args.self.now.wanting c.in_default.ensures.is) c.requires.whole c.args.own.now c.stage_own-staged.result c.want_in-self.ensures c.stage_own-staged.ensures.stages

pub refusal-requires : goal.refusal-requires
refusal-requires g c = c.requires.whole

pub returns-in-Some-clause-kept : goal.returns-in-Some-clause-kept
returns-in-Some-clause-kept g c = still_kept g.D.Disk.tells g.D.Disk.content g.D.Disk.fault_count g.D.Disk.moment g.D.Disk.images c.args.self.now.store (SettledBy c.in-Some.fault) c.args.self.now.store.takes c.args.self.now.store.takes c.refusal.ensures.told

pub returns-in-Some-clause-err : goal.returns-in-Some-clause-err
returns-in-Some-clause-err g c =
    let St : Holding g.row.D.Denot → StoreStand = λ s. stand_of g.D.Disk.tells g.D.Disk.content g.D.Disk.fault_count g.D.Disk.moment g.D.Disk.images s in
    let a = c.args.self.now.store in
    λ settled. like_same (St a) (St a) a.takes a.takes c.requires.whole refl refl

pub returns-in-Some-clause-breaks : goal.returns-in-Some-clause-breaks
returns-in-Some-clause-breaks g c = wanted_breaks c.args.self.now.wanting c.in-Some.fault c.in-Some.ensures.is _

pub returns-in-Some-clause-rule : goal.returns-in-Some-clause-rule
returns-in-Some-clause-rule g c =
    let St : Holding g.row.D.Denot → StoreStand = λ s. stand_of g.D.Disk.tells g.D.Disk.content g.D.Disk.fault_count g.D.Disk.moment g.D.Disk.images s in
    let a = c.args.self.now.store in
    call_none c.args.self.now.wanting (St a) c.requires.whole c.refusal.ensures.told
