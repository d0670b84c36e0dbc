use Rattle.std.proofs.Common.{None, map}
use Rattle.node_model.specs.StoreWords.{entry_of, slot_of}
use Rattle.node_model.specs.Stores.{Queue_all, Slots}
use Rattle.node_store.specs.Tied.{tied}
use Rattle.outbound_store.proofs.HeldCalls.{batch, queued_kept, queued_noted, queued_whole, still_kept}
use Rattle.outbound_store.proofs.RefusedKept.{calls_break, unmoved}
use Rattle.node_model.specs.StoreStates.{StoreStand}
use Rattle.node_store.specs.Stored.{Holding, stand_of}
use Rattle.outbound_store.proofs.StepCalls.{queued_call, call_none}
use Rattle.outbound_store.proofs.Wanted.{none_wanted, wanted_breaks, wanted_kept}
use Rattle.outbound_store.proofs.taking_store.TakingStoreOutgoing.queue_all.Goals as goal

pub queue_all-slots-requires-clause-whole : goal.queue_all-slots-requires-clause-whole
queue_all-slots-requires-clause-whole g c = c.requires.whole

pub queue_all-slots-requires-clause-batch : goal.queue_all-slots-requires-clause-batch
queue_all-slots-requires-clause-batch g c =
    let St : Holding g.row.D.Denot → StoreStand = λ s. stand_of g.D.Disk.tells g.D.Disk.content g.D.Disk.fault_count g.D.Disk.moment g.D.Disk.images s in
    let a = c.args.self.now.store in
    batch (St a) a.takes c.requires.whole (c.takes_left.ensures.all c.requires.whole) (tied g.D.Disk.tells (g.D.Disk.content c.args.self.now.store.disk) (g.D.Disk.fault_count c.args.self.now.store.disk) c.args.self.now.store.memory) c.args.own.now (map entry_of c.args.files.now) c.requires.left c.requires.staged c.take_number.result c.take_number.ensures

pub returns-clause-kept : goal.returns-clause-kept
returns-clause-kept g c =
    let St : Holding g.row.D.Denot → StoreStand = λ s. stand_of g.D.Disk.tells g.D.Disk.content g.D.Disk.fault_count g.D.Disk.moment g.D.Disk.images s in
    let a = c.args.self.now.store in
    let b = c.queue_all-slots.new.self in
    queued_kept (St a) a.takes c.requires.whole (c.takes_left.ensures.all c.requires.whole) (tied g.D.Disk.tells (g.D.Disk.content c.args.self.now.store.disk) (g.D.Disk.fault_count c.args.self.now.store.disk) c.args.self.now.store.memory) c.args.own.now (map entry_of c.args.files.now) c.requires.left c.requires.staged (λ slots. map slot_of slots.items) c.take_number.result c.take_number.ensures (St b) b.takes c.queue_all-slots.result c.queue_all-slots.ensures.kept (unmoved g.D.Disk.moment c.queue_all-slots.result a.disk b.disk c.queue_all-slots.ensures.untouched)

pub returns-clause-noted : goal.returns-clause-noted
returns-clause-noted g c =
    let St : Holding g.row.D.Denot → StoreStand = λ s. stand_of g.D.Disk.tells g.D.Disk.content g.D.Disk.fault_count g.D.Disk.moment g.D.Disk.images s in
    let a = c.args.self.now.store in
    let b = c.queue_all-slots.new.self in
    queued_noted (St a) a.takes c.requires.whole (c.takes_left.ensures.all c.requires.whole) (tied g.D.Disk.tells (g.D.Disk.content c.args.self.now.store.disk) (g.D.Disk.fault_count c.args.self.now.store.disk) c.args.self.now.store.memory) c.args.own.now (map entry_of c.args.files.now) c.requires.left c.requires.staged (λ slots. map slot_of slots.items) c.take_number.result c.take_number.ensures (St b) b.takes c.queue_all-slots.result c.queue_all-slots.ensures.kept c.queue_all-slots.ensures.noted

pub returns-clause-whole : goal.returns-clause-whole
returns-clause-whole g c =
    let St : Holding g.row.D.Denot → StoreStand = λ s. stand_of g.D.Disk.tells g.D.Disk.content g.D.Disk.fault_count g.D.Disk.moment g.D.Disk.images s in
    let a = c.args.self.now.store in
    let b = c.queue_all-slots.new.self in
    queued_whole (St a) a.takes c.requires.whole (c.takes_left.ensures.all c.requires.whole) (tied g.D.Disk.tells (g.D.Disk.content c.args.self.now.store.disk) (g.D.Disk.fault_count c.args.self.now.store.disk) c.args.self.now.store.memory) c.args.own.now (map entry_of c.args.files.now) c.requires.left c.requires.staged (λ slots. map slot_of slots.items) c.take_number.result c.take_number.ensures (St b) b.takes c.queue_all-slots.result c.queue_all-slots.ensures.kept

pub returns-clause-breaks : goal.returns-clause-breaks
returns-clause-breaks g c =
    let St : Holding g.row.D.Denot → StoreStand = λ s. stand_of g.D.Disk.tells g.D.Disk.content g.D.Disk.fault_count g.D.Disk.moment g.D.Disk.images s in
    let a = c.args.self.now.store in
    let b = c.queue_all-slots.new.self in
    calls_break (Queue_all c.take_number.result None (map entry_of c.args.files.now)) c.queue_all-slots.result (λ slots. Slots (map slot_of slots.items)) (St a) (St b) b.takes (λ h. h) c.queue_all-slots.ensures.kept

pub returns-clause-rule : goal.returns-clause-rule
returns-clause-rule g c =
    let St : Holding g.row.D.Denot → StoreStand = λ s. stand_of g.D.Disk.tells g.D.Disk.content g.D.Disk.fault_count g.D.Disk.moment g.D.Disk.images s in
    let a = c.args.self.now.store in
    let b = c.queue_all-slots.new.self in
    queued_call c.args.self.now.wanting c.want_in-self.result (St a) (St b) (none_wanted c.args.self.now.wanting c.in_default.ensures.is) c.requires.whole c.take_number.result (map entry_of c.args.files.now) c.queue_all-slots.result (λ slots. Slots (map slot_of slots.items)) c.want_in-self.ensures (batch (St a) a.takes c.requires.whole (c.takes_left.ensures.all c.requires.whole) (tied g.D.Disk.tells (g.D.Disk.content c.args.self.now.store.disk) (g.D.Disk.fault_count c.args.self.now.store.disk) c.args.self.now.store.memory) c.args.own.now (map entry_of c.args.files.now) c.requires.left c.requires.staged c.take_number.result c.take_number.ensures) (λ slots. tt) c.queue_all-slots.ensures.kept

pub refusal-requires : goal.refusal-requires
refusal-requires g c = c.requires.whole

pub returns-in-Some-clause-kept : goal.returns-in-Some-clause-kept
returns-in-Some-clause-kept g c = wanted_kept c.args.self.now.wanting c.in-Some.fault c.in-Some.ensures.is _ _ _ (λ settles. still_kept g.D.Disk.tells g.D.Disk.content g.D.Disk.fault_count g.D.Disk.moment g.D.Disk.images c.args.self.now.store settles c.args.self.now.store.takes c.args.self.now.store.takes c.refusal.ensures.told)

pub returns-in-Some-clause-whole : goal.returns-in-Some-clause-whole
returns-in-Some-clause-whole g c = λ settled. c.requires.whole

pub returns-in-Some-clause-breaks : goal.returns-in-Some-clause-breaks
returns-in-Some-clause-breaks g c = wanted_breaks c.args.self.now.wanting c.in-Some.fault c.in-Some.ensures.is _

pub returns-in-Some-clause-rule : goal.returns-in-Some-clause-rule
returns-in-Some-clause-rule g c =
    let St : Holding g.row.D.Denot → StoreStand = λ s. stand_of g.D.Disk.tells g.D.Disk.content g.D.Disk.fault_count g.D.Disk.moment g.D.Disk.images s in
    let a = c.args.self.now.store in
    call_none c.args.self.now.wanting (St a) c.requires.whole c.refusal.ensures.told
