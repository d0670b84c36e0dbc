use Rattle.std.proofs.Common.{IsSome, refl, subst, sym, true, false}
use Rattle.std.proofs.lemmas.Result.{IfOk-weaker}
use Rattle.outbound_take.specs.Stand.{Settles, SettledBy}
use Rattle.outbound_store.proofs.AskKept.{asks_like, like_same}
use Rattle.outbound_store.proofs.HeldCalls.{ask_kept, take_bytes, the_one, still_kept}
use Rattle.node_model.specs.StoreStates.{StoreStand}
use Rattle.node_store.specs.Stored.{Holding, stand_of}
use Rattle.outbound_store.proofs.RefusedKept.{asks_break}
use Rattle.outbound_store.proofs.StepCalls.{asks_call, call_none}
use Rattle.outbound_store.proofs.Wanted.{none_wanted, wanted_breaks}
use Rattle.outbound_store.proofs.taking_store.TakingStoreOutgoing.read_take.Goals as goal

pub read_whole-bytes-requires-clause-whole : goal.read_whole-bytes-requires-clause-whole
read_whole-bytes-requires-clause-whole g c = c.requires.whole

pub read_whole-bytes-requires-clause-take : goal.read_whole-bytes-requires-clause-take
read_whole-bytes-requires-clause-take g c =
    let St : Holding g.row.D.Denot → StoreStand = λ s. stand_of g.D.Disk.tells g.D.Disk.content g.D.Disk.fault_count g.D.Disk.moment g.D.Disk.images s in
    let a = c.args.self.now.store in
    subst IsSome (sym (the_one (St a) a.takes c.requires.whole (c.takes_left.ensures.all c.requires.whole) c.args.own.now false c.requires.left).named) refl

pub returns-clause-kept : goal.returns-clause-kept
returns-clause-kept g c =
    let St : Holding g.row.D.Denot → StoreStand = λ s. stand_of g.D.Disk.tells g.D.Disk.content g.D.Disk.fault_count g.D.Disk.moment g.D.Disk.images s in
    let a = c.args.self.now.store in
    let b = c.read_whole-bytes.new.store in
    ask_kept true c.read_whole-bytes.result (Settles c.read_whole-bytes.result) (St a) (St b) a.takes b.takes c.read_whole-bytes.ensures.asks

pub returns-clause-memory : goal.returns-clause-memory
returns-clause-memory g c =
    let St : Holding g.row.D.Denot → StoreStand = λ s. stand_of g.D.Disk.tells g.D.Disk.content g.D.Disk.fault_count g.D.Disk.moment g.D.Disk.images s in
    let a = c.args.self.now.store in
    let b = c.read_whole-bytes.new.store in
    λ settled. asks_like true c.read_whole-bytes.result (St a) (St b) a.takes b.takes c.read_whole-bytes.ensures.asks settled c.requires.whole c.read_whole-bytes.ensures.takes

pub returns-clause-told : goal.returns-clause-told
returns-clause-told g c =
    let St : Holding g.row.D.Denot → StoreStand = λ s. stand_of g.D.Disk.tells g.D.Disk.content g.D.Disk.fault_count g.D.Disk.moment g.D.Disk.images s in
    let a = c.args.self.now.store in
    IfOk-weaker c.read_whole-bytes.result _ _ (λ bytes read s tells. take_bytes (St a) a.takes c.requires.whole (c.takes_left.ensures.all c.requires.whole) c.args.own.now c.requires.left bytes.list read s tells) c.read_whole-bytes.ensures.told

pub returns-clause-breaks : goal.returns-clause-breaks
returns-clause-breaks g c =
    let St : Holding g.row.D.Denot → StoreStand = λ s. stand_of g.D.Disk.tells g.D.Disk.content g.D.Disk.fault_count g.D.Disk.moment g.D.Disk.images s in
    let a = c.args.self.now.store in
    let b = c.read_whole-bytes.new.store in
    asks_break true c.read_whole-bytes.result (St a) (St b) b.takes c.read_whole-bytes.ensures.asks

pub returns-clause-rule : goal.returns-clause-rule
returns-clause-rule g c =
    let St : Holding g.row.D.Denot → StoreStand = λ s. stand_of g.D.Disk.tells g.D.Disk.content g.D.Disk.fault_count g.D.Disk.moment g.D.Disk.images s in
    let a = c.args.self.now.store in
    let b = c.read_whole-bytes.new.store in
    asks_call c.args.self.now.wanting c.want_in-self.result (St a) (St b) (none_wanted c.args.self.now.wanting c.in_default.ensures.is) c.requires.whole true c.read_whole-bytes.result c.want_in-self.ensures c.read_whole-bytes.ensures.asks

pub refusal-requires : goal.refusal-requires
refusal-requires g c = c.requires.whole

pub returns-in-Some-clause-kept : goal.returns-in-Some-clause-kept
returns-in-Some-clause-kept g c = still_kept g.D.Disk.tells g.D.Disk.content g.D.Disk.fault_count g.D.Disk.moment g.D.Disk.images c.args.self.now.store (SettledBy c.in-Some.fault) c.args.self.now.store.takes c.args.self.now.store.takes c.refusal.ensures.told

pub returns-in-Some-clause-memory : goal.returns-in-Some-clause-memory
returns-in-Some-clause-memory g c =
    let St : Holding g.row.D.Denot → StoreStand = λ s. stand_of g.D.Disk.tells g.D.Disk.content g.D.Disk.fault_count g.D.Disk.moment g.D.Disk.images s in
    let a = c.args.self.now.store in
    λ settled. like_same (St a) (St a) a.takes a.takes c.requires.whole refl refl

pub returns-in-Some-clause-breaks : goal.returns-in-Some-clause-breaks
returns-in-Some-clause-breaks g c = wanted_breaks c.args.self.now.wanting c.in-Some.fault c.in-Some.ensures.is _

pub returns-in-Some-clause-rule : goal.returns-in-Some-clause-rule
returns-in-Some-clause-rule g c =
    let St : Holding g.row.D.Denot → StoreStand = λ s. stand_of g.D.Disk.tells g.D.Disk.content g.D.Disk.fault_count g.D.Disk.moment g.D.Disk.images s in
    let a = c.args.self.now.store in
    call_none c.args.self.now.wanting (St a) c.requires.whole c.refusal.ensures.told
