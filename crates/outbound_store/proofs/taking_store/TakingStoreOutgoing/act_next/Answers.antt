use Rattle.ftn_addr.specs.Address.{address}
use Rattle.outbound_store.proofs.ActFacts.{act_ready}
use Rattle.outbound_store.proofs.HeldCalls.{acts_fewer, acts_left, acts_whole, acts_works, still_kept}
use Rattle.outbound_store.proofs.RefusedKept.{act_breaks, unmoved}
use Rattle.node_model.specs.StoreStates.{StoreStand}
use Rattle.node_store.specs.Stored.{Holding, stand_of}
use Rattle.outbound_store.proofs.StepCalls.{act_call, call_none}
use Rattle.outbound_store.proofs.Wanted.{none_wanted, wanted_breaks}
use Rattle.outbound_take.specs.Stand.{SettledBy}
use Rattle.outbound_take.proofs.WorkLemmas.{same_works}
use Rattle.outbound_take.specs.Calls.{IsAction}
use Rattle.std.proofs.Common.{refl}
use Rattle.outbound_store.proofs.taking_store.TakingStoreOutgoing.act_next.Goals as goal

pub opens_as_told-requires : goal.opens_as_told-requires
opens_as_told-requires g c = c.requires

pub act_next-acted-requires : goal.act_next-acted-requires
act_next-acted-requires g c = c.requires

pub returns-clause-works : goal.returns-clause-works
returns-clause-works g c =
    let St : Holding g.row.D.Denot → StoreStand = λ s. stand_of g.D.Disk.tells g.D.Disk.content g.D.Disk.fault_count g.D.Disk.moment g.D.Disk.images s in
    let a = c.args.self.now.store in
    let b = c.act_next-acted.new.self in
    acts_works (St a) a.takes c.requires (address c.args.dest.now) (act_ready g.D.Disk.tells g.D.Disk.content g.D.Disk.fault_count g.D.Disk.moment g.D.Disk.images c.args.self.now.store c.opens_as_told.ensures.read) c.act_next-acted.result (St b) b.takes c.act_next-acted.ensures.kept (unmoved g.D.Disk.moment c.act_next-acted.result a.disk b.disk c.act_next-acted.ensures.untouched)

pub returns-clause-left : goal.returns-clause-left
returns-clause-left g c =
    let St : Holding g.row.D.Denot → StoreStand = λ s. stand_of g.D.Disk.tells g.D.Disk.content g.D.Disk.fault_count g.D.Disk.moment g.D.Disk.images s in
    let a = c.args.self.now.store in
    let b = c.act_next-acted.new.self in
    acts_left (St a) a.takes c.requires (address c.args.dest.now) (act_ready g.D.Disk.tells g.D.Disk.content g.D.Disk.fault_count g.D.Disk.moment g.D.Disk.images c.args.self.now.store c.opens_as_told.ensures.read) c.act_next-acted.result (St b) b.takes c.act_next-acted.ensures.kept c.act_next-acted.ensures.takes

pub returns-clause-whole : goal.returns-clause-whole
returns-clause-whole g c =
    let St : Holding g.row.D.Denot → StoreStand = λ s. stand_of g.D.Disk.tells g.D.Disk.content g.D.Disk.fault_count g.D.Disk.moment g.D.Disk.images s in
    let a = c.args.self.now.store in
    let b = c.act_next-acted.new.self in
    acts_whole (St a) a.takes c.requires (address c.args.dest.now) (act_ready g.D.Disk.tells g.D.Disk.content g.D.Disk.fault_count g.D.Disk.moment g.D.Disk.images c.args.self.now.store c.opens_as_told.ensures.read) c.act_next-acted.result (St b) c.act_next-acted.ensures.kept

pub returns-clause-fewer : goal.returns-clause-fewer
returns-clause-fewer g c =
    let St : Holding g.row.D.Denot → StoreStand = λ s. stand_of g.D.Disk.tells g.D.Disk.content g.D.Disk.fault_count g.D.Disk.moment g.D.Disk.images s in
    let a = c.args.self.now.store in
    let b = c.act_next-acted.new.self in
    acts_fewer (St a) a.takes c.requires (address c.args.dest.now) (act_ready g.D.Disk.tells g.D.Disk.content g.D.Disk.fault_count g.D.Disk.moment g.D.Disk.images c.args.self.now.store c.opens_as_told.ensures.read) c.act_next-acted.result (St b) b.takes c.act_next-acted.ensures.kept

pub returns-clause-breaks : goal.returns-clause-breaks
returns-clause-breaks g c =
    let St : Holding g.row.D.Denot → StoreStand = λ s. stand_of g.D.Disk.tells g.D.Disk.content g.D.Disk.fault_count g.D.Disk.moment g.D.Disk.images s in
    let a = c.args.self.now.store in
    let b = c.act_next-acted.new.self in
    act_breaks (address c.args.dest.now) c.act_next-acted.result (St a) (St b) b.takes c.act_next-acted.ensures.kept

pub returns-clause-rule : goal.returns-clause-rule
returns-clause-rule g c =
    let St : Holding g.row.D.Denot → StoreStand = λ s. stand_of g.D.Disk.tells g.D.Disk.content g.D.Disk.fault_count g.D.Disk.moment g.D.Disk.images s in
    let a = c.args.self.now.store in
    let b = c.act_next-acted.new.self in
    act_call c.args.self.now.wanting c.want_in-self.result (St a) (St b) (none_wanted c.args.self.now.wanting c.in_default.ensures.is) c.requires (address c.args.dest.now) c.act_next-acted.result c.want_in-self.ensures c.act_next-acted.ensures.kept

pub refusal-requires : goal.refusal-requires
refusal-requires g c = c.requires

pub returns-in-Some-clause-works : goal.returns-in-Some-clause-works
returns-in-Some-clause-works g c = same_works IsAction (SettledBy c.in-Some.fault) _ _ (still_kept g.D.Disk.tells g.D.Disk.content g.D.Disk.fault_count g.D.Disk.moment g.D.Disk.images c.args.self.now.store (SettledBy c.in-Some.fault) c.args.self.now.store.takes c.args.self.now.store.takes c.refusal.ensures.told)

pub returns-in-Some-clause-left : goal.returns-in-Some-clause-left
returns-in-Some-clause-left g c = λ settled. refl

pub returns-in-Some-clause-whole : goal.returns-in-Some-clause-whole
returns-in-Some-clause-whole g c = λ settled. c.requires

pub returns-in-Some-clause-breaks : goal.returns-in-Some-clause-breaks
returns-in-Some-clause-breaks g c = wanted_breaks c.args.self.now.wanting c.in-Some.fault c.in-Some.ensures.is _

pub returns-in-Some-clause-rule : goal.returns-in-Some-clause-rule
returns-in-Some-clause-rule g c =
    let St : Holding g.row.D.Denot → StoreStand = λ s. stand_of g.D.Disk.tells g.D.Disk.content g.D.Disk.fault_count g.D.Disk.moment g.D.Disk.images s in
    let a = c.args.self.now.store in
    call_none c.args.self.now.wanting (St a) c.requires c.refusal.ensures.told
