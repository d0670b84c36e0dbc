use Rattle.outbound_take.specs.Stand.{Settles, SettledBy}
use Rattle.outbound_store.proofs.HeldCalls.{draw_holds, draw_kept, draw_like, still_kept}
use Rattle.outbound_store.proofs.RefusedKept.{draw_breaks}
use Rattle.outbound_store.proofs.StepCalls.{draws_call, call_none}
use Rattle.outbound_store.proofs.Wanted.{none_wanted, wanted_breaks}
use Rattle.outbound_store.proofs.AskKept.{like_same}
use Rattle.std.proofs.Common.{refl}
use Rattle.node_model.specs.StoreStates.{StoreStand}
use Rattle.node_store.specs.Stored.{Holding, stand_of}
use Rattle.outbound_store.proofs.taking_store.TakingStoreOutgoing.next_take.Goals as goal

pub next_take-take-requires : goal.next_take-take-requires
next_take-take-requires g c = record { whole = c.requires }

pub returns-clause-kept : goal.returns-clause-kept
returns-clause-kept g c = draw_kept g.D.Disk.tells g.D.Disk.content g.D.Disk.fault_count g.D.Disk.moment g.D.Disk.images c.next_take-take.result (Settles c.next_take-take.result) c.args.self.now.store c.next_take-take.new.self c.refusal.ensures.told c.next_take-take.ensures.draws

pub returns-clause-drawn : goal.returns-clause-drawn
returns-clause-drawn g c = draw_holds g.D.Disk.tells g.D.Disk.content g.D.Disk.fault_count g.D.Disk.moment g.D.Disk.images c.next_take-take.result c.args.self.now.store c.next_take-take.new.self c.requires c.next_take-take.ensures.draws

pub returns-clause-err : goal.returns-clause-err
returns-clause-err g c = draw_like g.D.Disk.tells g.D.Disk.content g.D.Disk.fault_count g.D.Disk.moment g.D.Disk.images c.next_take-take.result c.args.self.now.store c.next_take-take.new.self c.requires c.next_take-take.ensures.draws

pub returns-clause-breaks : goal.returns-clause-breaks
returns-clause-breaks g c = draw_breaks c.next_take-take.result c.args.self.now.store c.next_take-take.new.self _ c.next_take-take.ensures.draws

pub returns-clause-rule : goal.returns-clause-rule
returns-clause-rule g c = draws_call g.D.Disk.tells g.D.Disk.content g.D.Disk.fault_count g.D.Disk.moment g.D.Disk.images c.args.self.now.wanting c.want_in-self.result c.next_take-take.result c.args.self.now.store c.next_take-take.new.self (none_wanted c.args.self.now.wanting c.in_default.ensures.is) c.want_in-self.ensures c.requires c.refusal.ensures.told c.next_take-take.ensures.draws

pub refusal-requires : goal.refusal-requires
refusal-requires g c = c.requires

pub returns-in-Some-clause-kept : goal.returns-in-Some-clause-kept
returns-in-Some-clause-kept g c = still_kept g.D.Disk.tells g.D.Disk.content g.D.Disk.fault_count g.D.Disk.moment g.D.Disk.images c.args.self.now.store (SettledBy c.in-Some.fault) c.args.self.now.store.takes c.args.self.now.store.takes c.refusal.ensures.told

pub returns-in-Some-clause-err : goal.returns-in-Some-clause-err
returns-in-Some-clause-err g c =
    let St : Holding g.row.D.Denot → StoreStand = λ s. stand_of g.D.Disk.tells g.D.Disk.content g.D.Disk.fault_count g.D.Disk.moment g.D.Disk.images s in
    let a = c.args.self.now.store in
    λ settled. like_same (St a) (St a) a.takes a.takes c.requires refl refl

pub returns-in-Some-clause-breaks : goal.returns-in-Some-clause-breaks
returns-in-Some-clause-breaks g c = wanted_breaks c.args.self.now.wanting c.in-Some.fault c.in-Some.ensures.is _

pub returns-in-Some-clause-rule : goal.returns-in-Some-clause-rule
returns-in-Some-clause-rule g c =
    let St : Holding g.row.D.Denot → StoreStand = λ s. stand_of g.D.Disk.tells g.D.Disk.content g.D.Disk.fault_count g.D.Disk.moment g.D.Disk.images s in
    let a = c.args.self.now.store in
    call_none c.args.self.now.wanting (St a) c.requires c.refusal.ensures.told
