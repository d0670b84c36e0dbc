use Rattle.std.proofs.Common.{◌≡◌, ◌∙◌, List, subst, sym}
use Rattle.ftn_addr.specs.Address.{address}
use Rattle.node_model.specs.Lists.{Each}
use Rattle.node_store.specs.declared.takes.TakeName.{TakeName}
use Rattle.outbound_model.specs.OwnNames.{number_of}
use Rattle.outbound_take.specs.Calls.{next_above}
use Rattle.outbound_store.proofs.HeldCalls.{first_seen, none_left}
use Rattle.outbound_store.proofs.TakeFacts.{numbered}
use Rattle.node_model.specs.StoreStates.{StoreStand}
use Rattle.node_store.specs.Stored.{Holding, stand_of}
use Rattle.outbound_store.proofs.taking_store.TakingStoreOutgoing.first_left.Goals as goal

pub returns-in-Some : goal.returns-in-Some
returns-in-Some g c = none_left (address c.args.dest.now) (next_above c.args.above) _ _ c.args.self.now.store.takes.left (sym c.broken.ensures ∙ c.in-Some.is)

pub first_left-requires : goal.first_left-requires
first_left-requires g c =
    let St : Holding g.row.D.Denot → StoreStand = λ s. stand_of g.D.Disk.tells g.D.Disk.content g.D.Disk.fault_count g.D.Disk.moment g.D.Disk.images s in
    let a = c.args.self.now.store in
    subst (λ (l : List TakeName). Each (λ (t : TakeName). number_of t.own ≡ t.take) l) (sym c.takes_left.ensures.left) (numbered a.takes (St a).state (c.takes_left.ensures.all (sym c.broken.ensures ∙ c.in-None.is)))

pub returns-in-None : goal.returns-in-None
returns-in-None g c =
    let St : Holding g.row.D.Denot → StoreStand = λ s. stand_of g.D.Disk.tells g.D.Disk.content g.D.Disk.fault_count g.D.Disk.moment g.D.Disk.images s in
    let a = c.args.self.now.store in
    first_seen (St a) a.takes (sym c.broken.ensures ∙ c.in-None.is) (address c.args.dest.now) (next_above c.args.above) c.first_left.result c.takes_left.result.now c.takes_left.ensures.left c.first_left.ensures
