use Rattle.std.proofs.Common.{◌∙◌, Option, None, ap, subst, sym}
use Rattle.node_model.specs.StoreStates.{StoreState, StoreStand}
use Rattle.node_store.specs.Stored.{Holding, stand_of}
use Rattle.outbound_store.specs.declared.taking_store.TakingStore.{TakingStore}
use Rattle.take_steps.specs.declared.wanting.Wanting.{Wanting}
use Rattle.outbound_store.specs.Calls.{CallOf}
use Rattle.outbound_desk.specs.Lines.{TakesIn, WantsSo}
use Rattle.outbound_desk.proofs.Taking.{asks_takes, takes_ruled, takes_then}
use Rattle.outbound_desk.proofs.peers.take_peers.Goals as goal

pub returns-in-Err-NoMemory-clause-rows : goal.returns-in-Err-NoMemory-clause-rows
returns-in-Err-NoMemory-clause-rows g c =
    let St : Holding g.row.D.Denot → StoreStand = λ s. stand_of g.D.Disk.tells g.D.Disk.content g.D.Disk.fault_count g.D.Disk.moment g.D.Disk.images s in
    subst (λ (w : Option Wanting). TakesIn (St c.args.taking.now.store) (St c.addresses.new.store) w) (sym c.requires.unwanted) (asks_takes c.addresses.result (St c.args.taking.now.store) (St c.addresses.new.store) c.requires.whole c.addresses.ensures.asks)

pub returns-in-Err : goal.returns-in-Err
returns-in-Err g c =
    let St : Holding g.row.D.Denot → StoreStand = λ s. stand_of g.D.Disk.tells g.D.Disk.content g.D.Disk.fault_count g.D.Disk.moment g.D.Disk.images s in
    record {
      rows = subst (λ (w : Option Wanting). TakesIn (St c.args.taking.now.store) (St c.addresses.new.store) w) (sym c.requires.unwanted) (asks_takes c.addresses.result (St c.args.taking.now.store) (St c.addresses.new.store) c.requires.whole c.addresses.ensures.asks);
      wants = subst (λ (w : Option Wanting). WantsSo w None) (sym c.requires.unwanted) tt;
    }

pub returns-clause-rows : goal.returns-clause-rows
returns-clause-rows g c =
    let St : Holding g.row.D.Denot → StoreStand = λ s. stand_of g.D.Disk.tells g.D.Disk.content g.D.Disk.fault_count g.D.Disk.moment g.D.Disk.images s in
    let same = (c.in-Ok.ensures.asks).made in
    let whole = ap (λ (s : StoreState). s.counts.broken) same ∙ c.requires.whole in
    takes_then (St c.args.taking.now.store) (St c.addresses.new.store) (St c.take_each.new.taking.store) c.take_each.new.taking.wanting whole
    (asks_takes _ (St c.args.taking.now.store) (St c.addresses.new.store) c.requires.whole c.in-Ok.ensures.asks)
    (takes_ruled (λ (s : TakingStore g.row.D.Denot). St s.store) (λ s. s.wanting) (λ s t. CallOf (St s.store) s.wanting (St t.store) t.wanting) (λ s t call. call.stepped) _ c.take_each.new.taking whole c.requires.unwanted c.take_each.ensures.ruled)
