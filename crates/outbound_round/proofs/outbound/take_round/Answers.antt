use Rattle.std.proofs.Common.{List, Ok, Err, Some, map, subst, ap, refl, ◌∙◌}
use Rattle.ftn_addr.specs.Address.{address}
use Rattle.ftn_addr.specs.declared.addr.Addr.{Addr}
use Rattle.node_model.specs.Lists.{Member}
use Rattle.node_model.specs.StoreStates.{StoreStand}
use Rattle.node_store.specs.Stored.{Holding, stand_of}
use Rattle.outbound_store.specs.declared.taking_store.TakingStore.{TakingStore}
use Rattle.outbound_store.proofs.GoesOnCalls.{asks_go_on}
use Rattle.outbound_store.proofs.GoesOnLemmas.{goes_on_then}
use Rattle.outbound_store.specs.Calls.{CallOf}
use Rattle.outbound_store.specs.Held.{seen_on}
use Rattle.outbound_take.proofs.RuledLemmas.{ruled_on, ruled_one}
use Rattle.outbound_round.specs.declared.words.RoundFault.{RoundFault}
use Rattle.outbound_round.specs.Round.{TakesThem, nothing_told, told_of}
use Rattle.outbound_round.proofs.AskedLemmas.{asked_whole, asks_call, asks_refused, asks_so}
use Rattle.outbound_round.proofs.RoundLemmas.{ends_whole}
use Rattle.outbound_round.proofs.outbound.take_round.Goals as goal

pub take_each-requires-clause-whole : goal.take_each-requires-clause-whole
take_each-requires-clause-whole g c = asked_whole _ _ c.in-Ok.ensures.asks.made c.requires.whole

pub take_each-requires-clause-within : goal.take_each-requires-clause-within
take_each-requires-clause-within g c = λ a there. (c.in-Ok.ensures.own a (subst (λ (l : List Addr). Member a (map address l)) c.as_slice.ensures.value there)).within

pub returns-in-Ok-clause-round : goal.returns-in-Ok-clause-round
returns-in-Ok-clause-round g c = record {
  found = Ok (map address c.in-Ok.found.items);
  mid = c.addresses.new.store;
  asks = asks_so c.in-Ok.found (map address c.in-Ok.found.items) _ _ c.in-Ok.ensures.asks;
  needed = record { rising = c.in-Ok.ensures.rising; own = c.in-Ok.ensures.own; kept = c.in-Ok.ensures.kept; told_so = c.in-Ok.ensures.told };
  takes = subst (λ (l : List Addr). TakesThem (seen_on g.D.Disk.tells g.D.Disk.content g.D.Disk.fault_count g.D.Disk.moment g.D.Disk.images) c.args.telling c.args.outbound.now.base.now.list c.args.outbound.now.zone (address c.args.outbound.now.home.now) c.args.now (map address l) (told_of c.take_each.result) c.addresses.new.store c.take_each.new.taking.store) c.as_slice.ensures.value c.take_each.ensures.takes;
}

pub returns-in-Ok-clause-ruled : goal.returns-in-Ok-clause-ruled
returns-in-Ok-clause-ruled g c =
    let St : Holding g.row.D.Denot → StoreStand = λ s. stand_of g.D.Disk.tells g.D.Disk.content g.D.Disk.fault_count g.D.Disk.moment g.D.Disk.images s in
    ruled_on _ _ _ _
    (ruled_one (λ (s : TakingStore g.row.D.Denot) (t : TakingStore g.row.D.Denot). CallOf (St s.store) s.wanting (St t.store) t.wanting) c.args.taking.now (record c.args.taking.now { store = c.addresses.new.store })
    (asks_call _ _ _ _ c.requires.unwanted c.requires.whole c.in-Ok.ensures.asks))
    c.take_each.ensures.ruled

pub returns-in-Ok-clause-goes_on : goal.returns-in-Ok-clause-goes_on
returns-in-Ok-clause-goes_on g c = goes_on_then _ _ _ (asks_go_on _ _ _ _ c.in-Ok.ensures.asks) c.take_each.ensures.goes_on

pub returns-in-Ok-clause-whole : goal.returns-in-Ok-clause-whole
returns-in-Ok-clause-whole g c = λ other. ends_whole _ _ _ _ _ _ c.take_each.ensures.takes.ended other

pub returns-in-Err-clause-round : goal.returns-in-Err-clause-round
returns-in-Err-clause-round g c = record {
  found = Err c.in-Err.fault;
  mid = c.addresses.new.store;
  asks = asks_refused c.in-Err.fault _ _ c.in-Err.ensures.asks;
  needed = tt;
  takes = (c.nothing_told.ensures ∙ ap (λ (f : RoundFault). nothing_told (Some f)) c.fault_of.ensures, refl);
}

pub returns-in-Err-clause-goes_on : goal.returns-in-Err-clause-goes_on
returns-in-Err-clause-goes_on g c = asks_go_on _ _ _ _ c.in-Err.ensures.asks

pub returns-in-Err-clause-ruled : goal.returns-in-Err-clause-ruled
returns-in-Err-clause-ruled g c =
    let St : Holding g.row.D.Denot → StoreStand = λ s. stand_of g.D.Disk.tells g.D.Disk.content g.D.Disk.fault_count g.D.Disk.moment g.D.Disk.images s in
    ruled_one (λ (s : TakingStore g.row.D.Denot) (t : TakingStore g.row.D.Denot). CallOf (St s.store) s.wanting (St t.store) t.wanting) c.args.taking.now (record c.args.taking.now { store = c.addresses.new.store })
    (asks_call _ _ _ _ c.requires.unwanted c.requires.whole c.in-Err.ensures.asks)
