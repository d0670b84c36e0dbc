use Rattle.std.proofs.Common.{◌∙◌, subst, sym}
use Rattle.hub_core.specs.Hubs.{hub_state}
use Rattle.node_model.specs.StoreStates.{StoreStand}
use Rattle.node_store.specs.Stored.{Holding, stand_of}
use Rattle.node_model.specs.declared.desk.DeskFault.{DeskFault}
use Rattle.outbound_desk.specs.Lines.{Refuses, TakesIn, WantsSo}
use Rattle.outbound_desk.proofs.Taking.{ends_broken, ends_wanted, ends_well, takes_all}
use Rattle.outbound_desk.proofs.desk.LineDesk+TakingStore+D.take_in_first.Goals as goal

pub returns-in-Some-clause-takes : goal.returns-in-Some-clause-takes
returns-in-Some-clause-takes g c =
    let St : Holding g.row.D.Denot → StoreStand = λ s. stand_of g.D.Disk.tells g.D.Disk.content g.D.Disk.fault_count g.D.Disk.moment g.D.Disk.images s in
    let desk = c.args.self.now.desk in
    let end = c.take_peers-wanting.new.taking in
    let taken = takes_all (hub_state desk.hub.seats) desk.seat (St desk.hub.store.store) (St c.by.new.self) (St end.store) end.wanting c.requires.anew c.requires.whole (c.requires.ready.ready.fitted c.requires.whole) (record { staged = c.numbers_are_drawn.ensures.staged; few = c.numbers_are_drawn.ensures.few }) c.by.ensures (subst (λ (s : Holding g.row.D.Denot). TakesIn (St s) (St end.store) end.wanting) c.begin_anew.ensures.store c.take_peers-wanting.ensures.rows) in
    ends_broken _ _ _ _ end.wanting c.in-Some.count (sym c.broken.ensures ∙ c.in-Some.is) taken

pub returns-in-Some-wanting-clause-takes : goal.returns-in-Some-wanting-clause-takes
returns-in-Some-wanting-clause-takes g c =
    let St : Holding g.row.D.Denot → StoreStand = λ s. stand_of g.D.Disk.tells g.D.Disk.content g.D.Disk.fault_count g.D.Disk.moment g.D.Disk.images s in
    let desk = c.args.self.now.desk in
    let end = c.take_peers-wanting.new.taking in
    let taken = takes_all (hub_state desk.hub.seats) desk.seat (St desk.hub.store.store) (St c.by.new.self) (St end.store) end.wanting c.requires.anew c.requires.whole (c.requires.ready.ready.fitted c.requires.whole) (record { staged = c.numbers_are_drawn.ensures.staged; few = c.numbers_are_drawn.ensures.few }) c.by.ensures (subst (λ (s : Holding g.row.D.Denot). TakesIn (St s) (St end.store) end.wanting) c.begin_anew.ensures.store c.take_peers-wanting.ensures.rows) in
    subst (λ (fault : DeskFault). Refuses (hub_state desk.hub.seats) desk.seat (St desk.hub.store.store) fault (St end.store)) (sym c.fault_of.ensures)
    (ends_wanted _ _ _ _ end.wanting c.in-Some-wanting.wanting c.requires.anew (sym c.broken.ensures ∙ c.in-None.is) (subst (WantsSo end.wanting) c.in-Some-wanting.is c.take_peers-wanting.ensures.wants) taken)

pub returns-in-None-wanting-clause-takes : goal.returns-in-None-wanting-clause-takes
returns-in-None-wanting-clause-takes g c =
    let St : Holding g.row.D.Denot → StoreStand = λ s. stand_of g.D.Disk.tells g.D.Disk.content g.D.Disk.fault_count g.D.Disk.moment g.D.Disk.images s in
    let desk = c.args.self.now.desk in
    let end = c.take_peers-wanting.new.taking in
    let taken = takes_all (hub_state desk.hub.seats) desk.seat (St desk.hub.store.store) (St c.by.new.self) (St end.store) end.wanting c.requires.anew c.requires.whole (c.requires.ready.ready.fitted c.requires.whole) (record { staged = c.numbers_are_drawn.ensures.staged; few = c.numbers_are_drawn.ensures.few }) c.by.ensures (subst (λ (s : Holding g.row.D.Denot). TakesIn (St s) (St end.store) end.wanting) c.begin_anew.ensures.store c.take_peers-wanting.ensures.rows) in
    ends_well _ _ _ _ end.wanting (sym c.broken.ensures ∙ c.in-None.is) (subst (WantsSo end.wanting) c.in-None-wanting.is c.take_peers-wanting.ensures.wants) taken
