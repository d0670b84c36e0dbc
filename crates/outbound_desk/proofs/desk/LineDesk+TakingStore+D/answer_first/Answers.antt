use Rattle.std.proofs.Common.{◌∙◌, ℕ, None, Some, Option, refl, sym, subst}
use Rattle.hub_core.specs.Hubs.{hub_state}
use Rattle.node_model.specs.StoreStates.{StoreStand}
use Rattle.node_store.specs.Stored.{Holding, stand_of}
use Rattle.node_model.specs.declared.desk.DeskFault.{DeskFault}
use Rattle.take_steps.specs.declared.wanting.Wanting.{Wanting}
use Rattle.outbound_desk.specs.Lines.{Refuses}
use Rattle.outbound_desk.specs.TakenIn.{TakenIn}
use Rattle.outbound_desk.proofs.Taking.{ends_broken, ends_wanted, ends_well}
use Rattle.outbound_desk.proofs.desk.LineDesk+TakingStore+D.answer_first.Goals as goal

pub returns-in-Some-clause-takes : goal.returns-in-Some-clause-takes
returns-in-Some-clause-takes g c =
    let St : Holding g.row.D.Denot → StoreStand = λ s. stand_of g.D.Disk.tells g.D.Disk.content g.D.Disk.fault_count g.D.Disk.moment g.D.Disk.images s in
    let taken = subst (λ (k : ℕ). TakenIn (hub_state c.args.self.now.desk.hub.seats) k (St c.args.self.now.desk.hub.store.store) (St c.answer_senders-wanting.new.store) c.answer_senders-wanting.result) c.requires.turn (c.answer_senders-wanting.ensures (hub_state c.args.self.now.desk.hub.seats) c.requires.anew (c.requires.ready.ready.fitted c.requires.whole) (record { staged = c.numbers_are_drawn.ensures.staged; few = c.numbers_are_drawn.ensures.few }) (c.requires.ready.ready.settled c.requires.whole)) in
    ends_broken (hub_state c.args.self.now.desk.hub.seats) c.args.self.now.desk.seat (St c.args.self.now.desk.hub.store.store) (St c.answer_senders-wanting.new.store) c.answer_senders-wanting.result c.in-Some.faults (sym c.broken.ensures ∙ c.in-Some.is) taken

pub returns-in-Some-wanting-clause-takes : goal.returns-in-Some-wanting-clause-takes
returns-in-Some-wanting-clause-takes g c =
    let St : Holding g.row.D.Denot → StoreStand = λ s. stand_of g.D.Disk.tells g.D.Disk.content g.D.Disk.fault_count g.D.Disk.moment g.D.Disk.images s in
    let taken = subst (λ (k : ℕ). TakenIn (hub_state c.args.self.now.desk.hub.seats) k (St c.args.self.now.desk.hub.store.store) (St c.answer_senders-wanting.new.store) c.answer_senders-wanting.result) c.requires.turn (c.answer_senders-wanting.ensures (hub_state c.args.self.now.desk.hub.seats) c.requires.anew (c.requires.ready.ready.fitted c.requires.whole) (record { staged = c.numbers_are_drawn.ensures.staged; few = c.numbers_are_drawn.ensures.few }) (c.requires.ready.ready.settled c.requires.whole)) in
    subst (λ (fault : DeskFault). Refuses (hub_state c.args.self.now.desk.hub.seats) c.args.self.now.desk.seat (St c.args.self.now.desk.hub.store.store) fault (St c.answer_senders-wanting.new.store)) (sym c.fault_of.ensures)
    (ends_wanted (hub_state c.args.self.now.desk.hub.seats) c.args.self.now.desk.seat (St c.args.self.now.desk.hub.store.store) (St c.answer_senders-wanting.new.store) (Some c.in-Some-wanting.want) c.in-Some-wanting.want c.requires.anew (sym c.in_default.ensures) refl (subst (λ (x : Option Wanting). TakenIn (hub_state c.args.self.now.desk.hub.seats) c.args.self.now.desk.seat (St c.args.self.now.desk.hub.store.store) (St c.answer_senders-wanting.new.store) x) c.in-Some-wanting.is taken))

pub returns-in-None-clause-takes : goal.returns-in-None-clause-takes
returns-in-None-clause-takes g c =
    let St : Holding g.row.D.Denot → StoreStand = λ s. stand_of g.D.Disk.tells g.D.Disk.content g.D.Disk.fault_count g.D.Disk.moment g.D.Disk.images s in
    let taken = subst (λ (k : ℕ). TakenIn (hub_state c.args.self.now.desk.hub.seats) k (St c.args.self.now.desk.hub.store.store) (St c.answer_senders-wanting.new.store) c.answer_senders-wanting.result) c.requires.turn (c.answer_senders-wanting.ensures (hub_state c.args.self.now.desk.hub.seats) c.requires.anew (c.requires.ready.ready.fitted c.requires.whole) (record { staged = c.numbers_are_drawn.ensures.staged; few = c.numbers_are_drawn.ensures.few }) (c.requires.ready.ready.settled c.requires.whole)) in
    ends_well (hub_state c.args.self.now.desk.hub.seats) c.args.self.now.desk.seat (St c.args.self.now.desk.hub.store.store) (St c.answer_senders-wanting.new.store) None (sym c.in_default.ensures) tt (subst (λ (x : Option Wanting). TakenIn (hub_state c.args.self.now.desk.hub.seats) c.args.self.now.desk.seat (St c.args.self.now.desk.hub.store.store) (St c.answer_senders-wanting.new.store) x) c.in-None.is taken)
