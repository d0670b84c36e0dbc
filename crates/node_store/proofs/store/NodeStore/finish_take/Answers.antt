use Rattle.std.proofs.Common.{◌≡◌, ℕ, Option, None, Some, Ok, Err, refl, sym, ◌∙◌, ap, subst}
use Rattle.std.specs.Prelude.{IsSome}
use Rattle.disk_model.specs.Changes.{Stands}
use Rattle.disk_model.specs.World.{World}
use Rattle.node_model.specs.declared.store.StoreFault.TheVariants.{Disk}
use Rattle.node_model.specs.StoreStates.{IfTold}
use Rattle.node_model.proofs.Lists.{none_some}
use Rattle.node_store.specs.Stored.{Holding, Memory, stand_of, stored_in}
use Rattle.node_store.specs.Taking.{MadeOf, Takes, take_gone}
use Rattle.node_store.proofs.TakeCall.{takes_call, takes_done, takes_failed, takes_sound}
use Rattle.node_store.proofs.TakeSteps.{any_made, failed_left, failed_read, gone_left, gone_read, stands_there, told_some}
use Rattle.node_store.specs.Takes as T
use Rattle.node_store.specs.Takes.{AreTakesOf}
use Rattle.node_store.proofs.MovedTakes.{takes_removed}
use Rattle.node_store.specs.Stored.{state_of}
use Rattle.node_store.proofs.store.NodeStore.finish_take.Goals as goal

pub remove-requires : goal.remove-requires
remove-requires g c = λ w read.
    let s = c.self.inside in
    let m : Memory = record { books = s.books; given = s.given.items; parts = s.parts.items; staged = s.staged.items; drawn = s.drawn; last_staged = s.last_staged; seat = s.seat; last_given = s.last_given; fulls = s.fulls; broken = s.broken } in
    let whole : s.broken ≡ None = ap (λ (x : Holding g.row.D.Denot). x.memory.broken) c.self.view_is ∙ c.requires.whole in
    let own = c.args.own.now in
    let r = g.met.D.Disk.reads s.disk w read in
    let stands = subst (λ (x : Holding g.row.D.Denot). IfTold (stand_of g.D.Disk.tells g.D.Disk.content g.D.Disk.fault_count g.D.Disk.moment g.D.Disk.images x).state.content (λ a. IsSome (a.takes own))) (sym c.self.view_is) c.requires.recorded.stands in
    let some = told_some g.D.Disk.tells (stored_in (g.D.Disk.content s.disk) m) (λ a. IsSome (a.takes own)) r.0 stands in
    subst (λ (v : World). Stands own 0 v) (sym r.1) (stands_there (g.D.Disk.content s.disk) own c.requires.recorded.take c.requires.recorded.named some)

pub invariant_of-self : goal.invariant_of-self
invariant_of-self g c =
    let s = c.self.inside in
    let m : Memory = record { books = s.books; given = s.given.items; parts = s.parts.items; staged = s.staged.items; drawn = s.drawn; last_staged = s.last_staged; seat = s.seat; last_given = s.last_given; fulls = s.fulls; broken = s.broken } in
    let whole : s.broken ≡ None = ap (λ (x : Holding g.row.D.Denot). x.memory.broken) c.self.view_is ∙ c.requires.whole in
    let own = c.args.own.now in
    let new = c.remove.new.self in
    let n = c.requires.recorded.take in
    let named = c.requires.recorded.named in
    let read = gone_read g.D.Disk.tells own n named g.D.Disk.content g.D.Disk.files g.D.Disk.moment g.D.Disk.images g.met.D.Disk.reads g.met.D.Disk.told s.disk new c.in-Ok.ensures.read c.in-Ok.ensures.stop in
    let left = gone_left g.D.Disk.tells own n named g.D.Disk.content g.D.Disk.files g.D.Disk.moment g.D.Disk.images g.met.D.Disk.reads g.met.D.Disk.told s.disk new c.in-Ok.ensures.read c.in-Ok.ensures.stop in
    let does = take_gone own in
    let made : Option (Unit {0}) = Some tt in
    let allowed : (Option (Unit {0}) → Type 0) = λ o. o ≡ Some tt in
    (takes_sound g.D.Disk.tells g.D.Disk.content g.D.Disk.fault_count g.D.Disk.moment g.D.Disk.images s.disk new m c.self.invariant.0 whole does made read c.in-Ok.ensures.stop.grew allowed left (λ o is. is), c.self.invariant.1, c.self.invariant.2, λ still. subst (λ (t : T.Takes). AreTakesOf t (state_of g.D.Disk.tells (g.D.Disk.content new) (g.D.Disk.fault_count new) m)) (sym c.removed.ensures) (takes_removed s.takes (state_of g.D.Disk.tells (g.D.Disk.content s.disk) (g.D.Disk.fault_count s.disk) m) (c.self.invariant.3 still) own (state_of g.D.Disk.tells (g.D.Disk.content new) (g.D.Disk.fault_count new) m) (takes_done g.D.Disk.tells g.D.Disk.content g.D.Disk.fault_count g.D.Disk.moment g.D.Disk.images s.disk new m c.self.invariant.0 whole does made read tt refl c.in-Ok.ensures.cause.calm)))

pub returns-in-Ok-clause-takes : goal.returns-in-Ok-clause-takes
returns-in-Ok-clause-takes g c =
    let s = c.self.inside in
    let m : Memory = record { books = s.books; given = s.given.items; parts = s.parts.items; staged = s.staged.items; drawn = s.drawn; last_staged = s.last_staged; seat = s.seat; last_given = s.last_given; fulls = s.fulls; broken = s.broken } in
    let whole : s.broken ≡ None = ap (λ (x : Holding g.row.D.Denot). x.memory.broken) c.self.view_is ∙ c.requires.whole in
    let own = c.args.own.now in
    let new = c.remove.new.self in
    let n = c.requires.recorded.take in
    let named = c.requires.recorded.named in
    let read = gone_read g.D.Disk.tells own n named g.D.Disk.content g.D.Disk.files g.D.Disk.moment g.D.Disk.images g.met.D.Disk.reads g.met.D.Disk.told s.disk new c.in-Ok.ensures.read c.in-Ok.ensures.stop in
    let left = gone_left g.D.Disk.tells own n named g.D.Disk.content g.D.Disk.files g.D.Disk.moment g.D.Disk.images g.met.D.Disk.reads g.met.D.Disk.told s.disk new c.in-Ok.ensures.read c.in-Ok.ensures.stop in
    let does = take_gone own in
    let made : Option (Unit {0}) = Some tt in
    let allowed : (Option (Unit {0}) → Type 0) = λ o. o ≡ Some tt in
    subst (λ (x : Holding g.row.D.Denot). Takes (take_gone c.args.own.now) (Ok tt) (stand_of g.D.Disk.tells g.D.Disk.content g.D.Disk.fault_count g.D.Disk.moment g.D.Disk.images x) (stand_of g.D.Disk.tells g.D.Disk.content g.D.Disk.fault_count g.D.Disk.moment g.D.Disk.images (record { disk = new; takes = s.takes; memory = m }))) c.self.view_is
    (takes_call g.D.Disk.tells g.D.Disk.content g.D.Disk.fault_count g.D.Disk.moment g.D.Disk.images s.disk new m c.self.invariant.0 whole does made read c.in-Ok.ensures.stop.grew allowed left c.in-Ok.ensures.stop.next (Ok tt) m (λ o is. subst (MadeOf (Ok tt)) (sym is) refl) (λ still o is. is) (λ t. refl) (takes_done g.D.Disk.tells g.D.Disk.content g.D.Disk.fault_count g.D.Disk.moment g.D.Disk.images s.disk new m c.self.invariant.0 whole does made read tt refl c.in-Ok.ensures.cause.calm))

pub returns-in-Err-clause-takes : goal.returns-in-Err-clause-takes
returns-in-Err-clause-takes g c =
    let s = c.self.inside in
    let m : Memory = record { books = s.books; given = s.given.items; parts = s.parts.items; staged = s.staged.items; drawn = s.drawn; last_staged = s.last_staged; seat = s.seat; last_given = s.last_given; fulls = s.fulls; broken = s.broken } in
    let whole : s.broken ≡ None = ap (λ (x : Holding g.row.D.Denot). x.memory.broken) c.self.view_is ∙ c.requires.whole in
    let own = c.args.own.now in
    let new = c.remove.new.self in
    let n = c.requires.recorded.take in
    let named = c.requires.recorded.named in
    let found = failed_read g.D.Disk.tells own n named g.D.Disk.content g.D.Disk.files g.D.Disk.moment g.D.Disk.images g.met.D.Disk.reads g.met.D.Disk.told s.disk new c.in-Err.field-0 c.in-Err.ensures.read c.in-Err.ensures.stop in
    let made = found.0 in
    let read = found.1 in
    let left = failed_left g.D.Disk.tells own n named g.D.Disk.content g.D.Disk.files g.D.Disk.moment g.D.Disk.images g.met.D.Disk.reads g.met.D.Disk.told s.disk new c.in-Err.field-0 c.in-Err.ensures.read c.in-Err.ensures.stop in
    let does = take_gone own in
    let allowed : (Option (Unit {0}) → Type 0) = λ o. Unit {0} in
    let failed = takes_call g.D.Disk.tells g.D.Disk.content g.D.Disk.fault_count g.D.Disk.moment g.D.Disk.images s.disk new m c.self.invariant.0 whole does made read c.in-Err.ensures.stop.grew allowed left c.in-Err.ensures.stop.next (Err Disk) (record m { broken = Some (g.D.Disk.fault_count new) }) (λ o is. any_made Disk o) (λ still. none_some (sym still)) (λ t. refl) (takes_failed g.D.Disk.tells g.D.Disk.content g.D.Disk.fault_count g.D.Disk.moment g.D.Disk.images s.disk new m c.self.invariant.0 whole does made read c.in-Err.ensures.cause.failed) in
    let counted = subst (λ (k : ℕ). Takes (take_gone c.args.own.now) (Err Disk) (stand_of g.D.Disk.tells g.D.Disk.content g.D.Disk.fault_count g.D.Disk.moment g.D.Disk.images (record { disk = s.disk; takes = s.takes; memory = m })) (stand_of g.D.Disk.tells g.D.Disk.content g.D.Disk.fault_count g.D.Disk.moment g.D.Disk.images (record { disk = new; takes = s.takes; memory = record m { broken = Some k } }))) (sym c.faults.ensures) failed in
    subst (λ (x : Holding g.row.D.Denot). Takes (take_gone c.args.own.now) (Err Disk) (stand_of g.D.Disk.tells g.D.Disk.content g.D.Disk.fault_count g.D.Disk.moment g.D.Disk.images x) (stand_of g.D.Disk.tells g.D.Disk.content g.D.Disk.fault_count g.D.Disk.moment g.D.Disk.images (record { disk = new; takes = s.takes; memory = record { books = s.books; given = s.given.items; parts = s.parts.items; staged = s.staged.items; drawn = s.drawn; last_staged = s.last_staged; seat = s.seat; last_given = s.last_given; fulls = s.fulls; broken = Some c.faults.result } }))) c.self.view_is
    (counted)
