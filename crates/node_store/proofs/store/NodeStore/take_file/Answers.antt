use Rattle.std.proofs.Common.{◌≡◌, ℕ, ◌+◌, Option, None, Some, Ok, Err, refl, sym, ◌∙◌, ap, subst}
use Rattle.disk_model.specs.declared.answers.Moved.{Moved}
use Rattle.node_model.specs.declared.store.StoreFault.TheVariants.{Disk}
use Rattle.node_model.proofs.Lists.{none_some}
use Rattle.node_store.specs.Stored.{Holding, Memory, stand_of, state_of}
use Rattle.node_store.specs.Taking.{MadeOf, Takes, taken_so}
use Rattle.node_store.proofs.TakeCall.{left_now, takes_call, takes_done, takes_failed, takes_sound}
use Rattle.node_store.proofs.TakeSteps.{any_made, took_left, took_read}
use Rattle.disk_model.specs.Answers.{MovedOf}
use Rattle.disk_model.specs.Changes.{Every}
use Rattle.disk_model.specs.declared.answers.Moved.TheVariants.{Done, Absent}
use Rattle.node_store.specs.Names.{take_number}
use Rattle.node_store.specs.Takes as T
use Rattle.node_store.specs.Takes.{AreTakesOf}
use Rattle.node_store.proofs.MovedTakes.{free_name, has_moved, takes_moved}
use Rattle.node_store.proofs.store.NodeStore.take_file.Goals as goal

pub take-requires : goal.take-requires
take-requires g c =
    let s = c.self.inside in
    let m : Memory = record { books = s.books; given = s.given.items; parts = s.parts.items; staged = s.staged.items; drawn = s.drawn; last_staged = s.last_staged; seat = s.seat; last_given = s.last_given; fulls = s.fulls; broken = s.broken } in
    let whole : s.broken ≡ None = ap (λ (x : Holding g.row.D.Denot). x.memory.broken) c.self.view_is ∙ c.requires.whole in
    let named : take_number c.args.own.now ≡ Some (s.takes.last + 1) = c.requires.next.named ∙ ap (λ (x : Holding g.row.D.Denot). Some (x.takes.last + 1)) (sym c.self.view_is) in
    free_name g.D.Disk.tells g.D.Disk.content g.D.Disk.files g.met.D.Disk.reads s.disk (g.D.Disk.fault_count s.disk) m s.takes (c.self.invariant.3 whole) c.args.own.now named

pub invariant_of-self : goal.invariant_of-self
invariant_of-self g c =
    let s = c.self.inside in
    let m : Memory = record { books = s.books; given = s.given.items; parts = s.parts.items; staged = s.staged.items; drawn = s.drawn; last_staged = s.last_staged; seat = s.seat; last_given = s.last_given; fulls = s.fulls; broken = s.broken } in
    let whole : s.broken ≡ None = ap (λ (x : Holding g.row.D.Denot). x.memory.broken) c.self.view_is ∙ c.requires.whole in
    let own = c.args.own.now in
    let new = c.take.new.self in
    let path = c.args.path.now.list in
    let n = c.args.self.now.takes.last + 1 in
    let named = c.requires.next.named in
    let both = c.in-Ok-Done.ensures.both in
    let read = took_read g.D.Disk.tells own n named g.D.Disk.content g.D.Disk.files g.D.Disk.moment g.D.Disk.images g.met.D.Disk.reads g.met.D.Disk.told s.disk new path _ both in
    let left = took_left g.D.Disk.tells own n named g.D.Disk.content g.D.Disk.files g.D.Disk.moment g.D.Disk.images g.met.D.Disk.reads g.met.D.Disk.told s.disk new path _ both in
    let does = taken_so path own in
    let made = both.made in
    let allowed : (Option Moved → Type 0) = λ o. o ≡ made in
    let answered : both.made ≡ Some Done = both.answered ∙ ap Some c.in-Ok-Done.field-0-is in
    let next : take_number own ≡ Some (s.takes.last + 1) = named ∙ ap (λ (x : Holding g.row.D.Denot). Some (x.takes.last + 1)) (sym c.self.view_is) in
    let there = has_moved g.D.Disk.tells g.D.Disk.content g.D.Disk.files g.met.D.Disk.told s.disk (g.D.Disk.fault_count s.disk) m path Done (subst (λ (v : Moved). Every (g.D.Disk.files s.disk) (λ w. MovedOf v (w.outside path))) c.in-Ok-Done.field-0-is c.in-Ok-Done.ensures.told) in (
      takes_sound g.D.Disk.tells g.D.Disk.content g.D.Disk.fault_count g.D.Disk.moment g.D.Disk.images s.disk new m c.self.invariant.0 whole does made read both.stop.grew allowed left (λ o is. is),
      c.self.invariant.1,
      c.self.invariant.2,
      λ still. subst (λ (t : T.Takes). AreTakesOf t (state_of g.D.Disk.tells (g.D.Disk.content new) (g.D.Disk.fault_count new) m)) (sym c.moved.ensures) (takes_moved s.takes (state_of g.D.Disk.tells (g.D.Disk.content s.disk) (g.D.Disk.fault_count s.disk) m) (c.self.invariant.3 still) path own Done (state_of g.D.Disk.tells (g.D.Disk.content new) (g.D.Disk.fault_count new) m) next there
          (takes_done g.D.Disk.tells g.D.Disk.content g.D.Disk.fault_count g.D.Disk.moment g.D.Disk.images s.disk new m c.self.invariant.0 whole does made read Done answered c.in-Ok-Done.ensures.cause.calm)),
    )

pub returns-in-Ok-Done-clause-takes : goal.returns-in-Ok-Done-clause-takes
returns-in-Ok-Done-clause-takes g c =
    let s = c.self.inside in
    let m : Memory = record { books = s.books; given = s.given.items; parts = s.parts.items; staged = s.staged.items; drawn = s.drawn; last_staged = s.last_staged; seat = s.seat; last_given = s.last_given; fulls = s.fulls; broken = s.broken } in
    let whole : s.broken ≡ None = ap (λ (x : Holding g.row.D.Denot). x.memory.broken) c.self.view_is ∙ c.requires.whole in
    let own = c.args.own.now in
    let new = c.take.new.self in
    let path = c.args.path.now.list in
    let n = c.args.self.now.takes.last + 1 in
    let named = c.requires.next.named in
    let both = c.in-Ok-Done.ensures.both in
    let read = took_read g.D.Disk.tells own n named g.D.Disk.content g.D.Disk.files g.D.Disk.moment g.D.Disk.images g.met.D.Disk.reads g.met.D.Disk.told s.disk new path _ both in
    let left = took_left g.D.Disk.tells own n named g.D.Disk.content g.D.Disk.files g.D.Disk.moment g.D.Disk.images g.met.D.Disk.reads g.met.D.Disk.told s.disk new path _ both in
    let does = taken_so path own in
    let made = both.made in
    let allowed : (Option Moved → Type 0) = λ o. o ≡ made in
    let answered : both.made ≡ Some Done = both.answered ∙ ap Some c.in-Ok-Done.field-0-is in
    subst (λ (x : Holding g.row.D.Denot). Takes (taken_so path own) (Ok Done) (stand_of g.D.Disk.tells g.D.Disk.content g.D.Disk.fault_count g.D.Disk.moment g.D.Disk.images x) (stand_of g.D.Disk.tells g.D.Disk.content g.D.Disk.fault_count g.D.Disk.moment g.D.Disk.images (record { disk = new; takes = s.takes; memory = m }))) c.self.view_is
    (takes_call g.D.Disk.tells g.D.Disk.content g.D.Disk.fault_count g.D.Disk.moment g.D.Disk.images s.disk new m c.self.invariant.0 whole does made read both.stop.grew allowed left both.stop.next (Ok Done) m (λ o is. subst (MadeOf (Ok Done)) (sym (is ∙ answered)) refl) (λ still o is. is) (λ t. refl) (takes_done g.D.Disk.tells g.D.Disk.content g.D.Disk.fault_count g.D.Disk.moment g.D.Disk.images s.disk new m c.self.invariant.0 whole does made read Done answered c.in-Ok-Done.ensures.cause.calm))

pub returns-in-Ok-Done-clause-together : goal.returns-in-Ok-Done-clause-together
returns-in-Ok-Done-clause-together g c =
    let s = c.self.inside in
    let m : Memory = record { books = s.books; given = s.given.items; parts = s.parts.items; staged = s.staged.items; drawn = s.drawn; last_staged = s.last_staged; seat = s.seat; last_given = s.last_given; fulls = s.fulls; broken = s.broken } in
    let whole : s.broken ≡ None = ap (λ (x : Holding g.row.D.Denot). x.memory.broken) c.self.view_is ∙ c.requires.whole in
    let own = c.args.own.now in
    let new = c.take.new.self in
    let path = c.args.path.now.list in
    let n = c.args.self.now.takes.last + 1 in
    let named = c.requires.next.named in
    let both = c.take.ensures.both in
    let read = took_read g.D.Disk.tells own n named g.D.Disk.content g.D.Disk.files g.D.Disk.moment g.D.Disk.images g.met.D.Disk.reads g.met.D.Disk.told s.disk new path _ both in
    let left = took_left g.D.Disk.tells own n named g.D.Disk.content g.D.Disk.files g.D.Disk.moment g.D.Disk.images g.met.D.Disk.reads g.met.D.Disk.told s.disk new path _ both in
    let does = taken_so path own in
    let made = both.made in
    let allowed : (Option Moved → Type 0) = λ o. o ≡ made in
    left_now g.D.Disk.tells g.D.Disk.content g.D.Disk.fault_count g.D.Disk.moment g.D.Disk.images s.disk new m c.self.invariant.0 whole does made read both.stop.grew allowed left m (λ o is. is) (λ t. refl)

pub returns-in-Ok-Absent-clause-takes : goal.returns-in-Ok-Absent-clause-takes
returns-in-Ok-Absent-clause-takes g c =
    let s = c.self.inside in
    let m : Memory = record { books = s.books; given = s.given.items; parts = s.parts.items; staged = s.staged.items; drawn = s.drawn; last_staged = s.last_staged; seat = s.seat; last_given = s.last_given; fulls = s.fulls; broken = s.broken } in
    let whole : s.broken ≡ None = ap (λ (x : Holding g.row.D.Denot). x.memory.broken) c.self.view_is ∙ c.requires.whole in
    let own = c.args.own.now in
    let new = c.take.new.self in
    let path = c.args.path.now.list in
    let n = c.args.self.now.takes.last + 1 in
    let named = c.requires.next.named in
    let both = c.in-Ok-Absent.ensures.both in
    let read = took_read g.D.Disk.tells own n named g.D.Disk.content g.D.Disk.files g.D.Disk.moment g.D.Disk.images g.met.D.Disk.reads g.met.D.Disk.told s.disk new path _ both in
    let left = took_left g.D.Disk.tells own n named g.D.Disk.content g.D.Disk.files g.D.Disk.moment g.D.Disk.images g.met.D.Disk.reads g.met.D.Disk.told s.disk new path _ both in
    let does = taken_so path own in
    let made = both.made in
    let allowed : (Option Moved → Type 0) = λ o. o ≡ made in
    let answered : both.made ≡ Some Absent = both.answered ∙ ap Some c.in-Ok-Absent.field-0-is in
    subst (λ (x : Holding g.row.D.Denot). Takes (taken_so path own) (Ok Absent) (stand_of g.D.Disk.tells g.D.Disk.content g.D.Disk.fault_count g.D.Disk.moment g.D.Disk.images x) (stand_of g.D.Disk.tells g.D.Disk.content g.D.Disk.fault_count g.D.Disk.moment g.D.Disk.images (record { disk = new; takes = s.takes; memory = m }))) c.self.view_is
    (takes_call g.D.Disk.tells g.D.Disk.content g.D.Disk.fault_count g.D.Disk.moment g.D.Disk.images s.disk new m c.self.invariant.0 whole does made read both.stop.grew allowed left both.stop.next (Ok Absent) m (λ o is. subst (MadeOf (Ok Absent)) (sym (is ∙ answered)) refl) (λ still o is. is) (λ t. refl) (takes_done g.D.Disk.tells g.D.Disk.content g.D.Disk.fault_count g.D.Disk.moment g.D.Disk.images s.disk new m c.self.invariant.0 whole does made read Absent answered c.in-Ok-Absent.ensures.cause.calm))

pub returns-in-Ok-Absent-clause-together : goal.returns-in-Ok-Absent-clause-together
returns-in-Ok-Absent-clause-together g c =
    let s = c.self.inside in
    let m : Memory = record { books = s.books; given = s.given.items; parts = s.parts.items; staged = s.staged.items; drawn = s.drawn; last_staged = s.last_staged; seat = s.seat; last_given = s.last_given; fulls = s.fulls; broken = s.broken } in
    let whole : s.broken ≡ None = ap (λ (x : Holding g.row.D.Denot). x.memory.broken) c.self.view_is ∙ c.requires.whole in
    let own = c.args.own.now in
    let new = c.take.new.self in
    let path = c.args.path.now.list in
    let n = c.args.self.now.takes.last + 1 in
    let named = c.requires.next.named in
    let both = c.take.ensures.both in
    let read = took_read g.D.Disk.tells own n named g.D.Disk.content g.D.Disk.files g.D.Disk.moment g.D.Disk.images g.met.D.Disk.reads g.met.D.Disk.told s.disk new path _ both in
    let left = took_left g.D.Disk.tells own n named g.D.Disk.content g.D.Disk.files g.D.Disk.moment g.D.Disk.images g.met.D.Disk.reads g.met.D.Disk.told s.disk new path _ both in
    let does = taken_so path own in
    let made = both.made in
    let allowed : (Option Moved → Type 0) = λ o. o ≡ made in
    left_now g.D.Disk.tells g.D.Disk.content g.D.Disk.fault_count g.D.Disk.moment g.D.Disk.images s.disk new m c.self.invariant.0 whole does made read both.stop.grew allowed left m (λ o is. is) (λ t. refl)

pub returns-in-Err-clause-takes : goal.returns-in-Err-clause-takes
returns-in-Err-clause-takes g c =
    let s = c.self.inside in
    let m : Memory = record { books = s.books; given = s.given.items; parts = s.parts.items; staged = s.staged.items; drawn = s.drawn; last_staged = s.last_staged; seat = s.seat; last_given = s.last_given; fulls = s.fulls; broken = s.broken } in
    let whole : s.broken ≡ None = ap (λ (x : Holding g.row.D.Denot). x.memory.broken) c.self.view_is ∙ c.requires.whole in
    let own = c.args.own.now in
    let new = c.take.new.self in
    let path = c.args.path.now.list in
    let n = c.args.self.now.takes.last + 1 in
    let named = c.requires.next.named in
    let both = c.in-Err.ensures.both in
    let read = took_read g.D.Disk.tells own n named g.D.Disk.content g.D.Disk.files g.D.Disk.moment g.D.Disk.images g.met.D.Disk.reads g.met.D.Disk.told s.disk new path _ both in
    let left = took_left g.D.Disk.tells own n named g.D.Disk.content g.D.Disk.files g.D.Disk.moment g.D.Disk.images g.met.D.Disk.reads g.met.D.Disk.told s.disk new path _ both in
    let does = taken_so path own in
    let made = both.made in
    let allowed : (Option Moved → Type 0) = λ o. o ≡ made in
    let failed = takes_call g.D.Disk.tells g.D.Disk.content g.D.Disk.fault_count g.D.Disk.moment g.D.Disk.images s.disk new m c.self.invariant.0 whole does made read both.stop.grew allowed left both.stop.next (Err Disk) (record m { broken = Some (g.D.Disk.fault_count new) }) (λ o is. any_made Disk o) (λ still. none_some (sym still)) (λ t. refl) (takes_failed g.D.Disk.tells g.D.Disk.content g.D.Disk.fault_count g.D.Disk.moment g.D.Disk.images s.disk new m c.self.invariant.0 whole does made read c.in-Err.ensures.cause.failed) in
    let counted = subst (λ (k : ℕ). Takes (taken_so c.args.path.now.list c.args.own.now) (Err Disk) (stand_of g.D.Disk.tells g.D.Disk.content g.D.Disk.fault_count g.D.Disk.moment g.D.Disk.images (record { disk = s.disk; takes = s.takes; memory = m })) (stand_of g.D.Disk.tells g.D.Disk.content g.D.Disk.fault_count g.D.Disk.moment g.D.Disk.images (record { disk = new; takes = s.takes; memory = record m { broken = Some k } }))) (sym c.faults.ensures) failed in
    subst (λ (x : Holding g.row.D.Denot). Takes (taken_so c.args.path.now.list c.args.own.now) (Err Disk) (stand_of g.D.Disk.tells g.D.Disk.content g.D.Disk.fault_count g.D.Disk.moment g.D.Disk.images x) (stand_of g.D.Disk.tells g.D.Disk.content g.D.Disk.fault_count g.D.Disk.moment g.D.Disk.images (record { disk = new; takes = s.takes; memory = record { books = s.books; given = s.given.items; parts = s.parts.items; staged = s.staged.items; drawn = s.drawn; last_staged = s.last_staged; seat = s.seat; last_given = s.last_given; fulls = s.fulls; broken = Some c.faults.result } }))) c.self.view_is
    (counted)

pub returns-in-Err-clause-together : goal.returns-in-Err-clause-together
returns-in-Err-clause-together g c =
    let s = c.self.inside in
    let m : Memory = record { books = s.books; given = s.given.items; parts = s.parts.items; staged = s.staged.items; drawn = s.drawn; last_staged = s.last_staged; seat = s.seat; last_given = s.last_given; fulls = s.fulls; broken = s.broken } in
    let whole : s.broken ≡ None = ap (λ (x : Holding g.row.D.Denot). x.memory.broken) c.self.view_is ∙ c.requires.whole in
    let own = c.args.own.now in
    let new = c.take.new.self in
    let path = c.args.path.now.list in
    let n = c.args.self.now.takes.last + 1 in
    let named = c.requires.next.named in
    let both = c.take.ensures.both in
    let read = took_read g.D.Disk.tells own n named g.D.Disk.content g.D.Disk.files g.D.Disk.moment g.D.Disk.images g.met.D.Disk.reads g.met.D.Disk.told s.disk new path _ both in
    let left = took_left g.D.Disk.tells own n named g.D.Disk.content g.D.Disk.files g.D.Disk.moment g.D.Disk.images g.met.D.Disk.reads g.met.D.Disk.told s.disk new path _ both in
    let does = taken_so path own in
    let made = both.made in
    let allowed : (Option Moved → Type 0) = λ o. o ≡ made in
    left_now g.D.Disk.tells g.D.Disk.content g.D.Disk.fault_count g.D.Disk.moment g.D.Disk.images s.disk new m c.self.invariant.0 whole does made read both.stop.grew allowed left (record m { broken = Some c.faults.result }) (λ o is. is) (λ t. refl)
