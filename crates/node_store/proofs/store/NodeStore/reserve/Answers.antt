use Rattle.std.proofs.Common.{◌≡◌, ℕ, Err, ◌+◌, ◌∙◌, ap, subst, rules}
use Rattle.ftn_addr.specs.Counts.{next_count}
use Rattle.node_model.specs.declared.store.StoreFault.TheVariants.{Full, NoMemory}
use Rattle.node_model.specs.StoreStates.{shelf_of}
use Rattle.node_model.specs.Stores.{StoreKept, Reserve, Well, Refuses}
use Rattle.node_store.specs.Stored.{Holding, Memory, stand_of, state_of}
use Rattle.node_store.proofs.Calls.{still_call}
use Rattle.node_store.proofs.Places.{places_told, same_stored, sound_same}
use Rattle.node_store.proofs.StillKept.{kept_in}
use Rattle.node_store.proofs.HeldTakes.{same_takes}
use Rattle.std.proofs.Common.{refl}
use Rattle.ledger_rec.specs.Fold.{State}
use Rattle.node_store.proofs.store.NodeStore.reserve.Goals as goal

pub invariant_of-self : goal.invariant_of-self
invariant_of-self g c =
    let s = c.self.inside in
    let m : Memory = record { books = s.books; given = s.given.items; parts = s.parts.items; staged = s.staged.items; drawn = s.drawn; last_staged = s.last_staged; seat = s.seat; last_given = s.last_given; fulls = s.fulls; broken = s.broken } in
    let h = sound_same g.D.Disk.tells g.D.Disk.content g.D.Disk.moment g.D.Disk.images s.disk m c.reserve.new.self c.reserve.ensures.same c.reserve.ensures.books c.self.invariant.0 in
    (h, c.self.invariant.1, kept_in s.kept s.given.items s.books c.reserve.new.self c.reserve.ensures.same.state c.self.invariant.2, λ still. same_takes s.takes g.D.Disk.tells (g.D.Disk.content s.disk) (g.D.Disk.content s.disk) (g.D.Disk.fault_count s.disk) (g.D.Disk.fault_count s.disk) m _ _ refl refl (ap (λ (x : State). x.takes) c.reserve.ensures.same.state) (λ t. refl) (c.self.invariant.3 still))

pub invariant_of-self-in-Err-NoMemory : goal.invariant_of-self-in-Err-NoMemory
invariant_of-self-in-Err-NoMemory g c =
    let s = c.self.inside in
    let m : Memory = record { books = s.books; given = s.given.items; parts = s.parts.items; staged = s.staged.items; drawn = s.drawn; last_staged = s.last_staged; seat = s.seat; last_given = s.last_given; fulls = s.fulls; broken = s.broken } in
    let h = sound_same g.D.Disk.tells g.D.Disk.content g.D.Disk.moment g.D.Disk.images s.disk m c.reserve.new.self c.reserve.ensures.same c.reserve.ensures.books c.self.invariant.0 in
    (h, c.self.invariant.1, kept_in s.kept s.given.items s.books c.reserve.new.self c.reserve.ensures.same.state c.self.invariant.2, λ still. same_takes s.takes g.D.Disk.tells (g.D.Disk.content s.disk) (g.D.Disk.content s.disk) (g.D.Disk.fault_count s.disk) (g.D.Disk.fault_count s.disk) m _ _ refl refl (ap (λ (x : State). x.takes) c.reserve.ensures.same.state) (λ t. refl) (c.self.invariant.3 still))

pub invariant_of-self-in-Err-Full : goal.invariant_of-self-in-Err-Full
invariant_of-self-in-Err-Full g c =
    let s = c.self.inside in
    let m : Memory = record { books = s.books; given = s.given.items; parts = s.parts.items; staged = s.staged.items; drawn = s.drawn; last_staged = s.last_staged; seat = s.seat; last_given = s.last_given; fulls = s.fulls; broken = s.broken } in
    let h = sound_same g.D.Disk.tells g.D.Disk.content g.D.Disk.moment g.D.Disk.images s.disk m c.reserve.new.self c.reserve.ensures.same c.reserve.ensures.books c.self.invariant.0 in
    (record { memory = record { books = h.memory.books; orderly = h.memory.orderly; parts = h.memory.parts; marked = h.memory.marked; received = h.memory.received; numbers = h.memory.numbers; given = h.memory.given; staged = h.memory.staged; queued = h.memory.queued }; kept = λ whole w now. let k = h.kept whole w now in record { ledger = k.ledger; files = k.files; same = k.same }; bodies = λ whole t. let b = h.bodies whole t in record { parts = b.parts; staged = b.staged; given = b.given } }, c.self.invariant.1, kept_in s.kept s.given.items s.books c.reserve.new.self c.reserve.ensures.same.state c.self.invariant.2, λ still. same_takes s.takes g.D.Disk.tells (g.D.Disk.content s.disk) (g.D.Disk.content s.disk) (g.D.Disk.fault_count s.disk) (g.D.Disk.fault_count s.disk) m _ _ refl refl (ap (λ (x : State). x.takes) c.reserve.ensures.same.state) (λ t. refl) (c.self.invariant.3 still))

pub returns-in-Ok : goal.returns-in-Ok
returns-in-Ok g c =
    let s = c.self.inside in
    let m : Memory = record { books = s.books; given = s.given.items; parts = s.parts.items; staged = s.staged.items; drawn = s.drawn; last_staged = s.last_staged; seat = s.seat; last_given = s.last_given; fulls = s.fulls; broken = s.broken } in
    let m' : Memory = record { books = c.reserve.new.self; given = s.given.items; parts = s.parts.items; staged = s.staged.items; drawn = s.drawn; last_staged = s.last_staged; seat = s.seat; last_given = s.last_given; fulls = s.fulls; broken = s.broken } in
    subst (λ (x : Holding g.row.D.Denot). StoreKept (stand_of g.D.Disk.tells g.D.Disk.content g.D.Disk.fault_count g.D.Disk.moment g.D.Disk.images x) (Reserve c.args.places) Well (stand_of g.D.Disk.tells g.D.Disk.content g.D.Disk.fault_count g.D.Disk.moment g.D.Disk.images (record { disk = s.disk; takes = s.takes; memory = m' }))) c.self.view_is
    (still_call g.D.Disk.tells g.D.Disk.content g.D.Disk.fault_count g.D.Disk.moment g.D.Disk.images s.disk m m' (Reserve c.args.places) Well c.self.invariant.0.memory.books.folds c.self.invariant.0.kept (ap shelf_of (same_stored (g.D.Disk.content s.disk) m c.reserve.new.self c.reserve.ensures.same))
    (c.in-Ok.ensures.room, places_told g.D.Disk.tells (g.D.Disk.content s.disk) (g.D.Disk.fault_count s.disk) m c.reserve.new.self (s.books.reserved + c.args.places) c.reserve.ensures.same c.in-Ok.ensures.reserved))

pub returns-in-Err-NoMemory : goal.returns-in-Err-NoMemory
returns-in-Err-NoMemory g c =
    let s = c.self.inside in
    let m : Memory = record { books = s.books; given = s.given.items; parts = s.parts.items; staged = s.staged.items; drawn = s.drawn; last_staged = s.last_staged; seat = s.seat; last_given = s.last_given; fulls = s.fulls; broken = s.broken } in
    let m' : Memory = record { books = c.reserve.new.self; given = s.given.items; parts = s.parts.items; staged = s.staged.items; drawn = s.drawn; last_staged = s.last_staged; seat = s.seat; last_given = s.last_given; fulls = s.fulls; broken = s.broken } in
    subst (λ (x : Holding g.row.D.Denot). StoreKept (stand_of g.D.Disk.tells g.D.Disk.content g.D.Disk.fault_count g.D.Disk.moment g.D.Disk.images x) (Reserve c.args.places) (Refuses NoMemory) (stand_of g.D.Disk.tells g.D.Disk.content g.D.Disk.fault_count g.D.Disk.moment g.D.Disk.images (record { disk = s.disk; takes = s.takes; memory = m' }))) c.self.view_is
    (still_call g.D.Disk.tells g.D.Disk.content g.D.Disk.fault_count g.D.Disk.moment g.D.Disk.images s.disk m m' (Reserve c.args.places) (Refuses NoMemory) c.self.invariant.0.memory.books.folds c.self.invariant.0.kept (ap shelf_of (same_stored (g.D.Disk.content s.disk) m c.reserve.new.self c.reserve.ensures.same))
    (tt, places_told g.D.Disk.tells (g.D.Disk.content s.disk) (g.D.Disk.fault_count s.disk) m c.reserve.new.self (s.books.reserved) c.reserve.ensures.same c.in-Err-NoMemory.ensures.unreserved))

pub returns-in-Err-Full : goal.returns-in-Err-Full
returns-in-Err-Full g c =
    let s = c.self.inside in
    let m : Memory = record { books = s.books; given = s.given.items; parts = s.parts.items; staged = s.staged.items; drawn = s.drawn; last_staged = s.last_staged; seat = s.seat; last_given = s.last_given; fulls = s.fulls; broken = s.broken } in
    let m' : Memory = record { books = c.reserve.new.self; given = s.given.items; parts = s.parts.items; staged = s.staged.items; drawn = s.drawn; last_staged = s.last_staged; seat = s.seat; last_given = s.last_given; fulls = c.saturating_add-self-inside.result; broken = s.broken } in
    let count : c.saturating_add-self-inside.result ≡ next_count s.fulls = search rules in
    subst (λ (x : Holding g.row.D.Denot). StoreKept (stand_of g.D.Disk.tells g.D.Disk.content g.D.Disk.fault_count g.D.Disk.moment g.D.Disk.images x) (Reserve c.args.places) (Refuses Full) (stand_of g.D.Disk.tells g.D.Disk.content g.D.Disk.fault_count g.D.Disk.moment g.D.Disk.images (record { disk = s.disk; takes = s.takes; memory = m' }))) c.self.view_is
    (still_call g.D.Disk.tells g.D.Disk.content g.D.Disk.fault_count g.D.Disk.moment g.D.Disk.images s.disk m m' (Reserve c.args.places) (Refuses Full) c.self.invariant.0.memory.books.folds c.self.invariant.0.kept (ap shelf_of (same_stored (g.D.Disk.content s.disk) m c.reserve.new.self c.reserve.ensures.same)) (
      c.reserve.ensures.full.0 (c.in-Err-Full.is ∙ ap Err c.in-Err-Full.field-0-is),
      places_told g.D.Disk.tells (g.D.Disk.content s.disk) (g.D.Disk.fault_count s.disk) (record m { fulls = c.saturating_add-self-inside.result }) c.reserve.new.self s.books.reserved c.reserve.ensures.same c.in-Err-Full.ensures.unreserved
          ∙ ap (λ (n : ℕ). record (state_of g.D.Disk.tells (g.D.Disk.content s.disk) (g.D.Disk.fault_count s.disk) m) { counts = record { faults = g.D.Disk.fault_count s.disk; fulls = n; broken = s.broken } }) count,
    ))
