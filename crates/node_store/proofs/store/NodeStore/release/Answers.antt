use Rattle.std.proofs.Common.{◌≡◌, ◌-◌, ap, subst, arith}
use Rattle.node_model.specs.Stores.{StoreKept, Release, Well}
use Rattle.node_model.specs.StoreStates.{shelf_of}
use Rattle.node_store.specs.Stored.{Holding, Memory, stand_of}
use Rattle.node_store.proofs.Calls.{still_call}
use Rattle.node_store.proofs.Places.{places_told, same_stored, sound_same}
use Rattle.node_store.proofs.StillKept.{kept_in}
use Rattle.node_store.proofs.HeldTakes.{same_takes}
use Rattle.std.proofs.Common.{refl}
use Rattle.ledger_rec.specs.Fold.{State}
use Rattle.node_store.proofs.store.NodeStore.release.Goals as goal

pub invariant_of-self : goal.invariant_of-self
invariant_of-self g c =
    let s = c.self.inside in
    let m : Memory = record { books = s.books; given = s.given.items; parts = s.parts.items; staged = s.staged.items; drawn = s.drawn; last_staged = s.last_staged; seat = s.seat; last_given = s.last_given; fulls = s.fulls; broken = s.broken } in
    (sound_same g.D.Disk.tells g.D.Disk.content g.D.Disk.moment g.D.Disk.images s.disk m c.release.new.self c.release.ensures.same c.release.ensures.books c.self.invariant.0, c.self.invariant.1, kept_in s.kept s.given.items s.books c.release.new.self c.release.ensures.same.state c.self.invariant.2, λ still. same_takes s.takes g.D.Disk.tells (g.D.Disk.content s.disk) (g.D.Disk.content s.disk) (g.D.Disk.fault_count s.disk) (g.D.Disk.fault_count s.disk) m _ _ refl refl (ap (λ (x : State). x.takes) c.release.ensures.same.state) (λ t. refl) (c.self.invariant.3 still))

pub returns : goal.returns
returns g c =
    let s = c.self.inside in
    let m : Memory = record { books = s.books; given = s.given.items; parts = s.parts.items; staged = s.staged.items; drawn = s.drawn; last_staged = s.last_staged; seat = s.seat; last_given = s.last_given; fulls = s.fulls; broken = s.broken } in
    let m' : Memory = record { books = c.release.new.self; given = s.given.items; parts = s.parts.items; staged = s.staged.items; drawn = s.drawn; last_staged = s.last_staged; seat = s.seat; last_given = s.last_given; fulls = s.fulls; broken = s.broken } in
    let left : c.release.new.self.reserved ≡ s.books.reserved - c.args.places = omega (arith, c.release.ensures.reserved) in
    subst (λ (x : Holding g.row.D.Denot). StoreKept (stand_of g.D.Disk.tells g.D.Disk.content g.D.Disk.fault_count g.D.Disk.moment g.D.Disk.images x) (Release c.args.places) Well (stand_of g.D.Disk.tells g.D.Disk.content g.D.Disk.fault_count g.D.Disk.moment g.D.Disk.images (record { disk = s.disk; takes = s.takes; memory = m' }))) c.self.view_is
    (still_call g.D.Disk.tells g.D.Disk.content g.D.Disk.fault_count g.D.Disk.moment g.D.Disk.images s.disk m m' (Release c.args.places) Well c.self.invariant.0.memory.books.folds c.self.invariant.0.kept (ap shelf_of (same_stored (g.D.Disk.content s.disk) m c.release.new.self c.release.ensures.same))
    (places_told g.D.Disk.tells (g.D.Disk.content s.disk) (g.D.Disk.fault_count s.disk) m c.release.new.self (s.books.reserved - c.args.places) c.release.ensures.same left))
