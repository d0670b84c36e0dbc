use Rattle.std.proofs.Common.{refl, subst}
use Rattle.node_model.specs.Stores.{StoreKept, By_seat, Well}
use Rattle.node_store.specs.Stored.{Holding, Memory, stand_of}
use Rattle.node_store.proofs.Calls.{still_call}
use Rattle.node_store.proofs.store.NodeStore.by.Goals as goal

pub returns : goal.returns
returns g c =
    let s = c.self.inside in
    let m : Memory = record { books = s.books; given = s.given.items; parts = s.parts.items; staged = s.staged.items; drawn = s.drawn; last_staged = s.last_staged; seat = s.seat; last_given = s.last_given; fulls = s.fulls; broken = s.broken } in
    let m' : Memory = record { books = s.books; given = s.given.items; parts = s.parts.items; staged = s.staged.items; drawn = s.drawn; last_staged = s.last_staged; seat = c.args.seat; last_given = s.last_given; fulls = s.fulls; broken = s.broken } in
    subst (λ (x : Holding g.row.D.Denot). StoreKept (stand_of g.D.Disk.tells g.D.Disk.content g.D.Disk.fault_count g.D.Disk.moment g.D.Disk.images x) (By_seat c.args.seat) Well (stand_of g.D.Disk.tells g.D.Disk.content g.D.Disk.fault_count g.D.Disk.moment g.D.Disk.images (record { disk = s.disk; takes = s.takes; memory = m' }))) c.self.view_is
    (still_call g.D.Disk.tells g.D.Disk.content g.D.Disk.fault_count g.D.Disk.moment g.D.Disk.images s.disk m m' (By_seat c.args.seat) Well c.self.invariant.0.memory.books.folds c.self.invariant.0.kept refl refl)
