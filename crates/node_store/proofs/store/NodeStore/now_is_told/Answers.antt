use Rattle.std.proofs.Common.{◌≡◌, None, Option, ◌∙◌, ap, subst}
use Rattle.node_model.specs.StoreStates.{Shelf}
use Rattle.node_model.specs.Stores.{IsShelf, OpensShelf}
use Rattle.node_store.specs.Stored.{Holding, Memory, stand_of}
use Rattle.node_store.proofs.Calls.{now_told}
use Rattle.node_store.proofs.store.NodeStore.now_is_told.Goals as goal

pub returns : goal.returns
returns g c =
    let s = c.self.inside in
    let whole : s.broken ≡ None = ap (λ (x : Holding g.row.D.Denot). x.memory.broken) c.self.view_is ∙ c.requires in
    let m : Memory = record { books = s.books; given = s.given.items; parts = s.parts.items; staged = s.staged.items; drawn = s.drawn; last_staged = s.last_staged; seat = s.seat; last_given = s.last_given; fulls = s.fulls; broken = s.broken } in
    subst (λ (x : Holding g.row.D.Denot). (d : Option Shelf) → (stand_of g.D.Disk.tells g.D.Disk.content g.D.Disk.fault_count g.D.Disk.moment g.D.Disk.images x).images (stand_of g.D.Disk.tells g.D.Disk.content g.D.Disk.fault_count g.D.Disk.moment g.D.Disk.images x).moment d → OpensShelf (IsShelf (stand_of g.D.Disk.tells g.D.Disk.content g.D.Disk.fault_count g.D.Disk.moment g.D.Disk.images x).state.content) d) c.self.view_is
    (now_told g.D.Disk.tells g.D.Disk.content g.D.Disk.fault_count g.D.Disk.moment g.D.Disk.images s.disk m c.self.invariant.0.memory.books.folds (c.self.invariant.0.kept whole))
