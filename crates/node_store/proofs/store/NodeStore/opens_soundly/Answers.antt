use Rattle.std.proofs.Common.{◌≡◌, None, sym, ap, subst}
use Rattle.node_store.specs.Sounds.{KeepsSound}
use Rattle.node_store.specs.Stored.{Holding, Memory, stand_of}
use Rattle.node_store.specs.Finding.{IsNewMemory}
use Rattle.node_store.proofs.OpenedNodes.{memory_sound}
use Rattle.node_store.proofs.store.NodeStore.opens_soundly.Goals as goal

pub returns : goal.returns
returns g c = λ settings.
    let s = c.self.inside in
    let m : Memory = record { books = s.books; given = s.given.items; parts = s.parts.items; staged = s.staged.items; drawn = s.drawn; last_staged = s.last_staged; seat = s.seat; last_given = s.last_given; fulls = s.fulls; broken = s.broken } in
    let whole : m.broken ≡ None = ap (λ (x : Memory). x.broken) (subst (λ (x : Holding g.row.D.Denot). IsNewMemory x.memory) (sym c.self.view_is) c.requires).3 in
    let new : IsNewMemory m = subst (λ (x : Holding g.row.D.Denot). IsNewMemory x.memory) (sym c.self.view_is) c.requires in
    subst (λ (x : Holding g.row.D.Denot). KeepsSound settings (stand_of g.D.Disk.tells g.D.Disk.content g.D.Disk.fault_count g.D.Disk.moment g.D.Disk.images x).state) c.self.view_is
    (memory_sound g.D.Disk.tells (g.D.Disk.content s.disk) (g.D.Disk.fault_count s.disk) m settings new (λ t. (c.self.invariant.0.bodies whole t).given) c.fits_four.ensures c.holds_few.ensures)
