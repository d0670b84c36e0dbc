use Rattle.std.proofs.Common.{◌≡◌, None, ◌∙◌, ap, subst}
use Rattle.disk_model.specs.Changes.{Every}
use Rattle.disk_model.specs.Moments.{Now}
use Rattle.node_model.specs.StoreStates.{shelf_of}
use Rattle.node_store.specs.Stored.{Holding, Memory, stored_in}
use Rattle.node_store.specs.Worlds.{OpensAs}
use Rattle.node_store.proofs.Calls.{kept_opens}
use Rattle.node_store.proofs.store.NodeStore.opens_as_told.Goals as goal

pub returns-clause-stopped : goal.returns-clause-stopped
returns-clause-stopped g c = λ t.
    let s = c.self.inside in
    let whole : s.broken ≡ None = ap (λ (x : Holding g.row.D.Denot). x.memory.broken) c.self.view_is ∙ c.requires in
    let m : Memory = record { books = s.books; given = s.given.items; parts = s.parts.items; staged = s.staged.items; drawn = s.drawn; last_staged = s.last_staged; seat = s.seat; last_given = s.last_given; fulls = s.fulls; broken = s.broken } in
    subst (λ (x : Holding g.row.D.Denot). Every (Now g.D.Disk.moment g.D.Disk.images x.disk) (λ w. OpensAs w (shelf_of (stored_in (g.D.Disk.content x.disk) x.memory)))) c.self.view_is
    (λ w image.
    let o = kept_opens g.D.Disk.tells t (g.D.Disk.content s.disk) m c.self.invariant.0.memory.books.folds w (c.self.invariant.0.kept whole w image) in
    subst (OpensAs w) o.1 o.0)

pub returns-clause-read : goal.returns-clause-read
returns-clause-read g c = λ t.
    let d = c.args.self.now.disk in
    returns-clause-stopped g c t (g.D.Disk.content d) (g.met.D.Disk.as_read d (g.D.Disk.content d) (g.met.D.Disk.told t d))
