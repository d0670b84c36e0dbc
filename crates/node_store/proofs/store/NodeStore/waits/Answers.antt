use Rattle.std.proofs.Common.{◌≡◌, ℕ, List, None, count_by, map, ◌∙◌, ap}
use Rattle.ledger_rec.specs.Fold.{Folding}
use Rattle.ledger_rec.specs.Items.{Receipt, receipt}
use Rattle.node_model.specs.SendRows.{may_go}
use Rattle.node_store.specs.Giving.{is_due}
use Rattle.node_store.specs.Opening.{counted}
use Rattle.node_store.specs.Stored.{Holding, sizes_in, stand_of}
use Rattle.node_store.proofs.GivenFiles.{flags_listed}
use Rattle.node_store.proofs.WaitingFiles.{same_count}
use Rattle.node_store.proofs.store.NodeStore.waits.Goals as goal

pub returns : goal.returns
returns g c =
    let s = c.self.inside in
    let whole : s.broken ≡ None = ap (λ (x : Holding g.row.D.Denot). x.memory.broken) c.self.view_is ∙ c.requires in
    let inbox : map receipt c.inbox.result.now ≡ s.books.folding.state.inbox = c.inbox.ensures ∙ ap (λ (f : Folding). f.state.inbox) c.folded.ensures in
    let flags = flags_listed g.D.Disk.tells (g.D.Disk.content s.disk) s.given.items (λ t. (c.self.invariant.0.bodies whole t).given) in
    c.waiting_among.ensures ∙ ap (λ (ns : List ℕ). counted (count_by (is_due ns) (map receipt c.inbox.result.now))) c.as_slice.ensures.value
    ∙ ap (λ (l : List Receipt). counted (count_by (is_due s.given.items) l)) inbox
    ∙ ap counted (same_count (sizes_in g.D.Disk.tells (g.D.Disk.content s.disk) s.given.items) s.given.items flags s.books.folding.state.inbox)
    ∙ ap (λ (x : Holding g.row.D.Denot). counted (count_by may_go (stand_of g.D.Disk.tells g.D.Disk.content g.D.Disk.fault_count g.D.Disk.moment g.D.Disk.images x).state.stock.state.inbox)) c.self.view_is
