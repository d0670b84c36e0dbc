use Rattle.std.proofs.Common.{ℕ, ◌≤◌, subst}
use Rattle.node_model.specs.Items.{EntryOf}
use Rattle.node_model.specs.Lists.{Each}
use Rattle.node_model.specs.Stocks.{StagedOf}
use Rattle.node_store.specs.Stored.{Holding, sizes_in, stand_of}
use Rattle.node_store.proofs.DrawnNumbers.{queued_drawn, staged_drawn}
use Rattle.node_store.proofs.store.NodeStore.numbers_are_drawn.Goals as goal

pub returns-clause-queued : goal.returns-clause-queued
returns-clause-queued g c =
    let s = c.self.inside in
    subst (λ (x : Holding g.row.D.Denot). Each (λ (entry : EntryOf ℕ). entry.number ≤ (stand_of g.D.Disk.tells g.D.Disk.content g.D.Disk.fault_count g.D.Disk.moment g.D.Disk.images x).state.staged) (stand_of g.D.Disk.tells g.D.Disk.content g.D.Disk.fault_count g.D.Disk.moment g.D.Disk.images x).state.stock.state.queue) c.self.view_is
    (queued_drawn (sizes_in g.D.Disk.tells (g.D.Disk.content s.disk) s.given.items) s.last_staged s.books.folding.state.queue c.self.invariant.0.memory.queued)

pub returns-clause-staged : goal.returns-clause-staged
returns-clause-staged g c =
    let s = c.self.inside in
    subst (λ (x : Holding g.row.D.Denot). Each (λ (file : StagedOf ℕ). file.number ≤ (stand_of g.D.Disk.tells g.D.Disk.content g.D.Disk.fault_count g.D.Disk.moment g.D.Disk.images x).state.staged) (stand_of g.D.Disk.tells g.D.Disk.content g.D.Disk.fault_count g.D.Disk.moment g.D.Disk.images x).state.stock.staged) c.self.view_is
    (staged_drawn (sizes_in g.D.Disk.tells (g.D.Disk.content s.disk) s.given.items) s.last_staged s.books.folding.state s.staged.items c.self.invariant.0.memory.staged)
