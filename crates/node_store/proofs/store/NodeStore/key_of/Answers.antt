use Rattle.std.proofs.Common.{◌≡◌, sym, ◌∙◌, ap, subst, map}
use Rattle.ftn_addr.specs.Key.{key_of as key_in}
use Rattle.ledger_rec.specs.Items.{entry}
use Rattle.node_model.specs.StoreWords.{HasEntry, KeyOf}
use Rattle.node_store.specs.Stored.{Holding, Memory, stand_of, sizes_in, state_of}
use Rattle.node_store.proofs.KeyLookups.{entry_there, key_there, key_limits}
use Rattle.node_store.proofs.Known.{none_queued}
use Rattle.node_store.proofs.store.NodeStore.key_of.Goals as goal

pub entry_of-requires-clause-none : goal.entry_of-requires-clause-none
entry_of-requires-clause-none g c = none_queued c.args.number c.queue_start.result c.queue.result.now c.folded-folded.result.now.state.queue c.queue.ensures c.queue_start.ensures.none

pub entry_of-requires-clause-there : goal.entry_of-requires-clause-there
entry_of-requires-clause-there g c =
    let s = c.self.inside in
    let m : Memory = record { books = s.books; given = s.given.items; parts = s.parts.items; staged = s.staged.items; drawn = s.drawn; last_staged = s.last_staged; seat = s.seat; last_given = s.last_given; fulls = s.fulls; broken = s.broken } in
    let has : HasEntry c.args.number (state_of g.D.Disk.tells (g.D.Disk.content s.disk) (g.D.Disk.fault_count s.disk) m).stock.state.queue = subst (λ (x : Holding g.row.D.Denot). HasEntry c.args.number (stand_of g.D.Disk.tells g.D.Disk.content g.D.Disk.fault_count g.D.Disk.moment g.D.Disk.images x).state.stock.state.queue) (sym c.self.view_is) c.requires in
    let queue : map entry c.queue.result.now ≡ s.books.folding.state.queue = c.queue.ensures ∙ ap (λ f. f.state.queue) c.folded-folded.ensures in
    entry_there (sizes_in g.D.Disk.tells (g.D.Disk.content s.disk) s.given.items) c.args.number c.queue.result.now s.books.folding.state.queue queue has

pub returns-clause-entry : goal.returns-clause-entry
returns-clause-entry g c =
    let s = c.self.inside in
    let m : Memory = record { books = s.books; given = s.given.items; parts = s.parts.items; staged = s.staged.items; drawn = s.drawn; last_staged = s.last_staged; seat = s.seat; last_given = s.last_given; fulls = s.fulls; broken = s.broken } in
    let queue : map entry c.queue.result.now ≡ s.books.folding.state.queue = c.queue.ensures ∙ ap (λ f. f.state.queue) c.folded-folded.ensures in
    subst (λ (x : Holding g.row.D.Denot). KeyOf c.args.number (key_in c.entry_of.result.now.key) (stand_of g.D.Disk.tells g.D.Disk.content g.D.Disk.fault_count g.D.Disk.moment g.D.Disk.images x).state.stock.state.queue) c.self.view_is
    (key_there (sizes_in g.D.Disk.tells (g.D.Disk.content s.disk) s.given.items) c.args.number c.queue.result.now s.books.folding.state.queue c.entry_of.result.now queue c.entry_of.ensures)

pub returns-clause-limits : goal.returns-clause-limits
returns-clause-limits g c =
    let s = c.self.inside in
    let queue : map entry c.queue.result.now ≡ s.books.folding.state.queue = c.queue.ensures ∙ ap (λ f. f.state.queue) c.folded-folded.ensures in
    key_limits c.args.number c.queue.result.now s.books.payloads s.books.folding.state c.entry_of.result.now c.self.invariant.0.memory.books.folds queue c.entry_of.ensures
