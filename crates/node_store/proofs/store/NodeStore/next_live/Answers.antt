use Rattle.std.proofs.Common.{◌≡◌, ℕ, List, Some, map, subst}
use Rattle.ftn_addr.specs.Address.{address}
use Rattle.ledger_rec.specs.Fold.{Folding}
use Rattle.ledger_rec.specs.Payloads.{fold_of}
use Rattle.node_model.specs.Stocks.{NextLive}
use Rattle.node_store.specs.Contents.{Contents, entry_by}
use Rattle.node_store.specs.Stored.{Holding, stand_of, sizes_in}
use Rattle.node_store.proofs.store.NodeStore.next_live.Goals as goal

pub returns : goal.returns
returns g c =
    let s = c.self.inside in
    let sizes = sizes_in g.D.Disk.tells (g.D.Disk.content s.disk) s.given.items in
    let next = subst (λ (f : Folding). (payloads : List (List ℕ)) (k : Contents ℕ) → fold_of payloads ≡ Some f.state → NextLive (address c.args.dest.now) c.args.after (map (entry_by k) f.state.queue) c.next_of.result) c.folded.ensures c.next_of.ensures in
    subst (λ (x : Holding g.row.D.Denot). NextLive (address c.args.dest.now) c.args.after (stand_of g.D.Disk.tells g.D.Disk.content g.D.Disk.fault_count g.D.Disk.moment g.D.Disk.images x).state.stock.state.queue c.next_of.result) c.self.view_is
    (next s.books.payloads sizes c.self.invariant.0.memory.books.folds)
