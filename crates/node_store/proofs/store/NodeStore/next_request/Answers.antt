use Rattle.std.proofs.Common.{◌≡◌, ℕ, List, None, ◌∙◌, ap, subst}
use Rattle.ftn_addr.specs.Address.{address}
use Rattle.ledger_rec.specs.Fold.{Folding}
use Rattle.node_store.specs.Giving.{NextLeft}
use Rattle.node_store.specs.Seeking.{NextWaiting, is_asked_by}
use Rattle.node_store.specs.Stored.{Holding, sizes_in, stand_of}
use Rattle.node_store.specs.Numbers.{AreDifferent}
use Rattle.ledger_rec.specs.Items.{Receipt}
use Rattle.std.proofs.Common.{map, sym}
use Rattle.node_store.proofs.GivenFiles.{flags_listed}
use Rattle.node_store.proofs.Numbered.{numbered_fold}
use Rattle.node_store.proofs.WaitingRequests.{next_waiting, ungiven_whole}
use Rattle.node_store.proofs.store.NodeStore.next_request.Goals as goal

pub next_left-requires-clause-numbered : goal.next_left-requires-clause-numbered
next_left-requires-clause-numbered g c =
    let s = c.self.inside in
    subst (λ (f : Folding). AreDifferent (map (λ (r : Receipt). r.number) f.state.inbox)) (sym c.folded-folded.ensures)
    (numbered_fold s.books.payloads s.books.folding.state c.self.invariant.0.memory.books.folds).inbox

pub returns : goal.returns
returns g c =
    let s = c.self.inside in
    let from = address c.args.from.now in
    let next = c.next_left.result in
    let whole : s.broken ≡ None = ap (λ (x : Holding g.row.D.Denot). x.memory.broken) c.self.view_is ∙ c.requires in
    let w = g.D.Disk.content s.disk in
    let flags = flags_listed g.D.Disk.tells w s.given.items (λ t. (c.self.invariant.0.bodies whole t).given) in
    let left = subst (λ (f : Folding). NextLeft (is_asked_by from) s.given.items f.state.inbox c.args.after next) c.folded-folded.ensures
    (subst (λ (given : List ℕ). NextLeft (is_asked_by from) given c.folded-folded.result.now.state.inbox c.args.after next) c.as_slice-given.ensures.value c.next_left.ensures) in
    subst (λ (x : Holding g.row.D.Denot). NextWaiting from (stand_of g.D.Disk.tells g.D.Disk.content g.D.Disk.fault_count g.D.Disk.moment g.D.Disk.images x).state.stock.state.inbox c.args.after next) c.self.view_is
    (next_waiting (sizes_in g.D.Disk.tells w s.given.items) s.given.items flags from s.books.folding.state.inbox c.args.after next (ungiven_whole g.D.Disk.tells w s.given.items) left)
