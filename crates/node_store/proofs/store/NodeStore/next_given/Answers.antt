use Rattle.std.proofs.Common.{◌≡◌, ℕ, List, Some, None, map, sym, subst}
use Rattle.ledger_rec.specs.Fold.{Folding, is_among}
use Rattle.ledger_rec.specs.Items.{Receipt}
use Rattle.node_store.specs.Contents.{Contents, receipt_by}
use Rattle.node_store.specs.Giving.{NextLeft, NextToGive, is_ready}
use Rattle.node_store.specs.Numbers.{AreDifferent}
use Rattle.node_store.specs.Stored.{Holding}
use Rattle.node_store.proofs.Due.{round_above, round_least}
use Rattle.node_store.proofs.Numbered.{numbered_fold}
use Rattle.node_store.proofs.store.NodeStore.next_given.Goals as goal

pub next_left-requires-clause-numbered : goal.next_left-requires-clause-numbered
next_left-requires-clause-numbered g c =
    let s = c.self.inside in
    subst (λ (f : Folding). AreDifferent (map (λ (r : Receipt). r.number) f.state.inbox)) (sym c.folded-folded.ensures)
    (numbered_fold s.books.payloads s.books.folding.state c.self.invariant.0.memory.books.folds).inbox

pub next_left-requires-in-None-clause-numbered : goal.next_left-requires-in-None-clause-numbered
next_left-requires-in-None-clause-numbered g c =
    let s = c.self.inside in
    subst (λ (f : Folding). AreDifferent (map (λ (r : Receipt). r.number) f.state.inbox)) (sym c.folded-folded.ensures)
    (numbered_fold s.books.payloads s.books.folding.state c.self.invariant.0.memory.books.folds).inbox

pub returns-in-Some : goal.returns-in-Some
returns-in-Some g c =
    let s = c.self.inside in
    let n = c.in-Some.number in
    let due = subst (λ (f : Folding). NextLeft is_ready s.given.items f.state.inbox (Some s.last_given) (Some n)) c.folded-folded.ensures
    (subst (λ (given : List ℕ). NextLeft is_ready given c.folded-folded.result.now.state.inbox (Some s.last_given) (Some n)) c.as_slice-given.ensures.value c.in-Some.ensures) in
    subst (λ (x : Holding g.row.D.Denot). (k : Contents ℕ) → k.given ≡ (λ i. is_among i x.memory.given) → NextToGive x.memory.last_given (map (receipt_by k) x.memory.books.folding.state.inbox) (Some n)) c.self.view_is
    (λ k same. round_above k s.given.items same s.books.folding.state.inbox s.last_given n due)

pub returns-in-None : goal.returns-in-None
returns-in-None g c =
    let s = c.self.inside in
    let next = c.next_left-in-None.result in
    let none = subst (λ (f : Folding). NextLeft is_ready s.given.items f.state.inbox (Some s.last_given) None) c.folded-folded.ensures
    (subst (λ (given : List ℕ). NextLeft is_ready given c.folded-folded.result.now.state.inbox (Some s.last_given) None) c.as_slice-given.ensures.value c.in-None.ensures) in
    let due = subst (λ (f : Folding). NextLeft is_ready s.given.items f.state.inbox None next) c.folded-folded.ensures
    (subst (λ (given : List ℕ). NextLeft is_ready given c.folded-folded.result.now.state.inbox None next) c.as_slice-given.ensures.value c.next_left-in-None.ensures) in
    subst (λ (x : Holding g.row.D.Denot). (k : Contents ℕ) → k.given ≡ (λ i. is_among i x.memory.given) → NextToGive x.memory.last_given (map (receipt_by k) x.memory.books.folding.state.inbox) next) c.self.view_is
    (λ k same. round_least k s.given.items same s.books.folding.state.inbox s.last_given next none due)
