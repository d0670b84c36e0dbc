use Rattle.std.proofs.Common.{◌≡◌, length, drop, sym, ◌∙◌, subst}
use Rattle.node_store.specs.Logs.{log_of}
use Rattle.node_store.specs.Stored.{Holding}
use Rattle.node_store.proofs.Appended.{appended_is}
use Rattle.node_store.proofs.store.NodeStore.appended.Goals as goal

pub returns : goal.returns
returns g c =
    let s = c.self.inside in
    subst (λ (x : Holding g.row.D.Denot). c.appended.result ≡ length (log_of x.memory.books.seats (drop x.memory.books.opened x.memory.books.payloads))) c.self.view_is
    (c.appended.ensures ∙ sym (appended_is s.books c.self.invariant.0.memory.books))
