use Rattle.std.proofs.Common.{List, ℕ, sym, ap, subst}
use Rattle.node_store.specs.Books.{Books}
use Rattle.node_store.specs.Worlds.{LedgerOf}
use Rattle.node_store.proofs.opening.ledger.open_books.Goals as goal

pub returns-in-Ok-fold_ledger-clause-found : goal.returns-in-Ok-fold_ledger-clause-found
returns-in-Ok-fold_ledger-clause-found g c = λ t. subst (λ (p : List (List ℕ)). LedgerOf p (g.D.Disk.content c.args.disk.now)) (sym (ap (λ (b : Books). b.payloads) c.new.ensures)) (c.in-Ok.ensures.found t)
