use Rattle.std.proofs.Common.{List, ◌∷◌, map, sym, subst}
use Rattle.ftn_addr.specs.Address.{address}
use Rattle.ftn_addr.specs.declared.addr.Addr.{Addr}
use Rattle.hub_core.specs.Hubs.{sitting_of}
use Rattle.hub_core.specs.Indices.{KeptFrom}
use Rattle.hub_core.specs.Sending.{NextFree, dests_of}
use Rattle.hub_core.specs.Skips.{AllBehind}
use Rattle.hub_core.proofs.Claiming.{next_by_seats}
use Rattle.hub_core.proofs.places.Open.next.Goals as goal

pub next_for-requires : goal.next_for-requires
next_for-requires g c =
    let x = sitting_of c.args.self.now in
    let queue = (g.S.Store.stand c.args.store.now).state.stock.state.queue in
    subst (λ (others : List Addr). AllBehind (address c.args.self.now.first ∷ map address others) x.skipped queue c.args.passed) (sym c.deref.ensures.value) c.requires

pub returns-clause-next : goal.returns-clause-next
returns-clause-next g c = λ chairs has.
    let x = sitting_of c.args.self.now in
    let queue = (g.S.Store.stand c.args.store.now).state.stock.state.queue in
    let index = c.args.claims.now in
    next_by_seats index chairs x.skipped (dests_of x) queue c.next_for.result has
    (subst (λ (others : List Addr). NextFree (address c.args.self.now.first ∷ map address others) (KeptFrom index x.skipped) queue c.next_for.result) c.deref.ensures.value c.next_for.ensures)
