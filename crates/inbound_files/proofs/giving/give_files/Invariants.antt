use Rattle.std.proofs.Common.{◌≡◌, ◌≤◌, None}
use Rattle.inbound_files.specs.Giving.{Deals_with, KeepsReceived}
use Rattle.inbound_files.proofs.giving.give_files.Given as goal

abbrev pub invariant-loop : goal.invariant-loop
invariant-loop g l =
    Deals_with g.S.Store.stand l.inbound.list l.nonsecure.list l.fn.store l.counter l.store × (l.counter ≤ l.files)
    × ((g.S.Store.stand l.store).state.counts.broken ≡ None) × KeepsReceived (g.S.Store.stand l.fn.store) (g.S.Store.stand l.store)
