use Rattle.std.proofs.Common.{Err, subst, sym}
use Rattle.std.proofs.lemmas.Result.{on_ok_weaker}
use Rattle.node_model.specs.declared.store.StoreFault.{StoreFault}
use Rattle.node_store.specs.Stored.{stand_of}
use Rattle.outbound_places.proofs.Added.{grows-then}
use Rattle.outbound_addresses.specs.Asking.{AsksLater}
use Rattle.outbound_addresses.proofs.Asked.{no_memory}
use Rattle.outbound_addresses.proofs.NotedZones.{needed_added}
use Rattle.outbound_addresses.proofs.Noting.{on_ok_both}
use Rattle.outbound_addresses.proofs.finding.note_all.Goals as goal

pub returns-in-Err-clause-asks : goal.returns-in-Err-clause-asks
returns-in-Err-clause-asks g c =
    let start = stand_of g.D.Disk.tells g.D.Disk.content g.D.Disk.fault_count g.D.Disk.moment g.D.Disk.images c.args.store.now in
    subst (λ (f : StoreFault). AsksLater {T = Unit {0}} (Err f) start start) (sym c.in-Err.ensures.fault) (no_memory start)

pub returns-in-Ok-clause-grows : goal.returns-in-Ok-clause-grows
returns-in-Ok-clause-grows g c = on_ok_weaker c.note_zones.result (grows-then c.args.found.now c.note_own.new.found c.note_zones.new.found c.in-Ok.ensures.grows) c.note_zones.ensures.grows

pub returns-in-Ok-clause-own : goal.returns-in-Ok-clause-own
returns-in-Ok-clause-own g c = on_ok_weaker c.note_zones.result (λ grows p fits is. grows.kept p (c.in-Ok.ensures.adds.all p fits is)) c.note_zones.ensures.grows

pub returns-in-Ok-clause-told : goal.returns-in-Ok-clause-told
returns-in-Ok-clause-told g c =
    let start = stand_of g.D.Disk.tells g.D.Disk.content g.D.Disk.fault_count g.D.Disk.moment g.D.Disk.images c.args.store.now in
    on_ok_both c.note_zones.result
    (λ grows finds. needed_added c.args.outbound.base.now.list c.args.outbound.zone start.state.content c.args.outbound.home.now.domain.list c.args.store.now.takes.left c.args.store.now.memory.books.folding.state.queue c.args.found.now c.note_own.new.found c.note_zones.new.found c.in-Ok.ensures.adds grows finds)
    c.note_zones.ensures.grows c.note_zones.ensures.finds

pub returns-in-Ok-clause-asks : goal.returns-in-Ok-clause-asks
returns-in-Ok-clause-asks g c = c.note_zones.ensures.asks
