use Rattle.std.proofs.Common.{Err, Ok, map}
use Rattle.ftn_addr.specs.Address.{address}
use Rattle.node_model.specs.declared.store.StoreFault.TheVariants.{NoMemory as OutOfMemory}
use Rattle.node_store.specs.Stored.{sizes_in, stand_of}
use Rattle.outbound_addresses.proofs.Asked.{and_then, answered, no_memory, refused}
use Rattle.outbound_addresses.proofs.Needed.{kept, needed, of_domain}
use Rattle.outbound_addresses.proofs.Opened.{from_start, opens_now}
use Rattle.outbound_addresses.proofs.Walk.{told_map}
use Rattle.outbound_addresses.proofs.finding.addresses.Goals as goal

pub returns-in-Err-clause-asks : goal.returns-in-Err-clause-asks
returns-in-Err-clause-asks g c =
    let start = stand_of g.D.Disk.tells g.D.Disk.content g.D.Disk.fault_count g.D.Disk.moment g.D.Disk.images c.args.store.now in
    let end' = stand_of g.D.Disk.tells g.D.Disk.content g.D.Disk.fault_count g.D.Disk.moment g.D.Disk.images c.note_all.new.store in
    from_start (Err c.in-Err.fault) start end' (opens_now g.D.Disk.tells g.D.Disk.content g.D.Disk.fault_count g.D.Disk.moment g.D.Disk.images c.args.store.now c.opens_as_told.ensures.stopped) (refused c.in-Err.fault start end' c.in-Err.ensures.asks)

pub returns-in-Ok-addresses-clause-own : goal.returns-in-Ok-addresses-clause-own
returns-in-Ok-addresses-clause-own g c = of_domain (address c.args.home.now) c.requires.home (sizes_in g.D.Disk.tells (g.D.Disk.content c.args.store.now.disk) c.args.store.now.memory.given) c.args.store.now.takes.left c.args.store.now.memory.books.folding.state.queue c.new-found.result c.note_all.new.found c.new-found.ensures (map address c.in-Ok-addresses.addresses.items) c.in-Ok.ensures.grows c.in-Ok-addresses.ensures.only

pub returns-in-Ok-addresses-clause-kept : goal.returns-in-Ok-addresses-clause-kept
returns-in-Ok-addresses-clause-kept g c = kept (address c.args.home.now) c.requires.home (sizes_in g.D.Disk.tells (g.D.Disk.content c.args.store.now.disk) c.args.store.now.memory.given) c.args.store.now.takes.left c.args.store.now.memory.books.folding.state.queue c.new-found.result c.note_all.new.found c.new-found.ensures (map address c.in-Ok-addresses.addresses.items) c.in-Ok.ensures.own c.in-Ok-addresses.ensures.all

pub returns-in-Ok-addresses-clause-told : goal.returns-in-Ok-addresses-clause-told
returns-in-Ok-addresses-clause-told g c =
    told_map (stand_of g.D.Disk.tells g.D.Disk.content g.D.Disk.fault_count g.D.Disk.moment g.D.Disk.images c.args.store.now).state.content _ _
    (λ s adds. needed (address c.args.home.now) c.requires.home (sizes_in g.D.Disk.tells (g.D.Disk.content c.args.store.now.disk) c.args.store.now.memory.given) c.args.store.now.takes.left c.args.store.now.memory.books.folding.state.queue c.new-found.result c.note_all.new.found c.new-found.ensures (map address c.in-Ok-addresses.addresses.items) c.args.base.now.list c.args.zone s.outside adds c.in-Ok-addresses.ensures.only c.in-Ok-addresses.ensures.all)
    c.in-Ok.ensures.told

pub returns-in-Ok-addresses-clause-asks : goal.returns-in-Ok-addresses-clause-asks
returns-in-Ok-addresses-clause-asks g c =
    let start = stand_of g.D.Disk.tells g.D.Disk.content g.D.Disk.fault_count g.D.Disk.moment g.D.Disk.images c.args.store.now in
    let end' = stand_of g.D.Disk.tells g.D.Disk.content g.D.Disk.fault_count g.D.Disk.moment g.D.Disk.images c.note_all.new.store in
    from_start (Ok c.in-Ok-addresses.addresses) start end' (opens_now g.D.Disk.tells g.D.Disk.content g.D.Disk.fault_count g.D.Disk.moment g.D.Disk.images c.args.store.now c.opens_as_told.ensures.stopped) (answered tt c.in-Ok-addresses.addresses start end' c.in-Ok.ensures.asks)

pub returns-clause-asks : goal.returns-clause-asks
returns-clause-asks g c =
    let start = stand_of g.D.Disk.tells g.D.Disk.content g.D.Disk.fault_count g.D.Disk.moment g.D.Disk.images c.args.store.now in
    let end' = stand_of g.D.Disk.tells g.D.Disk.content g.D.Disk.fault_count g.D.Disk.moment g.D.Disk.images c.note_all.new.store in
    from_start (Err OutOfMemory) start end' (opens_now g.D.Disk.tells g.D.Disk.content g.D.Disk.fault_count g.D.Disk.moment g.D.Disk.images c.args.store.now c.opens_as_told.ensures.stopped) (and_then tt (Err OutOfMemory) start end' end' c.in-Ok.ensures.asks (no_memory end'))
