use Rattle.std.proofs.Common.{arith, take, drop}
use Rattle.disk_model.specs.Changes.{OnOwn, Rewrites}
use Rattle.disk_model.proofs.MomentLemmas.{weakened}
use Rattle.ledger_file.specs.Gate.{Published}
use Rattle.ledger_file.specs.Ledger.{Appends}
use Rattle.ledger_file.proofs.LedgerLemmas.{block_in, inside, short, room, stands_shut, leaves_some, leaves_all}
use Rattle.ledger_file.proofs.append.keep_behind.Goals as goal

pub overflow_add-block : goal.overflow_add-block
overflow_add-block g c = let far = inside c.args.held.now.payloads c.file_bytes.result.now c.args.count c.place-gate.result c.file_bytes.ensures.bytes c.file_bytes.ensures.sizes c.requires.some c.requires.few c.place-gate.ensures in let near = short c.args.held.now.payloads c.file_bytes.result.now c.args.count c.place-gate.result c.file_bytes.ensures.bytes c.file_bytes.ensures.sizes c.requires.some c.requires.few c.place-gate.ensures in grind arith

pub slice_bounds-block-count : goal.slice_bounds-block-count
slice_bounds-block-count g c = let far = inside c.args.held.now.payloads c.file_bytes.result.now c.args.count c.place-gate.result c.file_bytes.ensures.bytes c.file_bytes.ensures.sizes c.requires.some c.requires.few c.place-gate.ensures in let near = short c.args.held.now.payloads c.file_bytes.result.now c.args.count c.place-gate.result c.file_bytes.ensures.bytes c.file_bytes.ensures.sizes c.requires.some c.requires.few c.place-gate.ensures in grind arith

pub slice_bounds-block-start : goal.slice_bounds-block-start
slice_bounds-block-start g c = let far = inside c.args.held.now.payloads c.file_bytes.result.now c.args.count c.place-gate.result c.file_bytes.ensures.bytes c.file_bytes.ensures.sizes c.requires.some c.requires.few c.place-gate.ensures in let near = short c.args.held.now.payloads c.file_bytes.result.now c.args.count c.place-gate.result c.file_bytes.ensures.bytes c.file_bytes.ensures.sizes c.requires.some c.requires.few c.place-gate.ensures in grind arith

pub publish-requires-clause-room : goal.publish-requires-clause-room
publish-requires-clause-room g c = room c.args.held.now.payloads c.file_bytes.result.now c.args.count c.place-gate.result c.file_bytes.ensures.bytes c.file_bytes.ensures.sizes c.requires.some c.requires.few c.place-gate.ensures

pub publish-requires-clause-shut : goal.publish-requires-clause-shut
publish-requires-clause-shut g c = λ d now. stands_shut c.args.held.now.payloads c.file_bytes.result.now c.args.count c.place-gate.result c.file_bytes.ensures.bytes c.file_bytes.ensures.sizes c.requires.some c.requires.few c.place-gate.ensures c.ledger_file_name.result c.ledger_file_name.ensures d (c.requires.ready d now)

pub returns-in-Ok-clause-durable : goal.returns-in-Ok-clause-durable
returns-in-Ok-clause-durable g c = λ e now. let was = c.in-Ok.ensures.opened e now in leaves_all c.args.held.now.payloads c.file_bytes.result.now c.args.count c.place-gate.result c.file_bytes.ensures.bytes c.file_bytes.ensures.sizes c.requires.some c.requires.few c.place-gate.ensures c.ledger_file_name.result c.ledger_file_name.ensures was.0 e (c.requires.ready was.0 was.1) was.2

pub returns-in-Ok-clause-stop : goal.returns-in-Ok-clause-stop
returns-in-Ok-clause-stop g c = weakened g.D.Disk.moment g.D.Disk.images (OnOwn (Rewrites c.ledger_file_name.result (Published c.place-gate.result (block_in c.file_bytes.result.now c.place-gate.result))))
    (Appends (take c.args.count c.args.held.now.payloads) (drop c.args.count c.args.held.now.payloads)) c.args.disk.now c.publish.new.disk
    (λ d e now step. leaves_some c.args.held.now.payloads c.file_bytes.result.now c.args.count c.place-gate.result c.file_bytes.ensures.bytes c.file_bytes.ensures.sizes c.requires.some c.requires.few c.place-gate.ensures c.ledger_file_name.result c.ledger_file_name.ensures d e (c.requires.ready d now) step) c.publish.ensures.stop

pub returns-in-Err-clause-stop : goal.returns-in-Err-clause-stop
returns-in-Err-clause-stop g c = weakened g.D.Disk.moment g.D.Disk.images (OnOwn (Rewrites c.ledger_file_name.result (Published c.place-gate.result (block_in c.file_bytes.result.now c.place-gate.result))))
    (Appends (take c.args.count c.args.held.now.payloads) (drop c.args.count c.args.held.now.payloads)) c.args.disk.now c.publish.new.disk
    (λ d e now step. leaves_some c.args.held.now.payloads c.file_bytes.result.now c.args.count c.place-gate.result c.file_bytes.ensures.bytes c.file_bytes.ensures.sizes c.requires.some c.requires.few c.place-gate.ensures c.ledger_file_name.result c.ledger_file_name.ensures d e (c.requires.ready d now) step) c.publish.ensures.stop
