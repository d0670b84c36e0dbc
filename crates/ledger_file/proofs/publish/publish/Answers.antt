use Rattle.ledger_file.proofs.Published.{first, second, third, fourth, opened, stands_later}
use Rattle.ledger_file.proofs.publish.publish.Goals as goal

pub returns-in_err-write_at-clause-stop : goal.returns-in_err-write_at-clause-stop
returns-in_err-write_at-clause-stop g c = first g.D.Disk.moment g.D.Disk.images g.D.Disk.files g.met.D.Disk.as_read c.args.name.now c.args.gate c.args.block.now c.args.disk.now c.requires.shut c.write_at.new.self c.write_at.ensures.stop

pub returns-in_err-sync-clause-stop : goal.returns-in_err-sync-clause-stop
returns-in_err-sync-clause-stop g c = second g.D.Disk.moment g.D.Disk.images g.D.Disk.files g.met.D.Disk.as_read c.args.name.now c.args.gate c.args.block.now c.args.disk.now c.requires.shut c.write_at.new.self c.sync.new.self c.write_at.ensures.stop c.sync.ensures.stop

pub returns-in_err-write_at-2-clause-stop : goal.returns-in_err-write_at-2-clause-stop
returns-in_err-write_at-2-clause-stop g c = third g.D.Disk.moment g.D.Disk.images g.D.Disk.files g.met.D.Disk.as_read c.args.name.now c.args.gate c.args.block.now c.args.disk.now c.requires.shut c.write_at.new.self c.sync.new.self c.write_at.ensures.stop c.in_ok-write_at.ensures.written c.sync.ensures.read c.sync.ensures.stop c.in_ok-sync.ensures.durable c.write_at-2.new.self c.write_at-2.ensures.stop

pub sync-requires-2 : goal.sync-requires-2
sync-requires-2 g c = stands_later g.D.Disk.moment g.D.Disk.images g.D.Disk.files g.met.D.Disk.as_read c.args.name.now c.args.gate c.args.block.now c.args.disk.now c.requires.shut c.write_at.new.self c.sync.new.self c.write_at-2.new.self c.write_at.ensures.read c.sync.ensures.read c.write_at-2.ensures.read

pub returns-in_err-sync-2-clause-stop : goal.returns-in_err-sync-2-clause-stop
returns-in_err-sync-2-clause-stop g c = fourth g.D.Disk.moment g.D.Disk.images g.D.Disk.files g.met.D.Disk.as_read c.args.name.now c.args.gate c.args.block.now c.args.disk.now c.requires.shut c.write_at.new.self c.sync.new.self c.write_at.ensures.stop c.in_ok-write_at.ensures.written c.sync.ensures.read c.sync.ensures.stop c.in_ok-sync.ensures.durable c.write_at-2.new.self c.sync-2.new.self c.write_at-2.ensures.stop c.sync-2.ensures.stop

pub returns-clause-stop : goal.returns-clause-stop
returns-clause-stop g c = fourth g.D.Disk.moment g.D.Disk.images g.D.Disk.files g.met.D.Disk.as_read c.args.name.now c.args.gate c.args.block.now c.args.disk.now c.requires.shut c.write_at.new.self c.sync.new.self c.write_at.ensures.stop c.in_ok-write_at.ensures.written c.sync.ensures.read c.sync.ensures.stop c.in_ok-sync.ensures.durable c.write_at-2.new.self c.sync-2.new.self c.write_at-2.ensures.stop c.sync-2.ensures.stop

pub returns-clause-opened : goal.returns-clause-opened
returns-clause-opened g c = opened g.D.Disk.moment g.D.Disk.images g.D.Disk.files g.met.D.Disk.as_read c.args.name.now c.args.gate c.args.block.now c.args.disk.now c.requires.shut c.write_at.new.self c.sync.new.self c.write_at.ensures.stop c.in_ok-write_at.ensures.written c.sync.ensures.read c.sync.ensures.stop c.in_ok-sync.ensures.durable c.write_at-2.new.self c.sync-2.new.self c.write_at-2.ensures.stop c.in_ok-write_at-2.ensures.written c.sync-2.ensures.stop c.in_ok-sync-2.ensures.durable
