use Rattle.node_store.proofs.FoundLedger.{open_stop, open_read, open_near, found_old, same_or_none, open_refused}
use Rattle.node_store.proofs.opening.ledger.open_ledger.Goals as goal

pub returns-in-Ok-clause-near : goal.returns-in-Ok-clause-near
returns-in-Ok-clause-near g c = open_near g.D.Disk.files g.D.Disk.moment g.D.Disk.images g.D.Disk.tells g.D.Disk.content g.met.D.Disk.reads g.met.D.Disk.told c.args.disk.now c.open.new.disk c.requires.ready c.open.ensures.stop c.open.ensures.read c.open.ensures.stands c.in-Ok.ledger.payloads c.in-Ok.ensures.found c.in-Ok.ensures.none

pub returns-in-Ok-clause-found : goal.returns-in-Ok-clause-found
returns-in-Ok-clause-found g c = found_old g.D.Disk.files g.D.Disk.moment g.D.Disk.images g.D.Disk.tells g.D.Disk.content g.met.D.Disk.reads g.met.D.Disk.told c.args.disk.now c.open.new.disk c.requires.ready c.open.ensures.stop c.open.ensures.read c.open.ensures.stands c.in-Ok.ledger.payloads c.in-Ok.ensures.found c.in-Ok.ensures.none

pub returns-in-Ok-clause-same : goal.returns-in-Ok-clause-same
returns-in-Ok-clause-same g c = same_or_none g.D.Disk.files g.D.Disk.moment g.D.Disk.images g.D.Disk.tells g.D.Disk.content g.met.D.Disk.reads g.met.D.Disk.told c.args.disk.now c.open.new.disk c.requires.ready c.open.ensures.stop c.open.ensures.read c.open.ensures.stands c.in-Ok.ledger.payloads c.in-Ok.ensures.found c.in-Ok.ensures.none

pub returns-in-Ok-clause-stop : goal.returns-in-Ok-clause-stop
returns-in-Ok-clause-stop g c = open_stop g.D.Disk.files g.D.Disk.moment g.D.Disk.images g.D.Disk.tells g.D.Disk.content g.met.D.Disk.reads g.met.D.Disk.told c.args.disk.now c.open.new.disk c.requires.ready c.open.ensures.stop c.open.ensures.read c.open.ensures.stands

pub returns-in-Ok-clause-read : goal.returns-in-Ok-clause-read
returns-in-Ok-clause-read g c = open_read g.D.Disk.files g.D.Disk.moment g.D.Disk.images g.D.Disk.tells g.D.Disk.content g.met.D.Disk.reads g.met.D.Disk.told c.args.disk.now c.open.new.disk c.requires.ready c.open.ensures.stop c.open.ensures.read c.open.ensures.stands

pub returns-in-Err-clause-stop : goal.returns-in-Err-clause-stop
returns-in-Err-clause-stop g c = open_stop g.D.Disk.files g.D.Disk.moment g.D.Disk.images g.D.Disk.tells g.D.Disk.content g.met.D.Disk.reads g.met.D.Disk.told c.args.disk.now c.open.new.disk c.requires.ready c.open.ensures.stop c.open.ensures.read c.open.ensures.stands

pub returns-in-Err-clause-read : goal.returns-in-Err-clause-read
returns-in-Err-clause-read g c = open_read g.D.Disk.files g.D.Disk.moment g.D.Disk.images g.D.Disk.tells g.D.Disk.content g.met.D.Disk.reads g.met.D.Disk.told c.args.disk.now c.open.new.disk c.requires.ready c.open.ensures.stop c.open.ensures.read c.open.ensures.stands

pub returns-in-Err-clause-refused : goal.returns-in-Err-clause-refused
returns-in-Err-clause-refused g c = open_refused g.D.Disk.files g.D.Disk.moment g.D.Disk.images g.D.Disk.tells g.D.Disk.content g.met.D.Disk.reads g.met.D.Disk.told c.args.disk.now c.open.new.disk c.requires.ready c.open.ensures.stop c.open.ensures.read c.open.ensures.stands c.in-Err.fault c.of_ledger.result c.of_ledger.ensures c.in-Err.ensures.fault c.in-Err.ensures.stood
