use Rattle.std.proofs.Common.{rules}
use Rattle.disk_model.specs.Changes.{Every, Stands}
use Rattle.ledger_file.proofs.OwnLemmas.{only_started, only_after_change, only_after_none, only_after_create}
use Rattle.ledger_file.proofs.OpenLemmas.{whole_file}
use Rattle.ledger_file.proofs.whole_file.put_file.Goals as goal

pub returns-in_err-create-clause-stop : goal.returns-in_err-create-clause-stop
returns-in_err-create-clause-stop g c = (only_after_create c.create.result c.create.ensures.stop only_started)

pub returns-in_err-cut-clause-stop : goal.returns-in_err-cut-clause-stop
returns-in_err-cut-clause-stop g c = (only_after_change c.cut.ensures.stop (only_after_create c.create.result c.create.ensures.stop only_started))

pub returns-in_err-write_at-clause-stop : goal.returns-in_err-write_at-clause-stop
returns-in_err-write_at-clause-stop g c = (only_after_change c.write_at.ensures.stop (only_after_change c.cut.ensures.stop (only_after_create c.create.result c.create.ensures.stop only_started)))

pub returns-in_err-sync-clause-stop : goal.returns-in_err-sync-clause-stop
returns-in_err-sync-clause-stop g c = only_after_none c.sync.ensures.stop (only_after_change c.write_at.ensures.stop (only_after_change c.cut.ensures.stop (only_after_create c.create.result c.create.ensures.stop only_started)))

pub returns-clause-stop : goal.returns-clause-stop
returns-clause-stop g c = only_after_none c.sync.ensures.stop (only_after_change c.write_at.ensures.stop (only_after_change c.cut.ensures.stop (only_after_create c.create.result c.create.ensures.stop only_started)))

pub returns-clause-durable : goal.returns-clause-durable
returns-clause-durable g c = λ e now.
    let read = c.in_ok-sync.ensures.durable e now in
    let before = c.in_ok-write_at.ensures.written read.0 read.1 in
    let cut = c.in_ok-cut.ensures.cut before.0 before.1 in
    let stands : Every (g.D.Disk.files c.create.new.self) (Stands c.args.name.now 0) = search rules in
    let stood = stands cut.0 cut.1 in
    whole_file c.args.name.now c.args.bytes.now cut.0 before.0 read.0 e (stands cut.0 cut.1) cut.2 before.2 read.2
