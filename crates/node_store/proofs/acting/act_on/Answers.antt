use Rattle.std.proofs.Common.{◌≢◌, [], Some, None, rules}
use Rattle.disk_model.specs.Answers.{Removes, Empties}
use Rattle.ledger_rec.specs.Items.{Entry, entry}
use Rattle.node_store.proofs.ActOn.{deletes, cuts, acted_ok, acted_err}
use Rattle.node_store.proofs.acting.act_on.Goals as goal

pub returns-in-Ok-clause-both : goal.returns-in-Ok-clause-both
returns-in-Ok-clause-both g c =
    let e : Entry = entry c.args.item.now in
    let made = c.in-Ok.ensures in
    (0, acted_ok g.D.Disk.tells g.D.Disk.content g.D.Disk.files g.D.Disk.moment g.D.Disk.images g.met.D.Disk.told g.met.D.Disk.reads e 0 None (deletes e.action c.in-1.is 0) (Removes e.source) (λ d c s. s) (λ d c s. s) c.args.disk.now c.remove_if.new.self c.requires.beside c.in-Ok.field-0 made.both made.told)

pub returns-in-Err-clause-both : goal.returns-in-Err-clause-both
returns-in-Err-clause-both g c =
    let e : Entry = entry c.args.item.now in
    let made = c.in-Err.ensures in
    (0, acted_err g.D.Disk.tells g.D.Disk.content g.D.Disk.files g.D.Disk.moment g.D.Disk.images g.met.D.Disk.told g.met.D.Disk.reads e 0 None (deletes e.action c.in-1.is 0) (Removes e.source) (λ d c s. s) (λ d c s. s) c.args.disk.now c.remove_if.new.self c.requires.beside c.in-Err.e c.in-Err.e made.both made.other)

pub returns-in-Ok-cut_if-clause-both : goal.returns-in-Ok-cut_if-clause-both
returns-in-Ok-cut_if-clause-both g c =
    let e : Entry = entry c.args.item.now in
    let made = c.in-Ok-cut_if.ensures in
    let time = made.both.0 in
    let other : c.args.item.now.action ≢ 1 = search rules in
    (time, acted_ok g.D.Disk.tells g.D.Disk.content g.D.Disk.files g.D.Disk.moment g.D.Disk.images g.met.D.Disk.told g.met.D.Disk.reads e time (Some (record { bytes = []; time = time })) (cuts e.action c.requires.action other time) (Empties e.source time) (λ d c s. s) (λ d c s. s) c.args.disk.now c.cut_if.new.self c.requires.beside c.in-Ok-cut_if.field-0 made.both.1 made.told)

pub returns-in-Err-cut_if-clause-both : goal.returns-in-Err-cut_if-clause-both
returns-in-Err-cut_if-clause-both g c =
    let e : Entry = entry c.args.item.now in
    let made = c.in-Err-cut_if.ensures in
    let time = made.both.0 in
    let other : c.args.item.now.action ≢ 1 = search rules in
    (time, acted_err g.D.Disk.tells g.D.Disk.content g.D.Disk.files g.D.Disk.moment g.D.Disk.images g.met.D.Disk.told g.met.D.Disk.reads e time (Some (record { bytes = []; time = time })) (cuts e.action c.requires.action other time) (Empties e.source time) (λ d c s. s) (λ d c s. s) c.args.disk.now c.cut_if.new.self c.requires.beside c.in-Err-cut_if.e c.in-Err-cut_if.e made.both.1 made.other)
