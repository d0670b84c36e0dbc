use Rattle.std.proofs.Common.{refl, ap, ◌∙◌}
use Rattle.ftn_addr.specs.Address.{address}
use Rattle.mail_conf.specs.ConfView.{conf_text}
use Rattle.still_commands.specs.Came.{only}
use Rattle.still_commands.specs.Still.{Bad_index, Not_opened, To_look_up}
use Rattle.still_commands.proofs.Before.{left_so}
use Rattle.still_commands.proofs.looking.refuse_opened.Goals as goal

pub returns-in-Ok : goal.returns-in-Ok
returns-in-Ok g c = λ text reads.
    Bad_index (conf_text c.args.conf.now) c.requires.settings text (address c.args.addr.now) refl reads c.in-Ok.store
    (record { memory = c.in-Ok.ensures.memory; told = c.in-Ok.ensures.told; stop = c.in-Ok.ensures.stop; read = c.in-Ok.ensures.read; aside_stop = c.in-Ok.ensures.aside_stop; aside_read = c.in-Ok.ensures.aside_read; calm = c.in-Ok.ensures.calm })
    c.into_disk.ensures c.requires.bad (c.only.ensures ∙ ap only c.status_unindexed.ensures)

pub returns-in-Err : goal.returns-in-Err
returns-in-Err g c = λ text reads.
    left_so g.D.Disk.files g.D.Disk.tells g.D.Disk.content g.D.Disk.fault_count g.D.Disk.moment g.D.Disk.images _ c.args.disk c.in-Err.disk c.unopened.result.1 _ c.unopened.ensures.disk
    (Not_opened (conf_text c.args.conf.now) c.requires.settings (To_look_up text (address c.args.addr.now) refl reads) c.in-Err.fault c.unopened.ensures.told
    (record { why = c.in-Err.ensures.refused; failed = c.in-Err.ensures.failed; stop = c.in-Err.ensures.stop; read = c.in-Err.ensures.read; aside_stop = c.in-Err.ensures.aside_stop; aside_read = c.in-Err.ensures.aside_read }))
