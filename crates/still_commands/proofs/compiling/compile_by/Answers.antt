use Rattle.std.proofs.Common.{refl}
use Rattle.mail_conf.specs.ConfView.{conf_text}
use Rattle.still_commands.specs.Still.{Compiled, Not_opened, To_compile}
use Rattle.still_commands.proofs.Before.{compiles_from, left_so}
use Rattle.still_commands.proofs.compiling.compile_by.Goals as goal

pub returns-in-Ok : goal.returns-in-Ok
returns-in-Ok g c =
    Compiled (conf_text c.args.conf.now) c.requires.settings c.args.path.now.list refl c.in-Ok.store
    (record { memory = c.in-Ok.ensures.memory; told = c.in-Ok.ensures.told; stop = c.in-Ok.ensures.stop; read = c.in-Ok.ensures.read; aside_stop = c.in-Ok.ensures.aside_stop; aside_read = c.in-Ok.ensures.aside_read; calm = c.in-Ok.ensures.calm })
    c.compile_opened.ensures.0 (compiles_from g.D.Disk.files g.D.Disk.tells g.D.Disk.content g.D.Disk.fault_count g.D.Disk.moment g.D.Disk.images _ _ _ _ _ c.into_disk.ensures c.compile_opened.ensures.1) c.compile_opened.ensures.2

pub returns-in-Err : goal.returns-in-Err
returns-in-Err g c =
    left_so g.D.Disk.files g.D.Disk.tells g.D.Disk.content g.D.Disk.fault_count g.D.Disk.moment g.D.Disk.images _ c.args.disk c.in-Err.disk c.unopened.result.1 _ c.unopened.ensures.disk
    (Not_opened (conf_text c.args.conf.now) c.requires.settings (To_compile c.args.path.now.list refl) c.in-Err.fault c.unopened.ensures.told
    (record { why = c.in-Err.ensures.refused; failed = c.in-Err.ensures.failed; stop = c.in-Err.ensures.stop; read = c.in-Err.ensures.read; aside_stop = c.in-Err.ensures.aside_stop; aside_read = c.in-Err.ensures.aside_read }))
