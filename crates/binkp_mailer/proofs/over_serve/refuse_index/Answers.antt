use Rattle.std.proofs.Common.{ap, refl, ◌∙◌}
use Rattle.mail_conf.specs.ConfView.{conf_text}
use Rattle.command_base.specs.Statuses.{status_unopened}
use Rattle.binkp_mailer.specs.ServeCall.{Bad_index, Not_opened}
use Rattle.binkp_mailer.proofs.over_serve.refuse_index.Goals as goal

pub returns-in-Ok : goal.returns-in-Ok
returns-in-Ok g c = λ lines out.
    Bad_index (conf_text c.args.conf.now) c.requires.settings c.requires.bad c.in-Ok.store
    (record { memory = c.in-Ok.ensures.memory; told = c.in-Ok.ensures.told; stop = c.in-Ok.ensures.stop; read = c.in-Ok.ensures.read; aside_stop = c.in-Ok.ensures.aside_stop; aside_read = c.in-Ok.ensures.aside_read; calm = c.in-Ok.ensures.calm })
    c.status_unindexed.ensures refl refl c.into_disk.ensures

pub returns-in-Err : goal.returns-in-Err
returns-in-Err g c = λ lines out.
    Not_opened (conf_text c.args.conf.now) c.requires.settings c.in-Err.fault (c.status_unopened.ensures ∙ ap (status_unopened c.in-Err.fault) c.faults-faults.ensures)
    (record { why = c.in-Err.ensures.refused; failed = c.in-Err.ensures.failed; stop = c.in-Err.ensures.stop; read = c.in-Err.ensures.read; aside_stop = c.in-Err.ensures.aside_stop; aside_read = c.in-Err.ensures.aside_read })
    refl refl
