use Rattle.std.proofs.Common.{ap, refl}
use Rattle.ftn_addr.specs.Address.{address}
use Rattle.mail_conf.specs.ConfView.{conf_text}
use Rattle.session_auth.specs.Sides.{Calls}
use Rattle.command_base.specs.Statuses.{status_unopened}
use Rattle.outbound_desk.proofs.NewStores.{new_whole}
use Rattle.binkp_mailer.specs.DiskCall.{Not_opened, Called}
use Rattle.binkp_mailer.proofs.ReadOnly.{retold}
use Rattle.binkp_mailer.proofs.reaching.call_host.Goals as goal

-- No store is opened.

pub returns-in-Err : goal.returns-in-Err
returns-in-Err g c = λ command are.
    Not_opened (conf_text c.args.conf.now) c.requires.settings (Calls (address c.args.peer)) are
    c.in-Err.fault refl (ap (status_unopened c.in-Err.fault) c.faults-faults.ensures) refl
    (record { why = c.in-Err.ensures.refused; failed = c.in-Err.ensures.failed; stop = c.in-Err.ensures.stop; read = c.in-Err.ensures.read; aside_stop = c.in-Err.ensures.aside_stop; aside_read = c.in-Err.ensures.aside_read })

-- One is.

pub call_node-outcome-requires-clause-fits : goal.call_node-outcome-requires-clause-fits
call_node-outcome-requires-clause-fits g c = λ ks outlives settings.
    new_whole g.D.Disk.tells g.D.Disk.content g.D.Disk.fault_count g.D.Disk.moment g.D.Disk.images c.in-Ok.store settings (c.opens_soundly.ensures settings) c.in-Ok.ensures.memory c.opens_as_told.ensures.stopped

pub returns : goal.returns
returns g c = λ command are.
    retold g.D.Disk.tells g.D.Disk.content g.D.Disk.fault_count g.D.Disk.moment g.D.Disk.images _ _ _ _ c.args.disk _ _ _ _ _ c.give_behind-outcome.ensures.told
    (Called (conf_text c.args.conf.now) c.requires.settings (address c.args.peer) are _ c.requires.host c.in-Ok.store c.call_node-outcome.result.1 c.give_behind-outcome.result.1
    (record { memory = c.in-Ok.ensures.memory; told = c.in-Ok.ensures.told; stop = c.in-Ok.ensures.stop; read = c.in-Ok.ensures.read; aside_stop = c.in-Ok.ensures.aside_stop; aside_read = c.in-Ok.ensures.aside_read; calm = c.in-Ok.ensures.calm }) _
    c.call_node-outcome.ensures.calls c.give_behind-outcome.ensures.gives c.into_disk.ensures)
