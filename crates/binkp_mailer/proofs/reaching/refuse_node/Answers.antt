use Rattle.std.proofs.Common.{ap, refl}
use Rattle.ftn_addr.specs.Address.{address}
use Rattle.mail_conf.specs.ConfView.{conf_text}
use Rattle.session_auth.specs.Sides.{Calls}
use Rattle.command_base.specs.Statuses.{status_unopened}
use Rattle.binkp_mailer.specs.DiskCall.{No_host, Not_opened}
use Rattle.binkp_mailer.proofs.reaching.refuse_node.Goals as goal

pub returns-in-Ok : goal.returns-in-Ok
returns-in-Ok g c = λ command challenge now lines are.
    No_host (conf_text c.args.conf.now) c.requires.settings (address c.args.peer) are c.requires.unset _ c.requires.index c.requires.unlisted c.in-Ok.store
    (record { memory = c.in-Ok.ensures.memory; told = c.in-Ok.ensures.told; stop = c.in-Ok.ensures.stop; read = c.in-Ok.ensures.read; aside_stop = c.in-Ok.ensures.aside_stop; aside_read = c.in-Ok.ensures.aside_read; calm = c.in-Ok.ensures.calm })
    refl refl refl c.into_disk.ensures

pub returns : goal.returns
returns g c = λ command challenge now lines are.
    Not_opened (conf_text c.args.conf.now) c.requires.settings (Calls (address c.args.peer)) are
    c.in-Err.fault refl (ap (status_unopened c.in-Err.fault) c.faults-faults.ensures) refl
    (record { why = c.in-Err.ensures.refused; failed = c.in-Err.ensures.failed; stop = c.in-Err.ensures.stop; read = c.in-Err.ensures.read; aside_stop = c.in-Err.ensures.aside_stop; aside_read = c.in-Err.ensures.aside_read })
