use Rattle.std.proofs.Common.{sym, subst}
use Rattle.mail_conf.specs.ConfView.{conf_text}
use Rattle.binkp_mailer.specs.Inbound.{Gives_behind}
use Rattle.binkp_mailer.specs.Reports.{had_of, told_of}
use Rattle.binkp_mailer.specs.declared.report.Outcome.{Outcome}
use Rattle.binkp_mailer.proofs.inbound.give_behind.Goals as goal

pub returns-in-Held-clause-gives : goal.returns-in-Held-clause-gives
returns-in-Held-clause-gives g c =
    subst (λ (o : Outcome). Gives_behind g.D.Disk.tells g.D.Disk.content g.D.Disk.fault_count g.D.Disk.moment g.D.Disk.images (conf_text c.args.conf.now) (told_of o) (had_of o) (had_of c.give_behind_session.result.0) c.args.store c.give_behind_session.result.1) (sym c.in-Held.is) c.give_behind_session.ensures.gives
