use Rattle.std.proofs.Common.{ℕ, refl, subst, sym}
use Rattle.mail_conf.specs.ConfView.{conf_text}
use Rattle.command_base.specs.Settings.{NoSettings}
use Rattle.command_base.specs.Statuses.{Status, status_unset}
use Rattle.binkp_mailer.specs.ServeCall.{Not_set}
use Rattle.binkp_mailer.proofs.ServeCalls.{serve_before}
use Rattle.binkp_mailer.proofs.over_serve.serve_disk.Goals as goal

pub serve_set-requires-clause-keeps : goal.serve_set-requires-clause-keeps
serve_set-requires-clause-keeps g c = λ ks outlives. c.what_is_read_keeps_limits.ensures c.in-Ok.ensures.ok.text (conf_text c.in-Ok.conf) c.in-Ok.ensures.ok.spells

pub returns-in-Ok : goal.returns-in-Ok
returns-in-Ok g c = serve_before g.D.Disk.tells g.D.Disk.content g.D.Disk.fault_count g.D.Disk.moment g.D.Disk.images _ c.args.disk c.read_settings.new.disk _ _ _ _ _ c.in-Ok.ensures.only c.in-Ok.ensures.calm c.serve_set.ensures

pub returns-in-Err : goal.returns-in-Err
returns-in-Err g c =
    Not_set
    (subst (λ (s : Status). NoSettings g.D.Disk.tells g.D.Disk.content g.D.Disk.fault_count g.D.Disk.moment g.D.Disk.images c.args.disk c.read_settings.new.disk s) (sym c.status_unset.ensures)
    (subst (λ (n : ℕ). NoSettings g.D.Disk.tells g.D.Disk.content g.D.Disk.fault_count g.D.Disk.moment g.D.Disk.images c.args.disk c.read_settings.new.disk (status_unset c.in-Err.fault n)) (sym c.faults-faults.ensures) c.in-Err.ensures.unset))
    c.in-Err.ensures.only refl refl
