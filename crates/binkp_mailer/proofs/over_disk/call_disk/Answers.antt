use Rattle.std.proofs.Common.{ℕ, refl, subst, sym}
use Rattle.mail_conf.specs.ConfView.{conf_text}
use Rattle.binkp_mailer.specs.DiskCall.{Not_set}
use Rattle.command_base.specs.Settings.{NoSettings}
use Rattle.command_base.specs.Statuses.{status_unset}
use Rattle.binkp_mailer.proofs.ReadOnly.{call_before}
use Rattle.binkp_mailer.proofs.over_disk.call_disk.Goals as goal

pub call_by-requires-clause-keeps : goal.call_by-requires-clause-keeps
call_by-requires-clause-keeps g c = λ ks outlives. c.what_is_read_keeps_limits.ensures c.in-Ok.ensures.ok.text (conf_text c.in-Ok.conf) c.in-Ok.ensures.ok.spells

pub returns-in-Ok : goal.returns-in-Ok
returns-in-Ok g c =
    call_before g.D.Disk.tells g.D.Disk.content g.D.Disk.fault_count g.D.Disk.moment g.D.Disk.images _ _ _ _ c.args.disk c.read_settings.new.disk _ _ _ _
    c.in-Ok.ensures.only c.in-Ok.ensures.calm c.call_by.ensures

pub returns-in-Err : goal.returns-in-Err
returns-in-Err g c =
    Not_set refl
    (subst (λ (n : ℕ). NoSettings g.D.Disk.tells g.D.Disk.content g.D.Disk.fault_count g.D.Disk.moment g.D.Disk.images c.args.disk c.read_settings.new.disk (status_unset c.in-Err.fault n)) (sym c.faults-faults.ensures) c.in-Err.ensures.unset)
    c.in-Err.ensures.only refl
