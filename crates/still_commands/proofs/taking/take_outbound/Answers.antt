use Rattle.std.proofs.Common.{refl}
use Rattle.mail_conf.specs.ConfView.{conf_text}
use Rattle.command_base.specs.Statuses.{status_unset}
use Rattle.still_commands.specs.Still.{Before_takes, Not_set, a_take}
use Rattle.still_commands.proofs.Before.{left_so, runs_before}
use Rattle.still_commands.proofs.taking.take_outbound.Goals as goal

pub take_by-requires-clause-keeps : goal.take_by-requires-clause-keeps
take_by-requires-clause-keeps g c = c.what_is_read_keeps_limits.ensures c.in-Ok.ensures.ok.text (conf_text c.in-Ok.conf) c.in-Ok.ensures.ok.spells

pub returns-in-Ok : goal.returns-in-Ok
returns-in-Ok g c =
    runs_before g.D.Disk.files g.D.Disk.tells g.D.Disk.content g.D.Disk.fault_count g.D.Disk.moment g.D.Disk.images _ c.args.now c.args.disk c.read_settings.new.disk c.take_by.result.1 _ (a_take refl) c.in-Ok.ensures.only c.in-Ok.ensures.calm c.take_by.ensures

pub returns-in-Err : goal.returns-in-Err
returns-in-Err g c =
    Before_takes
    (left_so g.D.Disk.files g.D.Disk.tells g.D.Disk.content g.D.Disk.fault_count g.D.Disk.moment g.D.Disk.images _ c.args.disk c.read_settings.new.disk c.unset.result.1 _ c.unset.ensures.disk
    (Not_set (a_take refl) (status_unset c.in-Err.fault (g.D.Disk.fault_count c.read_settings.new.disk)) c.unset.ensures.told c.in-Err.ensures.unset c.in-Err.ensures.only))
