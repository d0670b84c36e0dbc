use Rattle.std.proofs.Common.{refl}
use Rattle.mail_conf.specs.ConfView.{conf_text}
use Rattle.command_base.specs.Statuses.{status_unset}
use Rattle.still_commands.specs.Still.{Not_set, a_lookup}
use Rattle.still_commands.proofs.Before.{left_so, still_before}
use Rattle.still_commands.proofs.looking.look_up.Goals as goal

pub look_by-requires-clause-keeps : goal.look_by-requires-clause-keeps
look_by-requires-clause-keeps g c = c.what_is_read_keeps_limits.ensures c.in-Ok.ensures.ok.text (conf_text c.in-Ok.conf) c.in-Ok.ensures.ok.spells

pub returns-in-Ok : goal.returns-in-Ok
returns-in-Ok g c =
    still_before g.D.Disk.files g.D.Disk.tells g.D.Disk.content g.D.Disk.fault_count g.D.Disk.moment g.D.Disk.images _ c.args.disk c.read_settings.new.disk c.look_by.result.1 _ (a_lookup _ refl) c.in-Ok.ensures.only c.in-Ok.ensures.calm c.look_by.ensures

pub returns-in-Err : goal.returns-in-Err
returns-in-Err g c =
    left_so g.D.Disk.files g.D.Disk.tells g.D.Disk.content g.D.Disk.fault_count g.D.Disk.moment g.D.Disk.images _ c.args.disk c.read_settings.new.disk c.unset.result.1 _ c.unset.ensures.disk
    (Not_set (a_lookup _ refl) (status_unset c.in-Err.fault (g.D.Disk.fault_count c.read_settings.new.disk)) c.unset.ensures.told c.in-Err.ensures.unset c.in-Err.ensures.only)
