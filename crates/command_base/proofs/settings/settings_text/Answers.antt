use Rattle.std.proofs.Common.{sym, ◌∙◌, refl}
use Rattle.command_base.specs.Settings.{Is_refused}
use Rattle.command_base.specs.Statuses.{status_unset}
use Rattle.command_base.proofs.ReadOnly.{one_read, other_cause, too_long_there, unset_before}
use Rattle.command_base.proofs.settings.settings_text.Goals as goal

pub returns-then-len-gt-MOST_BYTES-clause-unset : goal.returns-then-len-gt-MOST_BYTES-clause-unset
returns-then-len-gt-MOST_BYTES-clause-unset g c =
    Is_refused c.too_long.result refl (other_cause c.too_long.result c.too_long.ensures)
    (λ telling. let w = g.D.Disk.content c.args.disk.now in too_long_there w c.settings_name.result c.in-Some.len c.too_long.result c.settings_name.ensures (sym c.in-Some.is ∙ c.in_ok-len.ensures.told w (g.met.D.Disk.told telling c.args.disk.now)) c.if-len-gt-MOST_BYTES.true c.too_long.ensures)

pub returns-in-Err-clause-unset : goal.returns-in-Err-clause-unset
returns-in-Err-clause-unset g c =
    unset_before g.D.Disk.tells g.D.Disk.content g.D.Disk.fault_count g.D.Disk.moment g.D.Disk.images c.args.disk.now c.stat.new.self c.read_text.new.disk (status_unset c.in-Err.fault (g.D.Disk.fault_count c.read_text.new.disk))
    (one_read g.D.Disk.tells g.D.Disk.content g.D.Disk.fault_count g.D.Disk.moment g.D.Disk.images g.D.Disk.files g.met.D.Disk.reads g.met.D.Disk.told c.args.disk.now c.stat.new.self c.stat.ensures.read c.stat.ensures.stop)
    c.in_ok-len.ensures.cause.calm c.in-Err.ensures.unset
