use Rattle.std.proofs.Common.{option_map}
use Rattle.command_base.proofs.ReadOnly.{err_so, unspelled_there}
use Rattle.command_base.proofs.settings.read_settings.Goals as goal

pub returns-clause-unset : goal.returns-clause-unset
returns-clause-unset g c =
    err_so c.spelled.result _ _
    (λ fault un. unspelled_there g.D.Disk.tells g.D.Disk.content g.D.Disk.fault_count g.D.Disk.moment g.D.Disk.images c.args.disk.now c.settings_text.new.disk (option_map (λ bytes. bytes.items) c.in_ok-text.text) fault
    (λ telling. c.in_ok-text.ensures.text (g.D.Disk.content c.args.disk.now) (g.met.D.Disk.told telling c.args.disk.now)) un)
    c.spelled.ensures.refused
