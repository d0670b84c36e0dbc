use Rattle.std.proofs.Common.{refl, rules, inl, inr}
use Rattle.mail_conf.specs.ConfView.{conf_text}
use Rattle.command_base.proofs.ReadOnly.{no_read}
use Rattle.still_commands.specs.Still.{No_address}
use Rattle.still_commands.proofs.Before.{reads_at, spells_none}
use Rattle.still_commands.proofs.looking.look_by.Goals as goal

pub returns-in-Ok : goal.returns-in-Ok
returns-in-Ok g c =
    c.look_in_index.ensures c.args.text.now.list (reads_at _ _ _ _ _ c.as_slice.ensures c.home_of.ensures c.in-Ok.ensures.reads)

pub returns-in-Err-NoMemory : goal.returns-in-Err-NoMemory
returns-in-Err-NoMemory g c =
    No_address (conf_text c.args.conf.now) c.requires.settings c.args.text.now.list refl (inr c.only.ensures) (no_read g.D.Disk.tells g.D.Disk.content g.D.Disk.fault_count g.D.Disk.moment g.D.Disk.images c.args.disk)

pub returns-in-Err : goal.returns-in-Err
returns-in-Err g c =
    No_address (conf_text c.args.conf.now) c.requires.settings c.args.text.now.list refl
    (inl (c.only-in-Err.ensures, spells_none _ _ _ _ c.in-Err.field-0 c.as_slice.ensures c.home_of.ensures (search rules) c.in-Err.ensures.reads))
    (no_read g.D.Disk.tells g.D.Disk.content g.D.Disk.fault_count g.D.Disk.moment g.D.Disk.images c.args.disk)
