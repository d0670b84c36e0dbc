use Rattle.std.proofs.Common.{ap, inl, inr, refl, ℕ, ◌∙◌, Err}
use Rattle.ftn_addr.specs.Address.{address}
use Rattle.mail_conf.specs.ConfView.{conf_text}
use Rattle.command_base.specs.Statuses as S
use Rattle.nodelist_files.specs.declared.fault.IndexFileFault.{IndexFileFault}
use Rattle.still_commands.specs.Came.{only}
use Rattle.still_commands.specs.Still.{No_index, To_look_up, a_lookup}
use Rattle.still_commands.proofs.Before.{much_read, still_before}
use Rattle.still_commands.proofs.looking.look_in_index.Goals as goal

pub returns-in-Ok : goal.returns-in-Ok
returns-in-Ok g c = λ text reads.
    still_before g.D.Disk.files g.D.Disk.tells g.D.Disk.content g.D.Disk.fault_count g.D.Disk.moment g.D.Disk.images _ c.args.disk c.read_index.new.disk c.look_opened.result.1 _ (a_lookup text refl)
    (much_read g.D.Disk.files g.D.Disk.tells g.D.Disk.content g.D.Disk.fault_count g.D.Disk.moment g.D.Disk.images g.met.D.Disk.reads g.met.D.Disk.told c.args.disk c.read_index.new.disk c.in-Ok.ensures.read c.in-Ok.ensures.stop) c.in-Ok.ensures.calm (c.look_opened.ensures text reads)

pub returns-in-Err-Bad : goal.returns-in-Err-Bad
returns-in-Err-Bad g c = λ text reads.
    still_before g.D.Disk.files g.D.Disk.tells g.D.Disk.content g.D.Disk.fault_count g.D.Disk.moment g.D.Disk.images _ c.args.disk c.read_index.new.disk c.refuse_opened.result.1 _ (a_lookup text refl)
    (much_read g.D.Disk.files g.D.Disk.tells g.D.Disk.content g.D.Disk.fault_count g.D.Disk.moment g.D.Disk.images g.met.D.Disk.reads g.met.D.Disk.told c.args.disk c.read_index.new.disk c.in-Err-Bad.ensures.read c.in-Err-Bad.ensures.stop) (c.in-Err-Bad.ensures.bad (ap (λ (fault : IndexFileFault). Err fault) c.in-Err-Bad.field-0-is)) (c.refuse_opened.ensures text reads)

pub returns-in-Err-Disk : goal.returns-in-Err-Disk
returns-in-Err-Disk g c = λ text reads.
    No_index (conf_text c.args.conf.now) c.requires.settings (To_look_up text (address c.args.addr.now) refl reads) (S.DiskFault (g.D.Disk.fault_count c.read_index.new.disk))
    (c.only.ensures ∙ ap (λ (n : ℕ). only (S.DiskFault n)) c.faults-faults.ensures) (inl (refl, c.in-Err-Disk.ensures.disk (ap (λ (fault : IndexFileFault). Err fault) c.in-Err-Disk.field-0-is)))
    (much_read g.D.Disk.files g.D.Disk.tells g.D.Disk.content g.D.Disk.fault_count g.D.Disk.moment g.D.Disk.images g.met.D.Disk.reads g.met.D.Disk.told c.args.disk c.read_index.new.disk c.in-Err-Disk.ensures.read c.in-Err-Disk.ensures.stop)

pub returns-in-Err-NoMemory : goal.returns-in-Err-NoMemory
returns-in-Err-NoMemory g c = λ text reads.
    No_index (conf_text c.args.conf.now) c.requires.settings (To_look_up text (address c.args.addr.now) refl reads) S.NoMemory
    c.only-in-Err-NoMemory.ensures (inr refl)
    (much_read g.D.Disk.files g.D.Disk.tells g.D.Disk.content g.D.Disk.fault_count g.D.Disk.moment g.D.Disk.images g.met.D.Disk.reads g.met.D.Disk.told c.args.disk c.read_index.new.disk c.in-Err-NoMemory.ensures.read c.in-Err-NoMemory.ensures.stop)
