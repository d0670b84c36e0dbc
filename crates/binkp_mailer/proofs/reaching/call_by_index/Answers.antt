use Rattle.std.proofs.Common.{ap, inl, inr, refl, ℕ, Err}
use Rattle.ftn_addr.specs.Address.{address}
use Rattle.mail_conf.specs.ConfView.{conf_text}
use Rattle.nodelist_files.specs.declared.fault.IndexFileFault.{IndexFileFault}
use Rattle.command_base.specs.Statuses as S
use Rattle.still_commands.proofs.Before.{much_read}
use Rattle.binkp_mailer.specs.DiskCall.{No_index}
use Rattle.binkp_mailer.proofs.ReadOnly.{call_before}
use Rattle.binkp_mailer.proofs.reaching.call_by_index.Goals as goal

pub returns-in-Ok : goal.returns-in-Ok
returns-in-Ok g c = λ command are.
    call_before g.D.Disk.tells g.D.Disk.content g.D.Disk.fault_count g.D.Disk.moment g.D.Disk.images command _ _ _ c.args.disk c.read_index.new.disk _ _ _ _
    (much_read g.D.Disk.files g.D.Disk.tells g.D.Disk.content g.D.Disk.fault_count g.D.Disk.moment g.D.Disk.images g.met.D.Disk.reads g.met.D.Disk.told c.args.disk c.read_index.new.disk c.in-Ok.ensures.read c.in-Ok.ensures.stop) c.in-Ok.ensures.calm (c.call_listed.ensures command are)

pub returns-in-Err-Bad : goal.returns-in-Err-Bad
returns-in-Err-Bad g c = λ command are.
    call_before g.D.Disk.tells g.D.Disk.content g.D.Disk.fault_count g.D.Disk.moment g.D.Disk.images command c.args.random c.args.now _ c.args.disk c.read_index.new.disk _ _ _ _
    (much_read g.D.Disk.files g.D.Disk.tells g.D.Disk.content g.D.Disk.fault_count g.D.Disk.moment g.D.Disk.images g.met.D.Disk.reads g.met.D.Disk.told c.args.disk c.read_index.new.disk c.in-Err-Bad.ensures.read c.in-Err-Bad.ensures.stop) (c.in-Err-Bad.ensures.bad (ap (λ (fault : IndexFileFault). Err fault) c.in-Err-Bad.field-0-is))
    (c.refuse_index.ensures command c.args.random c.args.now _ are)

pub returns-in-Err-Disk : goal.returns-in-Err-Disk
returns-in-Err-Disk g c = λ command are.
    No_index (conf_text c.args.conf.now) c.requires.settings (address c.args.peer) are c.requires.unset refl
    (inl (ap (λ (n : ℕ). S.DiskFault n) c.faults-faults.ensures, c.in-Err-Disk.ensures.disk (ap (λ (fault : IndexFileFault). Err fault) c.in-Err-Disk.field-0-is)))
    (much_read g.D.Disk.files g.D.Disk.tells g.D.Disk.content g.D.Disk.fault_count g.D.Disk.moment g.D.Disk.images g.met.D.Disk.reads g.met.D.Disk.told c.args.disk c.read_index.new.disk c.in-Err-Disk.ensures.read c.in-Err-Disk.ensures.stop) refl

pub returns-in-Err-NoMemory : goal.returns-in-Err-NoMemory
returns-in-Err-NoMemory g c = λ command are.
    No_index (conf_text c.args.conf.now) c.requires.settings (address c.args.peer) are c.requires.unset refl (inr refl)
    (much_read g.D.Disk.files g.D.Disk.tells g.D.Disk.content g.D.Disk.fault_count g.D.Disk.moment g.D.Disk.images g.met.D.Disk.reads g.met.D.Disk.told c.args.disk c.read_index.new.disk c.in-Err-NoMemory.ensures.read c.in-Err-NoMemory.ensures.stop) refl
