use Rattle.std.proofs.Common.{ap, inl, inr, refl, ℕ, Err}
use Rattle.mail_conf.specs.ConfView.{conf_text}
use Rattle.nodelist_files.specs.declared.fault.IndexFileFault.{IndexFileFault}
use Rattle.command_base.specs.Statuses as S
use Rattle.still_commands.proofs.Before.{much_read}
use Rattle.binkp_mailer.specs.ServeCall.{No_index}
use Rattle.binkp_mailer.proofs.ServeCalls.{serve_before}
use Rattle.binkp_mailer.proofs.over_serve.serve_set.Goals as goal

pub returns-in-Ok : goal.returns-in-Ok
returns-in-Ok g c =
    serve_before g.D.Disk.tells g.D.Disk.content g.D.Disk.fault_count g.D.Disk.moment g.D.Disk.images _ c.args.disk c.read_index.new.disk _ _ _ _ _
    (much_read g.D.Disk.files g.D.Disk.tells g.D.Disk.content g.D.Disk.fault_count g.D.Disk.moment g.D.Disk.images g.met.D.Disk.reads g.met.D.Disk.told c.args.disk c.read_index.new.disk c.in-Ok.ensures.read c.in-Ok.ensures.stop) c.in-Ok.ensures.calm c.serve_by.ensures

pub returns-in-Err-Bad : goal.returns-in-Err-Bad
returns-in-Err-Bad g c =
    serve_before g.D.Disk.tells g.D.Disk.content g.D.Disk.fault_count g.D.Disk.moment g.D.Disk.images _ c.args.disk c.read_index.new.disk _ _ _ _ _
    (much_read g.D.Disk.files g.D.Disk.tells g.D.Disk.content g.D.Disk.fault_count g.D.Disk.moment g.D.Disk.images g.met.D.Disk.reads g.met.D.Disk.told c.args.disk c.read_index.new.disk c.in-Err-Bad.ensures.read c.in-Err-Bad.ensures.stop) (c.in-Err-Bad.ensures.bad (ap (λ (fault : IndexFileFault). Err fault) c.in-Err-Bad.field-0-is)) (c.refuse_index.ensures _ _)

pub returns-in-Err-Disk : goal.returns-in-Err-Disk
returns-in-Err-Disk g c =
    No_index (conf_text c.args.conf.now) c.requires.settings
    (inl (ap (λ (n : ℕ). S.DiskFault n) c.faults-faults.ensures, c.in-Err-Disk.ensures.disk (ap (λ (fault : IndexFileFault). Err fault) c.in-Err-Disk.field-0-is)))
    (much_read g.D.Disk.files g.D.Disk.tells g.D.Disk.content g.D.Disk.fault_count g.D.Disk.moment g.D.Disk.images g.met.D.Disk.reads g.met.D.Disk.told c.args.disk c.read_index.new.disk c.in-Err-Disk.ensures.read c.in-Err-Disk.ensures.stop) refl refl

pub returns-in-Err-NoMemory : goal.returns-in-Err-NoMemory
returns-in-Err-NoMemory g c =
    No_index (conf_text c.args.conf.now) c.requires.settings (inr refl)
    (much_read g.D.Disk.files g.D.Disk.tells g.D.Disk.content g.D.Disk.fault_count g.D.Disk.moment g.D.Disk.images g.met.D.Disk.reads g.met.D.Disk.told c.args.disk c.read_index.new.disk c.in-Err-NoMemory.ensures.read c.in-Err-NoMemory.ensures.stop) refl refl
