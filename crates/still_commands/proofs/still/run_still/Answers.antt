use Rattle.std.proofs.Common.{refl}
use Rattle.command_base.proofs.Causes.{printed_disk}
use Rattle.command_base.proofs.Printed.{printed_out}
use Rattle.still_commands.specs.Came.{told_of}
use Rattle.still_commands.proofs.Causes.{runs_cause, runs_not_out}
use Rattle.still_commands.proofs.KeptLists.{over_unless_take, printed_refused, refused_over, still_lists, still_recovers, still_refused}
use Rattle.still_commands.proofs.KeptReceipts.{runs_keep}
use Rattle.still_commands.proofs.still.run_still.Goals as goal

pub returns-clause-call : goal.returns-clause-call
returns-clause-call g c = record { told = told_of c.do_still-came.result.0; does = c.do_still-came.ensures; prints = c.print_lines.ensures c.do_still-came.result.0.lines.list refl }

pub returns-clause-cause : goal.returns-clause-cause
returns-clause-cause g c =
    printed_disk g.D.Disk.tells g.D.Disk.content g.D.Disk.fault_count g.D.Disk.moment g.D.Disk.images _ _ _ c.args.disk c.do_still-came.result.1 _ _
    (runs_cause g.D.Disk.files g.D.Disk.tells g.D.Disk.content g.D.Disk.fault_count g.D.Disk.moment g.D.Disk.images _ c.args.now c.args.disk (told_of c.do_still-came.result.0) c.do_still-came.result.1 c.do_still-came.ensures)
    (c.print_lines.ensures c.do_still-came.result.0.lines.list refl)

pub returns-clause-out_cause : goal.returns-clause-out_cause
returns-clause-out_cause g c =
    printed_out _ _ _ _ _ (c.print_lines.ensures c.do_still-came.result.0.lines.list refl)
    (runs_not_out g.D.Disk.files g.D.Disk.tells g.D.Disk.content g.D.Disk.fault_count g.D.Disk.moment g.D.Disk.images _ c.args.now c.args.disk (told_of c.do_still-came.result.0) c.do_still-came.result.1 c.do_still-came.ensures)

pub returns-clause-received : goal.returns-clause-received
returns-clause-received g c = λ t.
    runs_keep g.D.Disk.files g.D.Disk.tells g.D.Disk.content g.D.Disk.fault_count g.D.Disk.moment g.D.Disk.images g.met.D.Disk.reads g.met.D.Disk.told _ c.args.now c.args.disk (told_of c.do_still-came.result.0) c.do_still-came.result.1 t c.do_still-came.ensures

pub returns-clause-stays : goal.returns-clause-stays
returns-clause-stays g c = λ t other.
    still_recovers g.D.Disk.files g.D.Disk.tells g.D.Disk.content g.D.Disk.fault_count g.D.Disk.moment g.D.Disk.images _ c.args.disk (told_of c.do_still-came.result.0) g.met.D.Disk.reads g.met.D.Disk.told t c.do_still-came.result.1
    (over_unless_take g.D.Disk.files g.D.Disk.tells g.D.Disk.content g.D.Disk.fault_count g.D.Disk.moment g.D.Disk.images _ c.args.now c.args.disk (told_of c.do_still-came.result.0) c.do_still-came.result.1 other c.do_still-came.ensures)

pub returns-clause-lists : goal.returns-clause-lists
returns-clause-lists g c = λ t other.
    still_lists g.D.Disk.files g.D.Disk.tells g.D.Disk.content g.D.Disk.fault_count g.D.Disk.moment g.D.Disk.images _ c.args.disk (told_of c.do_still-came.result.0) g.met.D.Disk.reads g.met.D.Disk.told t c.do_still-came.result.1
    (over_unless_take g.D.Disk.files g.D.Disk.tells g.D.Disk.content g.D.Disk.fault_count g.D.Disk.moment g.D.Disk.images _ c.args.now c.args.disk (told_of c.do_still-came.result.0) c.do_still-came.result.1 other c.do_still-came.ensures)

pub returns-clause-refused : goal.returns-clause-refused
returns-clause-refused g c = λ t refused.
    let so = printed_refused _ _ _ _ _ (c.print_lines.ensures c.do_still-came.result.0.lines.list refl) refused in
    still_refused g.D.Disk.files g.D.Disk.tells g.D.Disk.content g.D.Disk.fault_count g.D.Disk.moment g.D.Disk.images _ c.args.disk (told_of c.do_still-came.result.0) g.met.D.Disk.reads g.met.D.Disk.told t so c.do_still-came.result.1
    (refused_over g.D.Disk.files g.D.Disk.tells g.D.Disk.content g.D.Disk.fault_count g.D.Disk.moment g.D.Disk.images _ c.args.now c.args.disk (told_of c.do_still-came.result.0) c.do_still-came.result.1 so c.do_still-came.ensures)
