use Rattle.std.proofs.Common.{ℕ, List, refl, subst}
use Rattle.command_base.specs.Printing.{PrintsLines}
use Rattle.command_base.specs.Statuses.{status_text}
use Rattle.command_base.proofs.Causes.{printed_disk}
use Rattle.binkp_mailer.proofs.ServeCalls.{serve_cause, serve_keeps}
use Rattle.binkp_mailer.proofs.over_serve.run_serve.Goals as goal

pub returns-clause-call : goal.returns-clause-call
returns-clause-call g c = record { had = _; behind = _; does = c.serve_disk-status.ensures; prints = subst (λ (l : List ℕ). PrintsLines l (status_text c.serve_disk-status.result.0) (status_text c.print_lines.result) (g.O.Sink.state c.serve_disk-status.new.out) (g.O.Sink.state c.print_lines.new.out)) c.new.ensures (c.print_lines.ensures _ refl) }

pub returns-clause-cause : goal.returns-clause-cause
returns-clause-cause g c =
    printed_disk g.D.Disk.tells g.D.Disk.content g.D.Disk.fault_count g.D.Disk.moment g.D.Disk.images _ _ _ c.args.disk c.serve_disk-status.result.1 _ _
    (serve_cause g.D.Disk.tells g.D.Disk.content g.D.Disk.fault_count g.D.Disk.moment g.D.Disk.images _ c.args.disk _ _ _ c.serve_disk-status.result.1 _ c.serve_disk-status.ensures)
    (c.print_lines.ensures _ refl)

pub returns-clause-stays : goal.returns-clause-stays
returns-clause-stays g c = λ telling. serve_keeps g.D.Disk.tells g.D.Disk.content g.D.Disk.fault_count g.D.Disk.moment g.D.Disk.images _ c.args.disk _ _ _ c.serve_disk-status.result.1 _ telling c.serve_disk-status.ensures
