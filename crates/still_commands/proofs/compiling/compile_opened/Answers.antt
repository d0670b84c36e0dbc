use Rattle.std.proofs.Common.{ap, inl, ◌∙◌, Ok, Err}
use Rattle.command_base.specs.Statuses.{status_uncompiled}
use Rattle.still_commands.specs.Came.{only}
use Rattle.still_commands.proofs.compiling.compile_opened.Goals as goal

pub returns-in-Ok : goal.returns-in-Ok
returns-in-Ok g c =
    let e = c.in-Ok.ensures in
    (Ok c.in-Ok.count, record { answer = e.answer; disk = e.disk; calm = e.calm; stop = e.stop; read = e.read; compiled = e.compiled; durable = e.durable; kept = e.kept; cleared = e.cleared }, c.compiled.ensures)

pub returns-in-Err : goal.returns-in-Err
returns-in-Err g c =
    let e = c.in-Err.ensures in
    (Err c.in-Err.fault, record { answer = e.answer; disk = e.disk; calm = e.calm; stop = e.stop; read = e.read; compiled = e.compiled; durable = e.durable; kept = e.kept; cleared = e.cleared }, inl (c.only.ensures ∙ ap only (c.status_uncompiled.ensures ∙ ap (status_uncompiled c.in-Err.fault) c.faults-faults.ensures)))
