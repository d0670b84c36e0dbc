use Rattle.std.proofs.Common.{ap, refl, ◌∙◌}
use Rattle.mail_conf.specs.ConfView.{conf_text}
use Rattle.node_store.specs.Stored.{Holding, Memory}
use Rattle.command_base.specs.Statuses.{status_unopened}
use Rattle.outbound_desk.proofs.NewStores.{new_whole}
use Rattle.binkp_mailer.specs.ServeCall.{No_room, Not_opened, Served_so}
use Rattle.binkp_mailer.proofs.ServeCalls.{new_rest, served_from}
use Rattle.binkp_mailer.proofs.over_serve.serve_by.Goals as goal

-- No store is opened.

pub returns-in-Err : goal.returns-in-Err
returns-in-Err g c =
    Not_opened (conf_text c.args.conf.now) c.requires.settings c.in-Err.fault (c.status_unopened.ensures ∙ ap (status_unopened c.in-Err.fault) c.faults-faults.ensures)
    (record { why = c.in-Err.ensures.refused; failed = c.in-Err.ensures.failed; stop = c.in-Err.ensures.stop; read = c.in-Err.ensures.read; aside_stop = c.in-Err.ensures.aside_stop; aside_read = c.in-Err.ensures.aside_read })
    refl refl

-- One is.

pub desk_over-requires-clause-fits : goal.desk_over-requires-clause-fits
desk_over-requires-clause-fits g c = λ settings.
    new_whole g.D.Disk.tells g.D.Disk.content g.D.Disk.fault_count g.D.Disk.moment g.D.Disk.images c.in-Ok.store settings (c.opens_soundly.ensures settings) c.in-Ok.ensures.memory c.opens_as_told.ensures.stopped

pub serve_at-status-requires-clause-at_rest : goal.serve_at-status-requires-clause-at_rest
serve_at-status-requires-clause-at_rest g c = λ ks outlives.
    new_rest g.D.Disk.tells g.D.Disk.content g.D.Disk.fault_count g.D.Disk.moment g.D.Disk.images (conf_text c.args.conf.now) _ _ _ _ c.in-Ok-desk_over.ensures.hub c.in-Ok-desk_over.ensures.seat c.in-Ok-desk_over.ensures.ready

pub serve_at-status-requires-clause-whole : goal.serve_at-status-requires-clause-whole
serve_at-status-requires-clause-whole g c = λ ks outlives. ap (λ (s : Holding g.row.D.Denot). s.memory.broken) c.in-Ok-desk_over.ensures.store ∙ ap (λ (m : Memory). m.broken) c.in-Ok.ensures.memory.3

pub returns-in-Ok-desk_over : goal.returns-in-Ok-desk_over
returns-in-Ok-desk_over g c =
    Served_so (conf_text c.args.conf.now) c.requires.settings c.args.index.now c.requires.index c.in-Ok.store
    (record { memory = c.in-Ok.ensures.memory; told = c.in-Ok.ensures.told; stop = c.in-Ok.ensures.stop; read = c.in-Ok.ensures.read; aside_stop = c.in-Ok.ensures.aside_stop; aside_read = c.in-Ok.ensures.aside_read; calm = c.in-Ok.ensures.calm })
    _
    (served_from g.D.Disk.tells g.D.Disk.content g.D.Disk.fault_count g.D.Disk.moment g.D.Disk.images (conf_text c.args.conf.now) _ _ _ _ _ _ _ _ c.in-Ok.store _ _ c.in-Ok-desk_over.ensures.store c.in-Ok-desk_over.ensures.hub c.in-Ok-desk_over.ensures.seat c.serve_at-status.ensures)
    c.disk_of.ensures

-- There was no memory for its hub.

pub returns-in-Err-desk_over : goal.returns-in-Err-desk_over
returns-in-Err-desk_over g c =
    No_room (conf_text c.args.conf.now) c.requires.settings c.in-Ok.store
    (record { memory = c.in-Ok.ensures.memory; told = c.in-Ok.ensures.told; stop = c.in-Ok.ensures.stop; read = c.in-Ok.ensures.read; aside_stop = c.in-Ok.ensures.aside_stop; aside_read = c.in-Ok.ensures.aside_read; calm = c.in-Ok.ensures.calm })
    refl refl refl (c.into_disk.ensures ∙ ap (λ (s : Holding g.row.D.Denot). s.disk) c.in-Err-desk_over.ensures.err)
