use Rattle.std.proofs.Common.{ℕ, ap, subst, ◌∙◌}
use Rattle.binkp_link.specs.LineSources.{LinesState}
use Rattle.binkp_serve.specs.Rests.{rest_of}
use Rattle.binkp_serve.specs.Serving.{Serves, at_start}
use Rattle.command_base.specs.Statuses.{Status, status_text}
use Rattle.mail_conf.specs.ConfView.{conf_text}
use Rattle.binkp_mailer.specs.ServeCall.{Is_served, status_told}
use Rattle.binkp_mailer.proofs.over_serve.serve_at.Goals as goal

pub returns-in-Ok : goal.returns-in-Ok
returns-in-Ok g c =
    let old = rest_of c.args.desk.now.desk.hub.store.store c.args.desk.now.desk.hub.seats c.args.desk.now.desk.seat in
    let left = c.serve-served.new.desk.desk in
    let out = g.O.Sink.state c.args.out.now in
    let out' = g.O.Sink.state c.serve-served.new.out in
    Is_served c.serve-served.result.end c.serve-served.result.short
    (subst
    (λ (l : LinesState). Serves g.D.Disk.tells g.D.Disk.content g.D.Disk.fault_count g.D.Disk.moment g.D.Disk.images (conf_text c.args.conf.now) c.args.index.now (at_start old l out) c.serve-served.result.end c.serve-served.result.short (rest_of left.hub.store.store left.hub.seats left.seat) (g.N.Lines.state c.serve-served.new.lines) out')
    c.in-Ok.ensures.ok c.serve-served.ensures.serves)
    (c.status_behind.ensures
    ∙ (ap (λ (n : ℕ). status_told n c.faults.result (status_text c.status_of.result)) c.faults-before.ensures
    ∙ (ap (λ (n : ℕ). status_told out.faults n (status_text c.status_of.result)) c.faults.ensures ∙ ap (λ (s : Status). status_told out.faults out'.faults s) c.status_of.ensures)))
