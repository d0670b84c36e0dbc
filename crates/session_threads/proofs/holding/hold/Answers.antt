use Rattle.std.proofs.Common.{ap}
use Rattle.mail_conf.specs.ConfView.{conf_text}
use Rattle.session_threads.proofs.Seats.{held}
use Rattle.session_threads.proofs.holding.hold.Goals as goal

pub run_session-report-requires-clause-ready : goal.run_session-report-requires-clause-ready
run_session-report-requires-clause-ready g c = rw (c.new.ensures.gate, c.new.ensures.pass) (c.requires.may.home c.args.shared.now.gate c.requires.named)

pub returns : goal.returns
returns g c =
    let run = c.run_session-report.ensures in
    held g.L.Line.state g.V.Roams.sight g.G.GateName.table (conf_text c.args.shared.now.conf.value) (conf_text c.deref.result.now) c.args.begun _ c.new.result.pass _ _
    (ap conf_text c.deref.ensures) c.new.ensures.pass c.into_pass-pass.ensures run.ready run.session run.left
