use Rattle.std.proofs.Common.{ap}
use Rattle.mail_conf.specs.ConfView.{conf_text}
use Rattle.session_core.specs.Takings.{took_text}
use Rattle.session_run.specs.Machine.{after_took}
use Rattle.session_run.proofs.Runs.{went_then, went_lent, ends_at, with_lent}
use Rattle.session_run.proofs.run.Run.open.Goals as goal

pub returns-in-More-clause-went : goal.returns-in-More-clause-went
returns-in-More-clause-went g c =
    went_then (ends_at (c.greet.ensures.went (g.L.Line.state c.args.line.now)) (ap (λ took. after_took (took_text took)) c.in-More.is)) (went_lent (with_lent (conf_text c.args.conf.now) c.in-More.ensures.lent) c.go_on.ensures.went)
