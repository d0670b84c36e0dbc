use Rattle.std.proofs.Common.{ap}
use Rattle.session_auth.specs.Views.{stage_in as login_stage}
use Rattle.session_core.specs.declared.stage.Stage.{Stage as CodeStage}
use Rattle.session_core.specs.Ends as E
use Rattle.session_core.specs.Sessions.{cause_of}
use Rattle.session_core.specs.Stages.{Logs_in}
use Rattle.session_core.specs.Replies.{stage_with}
use Rattle.session_core.proofs.Logins.{steps_on, steps_over}
use Rattle.session_core.proofs.session.Session.follow.Goals as goal

pub returns-in-More-clause-row : goal.returns-in-More-clause-row
returns-in-More-clause-row g c = rw c.in-More.is (λ conf at before said e.
    steps_on (Logs_in (login_stage c.args.self.now.auth)) _ _ _ _ before _ said (ap (λ (k : CodeStage). stage_with c.args.self.now.auth k) c.requires.at_login) e)

pub returns-in-In-clause-row : goal.returns-in-In-clause-row
returns-in-In-clause-row g c = rw c.in-In.is (λ conf at before said e. c.begin.ensures.row conf at before said e)

pub returns-in-BadPassword-clause-row : goal.returns-in-BadPassword-clause-row
returns-in-BadPassword-clause-row g c = rw c.in-BadPassword.is (λ conf at before said e.
    steps_over (Logs_in at) (E.BadPassword c.in-BadPassword.wanted.list c.in-BadPassword.given.list) _ _ _ _ before _ said e)

pub returns-in-PeerError-clause-row : goal.returns-in-PeerError-clause-row
returns-in-PeerError-clause-row g c = rw c.in-PeerError.is (λ conf at before said e.
    steps_over (Logs_in at) (E.PeerError c.in-PeerError.text.list) _ _ _ _ before _ said e)

pub returns-in-PeerBusy-clause-row : goal.returns-in-PeerBusy-clause-row
returns-in-PeerBusy-clause-row g c = rw c.in-PeerBusy.is (λ conf at before said e.
    steps_over (Logs_in at) E.PeerBusy _ _ _ _ before _ said e)

pub returns-in-Broke-clause-row : goal.returns-in-Broke-clause-row
returns-in-Broke-clause-row g c = rw (c.in-Broke.is, c.cause_of.ensures) (λ conf at before said e.
    steps_over (Logs_in at) (E.Broke (cause_of c.in-Broke.fault) c.args.self.now.frames) _ _ _ _ before _ said e)
