use Rattle.std.proofs.Common.{◌∙◌, ap, sym}
use Rattle.mail_conf.specs.ConfView.{conf_text}
use Rattle.session_core.specs.Replies.{Lent, setting_in}
use Rattle.session_run.specs.Courses.{phase_of}
use Rattle.session_run.proofs.CourseRuns.{settled_may}
use Rattle.session_run.proofs.Runs.{went_then, starts_at}
use Rattle.session_run.proofs.Closings.{turn_went}
use Rattle.session_run.proofs.turns.Course.turn.Goals as goal

pub returns-in-Starting-clause-went : goal.returns-in-Starting-clause-went
returns-in-Starting-clause-went g c =
    starts_at (went_then c.open-end.ensures.went (c.settle.ensures.went (setting_in c.args.self.now.run.session (conf_text c.args.conf.now)) (g.L.Line.state c.open-end.new.line))) (ap phase_of (sym c.in-Starting.is ∙ c.replace.ensures.value))

pub returns-in-Talking-clause-went : goal.returns-in-Talking-clause-went
returns-in-Talking-clause-went g c =
    starts_at (went_then c.go_on-end.ensures.went (c.settle-in-Talking.ensures.went (setting_in c.args.self.now.run.session (conf_text c.args.conf.now)) (g.L.Line.state c.go_on-end.new.line))) (ap phase_of (sym c.in-Talking.is ∙ c.replace.ensures.value))

pub returns-in-Draining-clause-went : goal.returns-in-Draining-clause-went
returns-in-Draining-clause-went g c =
    turn_went g.K.Desk.alone (setting_in c.args.self.now.run.session (conf_text c.args.conf.now)) (g.K.Desk.stand c.args.desk.now) c.args.self.now.run (g.L.Line.state c.args.line.now) c.args.self.now.going c.in-Draining.mute c.in-Draining.end c.drain.new.self (g.L.Line.state c.drain.new.line) c.drain.result (sym c.replace.ensures.value ∙ c.in-Draining.is) c.drain.ensures.going
    (c.drain.ensures.went g.K.Desk.alone (setting_in c.args.self.now.run.session (conf_text c.args.conf.now)) (g.K.Desk.stand c.args.desk.now).state)

pub returns-in-Starting-clause-may : goal.returns-in-Starting-clause-may
returns-in-Starting-clause-may g c =
    settled_may c.open-end.result _ (g.K.Desk.ready c.open-end.new.desk) _ (g.K.Desk.part c.open-end.new.desk) _ _ _ c.settle.new.self.run c.open-end.new.self c.settle.new.self.going c.settle.ensures.ready c.settle.ensures.run c.settle.ensures.on c.settle.ensures.part c.settle.ensures.leaves c.settle.ensures.left c.open-end.ensures.sits (ap (λ (l : Lent). l.limit) c.open-end.ensures.lent) c.open-end.ensures.goes_on c.open-end.ensures.bounded c.open-end.ensures.left

pub returns-in-Talking-clause-may : goal.returns-in-Talking-clause-may
returns-in-Talking-clause-may g c =
    settled_may c.go_on-end.result _ (g.K.Desk.ready c.go_on-end.new.desk) _ (g.K.Desk.part c.go_on-end.new.desk) _ _ _ c.settle-in-Talking.new.self.run c.go_on-end.new.self c.settle-in-Talking.new.self.going c.settle-in-Talking.ensures.ready c.settle-in-Talking.ensures.run c.settle-in-Talking.ensures.on c.settle-in-Talking.ensures.part c.settle-in-Talking.ensures.leaves c.settle-in-Talking.ensures.left c.go_on-end.ensures.sits (ap (λ (l : Lent). l.limit) c.go_on-end.ensures.lent) c.go_on-end.ensures.goes_on c.go_on-end.ensures.bounded c.go_on-end.ensures.left
