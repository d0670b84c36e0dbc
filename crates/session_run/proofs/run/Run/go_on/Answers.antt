use Rattle.std.proofs.Common.{refl, ap, sym, ◌∙◌, ◌≡◌}
use Rattle.session_core.specs.Givings.{gave_text}
use Rattle.session_core.specs.Takings.{took_text}
use Rattle.mail_conf.specs.ConfView.{conf_text}
use Rattle.session_core.specs.Replies.{setting_in}
use Rattle.session_run.specs.Machine.{after_took, after_gave, Writing, Reading}
use Rattle.session_run.specs.Runs.{over_or}
use Rattle.session_run.proofs.Runs.{went_then, went_still, went_lent, ends_at, with_lent}
use Rattle.session_run.proofs.run.Run.go_on.Goals as goal
use Rattle.session_run.proofs.run.Run.go_on.Goals.{in-Sent, in-Waits}

pub returns-in-Ended-give_if_few-clause-went : goal.returns-in-Ended-give_if_few-clause-went
returns-in-Ended-give_if_few-clause-went g c =
    went_then (ends_at (c.take_all.ensures.went (g.L.Line.state c.args.line.now)) (ap (λ took. after_took (took_text took)) c.in-More.is))
    (ends_at (went_lent (with_lent (conf_text c.args.conf.now) c.take_all.ensures.lent) (c.give_if_few.ensures.went (conf_text c.args.conf.now) (g.L.Line.state c.args.line.now))) (ap (λ gave. after_gave (gave_text gave)) c.in-Ended-give_if_few.is))

pub returns-in-Some-clause-went : goal.returns-in-Some-clause-went
returns-in-Some-clause-went g c =
    let turned : after_gave (gave_text c.give_if_few.result) ≡ Writing c.match-give_if_few.waits =
    elim c.match-give_if_few.branch [ in-Sent w ↦ ap (λ gave. after_gave (gave_text gave)) w.in-Sent.is ∙ ap Writing (sym w.waits-is) | in-Waits w ↦ ap (λ gave. after_gave (gave_text gave)) w.in-Waits.is ∙ ap Writing (sym w.waits-is) ] in
    went_then (ends_at (c.take_all.ensures.went (g.L.Line.state c.args.line.now)) (ap (λ took. after_took (took_text took)) c.in-More.is))
    (went_then (ends_at (went_lent (with_lent (conf_text c.args.conf.now) c.take_all.ensures.lent) (c.give_if_few.ensures.went (conf_text c.args.conf.now) (g.L.Line.state c.args.line.now))) turned)
    (ends_at (went_still (g.K.Desk.stand c.give_if_few.new.desk) (c.write_once.ensures.went g.K.Desk.alone (setting_in c.args.self.now.session (conf_text c.args.conf.now)) (g.K.Desk.stand c.give_if_few.new.desk).state refl)) (ap (λ end. over_or end (Reading c.match-give_if_few.waits)) c.in-Some.is)))

pub returns-clause-went : goal.returns-clause-went
returns-clause-went g c =
    let turned : after_gave (gave_text c.give_if_few.result) ≡ Writing c.match-give_if_few.waits =
    elim c.match-give_if_few.branch [ in-Sent w ↦ ap (λ gave. after_gave (gave_text gave)) w.in-Sent.is ∙ ap Writing (sym w.waits-is) | in-Waits w ↦ ap (λ gave. after_gave (gave_text gave)) w.in-Waits.is ∙ ap Writing (sym w.waits-is) ] in
    went_then (ends_at (c.take_all.ensures.went (g.L.Line.state c.args.line.now)) (ap (λ took. after_took (took_text took)) c.in-More.is))
    (went_then (ends_at (went_lent (with_lent (conf_text c.args.conf.now) c.take_all.ensures.lent) (c.give_if_few.ensures.went (conf_text c.args.conf.now) (g.L.Line.state c.args.line.now))) turned)
    (went_then (ends_at (went_still (g.K.Desk.stand c.give_if_few.new.desk) (c.write_once.ensures.went g.K.Desk.alone (setting_in c.args.self.now.session (conf_text c.args.conf.now)) (g.K.Desk.stand c.give_if_few.new.desk).state refl)) (ap (λ end. over_or end (Reading c.match-give_if_few.waits)) c.in-None.is))
    (went_still (g.K.Desk.stand c.give_if_few.new.desk) (c.read_once.ensures.went g.K.Desk.alone (setting_in c.args.self.now.session (conf_text c.args.conf.now)) (g.K.Desk.stand c.give_if_few.new.desk).state refl))))
