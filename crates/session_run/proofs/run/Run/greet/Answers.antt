use Rattle.std.proofs.Common.{refl, subst}
use Rattle.node_model.specs.Images.{Kept}
use Rattle.mail_conf.specs.ConfView.{conf_text}
use Rattle.node_model.specs.Calls.{Knock_call, Let_in, Busy, Refused}
use Rattle.session_core.specs.Ends as E
use Rattle.session_core.specs.Takings.{took_text}
use Rattle.node_model.specs.Desks.{fault_of}
use Rattle.session_auth.specs.Greeting.{greeting}
use Rattle.session_auth.specs.Says.{said_bytes}
use Rattle.session_core.specs.Stages.{at_first}
use Rattle.session_core.specs.Says.{too_many, fault_bytes}
use Rattle.session_core.specs.Sessions.{on, over, fault_end}
use Rattle.session_core.specs.Replies.{lent_in, setting_in}
use Rattle.session_run.proofs.Openings.{greeted_it}
use Rattle.session_run.proofs.run.Run.greet.Goals as goal

pub returns-in-Ok-Come-clause-went : goal.returns-in-Ok-Come-clause-went
returns-in-Ok-Come-clause-went g c = λ line.
    let come = rw c.in-Ok-Come.field-0-is at c.in-Ok-Come.ensures in
    greeted_it g.K.Desk.alone (setting_in c.args.self.now.session (conf_text c.args.conf.now)) _ _ line (g.K.Desk.stand c.args.desk.now) (g.K.Desk.stand c.knock.new.self) Let_in
    (on at_first (said_bytes (greeting (lent_in c.args.self.now.session).side (conf_text c.args.conf.now) (lent_in c.args.self.now.session).challenge (lent_in c.args.self.now.session).moment))) (took_text c.greet.result)
    (subst (λ r. Kept g.K.Desk.alone (g.K.Desk.stand c.args.desk.now) (Knock_call r) Let_in (g.K.Desk.stand c.knock.new.self)) c.role.ensures come.made) refl c.requires.new refl refl refl refl refl refl c.greet.ensures.writes

pub returns-in-Ok-Busy-clause-went : goal.returns-in-Ok-Busy-clause-went
returns-in-Ok-Busy-clause-went g c = λ line.
    let busy = rw c.in-Ok-Busy.field-0-is at c.in-Ok-Busy.ensures in
    greeted_it g.K.Desk.alone (setting_in c.args.self.now.session (conf_text c.args.conf.now)) _ _ line (g.K.Desk.stand c.args.desk.now) (g.K.Desk.stand c.knock.new.self) Busy
    (over at_first too_many E.TurnedAway) (took_text c.turn_away.result)
    (subst (λ r. Kept g.K.Desk.alone (g.K.Desk.stand c.args.desk.now) (Knock_call r) Busy (g.K.Desk.stand c.knock.new.self)) c.role.ensures busy.made) refl c.requires.new refl refl refl refl refl refl c.turn_away.ensures.writes

pub returns-in-Err-clause-went : goal.returns-in-Err-clause-went
returns-in-Err-clause-went g c = λ line.
    greeted_it g.K.Desk.alone (setting_in c.args.self.now.session (conf_text c.args.conf.now)) _ _ line (g.K.Desk.stand c.args.desk.now) (g.K.Desk.stand c.knock.new.self) (Refused (fault_of c.in-Err.fault))
    (over at_first (fault_bytes (fault_of c.in-Err.fault)) (fault_end (fault_of c.in-Err.fault))) (took_text c.refuse.result)
    (subst (λ r. Kept g.K.Desk.alone (g.K.Desk.stand c.args.desk.now) (Knock_call r) (Refused (fault_of c.in-Err.fault)) (g.K.Desk.stand c.knock.new.self)) c.role.ensures c.in-Err.ensures.made) refl c.requires.new refl refl refl refl refl refl c.refuse.ensures.writes
