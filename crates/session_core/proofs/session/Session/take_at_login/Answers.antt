use Rattle.std.proofs.Common.{refl, inr}
use Rattle.mail_conf.specs.ConfView.{conf_text}
use Rattle.node_model.proofs.Rans.{ran_none}
use Rattle.session_core.proofs.Logins.{logs_in, same_lent}
use Rattle.session_core.proofs.session.Session.take_at_login.Goals as goal

pub returns-in-Ok-clause-row : goal.returns-in-Ok-clause-row
returns-in-Ok-clause-row g c =
    logs_in c.args.self.now c.take.new.self (conf_text c.args.conf.now) _ c.in-Ok.step _ _ _ _ _ _ _ _ _ _ _ (same_lent c.args.self.now.auth _ c.args.self.now.setting c.take.ensures.keeps) c.in-Ok.ensures.takes c.follow.ensures.row

pub returns-in-Err-clause-row : goal.returns-in-Err-clause-row
returns-in-Err-clause-row g c = inr (record { ran = ran_none _ _; told_is = refl; out_is = c.in-Err.ensures.takes; is = refl })
