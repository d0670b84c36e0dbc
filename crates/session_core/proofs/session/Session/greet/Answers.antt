use Rattle.mail_conf.specs.ConfView.{conf_text}
use Rattle.session_core.specs.Replies.{lent_in}
use Rattle.session_core.proofs.Writings.{no_more, some_greeting}
use Rattle.session_core.proofs.session.Session.greet.Goals as goal

pub returns-in-Err-clause-writes : goal.returns-in-Err-clause-writes
returns-in-Err-clause-writes c = no_more _ _ _ _ (some_greeting (lent_in c.args.self.now).side (conf_text c.args.conf.now) (lent_in c.args.self.now).challenge (lent_in c.args.self.now).moment) c.in-Err.ensures.err
