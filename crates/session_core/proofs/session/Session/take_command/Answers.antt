use Rattle.std.proofs.Common.{refl, sym, inl, ◌∙◌}
use Rattle.mail_conf.specs.ConfView.{conf_text}
use Rattle.session_core.specs.Replies.{setting_in}
use Rattle.session_core.proofs.Early.{command_at, early_told, made_from}
use Rattle.session_core.proofs.Logins.{logged_stays}
use Rattle.session_core.proofs.session.Session.take_command.Goals as goal

pub returns-in-LogsIn-clause-row : goal.returns-in-LogsIn-clause-row
returns-in-LogsIn-clause-row g c = command_at (setting_in c.args.self.now (conf_text c.args.conf.now)) _ c.args.self.now.auth _ _ _ _ _ _ _ _ _ _ _ _ (sym c.in-LogsIn.is ∙ c.replace.ensures.value) (made_from _ _ _ _ _ _ _ _ _ _ _ (early_told c.replace.new.dest _ c.replace.ensures.after) c.take_at_login.ensures.row)

pub returns-in-Talks-clause-row : goal.returns-in-Talks-clause-row
returns-in-Talks-clause-row g c = command_at (setting_in c.args.self.now (conf_text c.args.conf.now)) _ c.args.self.now.auth _ _ _ _ _ _ _ _ _ _ _ _ (sym c.in-Talks.is ∙ c.replace.ensures.value) (inl (logged_stays _ _ _ _ _ _ _ _ _ _ _ _ _ refl c.take_command-took.ensures.row))
