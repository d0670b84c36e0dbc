use Rattle.mail_conf.specs.ConfView.{conf_text}
use Rattle.test_threads.proofs.callers.settings_of.Goals as goal

pub boxed-requires : goal.boxed-requires
boxed-requires c = c.what_is_read_keeps_limits.ensures c.args.text.now (conf_text c.in-Ok.conf) c.in-Ok.ensures
