use Rattle.mail_conf.specs.ConfView.{conf_text}
use Rattle.test_core.proofs.settings.conf_of.Goals as goal

pub returns-in-Ok-clause-own : goal.returns-in-Ok-clause-own
returns-in-Ok-clause-own c = record {
  some = (c.what_is_read_keeps_limits.ensures c.args.text.now (conf_text c.in-Ok.conf) c.in-Ok.ensures).some;
  each = (c.what_is_read_keeps_limits.ensures c.args.text.now (conf_text c.in-Ok.conf) c.in-Ok.ensures).addresses;
}

pub returns-in-Ok-clause-some : goal.returns-in-Ok-clause-some
returns-in-Ok-clause-some c = (c.what_is_read_keeps_limits.ensures c.args.text.now (conf_text c.in-Ok.conf) c.in-Ok.ensures).block_some

pub returns-in-Ok-clause-fits : goal.returns-in-Ok-clause-fits
returns-in-Ok-clause-fits c = (c.what_is_read_keeps_limits.ensures c.args.text.now (conf_text c.in-Ok.conf) c.in-Ok.ensures).block_fits
