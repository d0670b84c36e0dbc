use Rattle.mail_conf.proofs.Limits.{each_keeps_limits}
use Rattle.mail_conf.proofs.laws.what_is_read_keeps_limits.Goals as goal

pub returns : goal.returns
returns c = each_keeps_limits
