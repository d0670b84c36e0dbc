use Rattle.ftn_addr.specs.Address.{address}
use Rattle.mail_conf.specs.ConfView.{conf_text}
use Rattle.binkp_mailer.proofs.Lines.{call_mark_is}
use Rattle.binkp_mailer.proofs.call_mark.mark_path.Goals as goal

pub returns : goal.returns
returns c = call_mark_is (address c.args.peer.now) (conf_text c.args.conf.now).base (conf_text c.args.conf.now).zone c.in_ok-path.path.list _ _ _ _ c.in_ok-path.ensures c.len.ensures c.saturating_sub-front.ensures c.truncate.ensures.front c.in_ok-push_slice.ensures.ok
