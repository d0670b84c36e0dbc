use Rattle.std.proofs.Common.{◌∙◌, ap, inr, option_map, refl, sym}
use Rattle.mail_conf.specs.ConfView.{conf_text}
use Rattle.command_base.proofs.ReadOnly.{no_read}
use Rattle.call_hosts.specs.Hosts.{host_text}
use Rattle.binkp_mailer.specs.DiskCall.{Is_set, No_call}
use Rattle.binkp_mailer.proofs.reaching.call_peer.Goals as goal

pub call_host-requires-clause-host : goal.call_host-requires-clause-host
call_host-requires-clause-host g c = λ ks outlives. Is_set (sym c.in-Ok-Some.ensures ∙ ap (option_map host_text) c.in-Ok-Some.field-0-is)

pub call_by_index-requires-clause-unset : goal.call_by_index-requires-clause-unset
call_by_index-requires-clause-unset g c = λ ks outlives. sym c.in-Ok-None.ensures ∙ ap (option_map host_text) c.in-Ok-None.field-0-is

pub returns-in-Ok-Some : goal.returns-in-Ok-Some
returns-in-Ok-Some g c = c.call_host.ensures

pub returns-in-Ok-None : goal.returns-in-Ok-None
returns-in-Ok-None g c = c.call_by_index.ensures

pub returns-in-Err : goal.returns-in-Err
returns-in-Err g c = λ command are. No_call (conf_text c.args.conf.now) c.requires.settings refl (inr refl) (no_read g.D.Disk.tells g.D.Disk.content g.D.Disk.fault_count g.D.Disk.moment g.D.Disk.images c.args.disk) refl
