use Rattle.std.proofs.Common.{◌∙◌, sym}
use Rattle.ftn_addr.specs.Address.{address, same_address}
use Rattle.session_auth.proofs.Lists.{list_any_map}
use Rattle.session_auth.proofs.passwords.is_among.Goals as goal

pub returns : goal.returns
returns c = c.any_is.ensures ∙ sym (list_any_map (same_address (address c.args.addr.now)) address c.args.addresses.now)
