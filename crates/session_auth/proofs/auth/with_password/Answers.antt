use Rattle.std.proofs.Common.{List, map, subst, sym}
use Rattle.ftn_addr.specs.Address.{Address, address}
use Rattle.binkp_args.specs.Limits.{AreAddresses}
use Rattle.mail_conf.specs.ConfView.{conf_text}
use Rattle.session_auth.proofs.Sharers.{sharers_are}
use Rattle.session_auth.proofs.auth.with_password.Goals as goal

pub invariant_of-result : goal.invariant_of-result
invariant_of-result c =
    record { are = subst (λ (xs : List Address). AreAddresses xs) (sym c.in_ok-sharers.ensures) (sharers_are (conf_text c.args.conf.now) c.args.password.now (map address c.args.peers.addresses.items) (sym c.requires) c.args.peers.are) }
