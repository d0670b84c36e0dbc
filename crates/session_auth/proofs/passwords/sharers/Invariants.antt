use Rattle.std.proofs.Common.{◌≡◌, map}
use Rattle.std.specs.Prelude.{filter}
use Rattle.ftn_addr.specs.Address.{address}
use Rattle.mail_conf.specs.ConfView.{conf_text}
use Rattle.session_auth.specs.Passwords.{shares}
use Rattle.session_auth.proofs.passwords.sharers.Given as goal

abbrev pub invariant-loop-addr : goal.invariant-loop-addr
invariant-loop-addr l = map address l.sharers.items ≡ filter (shares (conf_text l.conf) l.password) (map address l.yielded)
