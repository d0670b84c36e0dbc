use Rattle.std.proofs.Common.{◌≡◌, drop, map}
use Rattle.ftn_addr.specs.Address.{address}
use Rattle.mail_conf.specs.ConfView.{conf_text}
use Rattle.session_auth.specs.Passwords.{wanted_password}
use Rattle.session_auth.proofs.passwords.wanted_password.Given as goal

abbrev pub invariant-loop-peer : goal.invariant-loop-peer
invariant-loop-peer l =
    wanted_password (conf_text l.conf) (map address (drop l.peer-index l.peers)) ≡ wanted_password (conf_text l.conf) (map address l.peers)
