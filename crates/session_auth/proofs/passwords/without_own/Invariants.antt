use Rattle.std.proofs.Common.{◌≡◌, map}
use Rattle.ftn_addr.specs.Address.{address}
use Rattle.session_auth.specs.Passwords.{without_own}
use Rattle.session_auth.proofs.passwords.without_own.Given as goal

abbrev pub invariant-loop-addr : goal.invariant-loop-addr
invariant-loop-addr l = map address l.others.items ≡ without_own (map address l.own) (map address l.yielded)
