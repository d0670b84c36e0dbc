use Rattle.std.proofs.Common.{◌<◌, List, map, subst, sym, arith, length}
use Rattle.ftn_addr.specs.Address.{Address, address}
use Rattle.binkp_args.specs.Command.{Adr}
use Rattle.binkp_args.specs.Writing.{IsKnown, argument_of}
use Rattle.session_auth.proofs.Shorts.{announced_short, announced_some}
use Rattle.session_auth.proofs.greeting.say_addresses.Goals as goal

pub say-requires-clause-known : goal.say-requires-clause-known
say-requires-clause-known c =
    subst (λ (xs : List Address). IsKnown (Adr xs)) (sym c.in_ok-told.ensures) (announced_some (map address c.args.addresses.now) c.requires)

pub say-requires-clause-fits : goal.say-requires-clause-fits
say-requires-clause-fits c =
    subst (λ (xs : List Address). length (argument_of (Adr xs)) < 32767) (sym c.in_ok-told.ensures) (let short = announced_short (map address c.args.addresses.now) in omega arith)
