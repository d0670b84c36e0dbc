use Rattle.std.proofs.Common.{◌<◌, length, sym, subst}
use Rattle.ftn_addr.specs.Key.{Key, key_of}
use Rattle.binkp_args.specs.Command.{File}
use Rattle.binkp_args.specs.Writing.{argument_of}
use Rattle.session_send.proofs.saying.say_file.Goals as goal

pub write_command-requires-clause-fits : goal.write_command-requires-clause-fits
write_command-requires-clause-fits c =
    subst (λ (k : Key). length (argument_of (File k c.args.place)) < 32767) (sym c.in_ok-key.ensures) (c.fits_a_frame.ensures (File (key_of c.args.key.now) c.args.place) c.requires)
