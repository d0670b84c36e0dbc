use Rattle.std.proofs.Common.{◌≡◌, take}
use Rattle.binkp_args.specs.Escape.{escaped}
use Rattle.binkp_args.proofs.names.escape.Given as goal

abbrev pub invariant-loop-byte : goal.invariant-loop-byte
invariant-loop-byte l = l.word.list ≡ escaped (take l.byte-index l.name)
