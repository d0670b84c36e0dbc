use Rattle.std.proofs.Common.{arith}
use Rattle.binkp_args.proofs.Unescaping.{one_byte}
use Rattle.binkp_args.proofs.names.unescape.Goals as goal

pub loop-rest-preserved : goal.loop-rest-preserved
loop-rest-preserved c =
    one_byte _ _ _ _ _ _ (omega arith) c.front-byte.ensures.byte c.front-byte.ensures.rest c.in_ok-push_slice.ensures.ok c.loop-rest.invariant
