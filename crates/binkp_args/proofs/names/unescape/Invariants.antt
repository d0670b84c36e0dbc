use Rattle.std.proofs.Common.{◌≡◌, ◌++◌, length}
use Rattle.binkp_args.specs.Escape.{unescaped}
use Rattle.binkp_args.proofs.names.unescape.Given as goal

abbrev pub invariant-loop-rest : goal.invariant-loop-rest
invariant-loop-rest l = l.name.list ++ unescaped l.rest ≡ unescaped l.word

abbrev pub decreases-loop-rest : goal.decreases-loop-rest
decreases-loop-rest l = length l.rest
