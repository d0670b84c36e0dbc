use Rattle.std.proofs.Common.{take}
use Rattle.bso_outbound.specs.declared.kind.TheConstants.{KINDS}
use Rattle.bso_outbound.proofs.KindNames.{NoneEnds}
use Rattle.bso_outbound.proofs.kind.kind_of.Given as goal

abbrev pub invariant-loop-kind : goal.invariant-loop-kind
invariant-loop-kind l = NoneEnds l.end (take l.kind-index KINDS)
