use Rattle.std.proofs.Common.{subst, sym}
use Rattle.node_trial.specs.Parties.{FitsHub}
use Rattle.node_trial.proofs.node.TrialNode.of.Goals as goal

pub invariant_of-result : goal.invariant_of-result
invariant_of-result c = subst FitsHub (sym c.in_ok-store.ensures.ok) c.requires
