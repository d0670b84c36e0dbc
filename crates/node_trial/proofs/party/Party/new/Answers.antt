use Rattle.std.proofs.Common.{subst, sym}
use Rattle.node_trial.specs.Parties.{FitsHub}
use Rattle.node_trial.proofs.party.Party.new.Goals as goal

pub one_desk-requires : goal.one_desk-requires
one_desk-requires c = subst FitsHub (sym c.into_inner.ensures) c.requires
