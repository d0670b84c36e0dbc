use Rattle.std.proofs.Common.{subst, sym}
use Rattle.node_trial.specs.Parties.{FitsHub}
use Rattle.node_trial.proofs.NewStores.{new_fits, opens_ready}
use Rattle.node_trial.proofs.node.open_store.Goals as goal

pub open-requires : goal.open-requires
open-requires c = record { ready = opens_ready c.args.disk c.what_is_read_is_ready.ensures c.requires }

pub returns : goal.returns
returns c =
    subst FitsHub (sym c.in_ok-new.ensures.ok) (new_fits c.in-Ok.store c.opens_soundly.ensures c.in-Ok.ensures.memory c.opens_as_told.ensures.stopped)
