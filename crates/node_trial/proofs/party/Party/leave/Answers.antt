use Rattle.node_trial.proofs.party.Party.leave.Goals as goal

pub store_of-store-requires : goal.store_of-store-requires
store_of-store-requires c = rw c.into_inner.ensures c.self.invariant.is_ready
