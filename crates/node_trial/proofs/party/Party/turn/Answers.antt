use Rattle.node_trial.proofs.party.Party.turn.Goals as goal

pub turned-requires : goal.turned-requires
turned-requires c = rw (c.deref_mut.ensures.value, c.replace-told.ensures.value) c.self.invariant
