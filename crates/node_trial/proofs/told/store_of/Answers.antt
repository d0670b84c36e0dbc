use Rattle.node_trial.proofs.told.store_of.Goals as goal

-- A store that sessions have left fits any hub.
pub returns : goal.returns
returns c = c.into_store.ensures.whole c.args.desk.seat c.requires
