use Rattle.std.proofs.Common.{subst}
use Rattle.node_model.specs.Stores.{IsKept}
use Rattle.mem_store.specs.ListStates.{ListState, state_of}
use Rattle.mem_store.specs.contracts.list_store.ListStore.{the_view}
use Rattle.mem_store.proofs.Standing.{kept_here}
use Rattle.mem_store.proofs.list_store.ListStore.is_kept.Goals as goal

pub returns-in-Some : goal.returns-in-Some
returns-in-Some c = λ t. subst (λ (z : ListState). IsKept c.args.number (state_of z)) c.self.view_is (kept_here (the_view c.self.inside) c.args.number c.in-Some.place c.index.result.now c.as_slice.result.now _ c.as_slice.ensures.value c.position_of_receipt.ensures c.in-Some.is c.index.ensures (c.is_kept.ensures.given t) (c.is_kept.ensures.some t))
