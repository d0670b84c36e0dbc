use Rattle.std.proofs.Common.{Some, subst}
use Rattle.node_model.specs.StoreWords.{IsOpenRequest}
use Rattle.mem_store.specs.ListStates.{ListState, state_of}
use Rattle.mem_store.specs.contracts.list_store.ListStore.{the_view}
use Rattle.mem_store.proofs.Standing.{request_here}
use Rattle.mem_store.proofs.list_store.ListStore.is_open_request.Goals as goal

pub returns-in-Some : goal.returns-in-Some
returns-in-Some c = λ t. subst (λ (z : ListState). IsOpenRequest (Some c.args.number) (state_of z).stock.state.inbox) c.self.view_is (request_here (the_view c.self.inside) c.args.number c.in-Some.place c.index.result.now c.as_slice.result.now _ c.as_slice.ensures.value c.position_of_receipt.ensures c.in-Some.is c.index.ensures (c.is_open_request.ensures.request t) (c.is_open_request.ensures.open t))
