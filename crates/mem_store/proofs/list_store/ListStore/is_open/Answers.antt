use Rattle.std.proofs.Common.{◌≡◌, Some, length, subst}
use Rattle.node_model.specs.Durable.{mark_map}
use Rattle.node_model.specs.Stocks.{part_in, sizes}
use Rattle.mem_store.specs.Comings.{part_of}
use Rattle.mem_store.specs.ListStates.{ListState, stock_of}
use Rattle.mem_store.specs.contracts.list_store.ListStore.{the_view}
use Rattle.mem_store.proofs.PartCalls.{part_here}
use Rattle.mem_store.proofs.list_store.ListStore.is_open.Goals as goal

pub returns-in-Some : goal.returns-in-Some
returns-in-Some c = λ t. record {
  part = mark_map length (part_of c.index.result.now);
  is = subst (λ (z : ListState). part_in c.args.part (sizes (stock_of z)).parts ≡ Some (mark_map length (part_of c.index.result.now))) c.self.view_is (part_here (the_view c.self.inside) c.args.part c.in-Some.place c.index.result.now c.as_slice.result.now _ c.self.invariant.0 c.as_slice.ensures.value c.position_of_part.ensures c.in-Some.is c.index.ensures);
  fits = c.fits.ensures.0 t;
}
