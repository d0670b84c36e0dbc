use Rattle.std.proofs.Common.{List, ◌∙◌, ap, subst}
use Rattle.ftn_addr.specs.Address.{address}
use Rattle.node_model.specs.Items.{Entry}
use Rattle.node_model.specs.Stocks.{NextLive}
use Rattle.mem_store.proofs.Lookups.{next_told}
use Rattle.mem_store.specs.ListStates.{ListState}
use Rattle.mem_store.proofs.store_calls.ListStoreStore.next_live.Goals as goal

pub returns : goal.returns
returns c =
    next_told _ _ _ c.next_of.result (subst (λ (queue : List Entry). NextLive (address c.args.dest.now) c.args.after queue c.next_of.result) (c.as_slice.ensures.value ∙ ap (λ (s : ListState). s.queue) c.self.view_is) c.next_of.ensures)
