use Rattle.std.proofs.Common.{◌≡◌, ◌==◌, ℕ, true, nat_lt, List, [], ◌∷◌, None, length, position, sym, ◌∙◌, ap, subst}
use Rattle.std.specs.List.{list_all}
use Rattle.node_model.specs.Items.{Entry}
use Rattle.node_model.specs.Stocks.{StagedOf}
use Rattle.node_model.specs.StoreWords.{IsNewBatch, entry_of}
use Rattle.mem_store.proofs.Batches.{batch_of_one}
use Rattle.mem_store.specs.ListStates.{ListState, state_of}
use Rattle.mem_store.specs.contracts.list_store.ListStore.{the_view}
use Rattle.mem_store.proofs.list_store.ListStore.is_batch.Goals as goal

pub returns : goal.returns
returns c = λ t.
    let s = the_view c.self.inside in
    let f = entry_of c.args.file.now in
    let x = c.index.result.now in
    let there = ap (position (λ (y : StagedOf (List ℕ)). y.number == f.number)) (sym c.as_slice.ensures.value) ∙ (sym c.place_staged.ensures ∙ c.in-Some.is) in
    let size : length x.content ≡ f.key.size = ap length (sym c.content.ensures) ∙ c.if-content-file.false in
    let lesser : list_all (λ (e : Entry). nat_lt e.number f.number) s.queue ≡ true = ap (list_all (λ (e : Entry). nat_lt e.number f.number)) (sym c.as_slice-2.ensures.value) ∙ (sym c.is_above.ensures ∙ t) in
    subst (λ (z : ListState). IsNewBatch None None (f ∷ []) (state_of z)) c.self.view_is (batch_of_one s f c.in-Some.place x c.requires there c.index.ensures size lesser)
