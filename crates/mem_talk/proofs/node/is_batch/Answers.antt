use Rattle.std.proofs.Common.{◌≡◌, ◌==◌, ℕ, true, nat_lt, List, length, position, get_or, sym, ◌∙◌, ap}
use Rattle.std.specs.List.{list_all}
use Rattle.node_model.specs.Items.{Entry}
use Rattle.node_model.specs.Stocks.{StagedOf}
use Rattle.node_model.specs.StoreWords.{entry_of}
use Rattle.mem_store.proofs.Batches.{batch_of_one}
use Rattle.mem_talk.proofs.node.is_batch.Goals as goal

pub returns : goal.returns
returns c = λ t.
    let s = c.args.store.now in
    let f = entry_of c.args.file.now in
    let x = c.index-staged-place.result in
    let there = ap (position (λ (y : StagedOf (List ℕ)). y.number == f.number)) (sym c.staged-staged.ensures) ∙ (sym c.place_staged.ensures ∙ c.in-Some.is) in
    let is = c.index-staged-place.is ∙ ap (λ xs. get_or xs c.in-Some.place x) c.staged-staged.ensures in
    let size : length x.content ≡ f.key.size = ap length (sym c.content.ensures) ∙ c.if-content-file.false in
    let lesser : list_all (λ (e : Entry). nat_lt e.number f.number) s.queue ≡ true = ap (list_all (λ (e : Entry). nat_lt e.number f.number)) (sym c.entries.ensures) ∙ (sym c.is_above.ensures ∙ t) in
    batch_of_one s f c.in-Some.place x c.requires there is size lesser
