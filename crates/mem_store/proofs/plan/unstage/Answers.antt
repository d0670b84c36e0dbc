use Rattle.std.proofs.Common.{not, map, List, ℕ, rules}
use Rattle.std.proofs.lemmas.Fn.{filter_same}
use Rattle.node_model.specs.Stocks.{StagedOf, is_listed}
use Rattle.node_model.specs.StoreWords.{entry_of}
use Rattle.mem_store.proofs.plan.unstage.Goals as goal

pub returns : goal.returns
returns c =
    filter_same _ (λ (s : StagedOf (List ℕ)). not (is_listed (map entry_of c.args.files.now) s)) _ (λ x b f' k. search rules) _ _ c.retain.ensures.filtered
