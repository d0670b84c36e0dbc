use Rattle.std.proofs.Common.{◌==◌, not, map, rules}
use Rattle.std.proofs.lemmas.Fn.{filter_same}
use Rattle.node_model.specs.Lists.{some_passes}
use Rattle.node_model.specs.Stocks.{NewEntry}
use Rattle.node_model.specs.StoreWords.{entry_of}
use Rattle.node_store.specs.Stored.{Put}
use Rattle.node_store.proofs.queueing.unstage.Goals as goal

pub returns : goal.returns
returns c =
    filter_same _ (λ (p : Put). not (some_passes (λ (f : NewEntry). f.number == p.number) (map entry_of c.args.files.now))) _ (λ x b f' k. search rules) _ _ c.retain.ensures.filtered
