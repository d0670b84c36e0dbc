use Rattle.std.proofs.Common.{◌==◌, sym, ◌∙◌, ap}
use Rattle.std.specs.List.{list_any}
use Rattle.node_model.specs.declared.store.NewFile.{NewFile}
use Rattle.node_model.specs.Stocks.{NewEntry}
use Rattle.node_model.specs.StoreWords.{entry_of}
use Rattle.node_model.proofs.StockMaps.{some-map}
use Rattle.mem_store.proofs.plan.is_among.Goals as goal

pub returns : goal.returns
returns c =
    c.has_number.ensures ∙ (ap (λ n. list_any (λ (f : NewFile). f.number == n) c.args.files.now) c.number.ensures ∙ sym (some-map entry_of (λ (f : NewEntry). f.number == c.args.file.now.number) c.args.files.now))
