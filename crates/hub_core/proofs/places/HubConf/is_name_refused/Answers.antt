use Rattle.std.proofs.Common.{◌≡◌, ◌∙◌, sym, ap, List, ℕ}
use Rattle.std.specs.List.{list_any}
use Rattle.ftn_addr.specs.Content.{Content}
use Rattle.node_model.specs.Rows.{ends_with}
use Rattle.node_model.proofs.StockMaps.{some-map}
use Rattle.hub_core.proofs.places.HubConf.is_name_refused.Goals as goal

pub returns : goal.returns
returns c =
    let a : c.has_refused_end.result ≡ list_any (λ (b : Content). ends_with c.as_slice.result.now b.list) c.deref.result.now = c.has_refused_end.ensures in
    let b = ap (λ (name : List ℕ). list_any (λ (b : Content). ends_with name b.list) c.deref.result.now) c.as_slice.ensures in
    let e = ap (λ (items : List Content). list_any (λ (b : Content). ends_with c.args.key.now.name.list b.list) items) c.deref.ensures.value in
    a ∙ (b ∙ (e ∙ sym (some-map (λ (b : Content). b.list) (λ (text : List ℕ). ends_with c.args.key.now.name.list text) c.args.self.now.refuse_names.items)))
