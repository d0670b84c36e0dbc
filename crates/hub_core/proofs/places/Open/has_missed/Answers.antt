use Rattle.std.proofs.Common.{◌≡◌, ◌∙◌, sym, ap, List}
use Rattle.std.specs.List.{list_any}
use Rattle.ftn_addr.specs.declared.addr.FileKey.{FileKey}
use Rattle.ftn_addr.specs.Key.{Key, key_of, same_key}
use Rattle.node_model.proofs.StockMaps.{some-map}
use Rattle.hub_core.proofs.places.Open.has_missed.Goals as goal

pub returns : goal.returns
returns c =
    let a : c.has_missed.result ≡ list_any (λ (k : FileKey). same_key (key_of c.args.key.now) (key_of k)) c.deref.result.now = c.has_missed.ensures in
    a ∙ (ap (λ (items : List FileKey). list_any (λ (k : FileKey). same_key (key_of c.args.key.now) (key_of k)) items) c.deref.ensures.value ∙ sym (some-map key_of (λ (k : Key). same_key (key_of c.args.key.now) k) c.args.self.now.missed.items))
