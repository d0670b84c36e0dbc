use Rattle.std.proofs.Common.{◌≡◌, List, [], ◌∷◌, ◌++◌, map, sym, ap, ◌∙◌, subst}
use Rattle.std.specs.BTreeSet.{insert_key}
use Rattle.std.proofs.lemmas.List.{map-append}
use Rattle.ftn_addr.specs.contracts.addr.AddrOrd.TheImpl.{cmp-value}
use Rattle.ftn_addr.specs.declared.addr.Addr.{Addr}
use Rattle.mail_conf.proofs.KnownAddresses.{tracks_more}
use Rattle.mail_conf.specs.Host.{NodeText}
use Rattle.mail_conf.specs.Known.{Tracks}
use Rattle.mail_conf.specs.Views.{node_text}
use Rattle.mail_conf.proofs.nodes.NodeList.with.Goals as goal

pub invariant_of-result : goal.invariant_of-result
invariant_of-result c =
    let nodes = map node_text c.self.inside.list.items in
    let keys = insert_key cmp-value.it c.self.inside.known.keys c.in_ok-copy.field-0 in
    let pushed : map node_text c.push.new.self.items ≡ nodes ++ node_text c.args.node ∷ [] = ap (map node_text) c.in_ok-push.ensures.items ∙ map-append node_text c.self.inside.list.items (c.args.node ∷ []) in
    let more : Tracks (nodes ++ node_text c.args.node ∷ []) keys = tracks_more nodes c.self.inside.known.keys (node_text c.args.node) c.in_ok-copy.field-0 c.in_ok-copy.ensures c.self.invariant in
    subst (λ (ks : List Addr). Tracks (map node_text c.push.new.self.items) ks) (sym c.in_ok-insert.ensures.keys) (subst (λ (ns : List NodeText). Tracks ns keys) (sym pushed) more)
