use Rattle.std.proofs.Common.{List, ◌∷◌, ◌++◌, [], map, reverse, take, ◌∙◌, sym, subst, ap}
use Rattle.std.specs.Prelude.{option_copied}
use Rattle.std.proofs.lemmas.List.{map_more}
use Rattle.ftn_addr.specs.Address.{Address, address}
use Rattle.hub_core.specs.Indices.{KeptIf}
use Rattle.hub_core.specs.Sending.{NextFree}
use Rattle.hub_core.proofs.Going.{behind_first, behind_other}
use Rattle.hub_core.proofs.Walking.{join_free}
use Rattle.hub_core.proofs.sending.next_for.Goals as goal

pub next_free-least-requires : goal.next_free-least-requires
next_free-least-requires g c =
    behind_first (address c.args.first.now) (map address c.args.others.now) (reverse c.args.skips.now.list.items) (g.S.Store.stand c.args.store.now).state.stock.state.queue c.args.passed c.requires

pub next_free-requires : goal.next_free-requires
next_free-requires g c =
    behind_other address (address c.args.first.now) c.args.others.now c.loop-peer.peer-index c.peer-item.result (reverse c.args.skips.now.list.items) (g.S.Store.stand c.args.store.now).state.stock.state.queue c.args.passed c.loop-peer-test.true (sym c.peer-item.is) c.requires

pub loop-peer-preserved : goal.loop-peer-preserved
loop-peer-preserved g c =
    let queue = (g.S.Store.stand c.args.store.now).state.stock.state.queue in
    let back = KeptIf (option_copied c.args.claims) (reverse c.args.skips.now.list.items) in
    let others = c.args.others.now in
    let peer = c.peer-item.result in
    let first = address c.args.first.now in
    let was = map address (take c.loop-peer.peer-index others) in
    let grown = map_more address others c.loop-peer.peer-index peer c.loop-peer-test.true ∙ ap (λ x. was ++ address x ∷ []) (sym c.peer-item.is) in
    subst (λ (ds : List Address). NextFree (first ∷ ds) back queue c.earlier-least.result) (sym grown)
    (join_free (first ∷ was) (address peer ∷ []) back queue c.loop-peer.least c.next_free.result c.earlier-least.result c.loop-peer.invariant c.next_free.ensures c.earlier-least.ensures)
