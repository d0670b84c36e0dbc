use Rattle.std.proofs.Common.{◌≡◌, ◌<◌, ◌++◌, List, length, map, take, drop, get_or, set, sym, ◌∙◌, ap, arith}
use Rattle.node_store.specs.Stored.{Part, grown}
use Rattle.node_store.proofs.Grown.{seam, set_seam}
use Rattle.node_store.proofs.part.grow_each.Goals as goal

pub loop-part-preserved : goal.loop-part-preserved
loop-part-preserved c =
    let g = grown c.args.number c.args.more in
    let i = c.loop-part.part-index in
    let x = c.part-item.result in
    let lt : i < length c.args.parts.now = omega arith in
    let there : x ≡ get_or c.args.parts.now i x = c.part-item.is ∙ ap (λ (l : List Part). get_or l i x) c.loop-part.invariant ∙ seam g c.args.parts.now i x lt in
    ap (λ (l : List Part). set l i c.grow.new.self) c.loop-part.invariant
    ∙ ap (set (map g (take i c.args.parts.now) ++ drop i c.args.parts.now) i) (c.grow.ensures ∙ ap g (sym c.part-item.is))
    ∙ set_seam g c.args.parts.now i x lt there
