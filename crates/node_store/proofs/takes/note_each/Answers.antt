use Rattle.std.proofs.Common.{◌≡◌, ◌<◌, ◌++◌, List, length, map, take, drop, get_or, set, sym, ◌∙◌, ap, arith}
use Rattle.node_store.specs.Takes.{noted}
use Rattle.node_store.specs.declared.takes.TakeName.{TakeName}
use Rattle.node_store.proofs.Grown.{seam, set_seam}
use Rattle.node_store.proofs.takes.note_each.Goals as goal

pub loop-standing-preserved : goal.loop-standing-preserved
loop-standing-preserved c =
    let g = noted c.args.take in
    let i = c.loop-standing.standing-index in
    let x = c.standing-item.result in
    let lt : i < length c.args.left.now = omega arith in
    let there : x ≡ get_or c.args.left.now i x = c.standing-item.is ∙ ap (λ (l : List TakeName). get_or l i x) c.loop-standing.invariant ∙ seam g c.args.left.now i x lt in
    ap (λ (l : List TakeName). set l i c.note.new.self) c.loop-standing.invariant
    ∙ ap (set (map g (take i c.args.left.now) ++ drop i c.args.left.now) i) (c.note.ensures ∙ ap g (sym c.standing-item.is))
    ∙ set_seam g c.args.left.now i x lt there
