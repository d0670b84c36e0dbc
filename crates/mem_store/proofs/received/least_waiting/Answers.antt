use Rattle.std.proofs.Common.{◌≡◌, ℕ, ◌+◌, ◌&&◌, List, [], ◌∷◌, ◌++◌, Option, take, sym, ◌∙◌, ap, subst}
use Rattle.std.proofs.lemmas.List.{take_more}
use Rattle.node_model.specs.Items.{Receipt}
use Rattle.node_model.specs.SendRows.{may_go}
use Rattle.mem_store.specs.Least.{Least, lesser, is_above}
use Rattle.mem_store.proofs.Leasts.{least_more}
use Rattle.mem_store.proofs.received.least_waiting.Goals as goal

pub loop-file-preserved : goal.loop-file-preserved
loop-file-preserved c =
    let xs = c.args.inbox.now in
    let i = c.loop-file.file-index in
    let x = c.file-item.result in
    let longer : take (i + 1) xs ≡ take i xs ++ x ∷ [] = take_more xs i x c.loop-file-test.true ∙ ap (λ (y : Receipt). take i xs ++ y ∷ []) (sym c.file-item.is) in
    let found : c.lesser-least.result ≡ lesser (may_go x && is_above c.args.above x.number) x.number c.loop-file.least = c.lesser-least.ensures ∙ (λ j. lesser (c.is_waiting-waits.ensures j) (c.number.ensures j) c.loop-file.least) in
    subst (λ (ys : List Receipt). Least (λ (y : Receipt). may_go y && is_above c.args.above y.number) (λ (y : Receipt). y.number) ys c.lesser-least.result) (sym longer) (subst (λ (o : Option ℕ). Least (λ (y : Receipt). may_go y && is_above c.args.above y.number) (λ (y : Receipt). y.number) (take i xs ++ x ∷ []) o) (sym found) (least_more (λ (y : Receipt). may_go y && is_above c.args.above y.number) (λ (y : Receipt). y.number) (take i xs) x c.loop-file.least c.loop-file.invariant))
