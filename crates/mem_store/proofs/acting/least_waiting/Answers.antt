use Rattle.std.proofs.Common.{◌≡◌, ℕ, ◌+◌, ◌&&◌, List, [], ◌∷◌, ◌++◌, Option, take, sym, ◌∙◌, ap, subst}
use Rattle.std.proofs.lemmas.List.{take_more}
use Rattle.ftn_addr.specs.Address.{address, same_address}
use Rattle.node_model.specs.Items.{Entry}
use Rattle.node_model.specs.SendRows.{waits_for_action}
use Rattle.mem_store.specs.Least.{Least, lesser}
use Rattle.mem_store.proofs.Leasts.{least_more}
use Rattle.mem_store.proofs.acting.least_waiting.Goals as goal

pub loop-file-preserved : goal.loop-file-preserved
loop-file-preserved c =
    let xs = c.args.queue.now in
    let i = c.loop-file.file-index in
    let x = c.file-item.result in
    let longer : take (i + 1) xs ≡ take i xs ++ x ∷ [] = take_more xs i x c.loop-file-test.true ∙ ap (λ (y : Entry). take i xs ++ y ∷ []) (sym c.file-item.is) in
    let found : c.lesser-least.result ≡ lesser (same_address (address c.args.dest.now) x.dest && waits_for_action x) x.number c.loop-file.least = c.lesser-least.ensures ∙ (λ j. lesser (c.is_waiting-waits.ensures j) (c.number.ensures j) c.loop-file.least) in
    subst (λ (ys : List Entry). Least (λ (y : Entry). same_address (address c.args.dest.now) y.dest && waits_for_action y) (λ (y : Entry). y.number) ys c.lesser-least.result) (sym longer) (subst (λ (o : Option ℕ). Least (λ (y : Entry). same_address (address c.args.dest.now) y.dest && waits_for_action y) (λ (y : Entry). y.number) (take i xs ++ x ∷ []) o) (sym found) (least_more (λ (y : Entry). same_address (address c.args.dest.now) y.dest && waits_for_action y) (λ (y : Entry). y.number) (take i xs) x c.loop-file.least c.loop-file.invariant))
