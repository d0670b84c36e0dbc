use Rattle.std.proofs.Common.{◌≡◌, ◌==◌, ℕ, List, [], ◌∷◌, ◌++◌, Option, OnOk, sym, ◌∙◌, ap, subst}
use Rattle.node_model.specs.Items.{Entry}
use Rattle.node_model.specs.Stocks.{StagedOf, entry_with, queue_staged}
use Rattle.node_model.specs.StoreWords.{entry_of}
use Rattle.mem_store.proofs.Places.{found_at, found_none}
use Rattle.mem_store.proofs.plan.add_entry.Goals as goal

pub returns-in_default : goal.returns-in_default
returns-in_default c =
    let number = (entry_of c.args.file.now).number in
    let none = found_none (λ (s : StagedOf (List ℕ)). s.number == number) c.args.staged.now (sym c.place_staged.ensures ∙ c.in_default.is) in
    ap (λ (o : Option (StagedOf (List ℕ))). queue_staged (entry_of c.args.file.now) o c.args.fresh.now.items) (sym none)

pub returns : goal.returns
returns c =
    let number = (entry_of c.args.file.now).number in
    let x = c.index-staged-place.result in
    let found = found_at (λ (s : StagedOf (List ℕ)). s.number == number) c.args.staged.now c.in-Some.place x (sym c.place_staged.ensures ∙ c.in-Some.is) c.index-staged-place.is in
    let made : c.in_ok-entry.entry ≡ entry_with (entry_of c.args.file.now) x.content = c.in_ok-entry.ensures ∙ ap (entry_with (entry_of c.args.file.now)) c.content.ensures in
    subst (λ (o : Option (StagedOf (List ℕ))). OnOk c.add.result (c.add.new.list.items ≡ queue_staged (entry_of c.args.file.now) o c.args.fresh.now.items)) (sym found) (subst (λ (e : Entry). OnOk c.add.result (c.add.new.list.items ≡ c.args.fresh.now.items ++ e ∷ [])) made c.add.ensures.ok)
