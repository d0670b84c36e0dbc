-- What a call that acts needs of the store on a disk: no two queued files have one number.
use Rattle.std.proofs.Common.{◌≡◌, ℕ, Bool, true, false, List, [], ◌∷◌, map, refl, sym, ◌∙◌, ap, subst}
use Rattle.disk_model.specs.World.{World}
use Rattle.ledger_rec.specs.Items as F
use Rattle.node_model.specs.Items.{Entry, EntryOf}
use Rattle.node_model.specs.StoreStates.{Shelf, shelf_of}
use Rattle.node_store.specs.Contents.{Contents, entry_by}
use Rattle.node_store.specs.Numbers.{AreDifferent}
use Rattle.node_store.specs.Stored.{Holding, sizes_in, stand_of, stored_in, told_in}
use Rattle.node_store.specs.Tied.{tied}
use Rattle.node_store.specs.Worlds.{OpensAs, contents_in}
use Rattle.node_store.proofs.Found.{only_one}
use Rattle.node_store.proofs.Numbered.{numbered_fold}
use Rattle.outbound_store.proofs.ActKept.{ActReady}

numbers_by : {B : Type 0} (c : Contents B) (queue : List F.Entry) → map (λ (e : EntryOf B). e.number) (map (entry_by c) queue) ≡ map (λ (e : F.Entry). e.number) queue
numbers_by c [] = refl
numbers_by c (e ∷ queue) = ap (λ (numbers : List ℕ). e.number ∷ numbers) (numbers_by c queue)

different : (w : World) (shelf : Shelf) → OpensAs w shelf → AreDifferent (map (λ (e : Entry). e.number) shelf.state.queue)
different w shelf opens =
    subst (λ (x : Shelf). AreDifferent (map (λ (e : Entry). e.number) x.state.queue)) (sym opens.is)
    (subst AreDifferent (sym (numbers_by (contents_in w) opens.state.queue)) (numbered_fold opens.payloads opens.state opens.folds).queue)

pub act_ready : {D : Type 0} (tells : Bool) (content : D → World) (faults moment : D → ℕ) (images : D → ℕ → World → Type 0) (s : Holding D)
    → (tells ≡ true → OpensAs (content s.disk) (shelf_of (stored_in (content s.disk) s.memory))) → ActReady (stand_of tells content faults moment images s).state
act_ready {D} true content faults moment images s opens = record {
  outline = (tied true (content s.disk) (faults s.disk) s.memory).sizes.0;
  one = λ x y a b same. only_one (λ (e : EntryOf ℕ). e.number) x y (map (entry_by (sizes_in true (content s.disk) s.memory.given)) s.memory.books.folding.state.queue) apart a b same;
}
  where
    apart : AreDifferent (map (λ (e : EntryOf ℕ). e.number) (map (entry_by (sizes_in true (content s.disk) s.memory.given)) s.memory.books.folding.state.queue))
    apart = subst AreDifferent (numbers_by (told_in (content s.disk) s.memory.given) s.memory.books.folding.state.queue ∙ sym (numbers_by (sizes_in true (content s.disk) s.memory.given) s.memory.books.folding.state.queue)) (different (content s.disk) (shelf_of (stored_in (content s.disk) s.memory)) (opens refl))
act_ready {D} false content faults moment images s opens = record { outline = tt; one = tt }
