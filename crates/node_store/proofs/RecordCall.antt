-- A call that makes a file durable and then records it: what a stop may leave since it began, and what holds after it.
use Rattle.std.proofs.Common.{◌≡◌, ◌⊎◌, inl, inr, ⊎_elim, ℕ, ◌<◌, ◌≤◌, List, [], ◌∷◌, ◌++◌, Option, Some, None, Ok, Bool, true, refl, sym, ◌∙◌, ap, subst, arith}
use Rattle.disk_model.specs.World.{World}
use Rattle.disk_model.specs.Changes.{Every}
use Rattle.disk_model.specs.Moments.{Now, Leaves}
use Rattle.ledger_file.specs.Ledger.{LedgerIs}
use Rattle.ledger_rec.specs.Fold.{State, fold_step}
use Rattle.ledger_rec.specs.Payloads.{record_in, fold_of}
use Rattle.ledger_rec.specs.Record.{RecordText}
use Rattle.node_model.specs.declared.store.StoreFault.TheVariants.{Disk}
use Rattle.node_model.specs.Calls.{Counts}
use Rattle.node_model.specs.StoreStates.{Shelf, shelf_of, StoreState}
use Rattle.node_model.specs.Stores.{StoreCall, StoreKept, StoreDoes, BreaksStore, StorePasses, Before_it, After_it, Well, Refuses, OpensShelf, IsShelf}
use Rattle.node_store.specs.Recording.{IsSynced, Records}
use Rattle.node_store.specs.Stored.{Memory, stored_in, state_of, left_of, IsKept}
use Rattle.node_store.specs.Worlds.{shelf_in, HasFiles, OpensAs}
use Rattle.node_store.proofs.Alike.{ledger_alike, alike_shelf, alike_files}
use Rattle.node_store.proofs.Calls.{standing, is_told}
use Rattle.node_store.proofs.Openings.{opens_to}
use Rattle.node_store.proofs.Recorded.{fold_recorded}

-- What such a call is given: that the disk was in order, what the record does to the fold, and that a world with that file and
-- one record more opens to that shelf.
pub record IsRecording {D : Type 0} (tells : Bool) (content : D → World) (files : D → World → Type 0) (moment : D → ℕ) (images : D → ℕ → World → Type 0) (old new : D) (m : Memory) (name payload : List ℕ) (r : RecordText) (t : State) (after : Shelf) : Type 0 where
  pub folds : fold_of m.books.payloads ≡ Some m.books.folding.state
  pub kept : Every (Now moment images old) (IsKept tells (content old) m)
  pub spells : record_in payload ≡ Ok r
  pub step : fold_step m.books.folding.state r ≡ Some t
  pub reads : (d : D) (w : World) → files d w → (tells ≡ true) × (w ≡ content d)
  pub run : Leaves moment images (Records (files old) name m.books.payloads (payload ∷ [])) old new
  pub opens : tells ≡ true → (c : World) → HasFiles m.books.folding.state c → shelf_in c m.books.folding.state ≡ shelf_of (stored_in (content old) m) → c.own name ≡ (content old).own name → HasFiles t c × (shelf_in c t ≡ after)

module _ {D : Type 0} (tells : Bool) (content : D → World) (files : D → World → Type 0) (faults moment : D → ℕ) (images : D → ℕ → World → Type 0) (old new : D) (m : Memory) (name payload : List ℕ) (r : RecordText) (t : State) (after : Shelf)
    (p : IsRecording tells content files moment images old new m name payload r t after) where
  -- with the record
  recorded_there : tells ≡ true → (d c : World) → IsKept tells (content old) m d → Records (files old) name m.books.payloads (payload ∷ []) d c → IsSynced (files old) name c → HasFiles t c × (shelf_in c t ≡ after)
  recorded_there told d c kept step synced =
      let alike = ledger_alike m.books.folding.state d c step.others in
      p.opens told c (alike_files m.books.folding.state d c (kept.files told) alike) (alike_shelf m.books.folding.state d c (kept.files told) alike ∙ kept.same told)
      (synced.2 ∙ ap (λ (w : World). w.own name) (p.reads old synced.0 synced.1).1)

  new_folds : fold_of (m.books.payloads ++ payload ∷ []) ≡ Some t
  new_folds = fold_recorded m.books.payloads payload r m.books.folding.state t p.folds p.spells p.step

  -- what one image opens to
  opens_there : tells ≡ true → (d c : World) → IsKept tells (content old) m d → Records (files old) name m.books.payloads (payload ∷ []) d c
      → (shelf : Shelf) × OpensAs c shelf × ((shelf ≡ shelf_of (stored_in (content old) m)) ⊎ (shelf ≡ after))
  opens_there told d c kept step = ⊎_elim
      (λ (before : LedgerIs m.books.payloads c).
      let alike = ledger_alike m.books.folding.state d c step.others in (
        shelf_in c m.books.folding.state,
        record { payloads = m.books.payloads; ledger = inl before; state = m.books.folding.state; folds = p.folds; files = alike_files m.books.folding.state d c (kept.files told) alike; is = refl },
        inl (alike_shelf m.books.folding.state d c (kept.files told) alike ∙ kept.same told),
      ))
      (λ (now : LedgerIs (m.books.payloads ++ payload ∷ []) c × IsSynced (files old) name c).
      let there = recorded_there told d c kept step now.1 in (
        shelf_in c t,
        record { payloads = m.books.payloads ++ payload ∷ []; ledger = inl now.0; state = t; folds = new_folds; files = there.0; is = refl },
        inr there.1,
      ))
      step.ledger

  module _ (asked : StoreCall) (would : StoreState) (does : StoreDoes (state_of tells (content old) (faults old) m) asked Well would) (told_would : tells ≡ true → IsShelf would.content after) where
    since : (k : ℕ) (o : Option Shelf) → moment old < k → k ≤ moment new → left_of tells (images new) k o → OpensShelf (StorePasses (state_of tells (content old) (faults old) m) asked) o
    since k o from to left =
        let was = p.run.each k left.1 (omega (arith, from)) to left.2 in
        let now = opens_there left.0 was.0 left.1 (p.kept was.0 was.1) was.2 in
        opens_to (StorePasses (state_of tells (content old) (faults old) m) asked) left.1 now.0 now.1
        (⊎_elim
        (λ before. Before_it (is_told tells left.0 (content old) (faults old) m now.0 before))
        (λ more. After_it Well would does (subst (IsShelf would.content) (sym more) (told_would left.0)))
        now.2) o left.3

    -- the disk failed
    pub recorded_failed : (m' : Memory) → BreaksStore asked (state_of tells (content old) (faults old) m) (state_of tells (content new) (faults new) m')
        → StoreKept (standing tells content faults moment images old m) asked (Refuses Disk) (standing tells content faults moment images new m')
    recorded_failed m' made = record {
      made = made;
      later = p.run.grew.later;
      before = λ k o le left. (left.0, left.1, p.run.grew.before k left.1 le left.2, left.3);
      since = since;
      now = λ whole. absurd (let clash : Some (faults new) ≡ None = sym (ap (λ (c : Counts). c.broken) made.counts) ∙ whole in cc);
    }

  -- the record is durable
  module _ (durable : Every (Now moment images new) (LedgerIs (m.books.payloads ++ payload ∷ []))) (synced : Every (Now moment images new) (IsSynced (files old) name)) where
    now_there : tells ≡ true → (c : World) → Now moment images new c → HasFiles t c × (shelf_in c t ≡ after)
    now_there told c image =
        let was = p.run.each (moment new) c p.run.grew.later (omega arith) image in
        recorded_there told was.0 c (p.kept was.0 was.1) was.2 (synced c image)

    -- each image now is kept by a memory with that record
    pub recorded_now : (m' : Memory) → m'.books.payloads ≡ m.books.payloads ++ payload ∷ [] → m'.books.folding.state ≡ t → (tells ≡ true → shelf_of (stored_in (content new) m') ≡ after)
        → Every (Now moment images new) (IsKept tells (content new) m')
    recorded_now m' payloads state told c image = record {
      ledger = subst (λ (ps : List (List ℕ)). LedgerIs ps c) (sym payloads) (durable c image);
      files = λ is. subst (λ (s : State). HasFiles s c) (sym state) (now_there is c image).0;
      same = λ is. ap (shelf_in c) state ∙ (now_there is c image).1 ∙ sym (told is);
    }

    pub recorded_kept : (asked : StoreCall) (m' : Memory) → StoreDoes (state_of tells (content old) (faults old) m) asked Well (state_of tells (content new) (faults new) m')
        → (tells ≡ true → shelf_of (stored_in (content new) m') ≡ after)
        → StoreKept (standing tells content faults moment images old m) asked Well (standing tells content faults moment images new m')
    recorded_kept asked m' does told = record {
      made = does;
      later = p.run.grew.later;
      before = λ k o le left. (left.0, left.1, p.run.grew.before k left.1 le left.2, left.3);
      since = since asked (state_of tells (content new) (faults new) m') does (λ is. is_told tells is (content new) (faults new) m' after (sym (told is)));
      now = λ whole o left.
          let there = now_there left.0 left.1 left.2 in
          opens_to (IsShelf (state_of tells (content new) (faults new) m').content) left.1 (shelf_in left.1 t)
          (record { payloads = m.books.payloads ++ payload ∷ []; ledger = inl (durable left.1 left.2); state = t; folds = new_folds; files = there.0; is = refl })
          (is_told tells left.0 (content new) (faults new) m' (shelf_in left.1 t) (there.1 ∙ sym (told left.0))) o left.3;
    }
