-- A call that appends records in one durable change: what a stop may leave since it began, and what holds after it.
use Rattle.std.proofs.Common.{◌≡◌, ◌⊎◌, inl, inr, ⊎_elim, ℕ, ◌<◌, ◌≤◌, List, ◌++◌, Option, Some, None, Bool, true, refl, sym, ◌∙◌, ap, subst, arith}
use Rattle.disk_model.specs.World.{World}
use Rattle.disk_model.specs.Changes.{Every}
use Rattle.disk_model.specs.Moments.{Now, Leaves}
use Rattle.ledger_file.specs.Ledger.{LedgerIs, Appends}
use Rattle.ledger_rec.specs.Fold.{State}
use Rattle.ledger_rec.specs.Payloads.{fold_of}
use Rattle.node_model.specs.declared.store.StoreFault.TheVariants.{Disk}
use Rattle.node_model.specs.Calls.{Counts}
use Rattle.node_model.specs.StoreStates.{Shelf, shelf_of, StoreState}
use Rattle.node_model.specs.Stores.{StoreCall, StoreAnswer, StoreMade, StoreKept, StoreDoes, BreaksStore, StorePasses, Before_it, After_it, Refuses, OpensShelf, IsShelf}
use Rattle.node_store.specs.Planned.{Adds}
use Rattle.node_store.specs.Stored.{Memory, stored_in, state_of, left_of, IsKept}
use Rattle.node_store.specs.Worlds.{shelf_in, HasFiles, OpensAs}
use Rattle.node_store.proofs.Alike.{ledger_alike, alike_shelf, alike_files}
use Rattle.node_store.proofs.Calls.{standing, is_told}
use Rattle.node_store.proofs.Openings.{opens_to}

-- nothing is said beside the ledger
abbrev pub Any : World → Type 0
Any w = Unit {0}

module _ {D : Type 0} (moment : D → ℕ) (images : D → ℕ → World → Type 0) where
  pub adds_of : (before more : List (List ℕ)) (old new : D) → Leaves moment images (Appends before more) old new → Leaves moment images (Adds Any before more) old new
  adds_of before more old new run = record {
    grew = run.grew;
    each = λ k c from to image.
        let was = run.each k c from to image in
        (was.0, was.1, record { others = was.2.others; ledger = ⊎_elim (λ l. inl l) (λ l. inr (l, tt)) was.2.ledger });
  }

-- What such a call is given: that the disk was in order, what the records do to the fold, and that a world with them opens to
-- that shelf.
pub record IsAppending {D : Type 0} (tells : Bool) (content : D → World) (moment : D → ℕ) (images : D → ℕ → World → Type 0) (old new : D) (m : Memory) (P : World → Type 0) (more : List (List ℕ)) (t : State) (after : Shelf) : Type 0 where
  pub folds : fold_of m.books.payloads ≡ Some m.books.folding.state
  pub kept : Every (Now moment images old) (IsKept tells (content old) m)
  pub more_folds : fold_of (m.books.payloads ++ more) ≡ Some t
  pub run : Leaves moment images (Adds P m.books.payloads more) old new
  pub opens : tells ≡ true → (c : World) → HasFiles m.books.folding.state c → shelf_in c m.books.folding.state ≡ shelf_of (stored_in (content old) m) → P c → HasFiles t c × (shelf_in c t ≡ after)

-- such an answer is one of a call that was made
abbrev pub IsMade : StoreCall → StoreAnswer → Type 0
IsMade asked answer = (s t : StoreState) → StoreDoes s asked answer t → StoreMade s asked answer t

module _ {D : Type 0} (tells : Bool) (content : D → World) (faults moment : D → ℕ) (images : D → ℕ → World → Type 0) (old new : D) (m : Memory) (P : World → Type 0) (more : List (List ℕ)) (t : State) (after : Shelf)
    (p : IsAppending tells content moment images old new m P more t after) where
  -- with the records
  added_there : tells ≡ true → (d c : World) → IsKept tells (content old) m d → Adds P m.books.payloads more d c → P c → HasFiles t c × (shelf_in c t ≡ after)
  added_there told d c kept step has =
      let alike = ledger_alike m.books.folding.state d c step.others in
      p.opens told c (alike_files m.books.folding.state d c (kept.files told) alike) (alike_shelf m.books.folding.state d c (kept.files told) alike ∙ kept.same told) has

  -- what one image opens to
  opens_there : tells ≡ true → (d c : World) → IsKept tells (content old) m d → Adds P m.books.payloads more d c
      → (shelf : Shelf) × OpensAs c shelf × ((shelf ≡ shelf_of (stored_in (content old) m)) ⊎ (shelf ≡ after))
  opens_there told d c kept step = ⊎_elim
      (λ (before : LedgerIs m.books.payloads c).
      let alike = ledger_alike m.books.folding.state d c step.others in (
        shelf_in c m.books.folding.state,
        record { payloads = m.books.payloads; ledger = inl before; state = m.books.folding.state; folds = p.folds; files = alike_files m.books.folding.state d c (kept.files told) alike; is = refl },
        inl (alike_shelf m.books.folding.state d c (kept.files told) alike ∙ kept.same told),
      ))
      (λ (now : LedgerIs (m.books.payloads ++ more) c × P c).
      let there = added_there told d c kept step now.1 in (
        shelf_in c t,
        record { payloads = m.books.payloads ++ more; ledger = inl now.0; state = t; folds = p.more_folds; files = there.0; is = refl },
        inr there.1,
      ))
      step.ledger

  -- a fact of what was told before and of what will be holds of every image since
  module _ (Passes : Shelf → Type 0) (before : tells ≡ true → Passes (shelf_of (stored_in (content old) m))) (later : tells ≡ true → Passes after) where
    pub opens_since : (k : ℕ) (o : Option Shelf) → moment old < k → k ≤ moment new → left_of tells (images new) k o → OpensShelf Passes o
    opens_since k o from to left =
        let was = p.run.each k left.1 (omega (arith, from)) to left.2 in
        let now = opens_there left.0 was.0 left.1 (p.kept was.0 was.1) was.2 in
        opens_to Passes left.1 now.0 now.1 (⊎_elim (λ same. subst Passes (sym same) (before left.0)) (λ more. subst Passes (sym more) (later left.0)) now.2) o left.3

  module _ (asked : StoreCall) (answer : StoreAnswer) (would : StoreState) (does : StoreDoes (state_of tells (content old) (faults old) m) asked answer would) (told_would : tells ≡ true → IsShelf would.content after) where
    since : (k : ℕ) (o : Option Shelf) → moment old < k → k ≤ moment new → left_of tells (images new) k o → OpensShelf (StorePasses (state_of tells (content old) (faults old) m) asked) o
    since = opens_since (StorePasses (state_of tells (content old) (faults old) m) asked)
        (λ t. Before_it (is_told tells t (content old) (faults old) m (shelf_of (stored_in (content old) m)) refl)) (λ t. After_it answer would does (told_would t))

    -- the disk failed
    pub appended_failed : (m' : Memory) → BreaksStore asked (state_of tells (content old) (faults old) m) (state_of tells (content new) (faults new) m')
        → StoreKept (standing tells content faults moment images old m) asked (Refuses Disk) (standing tells content faults moment images new m')
    appended_failed m' made = record {
      made = made;
      later = p.run.grew.later;
      before = λ k o le left. (left.0, left.1, p.run.grew.before k left.1 le left.2, left.3);
      since = since;
      now = λ whole. absurd (let clash : Some (faults new) ≡ None = sym (ap (λ (c : Counts). c.broken) made.counts) ∙ whole in cc);
    }

  -- the records are durable
  module _ (durable : Every (Now moment images new) (LedgerIs (m.books.payloads ++ more))) (has : Every (Now moment images new) P) where
    now_there : tells ≡ true → (c : World) → Now moment images new c → HasFiles t c × (shelf_in c t ≡ after)
    now_there told c image =
        let was = p.run.each (moment new) c p.run.grew.later (omega arith) image in
        added_there told was.0 c (p.kept was.0 was.1) was.2 (has c image)

    -- each image now is kept by a memory with those records
    pub appended_now : (m' : Memory) → m'.books.payloads ≡ m.books.payloads ++ more → m'.books.folding.state ≡ t → (tells ≡ true → shelf_of (stored_in (content new) m') ≡ after)
        → Every (Now moment images new) (IsKept tells (content new) m')
    appended_now m' payloads state told c image = record {
      ledger = subst (λ (ps : List (List ℕ)). LedgerIs ps c) (sym payloads) (durable c image);
      files = λ is. subst (λ (s : State). HasFiles s c) (sym state) (now_there is c image).0;
      same = λ is. ap (shelf_in c) state ∙ (now_there is c image).1 ∙ sym (told is);
    }

    -- and a fact of what is told then holds of it
    pub opens_now : (Passes : Shelf → Type 0) → (tells ≡ true → Passes after) → (o : Option Shelf) → left_of tells (images new) (moment new) o → OpensShelf Passes o
    opens_now Passes later o left =
        let there = now_there left.0 left.1 left.2 in
        opens_to Passes left.1 (shelf_in left.1 t)
        (record { payloads = m.books.payloads ++ more; ledger = inl (durable left.1 left.2); state = t; folds = p.more_folds; files = there.0; is = refl })
        (subst Passes (sym there.1) (later left.0)) o left.3

    pub appended_kept : (asked : StoreCall) (answer : StoreAnswer) (m' : Memory) → IsMade asked answer → StoreDoes (state_of tells (content old) (faults old) m) asked answer (state_of tells (content new) (faults new) m')
        → (tells ≡ true → shelf_of (stored_in (content new) m') ≡ after)
        → StoreKept (standing tells content faults moment images old m) asked answer (standing tells content faults moment images new m')
    appended_kept asked answer m' made does told = record {
      made = made (state_of tells (content old) (faults old) m) (state_of tells (content new) (faults new) m') does;
      later = p.run.grew.later;
      before = λ k o le left. (left.0, left.1, p.run.grew.before k left.1 le left.2, left.3);
      since = since asked answer (state_of tells (content new) (faults new) m') does (λ is. is_told tells is (content new) (faults new) m' after (sym (told is)));
      now = λ whole. opens_now (IsShelf (state_of tells (content new) (faults new) m').content) (λ is. is_told tells is (content new) (faults new) m' after (sym (told is)));
    }
