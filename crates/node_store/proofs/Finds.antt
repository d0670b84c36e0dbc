-- An opening, one step after another.
use Rattle.std.proofs.Common.{◌≡◌, ◌⊎◌, inl, inr, ℕ, List, [], Bool, true, refl, sym, ◌∙◌, ap, subst}
use Rattle.disk_model.specs.World.{World}
use Rattle.disk_model.specs.Changes.{Every, Follows}
use Rattle.disk_model.specs.Moments.{Now, Leaves}
use Rattle.ledger_rec.specs.Fold.{State, nothing_folded}
use Rattle.ledger_rec.specs.Payloads.{fold_of}
use Rattle.node_model.proofs.Lists.{some_inj}
use Rattle.node_store.specs.Clearing.{Restores}
use Rattle.node_store.specs.Books.{Books}
use Rattle.node_store.specs.Finding.{IsFound}
use Rattle.node_store.specs.Keeping.{AreReceipts, IsUntouched, Finds, given_in}
use Rattle.node_store.specs.Opening.{IsNewBooks, IsRefused}
use Rattle.node_store.specs.Standing.{StandSo}
use Rattle.node_store.specs.Strays.{HasNoStray}
use Rattle.node_store.specs.Takes.{Takes}
use Rattle.node_store.specs.Tending.{IsTended, HasCutParts}
use Rattle.node_store.specs.Worlds.{IsBadFile, Of_entry, Of_mark, Of_receipt, LedgerOf}
use Rattle.node_store.specs.declared.opening.fault.StoreOpenFault.{StoreOpenFault}
use Rattle.node_store.specs.declared.opening.fault.StoreOpenFault.TheVariants.{Disk, LedgerBad, FileBad, NoMemory}
use Rattle.node_store.proofs.Opened.{found_opens, given_recovered}
use Rattle.node_store.proofs.Recovering.{leaves-then, leaves-same, restores-refl}
use Rattle.node_store.proofs.Rest.{reads-then}

-- an empty fold has no bad file
nothing_bad : (f : World) (name : List ℕ) → IsBadFile nothing_folded f name → ⊥
nothing_bad f name (Of_entry e there live is lacks) = there
nothing_bad f name (Of_mark m there is lacks) = there
nothing_bad f name (Of_receipt r there is lacks) = there

module _ {D : Type 0} (files : D → World → Type 0) (moment : D → ℕ) (images : D → ℕ → World → Type 0) (tells : Bool) (content : D → World) (as_read : (d : D) (w : World) → files d w → Now moment images d w)
    (reads : (d : D) (w : World) → files d w → (tells ≡ true) × (w ≡ content d)) (told : tells ≡ true → (d : D) → files d (content d)) (old mid : D) (b : Books) (is : IsNewBooks b)
    (ledger : tells ≡ true → LedgerOf b.payloads (content old)) (same : tells ≡ true → (content mid ≡ content old) ⊎ (b.payloads ≡ [])) (next : D) (u : IsUntouched files moment images mid next) where
  still_same : tells ≡ true → (content next ≡ content old) ⊎ (b.payloads ≡ [])
  still_same t = go (same t)
    where
      go : (content mid ≡ content old) ⊎ (b.payloads ≡ []) → (content next ≡ content old) ⊎ (b.payloads ≡ [])
      go (inl is) = inl ((reads mid (content next) (u.read (content next) (told t next))).1 ∙ is)
      go (inr none) = inr none

  bad_refused : (t : tells ≡ true) (name : List ℕ) → IsBadFile b.folding.state (content next) name → IsRefused (FileBad name) (content old)
  bad_refused t name bad = go (still_same t) (ledger t)
    where
      empty : b.payloads ≡ [] → ⊥
      empty none = nothing_bad (content next) name (subst (λ (s : State). IsBadFile s (content next) name) (sym (some_inj (ap fold_of (sym none) ∙ is.folds))) bad)

      go : (content next ≡ content old) ⊎ (b.payloads ≡ []) → LedgerOf b.payloads (content old) → IsRefused (FileBad name) (content old)
      go (inr none) l = absurd (empty none)
      go (inl same) (inr none) = absurd (empty none.1)
      go (inl same) (inl l) = record { payloads = b.payloads; ledger = l; state = b.folding.state; folds = is.folds; bad = subst (λ (w : World). IsBadFile b.folding.state w name) same bad }

  pub look_refused : (fault : StoreOpenFault) → (fault ≡ NoMemory) ⊎ Finds (λ name. Every (files next) (λ f. IsBadFile b.folding.state f name)) fault → (fault ≡ Disk) ⊎ ((fault ≡ NoMemory) ⊎ (tells ≡ true → IsRefused fault (content old)))
  look_refused fault (inl memory) = inr (inl memory)
  look_refused Disk (inr h) = inl refl
  look_refused (LedgerBad place) (inr h) = absurd h
  look_refused (FileBad name) (inr h) = inr (inr (λ t. bad_refused t name (h (content next) (told t next))))
  look_refused NoMemory (inr h) = absurd h

  pub look_stop : (tells ≡ true → Leaves moment images Restores old mid) → tells ≡ true → Leaves moment images Restores old next
  look_stop first t = leaves-then moment images old mid next (first t) (leaves-same moment images mid next u.stop)

  pub look_read : Follows Restores (files old) (files mid) → Follows Restores (files old) (files next)
  look_read first = reads-then (files old) (files mid) (files next) first (λ w is. (w, u.read w is, restores-refl w))

  module _ (new : D) (stop : Leaves moment images Restores next new) (read : Follows Restores (files next) (files new)) where
    pub tidy_stop : (tells ≡ true → Leaves moment images Restores old mid) → tells ≡ true → Leaves moment images Restores old new
    tidy_stop first t = leaves-then moment images old next new (look_stop first t) stop

    pub tidy_read : Follows Restores (files old) (files mid) → Follows Restores (files old) (files new)
    tidy_read first = reads-then (files old) (files next) (files new) (look_read first) read

    pub is_found : (given : List ℕ) (takes : Takes) → AreReceipts given b.folding.state.inbox → Every (files next) (λ f. given ≡ given_in f b.folding.state.inbox) → IsTended files moment images b.payloads b.folding.state next → IsTended files moment images b.payloads b.folding.state new
        → Every (files new) (HasNoStray b.folding.state) → Every (files new) (HasCutParts b.folding.state) → StandSo (files new) b.folding.state takes → IsFound files moment images tells content b given takes old new
    is_found given takes receipts given_is was tended none cut standing = record {
      books = is;
      tended = tended;
      receipts = receipts;
      are_given = λ e now.
          let p = read e now in
          given_is p.0 p.1 ∙ sym (given_recovered b.payloads b.folding.state is.folds p.0 e (inl (was.ledger p.0 (as_read next p.0 p.1))) (was.fits p.0 p.1) (inl (tended.ledger e (as_read new e now))) p.2.recovers);
      opened = λ t. found_opens b.payloads b.folding.state is.folds (content old) (content next) (ledger t) (still_same t) (was.fits (content next) (told t next));
      strays = none;
      parts = cut;
      standing = standing;
    }
