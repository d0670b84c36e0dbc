-- A call that records something of an open part: the part's file is made durable, and then the record.
use Rattle.std.proofs.Common.{◌≡◌, ℕ, ◌-◌, List, [], ◌∷◌, ◌++◌, Some, None, Ok, Bool, true, refl, sym, ◌∙◌, ap, subst}
use Rattle.std.specs.List.{AllByRecursion}
use Rattle.ftn_addr.specs.Counts.{Increased}
use Rattle.disk_model.specs.World.{World}
use Rattle.disk_model.specs.Changes.{Every, Follows, Only}
use Rattle.disk_model.specs.Moments.{Now, Leaves}
use Rattle.ledger_file.specs.Ledger.{ledger_name, LedgerIs}
use Rattle.ledger_rec.specs.Fold.{fold_step}
use Rattle.ledger_rec.specs.Payloads.{record_in}
use Rattle.ledger_rec.specs.Record.{RecordText}
use Rattle.node_model.specs.declared.store.StoreFault.TheVariants.{Disk}
use Rattle.node_model.specs.Stocks.{Stock, Sizes}
use Rattle.node_model.specs.StoreStates.{Shelf, shelf_of, StoreState, changed, placed}
use Rattle.node_model.specs.Stores.{StoreCall, TouchesDisk, StoreDoes, StoreKept, Well, Refuses}
use Rattle.node_model.proofs.Lists.{none_some}
use Rattle.node_store.specs.Books.{Books}
use Rattle.node_store.specs.Contents.{durable_by}
use Rattle.node_store.specs.Logs.{noted}
use Rattle.node_store.specs.Names.{in_name, out_name}
use Rattle.node_store.specs.Recording.{IsSynced, Records}
use Rattle.node_store.specs.Stored.{Part, Put, Memory, told_in, sizes_in, stock_by, stored_in, state_of, IsMemory, HasBodies, IsSound}
use Rattle.node_store.specs.Worlds.{durable_in, HasFiles, HasLength}
use Rattle.node_store.proofs.Alike.{all_by}
use Rattle.node_store.proofs.Calls.{standing, is_told}
use Rattle.node_store.proofs.NameLaws.{in_not_ledger, out_not_ledger}
use Rattle.node_store.proofs.RecordCall.{IsRecording, recorded_failed, recorded_now, recorded_kept}
use Rattle.node_store.proofs.RecordTold.{same_stored, record_told, OthersStay, breaks_told}
use Rattle.node_store.proofs.GivenFiles.{still_gone}

-- What such a call is given: that the store was in order, what the disk did, the books with the record, and how that changes what
-- is told, and any world with that file.
pub record IsPartRecord {D : Type 0} (tells : Bool) (content : D → World) (files : D → World → Type 0) (moment : D → ℕ) (images : D → ℕ → World → Type 0) (old new : D) (m : Memory) (b : Books) (ps : List Part) (name payload : List ℕ) (r : RecordText) (f : Sizes → Sizes) (g : Stock → Stock) : Type 0 where
  pub sound : IsSound tells content moment images old m
  pub whole : m.broken ≡ None
  pub reads : (d : D) (w : World) → files d w → (tells ≡ true) × (w ≡ content d)
  pub told : tells ≡ true → (d : D) → files d (content d)
  pub read : Follows (Only ledger_name) (files old) (files new)
  pub run : Leaves moment images (Records (files old) name m.books.payloads (payload ∷ [])) old new
  pub spells : record_in payload ≡ Ok r
  pub step : fold_step m.books.folding.state r ≡ Some b.folding.state
  pub payloads : b.payloads ≡ m.books.payloads ++ payload ∷ []
  pub places : b.reserved ≡ m.books.reserved - 1
  pub opened : b.opened ≡ m.books.opened
  pub seats : b.seats ≡ m.books.seats ++ m.seat ∷ []
  pub takes : b.folding.state.takes ≡ m.books.folding.state.takes
  pub sizes : stock_by (sizes_in tells (content old) m.given) (record m { books = b; parts = ps }) ≡ f (stock_by (sizes_in tells (content old) m.given) m)
  pub bytes : tells ≡ true → stock_by (told_in (content old) m.given) (record m { books = b; parts = ps }) ≡ g (stock_by (told_in (content old) m.given) m)
  pub opens : tells ≡ true → (c : World) → HasFiles m.books.folding.state c → durable_in c m.books.folding.state ≡ durable_by (told_in (content old) m.given) m.books.folding.state → c.own name ≡ (content old).own name
      → HasFiles b.folding.state c × (durable_in c b.folding.state ≡ durable_by (told_in (content old) m.given) b.folding.state)

-- the files of open parts and of staged files are those from before
pub bodies_stay : (told told' : World) (m : Memory) (b : Books) (ps : List Part) → Only ledger_name told told' → HasBodies m told → AllByRecursion (λ (p : Part). HasLength (in_name p.number) p.have told) ps → HasBodies (record m { books = b; parts = ps }) told'
bodies_stay told told' m b ps only has parts = record {
  parts = all_by (λ (p : Part). HasLength (in_name p.number) p.have told) (λ (p : Part). HasLength (in_name p.number) p.have told') (λ p h. (h.0, only.others (in_name p.number) (in_not_ledger p.number) ∙ h.1, h.2)) ps parts;
  staged = all_by (λ (p : Put). HasLength (out_name p.number) p.size told) (λ (p : Put). HasLength (out_name p.number) p.size told') (λ p h. (h.0, only.others (out_name p.number) (out_not_ledger p.number) ∙ h.1, h.2)) m.staged has.staged;
  given = still_gone m.given told told' has.given (λ n among. only.others (in_name n) (in_not_ledger n));
}

module _ {D : Type 0} (tells : Bool) (content : D → World) (files : D → World → Type 0) (faults moment : D → ℕ) (images : D → ℕ → World → Type 0) (old new : D) (m : Memory) (b : Books) (ps : List Part) (name payload : List ℕ) (r : RecordText) (f : Sizes → Sizes) (g : Stock → Stock)
    (p : IsPartRecord tells content files moment images old new m b ps name payload r f g) where
  abbrev with_it : Memory
  with_it = record m { books = b; parts = ps }

  abbrev after : Shelf
  after = shelf_of (stored_in (content old) with_it)

  pub only_ledger : tells ≡ true → Only ledger_name (content old) (content new)
  only_ledger t =
      let was = p.read (content new) (p.told t new) in
      subst (λ (w : World). Only ledger_name w (content new)) (p.reads old was.0 was.1).1 was.2

  same_world : (w : World) → Only ledger_name w w
  same_world w = record { others = λ n differs. refl; outside = refl; gifts = refl }

  recording : IsRecording tells content files moment images old new m name payload r b.folding.state after
  recording = record {
    folds = p.sound.memory.books.folds;
    kept = p.sound.kept p.whole;
    spells = p.spells;
    step = p.step;
    reads = p.reads;
    run = p.run;
    opens = λ t c has same own.
        let now = p.opens t c has (ap (λ (s : Shelf). s.state) same) own in (
          now.0,
          let state = now.1 in
              λ i. record { state = state i; recorded = b.folding.state.takes; takes = (same i).takes; outside = (same i).outside; gifts = (same i).gifts },
        );
  }

  would : (told' : World) (faults' : ℕ) → (tells ≡ true → Only ledger_name (content old) told') → faults' ≡ faults old → state_of tells told' faults' with_it ≡ placed (changed f g (noted r ∷ []) (state_of tells (content old) (faults old) m))
  would told' faults' only calm =
      record_told tells (content old) told' (faults old) faults' m b ps payload r only calm p.sound.memory.books p.spells p.payloads p.places p.opened p.seats p.takes f g p.sizes p.bytes

  module _ (asked : StoreCall) (does : (s : StoreState) → s ≡ placed (changed f g (noted r ∷ []) (state_of tells (content old) (faults old) m)) → StoreDoes (state_of tells (content old) (faults old) m) asked Well s) where
    -- the disk failed; other parts are open then
    pub part_failed : (qs : List Part) → TouchesDisk asked → Increased (faults old) (faults new) → OthersStay tells (content old) (content new) (faults old) (faults new) m qs only_ledger asked (sizes_in tells (content old) m.given)
        → (tells ≡ true → OthersStay tells (content old) (content new) (faults old) (faults new) m qs only_ledger asked (told_in (content old) m.given))
        → StoreKept (standing tells content faults moment images old m) asked (Refuses Disk) (standing tells content faults moment images new (record m { parts = qs; broken = Some (faults new) }))
    part_failed qs touches rose sizes bytes =
        recorded_failed tells content files faults moment images old new m name payload r b.folding.state after recording asked (state_of tells (content old) (faults old) with_it)
        (does (state_of tells (content old) (faults old) with_it) (would (content old) (faults old) (λ t. same_world (content old)) refl))
        (λ t. is_told tells t (content old) (faults old) with_it after refl)
        (record m { parts = qs; broken = Some (faults new) })
        (breaks_told tells (content old) (content new) (faults old) (faults new) m qs only_ledger asked touches rose sizes bytes)

    -- the record is durable
    module _ (calm : faults new ≡ faults old) (durable : Every (Now moment images new) (LedgerIs b.payloads)) (synced : Every (Now moment images new) (IsSynced (files old) name)) where
      ledger_now : Every (Now moment images new) (LedgerIs (m.books.payloads ++ payload ∷ []))
      ledger_now = subst (λ (l : List (List ℕ)). Every (Now moment images new) (LedgerIs l)) p.payloads durable

      told_now : tells ≡ true → shelf_of (stored_in (content new) with_it) ≡ after
      told_now t = ap shelf_of (same_stored (content old) (content new) with_it (only_ledger t))

      pub part_recorded : StoreKept (standing tells content faults moment images old m) asked Well (standing tells content faults moment images new with_it)
      part_recorded =
          recorded_kept tells content files faults moment images old new m name payload r b.folding.state after recording ledger_now synced asked with_it
          (does (state_of tells (content new) (faults new) with_it) (would (content new) (faults new) only_ledger calm)) told_now

      pub part_sound : IsMemory with_it → (tells ≡ true → AllByRecursion (λ (q : Part). HasLength (in_name q.number) q.have (content old)) ps) → IsSound tells content moment images new with_it
      part_sound memory parts = record {
        memory = memory;
        kept = λ whole. recorded_now tells content files faults moment images old new m name payload r b.folding.state after recording ledger_now synced with_it p.payloads refl told_now;
        bodies = λ whole t. bodies_stay (content old) (content new) m b ps (only_ledger t) (p.sound.bodies p.whole t) (parts t);
      }

-- a broken store promises nothing of its disk
pub broken_sound : {D : Type 0} (tells : Bool) (content : D → World) (moment : D → ℕ) (images : D → ℕ → World → Type 0) (disk : D) (m : Memory) (faults : ℕ) → m.broken ≡ Some faults → IsMemory m → IsSound tells content moment images disk m
broken_sound tells content moment images disk m faults is memory = record { memory = memory; kept = λ whole. none_some (sym whole ∙ is); bodies = λ whole. none_some (sym whole ∙ is) }
