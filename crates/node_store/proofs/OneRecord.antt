-- A call that appends one record, which changes the durable state alone.
use Rattle.std.proofs.Common.{◌≡◌, ℕ, List, [], ◌∷◌, Option, Some, None, Ok, Bool, true, false, refl, sym, ◌∙◌, ap}
use Rattle.disk_model.specs.World.{World}
use Rattle.disk_model.specs.Changes.{Every, Follows, Only}
use Rattle.disk_model.specs.Moments.{Now, Leaves}
use Rattle.ledger_file.specs.Ledger.{LedgerIs, Appends}
use Rattle.ledger_rec.specs.Fold.{State, fold_step}
use Rattle.ledger_rec.specs.Payloads.{record_in}
use Rattle.ledger_rec.specs.Record.{RecordText}
use Rattle.node_model.specs.Durable.{Durable}
use Rattle.node_model.specs.Node.{Record}
use Rattle.node_model.specs.Stocks.{Stock, Sizes}
use Rattle.node_model.specs.StoreStates.{shelf_of, changed, placed}
use Rattle.node_model.specs.Stores.{IsShelf}
use Rattle.node_model.proofs.Lists.{off}
use Rattle.node_store.specs.Stored.{Memory, stored_in, state_of, IsSound}
use Rattle.node_store.specs.Worlds.{durable_in, HasFiles}
use Rattle.node_store.proofs.AppendCall.{Any, adds_of, IsAppending}
use Rattle.node_store.proofs.AppendTold.{shelf_with, shelf_changed}
use Rattle.node_store.proofs.Recorded.{fold_recorded}

-- What such a call is given: what the record does to the fold, that this is that change of the durable state in each world, and
-- that no file is missed that was there before.
pub record IsOne {D : Type 0} (tells : Bool) (content : D → World) (moment : D → ℕ) (images : D → ℕ → World → Type 0) (old new : D) (m : Memory) (payload : List ℕ) (r : RecordText) (t : State) (f : Durable → Durable) : Type 0 where
  pub sound : IsSound tells content moment images old m
  pub whole : m.broken ≡ None
  pub spells : record_in payload ≡ Ok r
  pub step : fold_step m.books.folding.state r ≡ Some t
  pub takes : t.takes ≡ m.books.folding.state.takes
  pub mirrored : (c : World) → durable_in c t ≡ f (durable_in c m.books.folding.state)
  pub files : (c : World) → HasFiles m.books.folding.state c → HasFiles t c
  pub run : Leaves moment images (Appends m.books.payloads (payload ∷ [])) old new

module _ {D : Type 0} (tells : Bool) (content : D → World) (moment : D → ℕ) (images : D → ℕ → World → Type 0) where
  -- the ledger is ready
  pub ready : (old : D) (m : Memory) → IsSound tells content moment images old m → m.broken ≡ None → Every (Now moment images old) (LedgerIs m.books.payloads)
  ready old m sound whole w image = (sound.kept whole w image).ledger

  pub appending : (old new : D) (m : Memory) (payload : List ℕ) (r : RecordText) (t : State) (f : Durable → Durable) → IsOne tells content moment images old new m payload r t f
      → IsAppending tells content moment images old new m Any (payload ∷ []) t (shelf_with f (shelf_of (stored_in (content old) m)))
  appending old new m payload r t f p = record {
    folds = p.sound.memory.books.folds;
    kept = p.sound.kept p.whole;
    more_folds = fold_recorded m.books.payloads payload r m.books.folding.state t p.sound.memory.books.folds p.spells p.step;
    run = adds_of moment images m.books.payloads (payload ∷ []) old new p.run;
    opens = λ told c has same any. (p.files c has, shelf_changed f m.books.folding.state t c (shelf_of (stored_in (content old) m)) p.takes (p.mirrored c) same);
  }

-- what is read of a disk that tells
pub only_content : {D : Type 0} (tells : Bool) (content : D → World) (files : D → World → Type 0) (name : List ℕ) (old new : D)
    → ((d : D) (w : World) → files d w → (tells ≡ true) × (w ≡ content d)) → (tells ≡ true → (d : D) → files d (content d)) → Follows (Only name) (files old) (files new) → tells ≡ true → Only name (content old) (content new)
only_content tells content files name old new reads told follows t =
    let was = follows (content new) (told t new) in
    Rattle.std.proofs.Common.subst (λ (w : World). Only name w (content new)) (reads old was.0 was.1).1 was.2

-- the shelf that a store would tell
pub would_tell : (tells : Bool) (told : World) (faults : ℕ) (m : Memory) (f : Sizes → Sizes) (g : Stock → Stock) (h : Durable → Durable) (rs : List Record) → ((s : Stock) → (g s).state ≡ h s.state) → tells ≡ true
    → IsShelf (placed (changed f g rs (state_of tells told faults m))).content (shelf_with h (shelf_of (stored_in told m)))
would_tell true told faults m f g h rs state t = λ i. shelf_with (λ d. sym (state (stored_in told m).stock) i) (shelf_of (stored_in told m))
would_tell false told faults m f g h rs state t = off (sym t)
