-- A store that was opened is sound, and tells what was opened.
use Rattle.std.proofs.Common.{◌≡◌, inl, ◌≤◌, ℕ, List, length, Bool, true, false, refl, sym, ◌∙◌, ap, subst, arith}
use Rattle.disk_model.specs.World.{World}
use Rattle.disk_model.specs.Changes.{Every, Follows}
use Rattle.disk_model.specs.Moments.{Now}
use Rattle.ledger_rec.specs.Fold.{State, is_among}
use Rattle.ledger_rec.specs.Items.{Entry, Receipt, PartMark}
use Rattle.ledger_rec.proofs.OrderFold.{order_fold}
use Rattle.node_model.specs.Durable.{Durable}
use Rattle.node_model.specs.StoreStates.{shelf_of}
use Rattle.node_store.specs.Books.{Books, IsBooks}
use Rattle.node_store.specs.Clearing.{HasNoNote}
use Rattle.node_store.specs.Finding.{IsFound, IsOpened}
use Rattle.node_store.specs.Keeping.{AreReceipts, given_in}
use Rattle.node_store.specs.Opening.{IsNewBooks, IsTidied, Recovers, greatest, opened_memory}
use Rattle.node_store.specs.Stored.{AreGone, IsSound, IsKept, Memory, state_of, stored_in}
use Rattle.node_store.specs.Standing.{StandSo}
use Rattle.node_store.specs.Takes.{AreTakesOf, Takes}
use Rattle.node_store.specs.Tending.{IsTended, Mirrors}
use Rattle.node_store.specs.Worlds.{HasFiles, shelf_in}
use Rattle.node_store.proofs.Alike.{AreAlike, alike_shelf, alike_files, all_by}
use Rattle.node_store.proofs.Greatest.{among_greatest, each_below, numbers_below}
use Rattle.node_store.proofs.Opened.{given_gone, told_same}
use Rattle.node_store.proofs.Recovering.{opened_is}

mirrors_alike : (s : State) (f c : World) → Mirrors s f c → AreAlike s f c
mirrors_alike s f c a = record { live = a.live; received = a.received; marked = a.marked; takes = a.takes; outside = a.outside; gifts = a.gifts }

pub new_books : (b : Books) → IsNewBooks b → IsBooks b
new_books b is = record {
  folds = is.folds;
  room = omega (arith, is.reserved);
  since = omega (arith, is.opened, ap length is.seats);
}

-- what is told of the content is what it opens to
pub opened_shelf : (f : World) (b : Books) (given : List ℕ) → HasFiles b.folding.state f → given ≡ given_in f b.folding.state.inbox → shelf_in f b.folding.state ≡ shelf_of (stored_in f (opened_memory b given))
opened_shelf f b given has is = ap (λ (d : Durable). record (shelf_in f b.folding.state) { state = d }) (told_same f b.folding.state given has is)

module _ {D : Type 0} (files : D → World → Type 0) (moment : D → ℕ) (images : D → ℕ → World → Type 0) (tells : Bool) (content : D → World) (told : tells ≡ true → (d : D) → files d (content d)) (disk : D) (b : Books) (given : List ℕ) (is : IsNewBooks b)
    (tended : IsTended files moment images b.payloads b.folding.state disk) (are_given : Every (files disk) (λ f. given ≡ given_in f b.folding.state.inbox)) (receipts : AreReceipts given b.folding.state.inbox) where
  opened_kept : Every (Now moment images disk) (IsKept tells (content disk) (opened_memory b given))
  opened_kept w now = record {
    ledger = tended.ledger w now;
    files = λ t. alike_files b.folding.state (content disk) w (tended.fits (content disk) (told t disk)) (mirrors_alike b.folding.state (content disk) w (tended.same.both (content disk) w (told t disk) now));
    same = λ t.
        alike_shelf b.folding.state (content disk) w (tended.fits (content disk) (told t disk)) (mirrors_alike b.folding.state (content disk) w (tended.same.both (content disk) w (told t disk) now))
        ∙ opened_shelf (content disk) b given (tended.fits (content disk) (told t disk)) (are_given (content disk) (told t disk));
  }

  pub opened_sound : IsSound tells content moment images disk (opened_memory b given)
  opened_sound =
      let s = b.folding.state in
      let orderly = order_fold b.payloads s is.folds in
      record {
        memory = record {
          books = new_books b is;
          orderly = refl;
          parts = tt;
          marked = all_by (λ (m : PartMark). is_among m.number s.parts ≡ true) (λ (m : PartMark). m.number ≤ greatest s.parts) (λ m among. among_greatest m.number s.parts among) s.marks orderly.marks;
          received = all_by (λ (r : Receipt). is_among r.number s.parts ≡ true) (λ (r : Receipt). r.number ≤ greatest s.parts) (λ r among. among_greatest r.number s.parts among) s.inbox orderly.inbox;
          numbers = numbers_below 0 s.parts;
          given = receipts;
          staged = tt;
          queued = each_below (λ (e : Entry). e.number) 0 s.queue;
        };
        kept = λ whole. opened_kept;
        bodies = λ whole t. record { parts = tt; staged = tt; given = subst (λ (ns : List ℕ). AreGone ns (content disk)) (sym (are_given (content disk) (told t disk))) (given_gone (content disk) s.inbox) };
      }

-- what the disk read before opened to what is told now
pub opened_told : {D : Type 0} (files : D → World → Type 0) (moment : D → ℕ) (images : D → ℕ → World → Type 0) (tells : Bool) (content : D → World) (as_read : (d : D) (w : World) → files d w → Now moment images d w)
    (reads : (d : D) (w : World) → files d w → (tells ≡ true) × (w ≡ content d)) (told : tells ≡ true → (d : D) → files d (content d)) (old new : D) (b : Books) (given : List ℕ) (takes : Takes)
    → IsFound files moment images tells content b given takes old new → Every (files new) HasNoNote → Follows Recovers (files old) (files new) → tells ≡ true → IsOpened (content old) (content new) (opened_memory b given)
opened_told files moment images tells content as_read reads told old new b given takes found notes read t =
    let s = b.folding.state in
    let p = read (content new) (told t new) in
    let back : Recovers (content old) (content new) = subst (λ (w : World). Recovers w (content new)) (reads old p.0 p.1).1 p.2 in
    let opens = found.opened t in
    let after = back (shelf_in (content old) s) opens in
    let ledger = found.tended.ledger (content new) (as_read new (content new) (told t new)) in
    let is = opened_is b.payloads s found.books.folds (content new) after.0 (inl ledger) after.1 in
    record {
      shelf = shelf_in (content old) s;
      opens = opens;
      tidied = subst (IsTidied (shelf_in (content old) s)) (is.1 ∙ opened_shelf (content new) b given is.0 (found.are_given (content new) (told t new))) after.2;
      strays = found.strays (content new) (told t new);
      parts = found.parts (content new) (told t new);
      notes = notes (content new) (told t new);
    }

-- of a disk that tells, its content
pub content_recovers : {D : Type 0} (files : D → World → Type 0) (tells : Bool) (content : D → World) (reads : (d : D) (w : World) → files d w → (tells ≡ true) × (w ≡ content d)) (told : tells ≡ true → (d : D) → files d (content d)) (old new : D)
    → Follows Recovers (files old) (files new) → tells ≡ true → Recovers (content old) (content new)
content_recovers files tells content reads told old new read t = let p = read (content new) (told t new) in subst (λ (w : World). Recovers w (content new)) (reads old p.0 p.1).1 p.2

-- the takes that were found are the store's
pub opened_takes : {D : Type 0} (files : D → World → Type 0) (tells : Bool) (content : D → World) (told : tells ≡ true → (d : D) → files d (content d)) (disk : D) (m : Memory) (faults : ℕ) (t : Takes)
    → StandSo (files disk) m.books.folding.state t → AreTakesOf t (state_of tells (content disk) faults m)
opened_takes files true content told disk m faults t so = record { recorded = so.recorded; left = so.left; standing = (so.apart (content disk) (told refl disk), so.standing (content disk) (told refl disk)) }
opened_takes files false content told disk m faults t so = record { recorded = so.recorded; left = so.left; standing = tt }
