-- A store with other places reserved.
use Rattle.std.proofs.Common.{◌≡◌, ℕ, ◌≤◌, List, [], ◌∷◌, Bool, true, sym, ◌∙◌, ap, subst}
use Rattle.std.specs.List.{AllByRecursion}
use Rattle.disk_model.specs.World.{World}
use Rattle.ledger_file.specs.Ledger.{LedgerIs}
use Rattle.ledger_rec.specs.Fold.{State, Folding}
use Rattle.ledger_rec.specs.Items.{Entry, Receipt, PartMark, Hold}
use Rattle.node_model.specs.StoreStates.{shelf_of}
use Rattle.node_store.specs.Books.{Books, IsBooks, AreSame}
use Rattle.node_store.specs.Worlds.{shelf_in, HasFiles}
use Rattle.node_store.specs.Stored.{Part, Memory, has_receipt, IsPart, IsPut, IsMemory, IsKept, IsSound, state_of, stored_in}

-- the same books, but for places and room
abbrev rebooked : Books → List (List ℕ) → ℕ → ℕ → List ℕ → State → Books
rebooked b payloads reserved opened seats state =
    record { payloads = payloads; reserved = reserved; opened = opened; seats = seats; folding = record b.folding { state = state } }

pub same-then : (a b c : Books) → AreSame a b → AreSame b c → AreSame a c
same-then a b c first second =
    record { payloads = second.payloads ∙ first.payloads; opened = second.opened ∙ first.opened; seats = second.seats ∙ first.seats; state = second.state ∙ first.state; holds = second.holds ∙ first.holds }

-- what is told changes by the places alone
pub places_told : (tells : Bool) (w : World) (faults : ℕ) (m : Memory) (b : Books) (n : ℕ) → AreSame m.books b → b.reserved ≡ n
    → state_of tells w faults (record m { books = b }) ≡ record (state_of tells w faults m) { reserved = n }
places_told tells w faults m b n same places = λ i.
    state_of tells w faults (record m { books = rebooked m.books (same.payloads i) (places i) (same.opened i) (same.seats i) (same.state i) })

pub same_stored : (w : World) (m : Memory) (b : Books) → AreSame m.books b → stored_in w (record m { books = b }) ≡ stored_in w m
same_stored w m b same = λ i.
    stored_in w (record m { books = rebooked m.books (same.payloads i) 0 (same.opened i) (same.seats i) (same.state i) })

-- what fits together still does

pub part_same : (f g : Folding) (p : Part) → g.state ≡ f.state → g.holds ≡ f.holds → IsPart f p → IsPart g p
part_same f g p state holds is =
    subst (λ (h : List Hold). IsPart (record { state = g.state; holds = h; room = g.room }) p) (sym holds)
    (subst (λ (s : State). IsPart (record { state = s; holds = f.holds; room = g.room }) p) (sym state)
    (record { from = is.from; key = is.key; sizes = is.sizes; within = is.within; receipt = is.receipt; next = is.next; held = is.held; unknown = is.unknown; number = is.number; marks = is.marks; received = is.received }))

parts_same : (f g : Folding) (ps : List Part) → g.state ≡ f.state → g.holds ≡ f.holds → AllByRecursion (IsPart f) ps → AllByRecursion (IsPart g) ps
parts_same f g [] state holds all = tt
parts_same f g (p ∷ ps) state holds (here, rest) = (part_same f g p state holds here, parts_same f g ps state holds rest)

memory_same : (m : Memory) (b : Books) → AreSame m.books b → IsBooks b → IsMemory m → IsMemory (record m { books = b })
memory_same m b same books is = record {
  books = books;
  orderly = is.orderly;
  parts = parts_same m.books.folding b.folding m.parts same.state same.holds is.parts;
  marked = subst (λ (s : State). AllByRecursion (λ (k : PartMark). k.number ≤ m.drawn) s.marks) (sym same.state) is.marked;
  received = subst (λ (s : State). AllByRecursion (λ (r : Receipt). r.number ≤ m.drawn) s.inbox) (sym same.state) is.received;
  numbers = subst (λ (s : State). AllByRecursion (λ n. n ≤ m.drawn) s.parts) (sym same.state) is.numbers;
  given = subst (λ (s : State). AllByRecursion (λ n. has_receipt n s.inbox ≡ true) m.given) (sym same.state) is.given;
  staged = subst (λ (s : State). AllByRecursion (IsPut m.last_staged s) m.staged) (sym same.state) is.staged;
  queued = subst (λ (s : State). AllByRecursion (λ (e : Entry). e.number ≤ m.last_staged) s.queue) (sym same.state) is.queued;
}

pub kept_same : (tells : Bool) (told : World) (m : Memory) (b : Books) → AreSame m.books b → (w : World) → IsKept tells told m w → IsKept tells told (record m { books = b }) w
kept_same tells told m b same w kept = record {
  ledger = subst (λ (ps : List (List ℕ)). LedgerIs ps w) (sym same.payloads) kept.ledger;
  files = λ t. subst (λ (s : State). HasFiles s w) (sym same.state) (kept.files t);
  same = λ t. ap (shelf_in w) same.state ∙ kept.same t ∙ sym (ap shelf_of (same_stored told m b same));
}

module _ {D : Type 0} (tells : Bool) (content : D → World) (moment : D → ℕ) (images : D → ℕ → World → Type 0) where
  pub sound_same : (disk : D) (m : Memory) (b : Books) → AreSame m.books b → IsBooks b → IsSound tells content moment images disk m → IsSound tells content moment images disk (record m { books = b })
  sound_same disk m b same books s = record {
    memory = memory_same m b same books s.memory;
    kept = λ whole w now. kept_same tells (content disk) m b same w (s.kept whole w now);
    bodies = λ whole t. let h = s.bodies whole t in record { parts = h.parts; staged = h.staged; given = h.given };
  }
