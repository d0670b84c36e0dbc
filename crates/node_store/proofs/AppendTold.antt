-- Only the ledger changed: what is told then, and what one record more tells.
use Rattle.std.proofs.Common.{◌≡◌, ℕ, zero, suc, ◌+◌, ◌-◌, ◌≤◌, List, [], ◌∷◌, ◌++◌, length, drop, map, Option, Some, None, Result, Ok, Err, Bool, true, false, refl, sym, ◌∙◌, ap, arith, length-append, append-nil}
use Rattle.std.specs.Prelude.{option_map, ◌&&◌, if◌then◌else◌}
use Rattle.std.proofs.lemmas.List.{drop-append-le}
use Rattle.disk_model.specs.World as W
use Rattle.disk_model.specs.World.{World}
use Rattle.disk_model.specs.Changes.{Only}
use Rattle.ledger_file.specs.Ledger.{ledger_name}
use Rattle.ledger_rec.specs.Fold.{State, is_among}
use Rattle.ledger_rec.specs.Payloads.{record_in}
use Rattle.ledger_rec.specs.Record.{RecordText}
use Rattle.ledger_rec.specs.declared.fault.RecFault.{RecFault}
use Rattle.ftn_addr.specs.Counts.{Increased}
use Rattle.node_model.specs.Durable.{Durable}
use Rattle.node_model.specs.Node.{Logged}
use Rattle.node_model.specs.Calls.{Logs}
use Rattle.node_model.specs.Stocks.{Stock, Sizes, part_in}
use Rattle.node_model.specs.StoreStates.{Shelf, Stored, shelf_of, stored_after, changed, placed}
use Rattle.node_model.specs.Stores.{StoreCall, StorePasses, Before_it, BreaksStore, TouchesDisk, Stock_before, TellsOn, PartsStay}
use Rattle.node_model.proofs.Lists.{none_some}
use Rattle.node_store.specs.Books.{Books, IsBooks}
use Rattle.node_store.specs.Contents.{Contents, durable_by}
use Rattle.node_store.specs.Logs.{log_of, logged, noted}
use Rattle.node_store.specs.Names.{in_name, out_name, take_number}
use Rattle.node_store.specs.Recording.{IsRecorded}
use Rattle.node_store.specs.Stored.{Part, Memory, front_of, told_in, sizes_in, told_parts, part_by, stock_by, stored_in, state_of, IsMemory, IsSound}
use Rattle.node_store.specs.Worlds.{bytes_of, or_else, gift_of, is_absent, takes_in, outside_in, gift_told, durable_in, shelf_in}
use Rattle.node_store.proofs.Alike.{ledger_no_take, takes_alike}
use Rattle.node_store.proofs.Calls.{is_told}
use Rattle.node_store.proofs.NameLaws.{in_not_ledger, out_not_ledger}
use Rattle.node_store.proofs.Puts.{same_sizes}
use Rattle.node_store.proofs.GivenFiles.{SameGiven}

-- what is told

module _ (d c : World) (only : Only ledger_name d c) where
  told_only : (given : List ℕ) → told_in c given ≡ told_in d given
  told_only given = λ i. record {
    queued = λ number size. front_of size (bytes_of (only.others (out_name number) (out_not_ledger number) i));
    received = λ number size. if is_among number given then or_else (only.others (in_name number) (in_not_ledger number) i) (gift_of (in_name number) size (only.gifts i)) else Some (front_of size (bytes_of (only.others (in_name number) (in_not_ledger number) i)));
    front = λ number len. front_of len (bytes_of (only.others (in_name number) (in_not_ledger number) i));
    given = λ number. is_absent (only.others (in_name number) (in_not_ledger number) i) && is_among number given;
  }

  takes_only : takes_in c ≡ takes_in d
  takes_only = takes_alike d c (λ name take is. only.others name (λ same. none_some (sym ledger_no_take ∙ ap take_number (sym same) ∙ is)))

  pub stored_only : (m : Memory) → stored_in c m ≡ stored_in d m
  stored_only m =
      let contents = told_only m.given in
      let takes = takes_only in
      let outside = ap (λ (f : List ℕ → Option W.OutFile). outside_in (record d { outside = f })) only.outside in
      λ i. record {
        stock = stock_by (contents i) m;
        recorded = m.books.folding.state.takes;
        takes = takes i;
        outside = outside i;
        gifts = map gift_told (only.gifts i);
        log = (stored_in d m).log;
      }

-- the log

pub log_append : (seats more : List ℕ) (ps qs : List (List ℕ)) → length seats ≡ length ps → log_of (seats ++ more) (ps ++ qs) ≡ log_of seats ps ++ log_of more qs
log_append [] more [] qs same = refl
log_append [] more (p ∷ ps) qs same = absurd (omega (arith, same))
log_append (seat ∷ seats) more [] qs same = absurd (omega (arith, same))
log_append (seat ∷ seats) more (p ∷ ps) qs same =
    ap (λ (l : List Logged). logged seat (record_in p) ++ l) (log_append seats more ps qs (omega (arith, same))) ∙ one (record_in p)
  where
    one : (read : Result RecordText RecFault) → logged seat read ++ (log_of seats ps ++ log_of more qs) ≡ (logged seat read ++ log_of seats ps) ++ log_of more qs
    one (Ok r) = refl
    one (Err e) = refl

since_is : (b : Books) → IsBooks b → length b.seats ≡ length (drop b.opened b.payloads)
since_is b is = omega (arith, is.since, Rattle.std.proofs.Common.length-drop b.opened b.payloads)

pub log_more : (b : Books) (more : List ℕ) (qs : List (List ℕ)) → IsBooks b → log_of (b.seats ++ more) (drop b.opened (b.payloads ++ qs)) ≡ log_of b.seats (drop b.opened b.payloads) ++ log_of more qs
log_more b more qs is =
    ap (log_of (b.seats ++ more)) (drop-append-le b.opened b.payloads qs (omega (arith, is.since)))
    ∙ log_append b.seats more (drop b.opened b.payloads) qs (since_is b is)

-- One record more, which may close parts: what is told then.
module _ (tells : Bool) (told told' : World) (faults faults' : ℕ) (m : Memory) (b : Books) (parts : List Part) (payload : List ℕ) (r : RecordText)
    (is : IsBooks m.books) (reads : record_in payload ≡ Ok r) (recorded : IsRecorded payload r m.seat m.books b) (only : tells ≡ true → Only ledger_name told told') (calm : faults' ≡ faults) where
  abbrev pub with_record : Memory
  with_record = record m { books = b; parts = parts }

  one_log : log_of (m.seat ∷ []) (payload ∷ []) ≡ record { seat = m.seat; entry = noted r } ∷ []
  one_log = ap (λ (x : Result RecordText RecFault). logged m.seat x ++ []) reads

  one_logged : log_of b.seats (drop b.opened b.payloads) ≡ (stored_in told m).log ++ record { seat = m.seat; entry = noted r } ∷ []
  one_logged =
      (λ i. log_of (recorded.seats i) (drop (recorded.opened i) (recorded.payloads i)))
      ∙ log_more m.books (m.seat ∷ []) (payload ∷ []) is
      ∙ ap (λ (l : List Logged). log_of m.books.seats (drop m.books.opened m.books.payloads) ++ l) one_log

  pub stored_recorded : (g : Stock → Stock) → b.folding.state.takes ≡ m.books.folding.state.takes → ((c : Contents (List ℕ)) → stock_by c with_record ≡ g (stock_by c m)) → Only ledger_name told told'
      → stored_in told' with_record ≡ stored_after g m.seat (noted r ∷ []) (stored_in told m)
  stored_recorded g takes bytes one =
      stored_only told told' one with_record
      ∙ (λ i. record {
        stock = bytes (told_in told m.given) i;
        recorded = takes i;
        takes = takes_in told;
        outside = outside_in told;
        gifts = map gift_told told.gifts;
        log = one_logged i;
      })

  pub recorded_told : (f : Sizes → Sizes) (g : Stock → Stock) → b.folding.state.takes ≡ m.books.folding.state.takes
      → ((c : Contents ℕ) → stock_by c with_record ≡ f (stock_by c m)) → ((c : Contents (List ℕ)) → stock_by c with_record ≡ g (stock_by c m))
      → state_of tells told' faults' with_record ≡ placed (changed f g (noted r ∷ []) (state_of tells told faults m))
  recorded_told f g takes sizes bytes =
      let sized = same_sizes tells told told' m.given (λ t. (only t).gifts) (λ t n among. (only t).others (in_name n) (in_not_ledger n)) in
      let stock = ap (λ (c : Contents ℕ). stock_by c with_record) sized ∙ sizes (sizes_in tells told m.given) in
      let content = go tells (λ t. stored_recorded g takes bytes (only t)) in
      let records : length b.payloads ≡ length m.books.payloads + 1 = ap length recorded.payloads ∙ length-append m.books.payloads (payload ∷ []) in
      let appended : length (log_of b.seats (drop b.opened b.payloads)) ≡ (state_of tells told faults m).appended + 1 = ap length one_logged ∙ length-append (stored_in told m).log (record { seat = m.seat; entry = noted r } ∷ []) in
      λ i. record {
        content = content i;
        stock = stock i;
        recorded = takes i;
        records = records i;
        reserved = recorded.places i;
        staged = m.last_staged;
        drawn = m.drawn;
        seat = m.seat;
        appended = appended i;
        last_given = m.last_given;
        counts = record { faults = calm i; fulls = m.fulls; broken = m.broken };
      }
    where
      go : (b : Bool) → (b ≡ true → stored_in told' with_record ≡ stored_after g m.seat (noted r ∷ []) (stored_in told m))
          → (if b then Some (stored_in told' with_record) else None) ≡ option_map (stored_after g m.seat (noted r ∷ [])) (if b then Some (stored_in told m) else None)
      go true same = ap Some (same refl)
      go false same = refl

-- a shelf with another durable state
abbrev pub shelf_with : (Durable → Durable) → Shelf → Shelf
shelf_with f d = record d { state = f d.state }

-- a world whose ledger has a record more opens to that change
pub shelf_changed : (f : Durable → Durable) (s t : State) (c : World) (d : Shelf) → t.takes ≡ s.takes → durable_in c t ≡ f (durable_in c s) → shelf_in c s ≡ d → shelf_in c t ≡ shelf_with f d
shelf_changed f s t c d takes mirrored is =
    (λ i. record { state = mirrored i; recorded = takes i; takes = takes_in c; outside = outside_in c; gifts = map gift_told c.gifts })
    ∙ ap (shelf_with f) is

-- The disk failed, and the same is told.

module _ (tells : Bool) (told told' : World) (faults faults' : ℕ) (m : Memory) where
  abbrev pub broken_memory : Memory
  broken_memory = record m { broken = Some faults' }

  abbrev passes : StoreCall → Stored → Stored → Type 0
  passes asked a b =
      StorePasses (state_of tells told faults m) asked (shelf_of b) × Logs m.seat a.log b.log
      × PartsStay asked (state_of tells told faults m).stock a.stock b.stock

  pub breaks_same : (asked : StoreCall) → TouchesDisk asked → Increased faults faults' → (tells ≡ true → stored_in told' m ≡ stored_in told m) → (tells ≡ true → told'.gifts ≡ told.gifts) → (tells ≡ true → SameGiven m.given told told')
      → BreaksStore asked (state_of tells told faults m) (state_of tells told' faults' broken_memory)
  breaks_same asked touches rose same gifts given =
      let sized = same_sizes tells told told' m.given gifts given in
      record {
        touches = touches;
        rose = rose;
        counts = refl;
        stock = Stock_before (ap (λ (c : Contents ℕ). durable_by c m.books.folding.state) sized);
        parts = λ x there loses. ap (λ (c : Contents ℕ). part_in x.number (map (part_by c) (told_parts m.drawn m.parts))) sized;
        content = go tells (λ t. (
          Before_it (is_told tells t told faults m (shelf_of (stored_in told' broken_memory)) (ap shelf_of (same t))),
          record { rest = []; grows = sym (append-nil (stored_in told m).log); own = tt },
          λ x there loses. ap (λ (s : Stored). part_in x.number s.stock.parts) (same t),
        ));
        seat = refl;
      }
    where
      go : (b : Bool) → (b ≡ true → passes asked (stored_in told m) (stored_in told' broken_memory)) → TellsOn (passes asked) (if b then Some (stored_in told m) else None) (if b then Some (stored_in told' broken_memory) else None)
      go true is = is refl
      go false is = tt

-- a broken store is sound
pub broken_sound : {D : Type 0} (tells : Bool) (content : D → World) (moment : D → ℕ) (images : D → ℕ → World → Type 0) (disk : D) (m : Memory) (k : ℕ) → IsMemory m → IsSound tells content moment images disk (record m { broken = Some k })
broken_sound tells content moment images disk m k is = record {
  memory = record { books = is.books; orderly = is.orderly; parts = is.parts; marked = is.marked; received = is.received; numbers = is.numbers; given = is.given; staged = is.staged; queued = is.queued };
  kept = λ whole. none_some (sym whole);
  bodies = λ whole. none_some (sym whole);
}
