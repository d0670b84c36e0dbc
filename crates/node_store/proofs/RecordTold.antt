-- One record more of an open part, and only the ledger changed on the disk: what is told then.
use Rattle.std.proofs.Common.{◌≡◌, ℕ, ◌+◌, ◌-◌, List, [], ◌∷◌, ◌++◌, length, drop, map, Option, Some, None, Result, Ok, Err, Bool, true, false, refl, sym, ◌∙◌, ap, arith, length-append, length-drop, append-nil}
use Rattle.std.specs.Prelude.{option_map, ◌&&◌, if◌then◌else◌}
use Rattle.std.proofs.lemmas.List.{drop-append-le}
use Rattle.ftn_addr.specs.Counts.{Increased}
use Rattle.disk_model.specs.World as W
use Rattle.disk_model.specs.World.{World}
use Rattle.disk_model.specs.Changes.{Only}
use Rattle.ledger_file.specs.Ledger.{ledger_name}
use Rattle.ledger_rec.specs.Fold.{is_among}
use Rattle.ledger_rec.specs.Payloads.{record_in}
use Rattle.ledger_rec.specs.Record.{RecordText}
use Rattle.ledger_rec.specs.declared.fault.RecFault.{RecFault}
use Rattle.node_model.specs.Calls.{Logs}
use Rattle.node_model.specs.Items.{MarkOf}
use Rattle.node_model.specs.Node.{Logged}
use Rattle.node_model.specs.Stocks.{Stock, Sizes, part_in}
use Rattle.node_model.specs.StoreStates.{Stored, shelf_of, stored_after, changed, placed}
use Rattle.node_model.specs.Stores.{StoreCall, TouchesDisk, MayLose, StorePasses, Before_it, Stock_before, TellsOn, PartsStay, BreaksStore}
use Rattle.node_store.specs.Books.{Books, IsBooks}
use Rattle.node_store.specs.Contents.{Contents, durable_by}
use Rattle.node_store.specs.Logs.{noted, logged, log_of}
use Rattle.node_store.specs.Names.{in_name, out_name}
use Rattle.node_store.specs.Stored.{Part, Memory, front_of, told_in, sizes_in, told_parts, part_by, stock_by, stored_in, state_of}
use Rattle.node_store.specs.Worlds.{bytes_of, or_else, gift_of, is_absent, takes_in, outside_in, gift_told}
use Rattle.node_store.proofs.Alike.{ledger_alike, takes_alike}
use Rattle.node_store.proofs.Calls.{is_told}
use Rattle.node_store.proofs.NameLaws.{in_not_ledger, out_not_ledger}
use Rattle.node_store.proofs.Puts.{same_sizes}

-- The log: a record more, of that seat.

log_last : (seats : List ℕ) (ps : List (List ℕ)) (seat : ℕ) (p : List ℕ) → length seats ≡ length ps → log_of (seats ++ seat ∷ []) (ps ++ p ∷ []) ≡ log_of seats ps ++ logged seat (record_in p)
log_last [] [] seat p same = append-nil (logged seat (record_in p))
log_last [] (q ∷ ps) seat p same = absurd (omega (arith, same))
log_last (k ∷ seats) [] seat p same = absurd (omega (arith, same))
log_last (k ∷ seats) (q ∷ ps) seat p same = go (record_in q) (log_last seats ps seat p (omega (arith, same)))
  where
    go : (x : Result RecordText RecFault) → log_of (seats ++ seat ∷ []) (ps ++ p ∷ []) ≡ log_of seats ps ++ logged seat (record_in p)
        → logged k x ++ log_of (seats ++ seat ∷ []) (ps ++ p ∷ []) ≡ (logged k x ++ log_of seats ps) ++ logged seat (record_in p)
    go (Ok r) rest = ap (λ (l : List Logged). record { seat = k; entry = noted r } ∷ l) rest
    go (Err e) rest = rest

pub log_more : (b c : Books) (payload : List ℕ) (r : RecordText) (seat : ℕ) → IsBooks b → record_in payload ≡ Ok r → c.payloads ≡ b.payloads ++ payload ∷ [] → c.opened ≡ b.opened → c.seats ≡ b.seats ++ seat ∷ []
    → log_of c.seats (drop c.opened c.payloads) ≡ log_of b.seats (drop b.opened b.payloads) ++ record { seat = seat; entry = noted r } ∷ []
log_more b c payload r seat is spells payloads opened seats =
    (λ i. log_of (seats i) (drop (opened i) (payloads i)))
    ∙ ap (log_of (b.seats ++ seat ∷ [])) (drop-append-le b.opened b.payloads (payload ∷ []) (omega (arith, is.since)))
    ∙ log_last b.seats (drop b.opened b.payloads) seat payload (omega (arith, is.since, length-drop b.opened b.payloads))
    ∙ ap (λ (x : Result RecordText RecFault). log_of b.seats (drop b.opened b.payloads) ++ logged seat x) spells

-- Files but for the ledger.

module _ (told told' : World) (only : Only ledger_name told told') (given : List ℕ) where
  pub same_told : told_in told' given ≡ told_in told given
  same_told = λ i. record {
    queued = λ number size. front_of size (bytes_of (only.others (out_name number) (out_not_ledger number) i));
    received = λ number size. if is_among number given then or_else (only.others (in_name number) (in_not_ledger number) i) (gift_of (in_name number) size (only.gifts i)) else Some (front_of size (bytes_of (only.others (in_name number) (in_not_ledger number) i)));
    front = λ number len. front_of len (bytes_of (only.others (in_name number) (in_not_ledger number) i));
    given = λ number. is_absent (only.others (in_name number) (in_not_ledger number) i) && is_among number given;
  }

-- The same memory tells the same then.
pub same_stored : (told told' : World) (m : Memory) → Only ledger_name told told' → stored_in told' m ≡ stored_in told m
same_stored told told' m only =
    let contents = same_told told told' only m.given in
    let takes = takes_alike told told' (ledger_alike m.books.folding.state told told' only).takes in
    let outside = ap (λ (f : List ℕ → Option W.OutFile). outside_in (record told { outside = f })) only.outside in
    λ i. record {
      stock = stock_by (contents i) m;
      recorded = m.books.folding.state.takes;
      takes = takes i;
      outside = outside i;
      gifts = map gift_told (only.gifts i);
      log = (stored_in told m).log;
    }

-- A record more, with other parts.
module _ (tells : Bool) (told told' : World) (faults faults' : ℕ) (m : Memory) (b : Books) (ps : List Part) (payload : List ℕ) (r : RecordText) (only : tells ≡ true → Only ledger_name told told') (calm : faults' ≡ faults) (is : IsBooks m.books)
    (spells : record_in payload ≡ Ok r) (payloads : b.payloads ≡ m.books.payloads ++ payload ∷ []) (places : b.reserved ≡ m.books.reserved - 1) (opened : b.opened ≡ m.books.opened) (seats : b.seats ≡ m.books.seats ++ m.seat ∷ [])
    (takes : b.folding.state.takes ≡ m.books.folding.state.takes) (f : Sizes → Sizes) (g : Stock → Stock) (sizes : stock_by (sizes_in tells told m.given) (record m { books = b; parts = ps }) ≡ f (stock_by (sizes_in tells told m.given) m))
    (bytes : tells ≡ true → stock_by (told_in told m.given) (record m { books = b; parts = ps }) ≡ g (stock_by (told_in told m.given) m)) where
  abbrev pub with_record : Memory
  with_record = record m { books = b; parts = ps }

  log : log_of b.seats (drop b.opened b.payloads) ≡ log_of m.books.seats (drop m.books.opened m.books.payloads) ++ record { seat = m.seat; entry = noted r } ∷ []
  log = log_more m.books b payload r m.seat is spells payloads opened seats

  pub stored_more : tells ≡ true → stored_in told' with_record ≡ stored_after g m.seat (noted r ∷ []) (stored_in told m)
  stored_more t =
      same_stored told told' with_record (only t)
      ∙ (λ i. record { stock = bytes t i; recorded = takes i; takes = takes_in told; outside = outside_in told; gifts = map gift_told told.gifts; log = log i })

  pub record_told : state_of tells told' faults' with_record ≡ placed (changed f g (noted r ∷ []) (state_of tells told faults m))
  record_told =
      let stock : stock_by (sizes_in tells told' m.given) with_record ≡ f (stock_by (sizes_in tells told m.given) m) =
      ap (λ (c : Contents ℕ). stock_by c with_record) (same_sizes tells told told' m.given (λ t. (only t).gifts) (λ t n among. (only t).others (in_name n) (in_not_ledger n))) ∙ sizes in
      let records : length b.payloads ≡ length m.books.payloads + 1 = ap length payloads ∙ length-append m.books.payloads (payload ∷ []) in
      let appended : length (log_of b.seats (drop b.opened b.payloads)) ≡ length (log_of m.books.seats (drop m.books.opened m.books.payloads)) + 1 =
      ap length log ∙ length-append (log_of m.books.seats (drop m.books.opened m.books.payloads)) (record { seat = m.seat; entry = noted r } ∷ []) in
      let content = go tells stored_more in
      λ i. record {
        content = content i;
        stock = stock i;
        recorded = takes i;
        records = records i;
        reserved = places i;
        staged = m.last_staged;
        drawn = m.drawn;
        seat = m.seat;
        appended = appended i;
        last_given = m.last_given;
        counts = record { faults = calm i; fulls = m.fulls; broken = m.broken };
      }
    where
      go : (b : Bool) → (b ≡ true → stored_in told' with_record ≡ stored_after g m.seat (noted r ∷ []) (stored_in told m))
          → (if b then Some (stored_in told' with_record) else None) ≡ option_map (stored_after g m.seat (noted r ∷ [])) (if b then Some (stored_in told m) else None)
      go true is = ap Some (is refl)
      go false is = refl

-- The disk failed, and what it tells changed by the ledger alone; some open part may be lost.
module _ (tells : Bool) (told told' : World) (faults faults' : ℕ) (m : Memory) (ps : List Part) (only : tells ≡ true → Only ledger_name told told') (asked : StoreCall) where
  abbrev pub broken_with : Memory
  broken_with = record m { parts = ps; broken = Some faults' }

  -- the parts that the call doesn't speak of stay
  abbrev pub OthersStay : {B : Type 0} → Contents B → Type 0
  OthersStay c = (x : MarkOf ℕ) → MayLose asked x ≡ false → part_in x.number (map (part_by c) (told_parts m.drawn ps)) ≡ part_in x.number (map (part_by c) (told_parts m.drawn m.parts))

  abbrev passes : Stored → Stored → Type 0
  passes a b =
      StorePasses (state_of tells told faults m) asked (shelf_of b) × Logs m.seat a.log b.log × PartsStay asked (state_of tells told faults m).stock a.stock b.stock

  pub breaks_told : TouchesDisk asked → Increased faults faults' → OthersStay (sizes_in tells told m.given) → (tells ≡ true → OthersStay (told_in told m.given)) → BreaksStore asked (state_of tells told faults m) (state_of tells told' faults' broken_with)
  breaks_told touches rose sizes bytes = record {
    touches = touches;
    rose = rose;
    counts = refl;
    stock = Stock_before (ap (λ (c : Contents ℕ). durable_by c m.books.folding.state) sized);
    parts = λ x there loses. ap (λ (c : Contents ℕ). part_in x.number (map (part_by c) (told_parts m.drawn ps))) sized ∙ sizes x loses;
    content = content tells (λ t.
        let same = same_stored told told' broken_with (only t) in (
          Before_it (is_told tells t told faults m (shelf_of (stored_in told' broken_with)) (ap shelf_of same)),
          record { rest = []; grows = sym (append-nil (stored_in told m).log); own = tt },
          λ x there loses. ap (λ (s : Stored). part_in x.number s.stock.parts) same ∙ bytes t x loses,
        ));
    seat = refl;
  }
    where
      sized : sizes_in tells told' m.given ≡ sizes_in tells told m.given
      sized = same_sizes tells told told' m.given (λ t. (only t).gifts) (λ t n among. (only t).others (in_name n) (in_not_ledger n))

      content : (b : Bool) → (b ≡ true → passes (stored_in told m) (stored_in told' broken_with)) → TellsOn passes (if b then Some (stored_in told m) else None) (if b then Some (stored_in told' broken_with) else None)
      content true is = is refl
      content false is = tt
