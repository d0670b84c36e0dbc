-- A part that came whole becomes a receipt.
use Rattle.std.proofs.Common.{◌≡◌, ◌≢◌, inl, inr, ⊎_elim, ℕ, ◌-◌, ◌==◌, List, [], ◌∷◌, ◌++◌, length, map, Option, Some, None, Ok, Bool, true, false, ◌&&◌, refl, sym, ◌∙◌, ap, subst, arith}
use Rattle.std.specs.Prelude.{find, option_map, if◌then◌else◌, ◌||◌, not}
use Rattle.ftn_addr.specs.Counts.{Increased}
use Rattle.disk_model.specs.World.{World}
use Rattle.disk_model.specs.Changes.{Every, Follows, Only}
use Rattle.disk_model.specs.Moments.{Now, Leaves}
use Rattle.ledger_file.specs.Ledger.{ledger_name, LedgerIs}
use Rattle.ledger_rec.specs.Fold.{State, is_among, with_receipt, without_hold, fold_step}
use Rattle.ledger_rec.specs.Payloads.{record_in}
use Rattle.ledger_rec.specs.Limits.{Fits}
use Rattle.ledger_rec.specs.Record.{ReceivedText, Received}
use Rattle.node_model.specs.declared.store.StoreFault.TheVariants.{Disk}
use Rattle.node_model.specs.Items.{MarkOf}
use Rattle.node_model.specs.Stocks.{part_in, part_committed, by_part}
use Rattle.node_model.specs.StoreStates.{StoreState}
use Rattle.node_model.specs.Stores.{StoreDoes, StoreKept, Commit, Well, Refuses, IsWhole, committed}
use Rattle.node_store.specs.Books.{Books, IsBooks}
use Rattle.node_store.specs.Contents.{Contents, durable_by}
use Rattle.node_store.specs.Names.{in_name}
use Rattle.node_store.specs.Recording.{IsRecorded, IsSynced, Records}
use Rattle.node_store.specs.Stored.{Part, Memory, front_of, told_in, sizes_in, told_parts, part_by, state_of, received_text, closed_in, without_part, IsPart, IsMemory, IsSound}
use Rattle.node_store.specs.Tied.{orderly_true, IsDrawn}
use Rattle.node_store.specs.Worlds.{bytes_of, gift_of, durable_in, HasLength, HasFiles, or_else, is_absent}
use Rattle.node_store.proofs.Calls.{standing}
use Rattle.node_store.proofs.ClosedParts.{has_number, all_left, orderly_left, others_found}
use Rattle.node_store.proofs.Committed.{ungiven, memory_without, memory_broken, memory_committed}
use Rattle.node_store.proofs.PartRecord.{IsPartRecord, part_failed, part_recorded, part_sound, broken_sound}
use Rattle.node_store.proofs.PutCall.{all_found, found_of, open_part}
use Rattle.node_store.proofs.PutSound.{told_holds}
use Rattle.node_store.proofs.Receipts.{received_step, files_received, durable_received, IsWholeIn, stock_committed}
use Rattle.node_model.proofs.Lists.{some_inj}
use Rattle.node_store.proofs.GivenFiles.{and_false}

-- The books with the receipt, where the hold is ended.
pub record IsReceipted (payload : List ℕ) (q : Part) (session : ℕ) (secure : Bool) (seat : ℕ) (old new : Books) : Type 0 where
  pub payloads : new.payloads ≡ old.payloads ++ payload ∷ []
  pub places : new.reserved ≡ old.reserved - 1
  pub opened : new.opened ≡ old.opened
  pub seats : new.seats ≡ old.seats ++ seat ∷ []
  pub folded : new.folding.state ≡ with_receipt (received_text q session secure) old.folding.state

-- what a commit is given
pub record IsCommitting {D : Type 0} (tells : Bool) (content : D → World) (files : D → World → Type 0) (moment : D → ℕ) (images : D → ℕ → World → Type 0) (old new : D) (m : Memory) (q : Part) (session : ℕ) (secure : Bool) (payload : List ℕ) : Type 0 where
  pub sound : IsSound tells content moment images old m
  pub whole : m.broken ≡ None
  pub found : find (has_number q.number) m.parts ≡ Some q
  pub all : q.have ≡ q.key.size
  pub in_session : session ≢ 0
  pub reads : (d : D) (w : World) → files d w → (tells ≡ true) × (w ≡ content d)
  pub told : tells ≡ true → (d : D) → files d (content d)
  pub read : Follows (Only ledger_name) (files old) (files new)
  pub run : Leaves moment images (Records (files old) (in_name q.number) m.books.payloads (payload ∷ [])) old new
  pub spells : record_in payload ≡ Ok (Received (received_text q session secure))

-- the part that came whole
pub record IsWholePart (number : ℕ) (m : Memory) : Type 0 where
  pub part : Part
  pub found : find (has_number number) m.parts ≡ Some part
  pub numbered : part.number ≡ number
  pub all : part.have ≡ part.key.size

pub whole_part : (tells : Bool) (w : World) (faults : ℕ) (m : Memory) (number : ℕ) → IsMemory m → IsWhole number (state_of tells w faults m) → IsWholePart number m
whole_part tells w faults m number is o =
    let cs = sizes_in tells w m.given in
    let opened = open_part tells w faults m number 0 is (record { part = o.part; is = o.is; fits = omega (arith, o.whole) }) in
    let there : part_in number (map (part_by cs) m.parts) ≡ Some o.part = ap (λ (b : Bool). part_in number (map (part_by cs) (if b then m.parts else []))) (sym is.orderly) ∙ o.is in
    let holds = told_holds cs number m.parts o.part (orderly_true m.drawn m.parts is.orderly).0 there in
    let told = (all_found (λ (p : Part). p.number ≡ number → part_by cs p ≡ o.part) number m.parts opened.part holds opened.found).0 opened.numbered in
    record { part = opened.part; found = opened.found; numbered = opened.numbered; all = subst (λ (x : MarkOf ℕ). x.bytes ≡ x.key.size) (sym told) o.whole }

-- the fold takes the receipt of such a part
pub receipt_follows : (m : Memory) (q : Part) (session : ℕ) (secure : Bool) → IsMemory m → find (has_number q.number) m.parts ≡ Some q → session ≢ 0
    → fold_step m.books.folding.state (Received (received_text q session secure)) ≡ Some (with_receipt (received_text q session secure) m.books.folding.state)
receipt_follows m q session secure is found in_session =
    let part = (all_found (IsPart m.books.folding) q.number m.parts q is.parts found).0 in
    let drawn = (all_found (IsDrawn m.drawn) q.number m.parts q (orderly_true m.drawn m.parts is.orderly).1 found).0 in
    received_step m.books.folding.state q session secure drawn.0 in_session part.unknown (⊎_elim (λ k. inl k.marked) (λ u. inr u.unused) part.number)

-- the file of an open part wasn't given
pub part_ungiven : (m : Memory) (q : Part) → IsMemory m → find (has_number q.number) m.parts ≡ Some q → is_among q.number m.given ≡ false
part_ungiven m q is found = ungiven q.number m.books.folding.state.inbox m.given (all_found (IsPart m.books.folding) q.number m.parts q is.parts found).0.received is.given

module _ {D : Type 0} (tells : Bool) (content : D → World) (files : D → World → Type 0) (faults moment : D → ℕ) (images : D → ℕ → World → Type 0) (old new : D) (m : Memory) (q : Part) (session : ℕ) (secure : Bool) (payload : List ℕ)
    (p : IsCommitting tells content files moment images old new m q session secure payload) where
  part_is : IsPart m.books.folding q
  part_is = (all_found (IsPart m.books.folding) q.number m.parts q p.sound.memory.parts p.found).0

  not_given : is_among q.number m.given ≡ false
  not_given = part_ungiven m q p.sound.memory p.found

  ungiven_flag : (a : Bool) → (a && is_among q.number m.given) ≡ false
  ungiven_flag a = ap (λ (b : Bool). a && b) not_given ∙ and_false a

  body : tells ≡ true → HasLength (in_name q.number) q.have (content old)
  body t = (all_found (λ (x : Part). HasLength (in_name x.number) x.have (content old)) q.number m.parts q (p.sound.bodies p.whole t).parts p.found).0

  found_in : {B : Type 0} (c : Contents B) → part_in q.number (map (part_by c) (told_parts m.drawn m.parts)) ≡ Some (part_by c q)
  found_in c =
      ap (λ (b : Bool). part_in q.number (map (part_by c) (if b then m.parts else []))) p.sound.memory.orderly ∙ found_of c q.number m.parts ∙ ap (option_map (part_by c)) p.found

  whole_size : (b : Bool) (lost : Option ℕ) → (if b && is_among q.number m.given then lost else Some q.key.size) ≡ Some q.have
  whole_size true lost = ap (λ (b : Bool). if b then lost else Some q.key.size) not_given ∙ ap Some (sym p.all)
  whole_size false lost = ap Some (sym p.all)

  in_sizes : IsWholeIn (sizes_in tells (content old) m.given) q
  in_sizes = record {
    given = ungiven_flag (not tells || is_absent ((content old).own (in_name q.number)));
    received = whole_size tells (option_map length (or_else ((content old).own (in_name q.number)) (gift_of (in_name q.number) q.key.size (content old).gifts)));
  }

  in_bytes : IsWholeIn (told_in (content old) m.given) q
  in_bytes = record {
    given = ungiven_flag (is_absent ((content old).own (in_name q.number)));
    received = ap (λ (b : Bool). if b then or_else ((content old).own (in_name q.number)) (gift_of (in_name q.number) q.key.size (content old).gifts) else Some (front_of q.key.size (bytes_of ((content old).own (in_name q.number))))) not_given
        ∙ ap (λ (n : ℕ). Some (front_of n (bytes_of ((content old).own (in_name q.number))))) (sym p.all);
  }

  committing : (b : Books) → IsReceipted payload q session secure m.seat m.books b
      → IsPartRecord tells content files moment images old new m b (without_part q.number m.parts) (in_name q.number) payload (Received (received_text q session secure)) (by_part q.number (λ x stock. part_committed x secure stock)) (by_part q.number (λ x stock. part_committed x secure stock))
  committing b more = record {
    sound = p.sound;
    whole = p.whole;
    reads = p.reads;
    told = p.told;
    read = p.read;
    run = p.run;
    spells = p.spells;
    step = receipt_follows m q session secure p.sound.memory p.found p.in_session ∙ ap Some (sym more.folded);
    payloads = more.payloads;
    places = more.places;
    opened = more.opened;
    seats = more.seats;
    takes = ap (λ (s : State). s.takes) more.folded;
    sizes = stock_committed (sizes_in tells (content old) m.given) m b q session secure in_sizes p.sound.memory.orderly (found_in (sizes_in tells (content old) m.given)) more.folded;
    bytes = λ t. stock_committed (told_in (content old) m.given) m b q session secure in_bytes p.sound.memory.orderly (found_in (told_in (content old) m.given)) more.folded;
    opens = λ t c has same own.
        let there = body t in
        subst (λ (s : State). HasFiles s c × (durable_in c s ≡ durable_by (told_in (content old) m.given) s)) (sym more.folded) (
          files_received (content old) m.given m.books.folding.state q session secure not_given p.all c (there.0, own ∙ there.1, there.2) has,
          durable_received (content old) m.given m.books.folding.state q session secure not_given p.all c there own same,
        );
  }

  would_be : (s : StoreState) → s ≡ committed (part_by (sizes_in tells (content old) m.given) q) session secure (state_of tells (content old) (faults old) m) → StoreDoes (state_of tells (content old) (faults old) m) (Commit q.number session secure) Well s
  would_be s is = (part_by (sizes_in tells (content old) m.given) q, found_in (sizes_in tells (content old) m.given), is)

  -- the books that a commit would leave
  abbrev would_books : Books
  would_books = record {
    payloads = m.books.payloads ++ payload ∷ [];
    reserved = m.books.reserved - 1;
    opened = m.books.opened;
    seats = m.books.seats ++ m.seat ∷ [];
    folding = record m.books.folding { state = with_receipt (received_text q session secure) m.books.folding.state };
  }

  -- the part is lost, and others stay
  others_stay : {B : Type 0} (c : Contents B) (x : MarkOf ℕ) → (x.number == q.number) ≡ false → part_in x.number (map (part_by c) (told_parts m.drawn (without_part q.number m.parts))) ≡ part_in x.number (map (part_by c) (told_parts m.drawn m.parts))
  others_stay c x differs =
      ap (λ (b : Bool). part_in x.number (map (part_by c) (if b then without_part q.number m.parts else []))) (orderly_left q.number m.drawn m.parts p.sound.memory.orderly)
      ∙ others_found c q.number x.number m.parts differs
      ∙ sym (ap (λ (b : Bool). part_in x.number (map (part_by c) (if b then m.parts else []))) p.sound.memory.orderly)

  -- the disk failed
  pub commit_failed : Increased (faults old) (faults new)
      → StoreKept (standing tells content faults moment images old m) (Commit q.number session secure) (Refuses Disk) (standing tells content faults moment images new (record m { parts = without_part q.number m.parts; broken = Some (faults new) }))
  commit_failed rose =
      part_failed tells content files faults moment images old new m would_books (without_part q.number m.parts) (in_name q.number) payload (Received (received_text q session secure)) (by_part q.number (λ x stock. part_committed x secure stock)) (by_part q.number (λ x stock. part_committed x secure stock))
      (committing would_books (record { payloads = refl; places = refl; opened = refl; seats = refl; folded = refl })) (Commit q.number session secure) would_be (without_part q.number m.parts) tt rose (others_stay (sizes_in tells (content old) m.given)) (λ t. others_stay (told_in (content old) m.given))

  pub failed_commit_sound : (count : ℕ) → IsSound tells content moment images new (record m { parts = without_part q.number m.parts; broken = Some count })
  failed_commit_sound count =
      broken_sound tells content moment images new (record m { parts = without_part q.number m.parts; broken = Some count }) count refl (memory_broken (record m { parts = without_part q.number m.parts }) count (memory_without m q.number p.sound.memory))

  -- the receipt is durable
  module _ (b : Books) (more : IsReceipted payload q session secure m.seat m.books b) (calm : faults new ≡ faults old) (durable : Every (Now moment images new) (LedgerIs b.payloads)) (synced : Every (Now moment images new) (IsSynced (files old) (in_name q.number))) where
    pub commit_kept : StoreKept (standing tells content faults moment images old m) (Commit q.number session secure) Well (standing tells content faults moment images new (record m { books = b; parts = without_part q.number m.parts }))
    commit_kept =
        part_recorded tells content files faults moment images old new m b (without_part q.number m.parts) (in_name q.number) payload (Received (received_text q session secure)) (by_part q.number (λ x stock. part_committed x secure stock)) (by_part q.number (λ x stock. part_committed x secure stock))
        (committing b more) (Commit q.number session secure) would_be calm durable synced

    pub commit_sound : IsBooks b → b.folding.holds ≡ without_hold q.from q.key m.books.folding.holds → IsSound tells content moment images new (record m { books = b; parts = without_part q.number m.parts })
    commit_sound books unheld =
        part_sound tells content files faults moment images old new m b (without_part q.number m.parts) (in_name q.number) payload (Received (received_text q session secure)) (by_part q.number (λ x stock. part_committed x secure stock)) (by_part q.number (λ x stock. part_committed x secure stock))
        (committing b more) (Commit q.number session secure) would_be calm durable synced (memory_committed m b q session secure p.sound.memory books p.found more.folded unheld)
        (λ t. all_left (λ (x : Part). HasLength (in_name x.number) x.have (content old)) q.number m.parts (p.sound.bodies p.whole t).parts)

-- the record of the receipt of a part that is closed
pub closed_receipt : (m : Memory) (q : Part) (session : ℕ) (secure : Bool) → IsMemory m → find (has_number q.number) m.parts ≡ Some q → (closed_in session secure q).receipt ≡ Received (received_text q session secure)
closed_receipt m q session secure is found =
    let part = (all_found (IsPart m.books.folding) q.number m.parts q is.parts found).0 in
    ap (λ (r : ReceivedText). Received (record r { session = session; secure = secure })) part.receipt.2

-- and it keeps its limits
pub receipt_fits : (m : Memory) (q : Part) (session : ℕ) (secure : Bool) → IsMemory m → find (has_number q.number) m.parts ≡ Some q → Fits (Received (received_text q session secure))
receipt_fits m q session secure is found =
    let part = (all_found (IsPart m.books.folding) q.number m.parts q is.parts found).0 in
    record { from = part.from; key = part.key }

-- the books after the record, once the hold is ended
pub receipted : (payload : List ℕ) (q : Part) (session : ℕ) (secure : Bool) (seat : ℕ) (old mid new : Books) → fold_step old.folding.state (Received (received_text q session secure)) ≡ Some (with_receipt (received_text q session secure) old.folding.state)
    → IsRecorded payload (Received (received_text q session secure)) seat old mid → new ≡ record mid { folding = record mid.folding { holds = without_hold q.from q.key mid.folding.holds } }
    → IsReceipted payload q session secure seat old new × (new.folding.holds ≡ without_hold q.from q.key old.folding.holds)
receipted payload q session secure seat old mid new step recorded unheld = (
  record {
    payloads = ap (λ (b : Books). b.payloads) unheld ∙ recorded.payloads;
    places = ap (λ (b : Books). b.reserved) unheld ∙ recorded.places;
    opened = ap (λ (b : Books). b.opened) unheld ∙ recorded.opened;
    seats = ap (λ (b : Books). b.seats) unheld ∙ recorded.seats;
    folded = ap (λ (b : Books). b.folding.state) unheld ∙ some_inj (sym recorded.folded ∙ step);
  },
  ap (λ (b : Books). b.folding.holds) unheld ∙ ap (without_hold q.from q.key) recorded.holds,
)
