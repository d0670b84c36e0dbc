-- Acting on the next source of an address, whole.
use Rattle.std.proofs.Common.{◌≡◌, ⊎_elim, ℕ, ◌+◌, ◌-◌, ◌<◌, ◌≤◌, ◌==◌, List, [], ◌∷◌, ◌++◌, map, Option, Some, None, Result, Ok, Bool, true, false, ◌&&◌, refl, sym, ◌∙◌, ap, subst, append-nil, arith}
use Rattle.std.specs.Prelude.{option_map, if◌then◌else◌}
use Rattle.std.proofs.lemmas.Bool.{cases_lt}
use Rattle.std.proofs.lemmas.Bool.Decides.{Decides-eqb, Decides-ltb}
use Rattle.ftn_addr.specs.Address.{Address}
use Rattle.ftn_addr.specs.Counts.{Increased}
use Rattle.ftn_addr.specs.declared.refusals.Failed.{Failed}
use Rattle.disk_model.specs.World.{World}
use Rattle.disk_model.specs.Changes.{Every, Only}
use Rattle.disk_model.specs.Moments.{Now, Leaves, Together}
use Rattle.ledger_file.specs.Ledger.{ledger_name, LedgerIs, Appends}
use Rattle.ledger_rec.specs.Acting.{has_action}
use Rattle.ledger_rec.specs.Fold.{State, fold_step, changed, waits_for_action, acted_on, after}
use Rattle.ledger_rec.specs.Items.{Entry}
use Rattle.ledger_rec.specs.Payloads.{record_in, fold_of}
use Rattle.ledger_rec.specs.Record.{Acted}
use Rattle.node_model.specs.declared.store.StoreFault.TheVariants.{Disk}
use Rattle.node_model.specs.declared.words.TheConstants.{MOST_RECORDS}
use Rattle.node_model.specs.Durable.{with_acted}
use Rattle.node_model.specs.Calls.{Logs}
use Rattle.node_model.specs.Items.{EntryOf}
use Rattle.node_model.specs.Node.{Acted_record}
use Rattle.node_model.specs.Stocks.{Stock, on_state, part_in}
use Rattle.node_model.specs.StoreStates.{Shelf, Stored, shelf_of, StoreState, placed}
use Rattle.node_model.specs.StoreStates as S
use Rattle.node_model.specs.Stores.{Act_next, Acted_on, StoreKept, StoreDoes, BreaksStore, StorePasses, Before_it, Source_first, After_it, Stock_before, TellsOn, PartsStay, Refuses, OpensShelf, IsShelf, source_stored, acted}
use Rattle.node_model.proofs.Lists.{and_both, off, Each-member}
use Rattle.node_store.specs.Acting.{ActsOn}
use Rattle.node_store.specs.Books.{Books, IsBooks, AreSame}
use Rattle.node_store.specs.Contents.{Contents, entry_by, durable_by}
use Rattle.node_store.specs.Recording.{IsRecorded}
use Rattle.node_store.specs.Names.{in_name}
use Rattle.node_store.specs.Stored.{Memory, sizes_in, told_parts, part_by, stock_by, stored_in, state_of, left_of, IsSound}
use Rattle.node_store.proofs.ActSource.{acted_if, mid_gifts, mid_given, mid_stored, mid_sound, mid_opens, done_stored, done_told}
use Rattle.node_store.proofs.ActingNext.{IsNext, next_acted}
use Rattle.node_store.proofs.AppendCall.{Any, IsAppending, appended_now, opens_since, opens_now}
use Rattle.node_store.proofs.AppendTold.{stored_recorded, recorded_told, shelf_with, stored_only}
use Rattle.node_store.proofs.Calls.{standing, is_told}
use Rattle.node_store.proofs.Listed.{IsListed, listed_fold}
use Rattle.node_store.proofs.Numbered.{mapped_some, step_is_after, step_mirrored, step_in_world}
use Rattle.node_store.proofs.OneEntry.{IsChanged, KeepsFile, changed_files, changed_takes, memory_changed}
use Rattle.node_store.proofs.OneRecord.{IsOne, appending}
use Rattle.node_store.proofs.Places.{places_told, same_stored, sound_same}
use Rattle.node_store.proofs.GivenFiles.{SameGiven}
use Rattle.node_store.proofs.NameLaws.{in_not_ledger}
use Rattle.node_store.proofs.Puts.{same_sizes}
use Rattle.node_store.proofs.SettleCall.{changed_some, bodies_only}

-- The record of the next entry follows, and changes that entry.

pub acted_follows : (dest : Address) (ps : List (List ℕ)) (s : State) (e : Entry) → fold_of ps ≡ Some s → IsNext dest s.queue e → (t : State) × (fold_step s (Acted e.number) ≡ Some t)
acted_follows dest ps s e folds is =
    let listed = Each-member IsListed e s.queue (listed_fold ps s folds) is.there in
    let q = changed_some (waits_for_action e.number) acted_on e s.queue is.there (and_both (e.number == e.number) (has_action e) ((Decides-eqb e.number e.number).1 refl) is.acts) in
    let low : 0 < e.number = omega (arith, listed.some) in (
      record s { queue = q.0 },
      (λ i. if (Decides-ltb 0 e.number).1 low i && true then after s (Acted e.number) else None) ∙ ap (λ (o : Option (List Entry)). option_map (λ queue. record s { queue = queue }) o) q.1,
    )

acted_keeps : KeepsFile acted_on
acted_keeps = record { number = λ e. refl; key = λ e. refl; live = λ e live. live }

abbrev IsActed : ℕ → State → State → Type 0
IsActed number s t = IsChanged (waits_for_action number) acted_on s t

acted_by : (s t : State) (number : ℕ) → fold_step s (Acted number) ≡ Some t → IsActed number s t
acted_by s t number step =
    let m = mapped_some (λ queue. record s { queue = queue }) (changed (waits_for_action number) acted_on s.queue) t (step_is_after s (Acted number) t step) in
    record { queue = m.0; changes = m.1; is = sym m.2 }

-- the whole call, as far as the source
module _ {D : Type 0} (tells : Bool) (content : D → World) (files : D → World → Type 0) (faults moment : D → ℕ) (images : D → ℕ → World → Type 0) (reads : (d : D) (w : World) → files d w → (tells ≡ true) × (w ≡ content d))
    (told : tells ≡ true → (d : D) → files d (content d)) (old mid : D) (m : Memory) (sound : IsSound tells content moment images old m) (whole : m.broken ≡ None) (dest : Address) (x : Entry)
    (is : IsNext dest m.books.folding.state.queue x) (time : ℕ) (answer : Result (Unit {0}) Failed) (both : Together files moment images answer (λ _. ActsOn tells x time) old mid) where
  abbrev was : StoreState
  was = state_of tells (content old) (faults old) m

  abbrev e : EntryOf ℕ
  e = entry_by (sizes_in tells (content old) m.given) x

  abbrev Passes : Shelf → Type 0
  Passes = StorePasses was (Act_next dest)

  -- what is told once the source was acted on, or wasn't
  passes_if : (o : Option (Unit {0})) → tells ≡ true → Passes (shelf_of (acted_if o e time (stored_in (content old) m)))
  passes_if None t = Before_it (is_told tells t (content old) (faults old) m (shelf_of (stored_in (content old) m)) refl)
  passes_if (Some done) t = Source_first (x.number, next_acted (sizes_in tells (content old) m.given) m.books.folding.state.queue dest x is, time, go tells t)
    where
      go : (b : Bool) → b ≡ true → IsShelf (option_map (source_stored e time) (if b then Some (stored_in (content old) m) else None)) (shelf_of (source_stored e time (stored_in (content old) m)))
      go true t = refl
      go false t = off (sym t)

  told_mid : tells ≡ true → stored_in (content mid) m ≡ acted_if both.made e time (stored_in (content old) m)
  told_mid = mid_stored tells content files faults moment images reads told old mid m sound whole x time answer both

  passes_mid : tells ≡ true → Passes (shelf_of (stored_in (content mid) m))
  passes_mid t = subst (λ (s : Stored). Passes (shelf_of s)) (sym (told_mid t)) (passes_if both.made t)

  since_mid : (k : ℕ) (o : Option Shelf) → moment old < k → k ≤ moment mid → left_of tells (images mid) k o → OpensShelf Passes o
  since_mid = mid_opens tells content files faults moment images reads told old mid m sound whole x time answer both Passes passes_mid

  -- The disk failed, and it tells what it told then.
  module _ (last : D) (b : Books) (same : AreSame m.books b) (rose : Increased (faults old) (faults last)) (stored : tells ≡ true → stored_in (content last) m ≡ stored_in (content mid) m) (gifts : tells ≡ true → (content last).gifts ≡ (content mid).gifts) (given : tells ≡ true → SameGiven m.given (content mid) (content last)) where
    abbrev broken : Memory
    broken = record m { books = b; broken = Some (faults last) }

    stored_last : tells ≡ true → stored_in (content last) broken ≡ acted_if both.made e time (stored_in (content old) m)
    stored_last t = same_stored (content last) m b same ∙ stored t ∙ told_mid t

    sized : sizes_in tells (content last) m.given ≡ sizes_in tells (content old) m.given
    sized =
        same_sizes tells (content old) (content last) m.given (λ t. gifts t ∙ mid_gifts tells content files faults moment images reads told old mid m sound whole x time answer both t)
        (λ t n among. given t n among ∙ mid_given tells content files faults moment images reads told old mid m sound whole x time answer both t n among)

    -- the log and the open parts are the same
    same_log : (o : Option (Unit {0})) → (acted_if o e time (stored_in (content old) m)).log ≡ (stored_in (content old) m).log
    same_log None = refl
    same_log (Some done) = refl

    same_stock : (o : Option (Unit {0})) → (acted_if o e time (stored_in (content old) m)).stock ≡ (stored_in (content old) m).stock
    same_stock None = refl
    same_stock (Some done) = refl

    abbrev Breaks : Stored → Stored → Type 0
    Breaks a b = StorePasses was (Act_next dest) (shelf_of b) × Logs m.seat a.log b.log × PartsStay (Act_next dest) was.stock a.stock b.stock

    breaks : tells ≡ true → Breaks (stored_in (content old) m) (stored_in (content last) broken)
    breaks t = (
      subst (λ (s : Stored). Passes (shelf_of s)) (sym (stored_last t)) (passes_if both.made t),
      record { rest = []; grows = ap (λ (s : Stored). s.log) (stored_last t) ∙ same_log both.made ∙ sym (append-nil (stored_in (content old) m).log); own = tt },
      λ p there loses. ap (λ (s : Stored). part_in p.number s.stock.parts) (stored_last t) ∙ ap (λ (s : Stock). part_in p.number s.parts) (same_stock both.made),
    )

    pub acts_broken : BreaksStore (Act_next dest) was (state_of tells (content last) (faults last) broken)
    acts_broken = record {
      touches = tt;
      rose = rose;
      counts = refl;
      stock = Stock_before (ap (λ (s : State). durable_by (sizes_in tells (content last) m.given) s) same.state ∙ ap (λ (c : Contents ℕ). durable_by c m.books.folding.state) sized);
      parts = λ p there loses. ap (λ (c : Contents ℕ). part_in p.number (map (part_by c) (told_parts m.drawn m.parts))) sized;
      content = go tells breaks;
      seat = refl;
    }
      where
        go : (b : Bool) → (b ≡ true → Breaks (stored_in (content old) m) (stored_in (content last) broken)) → TellsOn Breaks (if b then Some (stored_in (content old) m) else None) (if b then Some (stored_in (content last) broken) else None)
        go true is = is refl
        go false is = tt

  -- the disk failed at the source
  pub act_failed : (b : Books) → AreSame m.books b → Increased (faults old) (faults mid)
      → StoreKept (standing tells content faults moment images old m) (Act_next dest) (Refuses Disk) (standing tells content faults moment images mid (record m { books = b; broken = Some (faults mid) }))
  act_failed b same rose = record {
    made = acts_broken mid b same rose (λ t. refl) (λ t. refl) (λ t n among. refl);
    later = both.stop.grew.later;
    before = λ k o le left. (left.0, left.1, both.stop.grew.before k left.1 le left.2, left.3);
    since = since_mid;
    now = λ still. absurd (let clash : Some (faults mid) ≡ None = still in cc clash);
  }

  -- The record, after the source was acted on.
  module _ (done : both.made ≡ Some tt) (calm : faults mid ≡ faults old) (b : Books) (same : AreSame m.books b) (books : IsBooks b) (reserved : b.reserved ≡ m.books.reserved + 1) (room : was.records + was.reserved + 1 ≤ MOST_RECORDS)
      (new : D) (payload : List ℕ) (spells : record_in payload ≡ Ok (Acted x.number)) (run : Leaves moment images (Appends b.payloads (payload ∷ [])) mid new) (only : tells ≡ true → Only ledger_name (content mid) (content new)) where
    abbrev reserving : Memory
    reserving = record m { books = b }

    sound_mid : IsSound tells content moment images mid reserving
    sound_mid = sound_same tells content moment images mid m b same books (mid_sound tells content files faults moment images reads told old mid m sound whole x time answer both)

    is_one : (t : State) → fold_step b.folding.state (Acted x.number) ≡ Some t → IsOne tells content moment images mid new reserving payload (Acted x.number) t (with_acted x.number)
    is_one t step =
        let h = acted_by b.folding.state t x.number step in
        record {
          sound = sound_mid;
          whole = whole;
          spells = spells;
          step = step;
          takes = changed_takes (waits_for_action x.number) acted_on acted_keeps b.folding.state t h;
          mirrored = λ c. step_in_world c b.payloads b.folding.state (Acted x.number) t books.folds step;
          files = changed_files (waits_for_action x.number) acted_on acted_keeps b.folding.state t h;
          run = run;
        }

    abbrev after_it : Shelf
    after_it = shelf_with (with_acted x.number) (shelf_of (stored_in (content mid) reserving))

    append_is : (t : State) → fold_step b.folding.state (Acted x.number) ≡ Some t → IsAppending tells content moment images mid new reserving Any (payload ∷ []) t after_it
    append_is t step = appending tells content moment images mid new reserving payload (Acted x.number) t (with_acted x.number) (is_one t step)

    -- what it comes to
    abbrev would : StoreState
    would = acted e time was

    does : StoreDoes was (Act_next dest) (Acted_on (Some x.number)) would
    does = record { next = next_acted (sizes_in tells (content old) m.given) m.books.folding.state.queue dest x is; room = room; time = time; after = refl }

    stored_reserving : stored_in (content mid) reserving ≡ stored_in (content mid) m
    stored_reserving = same_stored (content mid) m b same

    would_tell : tells ≡ true → IsShelf would.content after_it
    would_tell t =
        subst (λ (s : Stored). IsShelf would.content (shelf_with (with_acted x.number) (shelf_of s))) (sym (stored_reserving ∙ done_stored tells content files faults moment images reads told old mid m sound whole x time answer both done calm t))
        (go tells t)
      where
        go : (b : Bool) → b ≡ true
            → IsShelf (option_map (S.stored_after (on_state (with_acted x.number)) m.seat (Acted_record x.number ∷ [])) (option_map (source_stored e time) (if b then Some (stored_in (content old) m) else None))) (shelf_with (with_acted x.number) (shelf_of (source_stored e time (stored_in (content old) m))))
        go true t = refl
        go false t = off (sym t)

    since_all : (t : State) → fold_step b.folding.state (Acted x.number) ≡ Some t → (k : ℕ) (o : Option Shelf) → moment old < k → k ≤ moment new → left_of tells (images new) k o → OpensShelf Passes o
    since_all t step k o from to left = ⊎_elim
        (λ (behind : moment mid < k).
        opens_since tells content faults moment images mid new reserving Any (payload ∷ []) t after_it (append_is t step) Passes (λ t. subst (λ (s : Stored). Passes (shelf_of s)) (sym stored_reserving) (passes_mid t)) (λ t. After_it (Acted_on (Some x.number)) would does (would_tell t)) k o behind to left)
        (λ (within : k ≤ moment mid). since_mid k o from within (left.0, left.1, run.grew.before k left.1 within left.2, left.3))
        (cases_lt (moment mid) k)

    before_all : (k : ℕ) (o : Option Shelf) → k ≤ moment old → left_of tells (images new) k o → left_of tells (images old) k o
    before_all k o le left =
        let on : moment old ≤ moment mid = both.stop.grew.later in
        (left.0, left.1, both.stop.grew.before k left.1 le (run.grew.before k left.1 (omega (arith, le, on)) left.2), left.3)

    later_all : moment old ≤ moment new
    later_all =
        let on : moment old ≤ moment mid = both.stop.grew.later in
        let further : moment mid ≤ moment new = run.grew.later in
        omega (arith, on, further)

    -- the disk failed at the record
    pub act_unrecorded : (c : Books) → AreSame m.books c → (t : State) → fold_step b.folding.state (Acted x.number) ≡ Some t → Increased (faults mid) (faults new)
        → StoreKept (standing tells content faults moment images old m) (Act_next dest) (Refuses Disk) (standing tells content faults moment images new (record m { books = c; broken = Some (faults new) }))
    act_unrecorded c again t step rose = record {
      made = acts_broken new c again (subst (λ (n : ℕ). Increased n (faults new)) calm rose) (λ t. stored_only (content mid) (content new) (only t) m) (λ t. (only t).gifts) (λ t n among. (only t).others (in_name n) (in_not_ledger n));
      later = later_all;
      before = before_all;
      since = since_all t step;
      now = λ still. absurd (let clash : Some (faults new) ≡ None = still in cc clash);
    }

    -- the record is durable
    module _ (c : Books) (kept : IsBooks c) (recorded : IsRecorded payload (Acted x.number) m.seat b c) (durable : Every (Now moment images new) (LedgerIs c.payloads)) (still : faults new ≡ faults mid) where
      abbrev recorded_memory : Memory
      recorded_memory = record m { books = c }

      is_acted : IsActed x.number b.folding.state c.folding.state
      is_acted = acted_by b.folding.state c.folding.state x.number recorded.folded

      takes : c.folding.state.takes ≡ b.folding.state.takes
      takes = changed_takes (waits_for_action x.number) acted_on acted_keeps b.folding.state c.folding.state is_acted

      stock_acted : {B : Type 0} (k : Contents B) → stock_by k recorded_memory ≡ on_state (with_acted x.number) (stock_by k reserving)
      stock_acted k = λ i. record (stock_by k reserving) { state = step_mirrored k b.payloads b.folding.state (Acted x.number) c.folding.state books.folds recorded.folded i }

      told_acted : tells ≡ true → shelf_of (stored_in (content new) recorded_memory) ≡ after_it
      told_acted t =
          ap shelf_of (stored_recorded tells (content mid) (content new) (faults mid) (faults new) reserving c m.parts payload (Acted x.number) books spells recorded only still (on_state (with_acted x.number)) takes stock_acted (only t))

      ledger_now : Every (Now moment images new) (LedgerIs (b.payloads ++ payload ∷ []))
      ledger_now = subst (λ (ps : List (List ℕ)). Every (Now moment images new) (LedgerIs ps)) recorded.payloads durable

      -- it comes to that
      comes : state_of tells (content new) (faults new) recorded_memory ≡ would
      comes =
          let change : (StoreState → StoreState) = S.changed (on_state (with_acted x.number)) (on_state (with_acted x.number)) (Acted_record x.number ∷ []) in
          let back : (m.books.reserved + 1) - 1 ≡ m.books.reserved = omega arith in
          recorded_told tells (content mid) (content new) (faults mid) (faults new) reserving c m.parts payload (Acted x.number) books spells recorded only still (on_state (with_acted x.number)) (on_state (with_acted x.number)) takes stock_acted stock_acted
          ∙ ap (λ (s : StoreState). placed (change s)) (places_told tells (content mid) (faults mid) m b (m.books.reserved + 1) same reserved)
          ∙ (λ i. record (change (state_of tells (content mid) (faults mid) m)) { reserved = back i })
          ∙ ap change (done_told tells content files faults moment images reads told old mid m sound whole x time answer both done calm)

      pub act_kept : StoreKept (standing tells content faults moment images old m) (Act_next dest) (Acted_on (Some x.number)) (standing tells content faults moment images new (record m { books = c }))
      act_kept = record {
        made = subst (λ (s : StoreState). StoreDoes was (Act_next dest) (Acted_on (Some x.number)) s) (sym comes) does;
        later = later_all;
        before = before_all;
        since = since_all c.folding.state recorded.folded;
        now = λ whole o left.
            opens_now tells content faults moment images mid new reserving Any (payload ∷ []) c.folding.state after_it (append_is c.folding.state recorded.folded) ledger_now (λ w image. tt)
            (IsShelf (state_of tells (content new) (faults new) recorded_memory).content) (λ t. is_told tells t (content new) (faults new) recorded_memory after_it (sym (told_acted t))) o left;
      }

      pub act_sound : IsSound tells content moment images new (record m { books = c })
      act_sound = record {
        memory = memory_changed (waits_for_action x.number) acted_on acted_keeps reserving c is_acted recorded.holds kept sound_mid.memory;
        kept = λ whole.
            appended_now tells content faults moment images mid new reserving Any (payload ∷ []) c.folding.state after_it (append_is c.folding.state recorded.folded) ledger_now (λ w image. tt) recorded_memory recorded.payloads refl told_acted;
        bodies = λ still t. bodies_only (content mid) (content new) reserving recorded_memory (only t) refl refl refl (sound_mid.bodies whole t);
      }
