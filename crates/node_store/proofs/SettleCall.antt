-- Settling a live entry.
use Rattle.std.proofs.Common.{◌≡◌, ◌≢◌, ℕ, ◌<◌, ◌==◌, List, [], ◌∷◌, ◌++◌, Option, Some, None, Ok, Bool, true, false, ◌&&◌, refl, sym, ◌∙◌, ap, subst, inl, inr, arith}
use Rattle.std.specs.Prelude.{option_map, if◌then◌else◌}
use Rattle.std.specs.List.{AllByRecursion}
use Rattle.std.proofs.lemmas.Bool.Decides.{Decides-eqb, Decides-ltb}
use Rattle.disk_model.specs.World.{World}
use Rattle.disk_model.specs.Changes.{Every, Only}
use Rattle.disk_model.specs.Moments.{Now, Leaves}
use Rattle.ftn_addr.specs.Counts.{Increased}
use Rattle.ledger_file.specs.Ledger.{ledger_name, LedgerIs, Appends}
use Rattle.ledger_rec.specs.Fold.{State, fold_step, changed, settled, is_live, after}
use Rattle.ledger_rec.specs.Items.{Entry}
use Rattle.ledger_rec.specs.Payloads.{record_in, fold_of}
use Rattle.ledger_rec.specs.Record.{Done}
use Rattle.node_model.specs.declared.store.StoreFault.TheVariants.{Disk}
use Rattle.node_model.specs.Durable.{with_done}
use Rattle.node_model.specs.Items as N
use Rattle.node_model.specs.Lists.{Member}
use Rattle.node_model.specs.Node.{Done_record}
use Rattle.node_model.specs.Stocks.{Stock, Sizes, on_state}
use Rattle.node_model.specs.StoreStates.{shelf_of}
use Rattle.node_model.specs.Stores as S
use Rattle.node_model.specs.Stores.{IsLive, Settle, StoreKept, StoreDoes, Well, Refuses}
use Rattle.node_model.proofs.Lists.{and_both, off, Each-member}
use Rattle.node_store.specs.Books.{Books, IsBooks}
use Rattle.node_store.specs.Contents.{Contents, entry_by}
use Rattle.node_store.specs.Names.{in_name, out_name}
use Rattle.node_store.specs.Recording.{IsRecorded}
use Rattle.node_store.specs.Stored.{Part, Put, Memory, sizes_in, stock_by, stored_in, state_of, HasBodies, IsSound, AreGone}
use Rattle.node_store.specs.Worlds.{HasLength}
use Rattle.node_store.proofs.Alike.{all_by}
use Rattle.node_store.proofs.AppendCall.{Any, appended_failed, appended_now, appended_kept}
use Rattle.node_store.proofs.AppendTold.{stored_recorded, recorded_told, shelf_with, breaks_same, stored_only}
use Rattle.node_store.proofs.Calls.{standing}
use Rattle.node_store.proofs.Found.{seen_from}
use Rattle.node_store.proofs.Listed.{IsListed, listed_fold}
use Rattle.node_store.proofs.NameLaws.{in_not_ledger, out_not_ledger}
use Rattle.node_store.proofs.Numbered.{mapped_some, step_is_after, step_mirrored, step_in_world}
use Rattle.node_store.proofs.OneEntry.{IsChanged, KeepsFile, changed_files, changed_takes, memory_changed}
use Rattle.node_store.proofs.OneRecord.{IsOne, appending, would_tell}
use Rattle.node_store.proofs.GivenFiles.{still_gone}

pub changed_some : {A : Type 0} (p : A → Bool) (f : A → A) (x : A) (xs : List A) → Member x xs → p x ≡ true → (ys : List A) × (changed p f xs ≡ Some ys)
changed_some p f x [] there passes = absurd there
changed_some {A} p f x (y ∷ xs) (inl same) passes = (f y ∷ xs, ap (λ (b : Bool). if b then Some (f y ∷ xs) else option_map (λ zs. y ∷ zs) (changed p f xs)) (ap p (sym same) ∙ passes))
changed_some {A} p f x (y ∷ xs) (inr later) passes = go (p y) (changed_some p f x xs later passes)
  where
    go : (b : Bool) → ((zs : List A) × (changed p f xs ≡ Some zs)) → (ys : List A) × ((if b then Some (f y ∷ xs) else option_map (λ zs. y ∷ zs) (changed p f xs)) ≡ Some ys)
    go true rest = (f y ∷ xs, refl)
    go false rest = (y ∷ rest.0, ap (λ (o : Option (List A)). option_map (λ zs. y ∷ zs) o) rest.1)

-- a live entry of the fold
pub record IsLiveEntry (number len : ℕ) (s : State) : Type 0 where
  pub entry : Entry
  pub there : Member entry s.queue
  pub numbered : entry.number ≡ number
  pub live : entry.live ≡ true
  pub size : entry.key.size ≡ len

pub live_entry : (tells : Bool) (w : World) (faults : ℕ) (m : Memory) (number : ℕ) (is : IsLive number (state_of tells w faults m)) → IsLiveEntry number is.entry.key.size m.books.folding.state
live_entry tells w faults m number is =
    let c = sizes_in tells w m.given in
    let e = seen_from (entry_by c) is.entry m.books.folding.state.queue is.there in
    record {
      entry = e.0;
      there = e.1;
      numbered = sym (ap (λ (x : N.EntryOf ℕ). x.number) e.2) ∙ is.numbered;
      live = go e.0.live e.0.key.size is.entry.key.size (sym (ap (λ (x : N.EntryOf ℕ). x.body) e.2) ∙ is.live);
      size = sym (ap (λ (x : N.EntryOf ℕ). x.key.size) e.2);
    }
  where
    go : (b : Bool) (n k : ℕ) → ◌≡◌ {A = N.BodyOf ℕ} (if b then N.Live n else N.Done) (N.Live k) → b ≡ true
    go true n k same = refl
    go false n k same = absurd (let clash : ◌≡◌ {A = N.BodyOf ℕ} N.Done (N.Live k) = same in cc clash)

-- the record of a live entry follows
pub done_follows : (ps : List (List ℕ)) (s : State) (number session size : ℕ) → fold_of ps ≡ Some s → IsLiveEntry number size s → session ≢ 0 → (t : State) × (fold_step s (Done number session) ≡ Some t)
done_follows ps s number session size folds l some =
    let e = l.entry in
    let listed = Each-member IsListed e s.queue (listed_fold ps s folds) l.there in
    let q = changed_some (is_live number) settled e s.queue l.there (and_both (e.number == number) e.live ((Decides-eqb e.number number).1 l.numbered) l.live) in
    let low : 0 < number = omega (arith, listed.some, l.numbered) in
    let high : 0 < session = omega (arith, some) in (
      record s { queue = q.0 },
      (λ i. if (Decides-ltb 0 number).1 low i && ((Decides-ltb 0 session).1 high i && true) then after s (Done number session) else None)
          ∙ ap (λ (o : Option (List Entry)). option_map (λ queue. record s { queue = queue }) o) q.1,
    )

-- what it leaves

settled_keeps : KeepsFile settled
settled_keeps = record { number = λ e. refl; key = λ e. refl; live = λ e live. off (sym live) }

abbrev IsSettled : ℕ → State → State → Type 0
IsSettled number s t = IsChanged (is_live number) settled s t

settled_by : (s t : State) (number session : ℕ) → fold_step s (Done number session) ≡ Some t → IsSettled number s t
settled_by s t number session step =
    let m = mapped_some (λ queue. record s { queue = queue }) (changed (is_live number) settled s.queue) t (step_is_after s (Done number session) t step) in
    record { queue = m.0; changes = m.1; is = sym m.2 }

-- files of parts and staged files, where only the ledger changed
pub bodies_only : (d c : World) (m m' : Memory) → Only ledger_name d c → m'.parts ≡ m.parts → m'.staged ≡ m.staged → m'.given ≡ m.given → HasBodies m d → HasBodies m' c
bodies_only d c m m' only parts staged given has = record {
  parts = subst (AllByRecursion (λ (p : Part). HasLength (in_name p.number) p.have c)) (sym parts)
      (all_by (λ (p : Part). HasLength (in_name p.number) p.have d) (λ (p : Part). HasLength (in_name p.number) p.have c) (λ p h. (h.0, only.others (in_name p.number) (in_not_ledger p.number) ∙ h.1, h.2)) m.parts has.parts);
  staged = subst (AllByRecursion (λ (p : Put). HasLength (out_name p.number) p.size c)) (sym staged)
      (all_by (λ (p : Put). HasLength (out_name p.number) p.size d) (λ (p : Put). HasLength (out_name p.number) p.size c) (λ p h. (h.0, only.others (out_name p.number) (out_not_ledger p.number) ∙ h.1, h.2)) m.staged has.staged);
  given = subst (λ (ns : List ℕ). AreGone ns c) (sym given) (still_gone m.given d c has.given (λ n among. only.others (in_name n) (in_not_ledger n)));
}

-- the whole call
module _ {D : Type 0} (tells : Bool) (content : D → World) (faults moment : D → ℕ) (images : D → ℕ → World → Type 0) (old new : D) (m : Memory) (number session : ℕ) (payload : List ℕ)
    (sound : IsSound tells content moment images old m) (whole : m.broken ≡ None) (spells : record_in payload ≡ Ok (Done number session))
    (run : Leaves moment images (Appends m.books.payloads (payload ∷ [])) old new) (only : tells ≡ true → Only ledger_name (content old) (content new)) where
  one : (t : State) → fold_step m.books.folding.state (Done number session) ≡ Some t → IsOne tells content moment images old new m payload (Done number session) t (with_done number)
  one t step =
      let h = settled_by m.books.folding.state t number session step in
      record {
        sound = sound;
        whole = whole;
        spells = spells;
        step = step;
        takes = changed_takes (is_live number) settled settled_keeps m.books.folding.state t h;
        mirrored = λ c. step_in_world c m.books.payloads m.books.folding.state (Done number session) t sound.memory.books.folds step;
        files = changed_files (is_live number) settled settled_keeps m.books.folding.state t h;
        run = run;
      }

  abbrev settle : {B : Type 0} → Rattle.node_model.specs.Stocks.StockOf B → Rattle.node_model.specs.Stocks.StockOf B
  settle = on_state (with_done number)

  pub settle_failed : (t : State) → fold_step m.books.folding.state (Done number session) ≡ Some t → Increased (faults old) (faults new)
      → StoreKept (standing tells content faults moment images old m) (Settle number session) (Refuses Disk) (standing tells content faults moment images new (record m { broken = Some (faults new) }))
  settle_failed t step rose =
      appended_failed tells content faults moment images old new m Any (payload ∷ []) t (shelf_with (with_done number) (shelf_of (stored_in (content old) m)))
      (appending tells content moment images old new m payload (Done number session) t (with_done number) (one t step))
      (Settle number session) Well (S.settled number session (state_of tells (content old) (faults old) m)) refl
      (would_tell tells (content old) (faults old) m (on_state (with_done number)) (on_state (with_done number)) (with_done number) (Done_record number session ∷ []) (λ s. refl))
      (record m { broken = Some (faults new) })
      (breaks_same tells (content old) (content new) (faults old) (faults new) m (Settle number session) tt rose (λ t. stored_only (content old) (content new) (only t) m) (λ t. (only t).gifts) (λ t n among. (only t).others (in_name n) (in_not_ledger n)))

  -- the record is durable
  module _ (b : Books) (books : IsBooks b) (recorded : IsRecorded payload (Done number session) m.seat m.books b) (durable : Every (Now moment images new) (LedgerIs b.payloads)) (calm : faults new ≡ faults old) where
    abbrev after_it : Memory
    after_it = record m { books = b }

    is_settled : IsSettled number m.books.folding.state b.folding.state
    is_settled = settled_by m.books.folding.state b.folding.state number session recorded.folded

    takes : b.folding.state.takes ≡ m.books.folding.state.takes
    takes = changed_takes (is_live number) settled settled_keeps m.books.folding.state b.folding.state is_settled

    stock_settled : {B : Type 0} (c : Contents B) → stock_by c after_it ≡ on_state (with_done number) (stock_by c m)
    stock_settled c = λ i. record (stock_by c m) { state = step_mirrored c m.books.payloads m.books.folding.state (Done number session) b.folding.state sound.memory.books.folds recorded.folded i }

    told_settled : tells ≡ true → shelf_of (stored_in (content new) after_it) ≡ shelf_with (with_done number) (shelf_of (stored_in (content old) m))
    told_settled t =
        ap shelf_of (stored_recorded tells (content old) (content new) (faults old) (faults new) m b m.parts payload (Done number session) sound.memory.books spells recorded only calm (on_state (with_done number)) takes stock_settled (only t))

    ledger_now : Every (Now moment images new) (LedgerIs (m.books.payloads ++ payload ∷ []))
    ledger_now = subst (λ (ps : List (List ℕ)). Every (Now moment images new) (LedgerIs ps)) recorded.payloads durable

    pub settle_kept : StoreKept (standing tells content faults moment images old m) (Settle number session) Well (standing tells content faults moment images new (record m { books = b }))
    settle_kept =
        appended_kept tells content faults moment images old new m Any (payload ∷ []) b.folding.state (shelf_with (with_done number) (shelf_of (stored_in (content old) m)))
        (appending tells content moment images old new m payload (Done number session) b.folding.state (with_done number) (one b.folding.state recorded.folded))
        ledger_now (λ w image. tt) (Settle number session) Well after_it (λ s t does. does)
        (recorded_told tells (content old) (content new) (faults old) (faults new) m b m.parts payload (Done number session) sound.memory.books spells recorded only calm (on_state (with_done number)) (on_state (with_done number)) takes stock_settled stock_settled)
        told_settled

    pub settle_sound : IsSound tells content moment images new (record m { books = b })
    settle_sound = record {
      memory = memory_changed (is_live number) settled settled_keeps m b is_settled recorded.holds books sound.memory;
      kept = λ still.
          appended_now tells content faults moment images old new m Any (payload ∷ []) b.folding.state (shelf_with (with_done number) (shelf_of (stored_in (content old) m)))
          (appending tells content moment images old new m payload (Done number session) b.folding.state (with_done number) (one b.folding.state recorded.folded))
          ledger_now (λ w image. tt) after_it recorded.payloads refl told_settled;
      bodies = λ still t. bodies_only (content old) (content new) m after_it (only t) refl refl refl (sound.bodies whole t);
    }
