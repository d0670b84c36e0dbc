-- Reading an own file.
use Rattle.std.proofs.Common.{◌≡◌, ℕ, ◌==◌, List, length, take, drop, map, Option, Some, None, Bool, true, false, refl, sym, ◌∙◌, ap, subst, arith}
use Rattle.std.specs.Prelude.{IsSome, find, option_map, not, ◌&&◌, ◌||◌, if◌then◌else◌}
use Rattle.disk_model.specs.World.{World}
use Rattle.disk_model.specs.Changes.{Every, Same, Stands}
use Rattle.disk_model.specs.Moments.{Steps}
use Rattle.ftn_addr.specs.Counts.{Increased}
use Rattle.ledger_rec.specs.Fold.{State, is_among}
use Rattle.ledger_rec.specs.Items.{Entry, Receipt, entry, receipt}
use Rattle.ledger_rec.specs.Payloads.{fold_of}
use Rattle.ledger_rec.specs.declared.items.InboxItem.{InboxItem}
use Rattle.ledger_rec.specs.declared.items.QueueItem.{QueueItem}
use Rattle.node_model.specs.declared.store.StoreFault.TheVariants.{Disk}
use Rattle.node_model.specs.Items as N
use Rattle.node_model.specs.Lists.{Member}
use Rattle.node_model.specs.StoreWords.{size_of_entry, size_in, size_of_receipt, size_in_receipt}
use Rattle.node_model.specs.StoreStates.{Stored, Shelf, shelf_of, IfTold, Source, PartFile}
use Rattle.node_model.specs.Stores.{IsLive, IsKept, Read_source, Read_part, Came, Refuses, StoreKept, StoreMade}
use Rattle.node_model.proofs.Lists.{off, Each-member}
use Rattle.node_store.specs.Contents.{Contents, entry_by, receipt_by}
use Rattle.node_store.specs.Names.{in_name, out_name}
use Rattle.node_store.specs.Stored as T
use Rattle.node_store.specs.Stored.{Memory, front_of, told_in, sizes_in, stored_in, state_of, IsSound}
use Rattle.node_store.specs.Worlds.{bytes_of, or_else, gift_of, is_absent, contents_in, shelf_in, HasLength, HasNoOther, HasFiles}
use Rattle.node_store.proofs.AppendTold.{breaks_same}
use Rattle.node_store.proofs.Calls.{standing}
use Rattle.node_store.proofs.Found.{seen_from, seen_there, views_agree, only_one, is_found, found_is, found_seen}
use Rattle.node_store.proofs.GivenFiles.{and_false}
use Rattle.node_store.proofs.Numbered.{numbered_fold}
use Rattle.node_store.proofs.Quiet.{quiet_call, quiet_now, retold}
use Rattle.node_store.proofs.SettleCall.{IsLiveEntry, live_entry}
use Rattle.node_store.proofs.TellAlike.{front_whole}

-- A call that changed nothing, over a disk that reads as before.

pub read_again : {D : Type 0} (tells : Bool) (content : D → World) (files : D → World → Type 0) (old new : D)
    → ((d : D) (w : World) → files d w → (tells ≡ true) × (w ≡ content d)) → (tells ≡ true → (d : D) → files d (content d)) → Every (files new) (files old) → tells ≡ true → content new ≡ content old
read_again tells content files old new reads told read t = (reads old (content new) (read (content new) (told t new))).1

pub same_state : (tells : Bool) (w v : World) (faults : ℕ) (m : Memory) → (tells ≡ true → v ≡ w) → state_of tells v faults m ≡ state_of tells w faults m
same_state true w v faults m same = ap (λ (x : World). state_of true x faults m) (same refl)
same_state false w v faults m same = refl

module _ {D : Type 0} (tells : Bool) (content : D → World) (faults moment : D → ℕ) (images : D → ℕ → World → Type 0) (old new : D) (m : Memory)
    (sound : IsSound tells content moment images old m) (whole : m.broken ≡ None) (same : tells ≡ true → content new ≡ content old) (stop : Steps moment images Same old new) where
  stays : (d c : World) → T.IsKept tells (content old) m d → Same d c → T.IsKept tells (content old) m c
  stays d c kept is = subst (T.IsKept tells (content old) m) (sym is) kept

  told_same : tells ≡ true → shelf_of (stored_in (content new) m) ≡ shelf_of (stored_in (content old) m)
  told_same t = ap (λ (w : World). shelf_of (stored_in w m)) (same t)

  pub same_call : (asked : _) (answer : _) (m' : Memory) → (tells ≡ true → shelf_of (stored_in (content new) m') ≡ shelf_of (stored_in (content old) m)) → StoreMade (state_of tells (content old) (faults old) m) asked answer (state_of tells (content new) (faults new) m')
      → StoreKept (standing tells content faults moment images old m) asked answer (standing tells content faults moment images new m')
  same_call asked answer m' told made = quiet_call tells content faults moment images Same old new m m' sound.memory.books.folds (sound.kept whole) stays stop asked answer told made

  pub same_sound : IsSound tells content moment images new m
  same_sound = record {
    memory = sound.memory;
    kept = λ still w image.
        retold tells (content old) (content new) m m refl told_same w
        (quiet_now tells content faults moment images Same old new m m sound.memory.books.folds (sound.kept whole) stays stop w image);
    bodies = λ still t. subst (T.HasBodies m) (sym (same t)) (sound.bodies whole t);
  }

  -- the disk failed
  pub same_failed : (asked : _) → Rattle.node_model.specs.Stores.TouchesDisk asked → Increased (faults old) (faults new) → StoreKept (standing tells content faults moment images old m) asked (Refuses Disk) (standing tells content faults moment images new (record m { broken = Some (faults new) }))
  same_failed asked touches rose =
      same_call asked (Refuses Disk) (record m { broken = Some (faults new) }) told_same
      (breaks_same tells (content old) (content new) (faults old) (faults new) m asked touches rose (λ t. ap (λ (w : World). stored_in w m) (same t)) (λ t. ap (λ (w : World). w.gifts) (same t)) (λ t n among. ap (λ (w : World). w.own (in_name n)) (same t)))

pub if_told : (tells : Bool) (s : Stored) (P : Stored → Type 0) → (tells ≡ true → P s) → IfTold (if tells then Some s else None) P
if_told true s P has = has refl
if_told false s P has = tt

-- what a call answers that read so
module _ (tells : Bool) (told told' : World) (faults faults' : ℕ) (m : Memory) (same : tells ≡ true → told' ≡ told) (calm : faults' ≡ faults) where
  pub unchanged : state_of tells told' faults' m ≡ state_of tells told faults m
  unchanged = same_state tells told told' faults' m same ∙ ap (λ (n : ℕ). state_of tells told n m) calm

pub counted : (tells : Bool) (told told' : World) (faults faults' : ℕ) (m : Memory) → (tells ≡ true → told' ≡ told)
    → state_of tells told' faults' m ≡ record (state_of tells told faults m) { counts = record (state_of tells told faults m).counts { faults = faults' } }
counted tells told told' faults faults' m same = same_state tells told told' faults' m same

-- The file of a live entry.
module _ (tells : Bool) (told : World) (faults : ℕ) (m : Memory) (number : ℕ) (is : IsLive number (state_of tells told faults m)) where
  pub live : IsLiveEntry number is.entry.key.size m.books.folding.state
  live = live_entry tells told faults m number is

  pub has_live : HasFiles m.books.folding.state told → HasLength (out_name number) live.entry.key.size told
  has_live has =
      subst (λ (n : ℕ). HasLength (out_name n) live.entry.key.size told) live.numbered
      (Each-member (λ (e : Entry). e.live ≡ true → HasLength (out_name e.number) e.key.size told) live.entry m.books.folding.state.queue has.live live.there live.live)

  pub source_of : (bytes : List ℕ) → told.own (out_name number) ≡ Some bytes → length bytes ≡ live.entry.key.size → Source number bytes (stored_in told m)
  source_of bytes own long =
      let e = live.entry in
      let file : told.own (out_name e.number) ≡ Some bytes = ap (λ (n : ℕ). told.own (out_name n)) live.numbered ∙ own in
      record {
        entry = entry_by (told_in told m.given) e;
        there = seen_there (entry_by (told_in told m.given)) e m.books.folding.state.queue live.there;
        numbered = live.numbered;
        live =
            ap (λ (b : Bool). if b then N.Live (front_of e.key.size (bytes_of (told.own (out_name e.number)))) else N.Done) live.live
            ∙ ap (λ (f : Option (List ℕ)). N.Live (front_of e.key.size (bytes_of f))) file
            ∙ ap (λ (b : List ℕ). N.Live b) (front_whole e.key.size bytes long);
      }

  -- as a queue in memory has it
  module _ (items : List QueueItem) (queue : map entry items ≡ m.books.folding.state.queue) where
    pub entry_found : IsSome (find (λ (e : QueueItem). e.number == number) items)
    entry_found =
        let x = seen_from entry live.entry items (subst (Member live.entry) (sym queue) live.there) in
        let f = is_found (λ (e : QueueItem). e.number) number x.0 items x.1 (sym (ap (λ (e : Entry). e.number) x.2) ∙ live.numbered) in
        subst IsSome (sym f.1) refl

    pub entry_live : (x : QueueItem) → fold_of m.books.payloads ≡ Some m.books.folding.state → find (λ (e : QueueItem). e.number == number) items ≡ Some x → x.key.size ≡ live.entry.key.size
    entry_live x folds found =
        let f = found_is (λ (e : QueueItem). e.number) number x items found in
        let there = subst (Member (entry x)) queue (seen_there entry x items f.0) in
        let numbered = numbered_fold m.books.payloads m.books.folding.state folds in
        ap (λ (e : Entry). e.key.size) (only_one (λ (e : Entry). e.number) (entry x) live.entry m.books.folding.state.queue numbered.queue there live.there (f.1 ∙ sym live.numbered))

pub entry_size : (c : Contents ℕ) (number : ℕ) (items : List QueueItem) (queue : List Entry) (x : QueueItem) → map entry items ≡ queue → find (λ (e : QueueItem). e.number == number) items ≡ Some x
    → size_of_entry number (map (entry_by c) queue) ≡ x.key.size
entry_size c number items queue x same found =
    ap size_in
    (found_seen (λ (e : Entry). e.number) (λ (e : N.EntryOf ℕ). e.number) (entry_by c) (λ e. refl) number queue
    ∙ ap (λ (l : List Entry). option_map (entry_by c) (find (λ (e : Entry). e.number == number) l)) (sym same)
    ∙ ap (option_map (entry_by c)) (found_seen (λ (e : QueueItem). e.number) (λ (e : Entry). e.number) entry (λ e. refl) number items ∙ ap (option_map entry) found))

-- The file of a receipt that wasn't given.
pub record IsKeptReceipt (number : ℕ) (given : ℕ → Bool) (s : State) : Type 0 where
  pub item : Receipt
  pub there : Member item s.inbox
  pub numbered : item.number ≡ number
  pub kept : given item.number ≡ false

-- what isn't told as given doesn't count as absent and given
not_given : (tells absent among : Bool) → ((not tells || absent) && among) ≡ false → (absent && among) ≡ false
not_given true absent among none = none
not_given false absent among none = ap (λ (b : Bool). absent && b) none ∙ and_false absent

module _ (tells : Bool) (told : World) (faults : ℕ) (m : Memory) (number : ℕ) (is : IsKept number (state_of tells told faults m)) where
  pub kept : IsKeptReceipt number (sizes_in tells told m.given).given m.books.folding.state
  kept =
      let r = seen_from (receipt_by (sizes_in tells told m.given)) is.receipt m.books.folding.state.inbox is.there in
      record {
        item = r.0;
        there = r.1;
        numbered = sym (ap (λ (x : N.ReceiptOf ℕ). x.number) r.2) ∙ is.numbered;
        kept = sym (ap (λ (x : N.ReceiptOf ℕ). x.given) r.2) ∙ is.kept;
      }

  -- its file stands, since an opening wouldn't take it for given
  pub has_kept : HasFiles m.books.folding.state told → shelf_in told m.books.folding.state ≡ shelf_of (stored_in told m) → HasLength (in_name number) kept.item.key.size told
  has_kept has same =
      let r = kept.item in
      let views = ap (λ (d : Shelf). d.state.inbox) same in
      let absent : is_absent (told.own (in_name r.number)) ≡ false =
      ap (λ (x : N.Receipt). x.given) (views_agree (receipt_by (contents_in told)) (receipt_by (told_in told m.given)) r m.books.folding.state.inbox views kept.there)
      ∙ not_given tells (is_absent (told.own (in_name r.number))) (is_among r.number m.given) kept.kept in
      let other = Each-member (λ (x : Receipt). HasNoOther (in_name x.number) x.key.size told) r m.books.folding.state.inbox has.received kept.there in
      subst (λ (n : ℕ). HasLength (in_name n) r.key.size told) kept.numbered (go (told.own (in_name r.number)) refl absent other)
    where
      go : (o : Option (List ℕ)) → told.own (in_name kept.item.number) ≡ o → is_absent o ≡ false → HasNoOther (in_name kept.item.number) kept.item.key.size told → HasLength (in_name kept.item.number) kept.item.key.size told
      go None is absent other = off absent
      go (Some b) is absent other = (b, is, other b is)

  pub file_of : (bytes : List ℕ) → told.own (in_name number) ≡ Some bytes → length bytes ≡ kept.item.key.size → PartFile number bytes (stored_in told m)
  file_of bytes own long =
      let r = kept.item in
      let file : told.own (in_name r.number) ≡ Some bytes = ap (λ (n : ℕ). told.own (in_name n)) kept.numbered ∙ own in
      record {
        receipt = receipt_by (told_in told m.given) r;
        there = seen_there (receipt_by (told_in told m.given)) r m.books.folding.state.inbox kept.there;
        numbered = kept.numbered;
        some = go (is_among r.number m.given) file;
      }
    where
      go : (b : Bool) → told.own (in_name kept.item.number) ≡ Some bytes
          → (if b then or_else (told.own (in_name kept.item.number)) (gift_of (in_name kept.item.number) kept.item.key.size told.gifts) else Some (front_of kept.item.key.size (bytes_of (told.own (in_name kept.item.number))))) ≡ Some bytes
      go true file = ap (λ (f : Option (List ℕ)). or_else f (gift_of (in_name kept.item.number) kept.item.key.size told.gifts)) file
      go false file =
          ap (λ (f : Option (List ℕ)). Some (front_of kept.item.key.size (bytes_of f))) file
          ∙ ap Some (front_whole kept.item.key.size bytes long)

  -- as an inbox in memory has it
  module _ (items : List InboxItem) (inbox : map receipt items ≡ m.books.folding.state.inbox) where
    pub receipt_found : IsSome (find (λ (r : InboxItem). r.receipt == number) items)
    receipt_found =
        let x = seen_from receipt kept.item items (subst (Member kept.item) (sym inbox) kept.there) in
        let f = is_found (λ (r : InboxItem). r.receipt) number x.0 items x.1 (sym (ap (λ (r : Receipt). r.number) x.2) ∙ kept.numbered) in
        subst IsSome (sym f.1) refl

    pub receipt_kept : (x : InboxItem) → fold_of m.books.payloads ≡ Some m.books.folding.state → find (λ (r : InboxItem). r.receipt == number) items ≡ Some x → x.key.size ≡ kept.item.key.size
    receipt_kept x folds found =
        let f = found_is (λ (r : InboxItem). r.receipt) number x items found in
        let there = subst (Member (receipt x)) inbox (seen_there receipt x items f.0) in
        let numbered = numbered_fold m.books.payloads m.books.folding.state folds in
        ap (λ (r : Receipt). r.key.size) (only_one (λ (r : Receipt). r.number) (receipt x) kept.item m.books.folding.state.inbox numbered.inbox there kept.there (f.1 ∙ sym kept.numbered))

pub receipt_size : (c : Contents ℕ) (number : ℕ) (items : List InboxItem) (inbox : List Receipt) (x : InboxItem) → map receipt items ≡ inbox → find (λ (r : InboxItem). r.receipt == number) items ≡ Some x
    → size_of_receipt number (map (receipt_by c) inbox) ≡ x.key.size
receipt_size c number items inbox x same found =
    ap size_in_receipt
    (found_seen (λ (r : Receipt). r.number) (λ (r : N.ReceiptOf ℕ). r.number) (receipt_by c) (λ r. refl) number inbox
    ∙ ap (λ (l : List Receipt). option_map (receipt_by c) (find (λ (r : Receipt). r.number == number) l)) (sym same)
    ∙ ap (option_map (receipt_by c)) (found_seen (λ (r : InboxItem). r.receipt) (λ (r : Receipt). r.number) receipt (λ r. refl) number items ∙ ap (option_map receipt) found))

-- What is answered.

-- a disk that tells has the files, and would open to what is told
module _ {D : Type 0} (tells : Bool) (content : D → World) (files : D → World → Type 0) (moment : D → ℕ) (images : D → ℕ → World → Type 0) (old : D) (m : Memory)
    (sound : IsSound tells content moment images old m) (whole : m.broken ≡ None) (as_read : (d : D) (w : World) → files d w → images d (moment d) w) (told : tells ≡ true → (d : D) → files d (content d)) where
  pub told_files : tells ≡ true → HasFiles m.books.folding.state (content old)
  told_files t = (sound.kept whole (content old) (as_read old (content old) (told t old))).files t

  pub told_shelf : tells ≡ true → shelf_in (content old) m.books.folding.state ≡ shelf_of (stored_in (content old) m)
  told_shelf t = (sound.kept whole (content old) (as_read old (content old) (told t old))).same t

module _ {D : Type 0} (tells : Bool) (content : D → World) (files : D → World → Type 0) (faults : D → ℕ) (old : D) (m : Memory) (number : ℕ)
    (reads : (d : D) (w : World) → files d w → (tells ≡ true) × (w ≡ content d)) (told : tells ≡ true → (d : D) → files d (content d))
    (has_files : tells ≡ true → HasFiles m.books.folding.state (content old)) where
  module _ (is : IsLive number (state_of tells (content old) (faults old) m)) where
    pub stands_live : (size : ℕ) → size ≡ (live tells (content old) (faults old) m number is).entry.key.size → Every (files old) (Stands (out_name number) size)
    stands_live size same w read =
        let r = reads old w read in
        let h = has_live tells (content old) (faults old) m number is (has_files r.0) in
        (h.0, ap (λ (v : World). v.own (out_name number)) r.1 ∙ h.1, omega (arith, same, h.2))

    pub came_source : (size count at room : ℕ) (out : List ℕ) → size ≡ (live tells (content old) (faults old) m number is).entry.key.size
        → Every (files old) (λ w. (b : List ℕ) → w.own (out_name number) ≡ Some b → length b ≡ size → take count out ≡ take room (drop at b))
        → IfTold (state_of tells (content old) (faults old) m).content (λ s. (c : List ℕ) × Source number c s × (take count out ≡ take room (drop at c)))
    came_source size count at room out same came = if_told tells (stored_in (content old) m) (λ s. (c : List ℕ) × Source number c s × (take count out ≡ take room (drop at c))) (λ t.
        let h = has_live tells (content old) (faults old) m number is (has_files t) in
        (h.0, source_of tells (content old) (faults old) m number is h.0 h.1 h.2, came (content old) (told t old) h.0 h.1 (h.2 ∙ sym same)))

  module _ (is : IsKept number (state_of tells (content old) (faults old) m)) (same_shelf : tells ≡ true → shelf_in (content old) m.books.folding.state ≡ shelf_of (stored_in (content old) m)) where
    pub stands_kept : (size : ℕ) → size ≡ (kept tells (content old) (faults old) m number is).item.key.size → Every (files old) (Stands (in_name number) size)
    stands_kept size same w read =
        let r = reads old w read in
        let h = has_kept tells (content old) (faults old) m number is (has_files r.0) (same_shelf r.0) in
        (h.0, ap (λ (v : World). v.own (in_name number)) r.1 ∙ h.1, omega (arith, same, h.2))

    pub came_part : (size count at room : ℕ) (out : List ℕ) → size ≡ (kept tells (content old) (faults old) m number is).item.key.size
        → Every (files old) (λ w. (b : List ℕ) → w.own (in_name number) ≡ Some b → length b ≡ size → take count out ≡ take room (drop at b))
        → IfTold (state_of tells (content old) (faults old) m).content (λ s. (c : List ℕ) × PartFile number c s × (take count out ≡ take room (drop at c)))
    came_part size count at room out same came = if_told tells (stored_in (content old) m) (λ s. (c : List ℕ) × PartFile number c s × (take count out ≡ take room (drop at c))) (λ t.
        let h = has_kept tells (content old) (faults old) m number is (has_files t) (same_shelf t) in
        (h.0, file_of tells (content old) (faults old) m number is h.0 h.1 h.2, came (content old) (told t old) h.0 h.1 (h.2 ∙ sym same)))
