-- A sender's file is refused.
use Rattle.std.proofs.Common.{◌≡◌, ◌≢◌, inl, inr, ⊎_elim, ℕ, ◌-◌, ◌≤◌, List, [], ◌∷◌, ◌++◌, map, Some, None, Ok, Bool, true, false, not, ◌&&◌, refl, sym, ◌∙◌, ap, subst, arith}
use Rattle.std.specs.Prelude.{if◌then◌else◌}
use Rattle.std.specs.List.{AllByRecursion}
use Rattle.ftn_addr.specs.Counts.{Increased}
use Rattle.ftn_addr.specs.Files.{is_same}
use Rattle.ftn_addr.specs.Limits.{IsAddress, IsKey}
use Rattle.disk_model.specs.World.{World}
use Rattle.disk_model.specs.Changes.{Every, Follows, Only}
use Rattle.disk_model.specs.Moments.{Now, Leaves}
use Rattle.ledger_file.specs.Ledger.{ledger_name, LedgerIs, Appends}
use Rattle.ledger_rec.specs.Fold.{State, Folding, fold_step, after, if_may, is_known, is_received, is_refused, is_held, new_refusal, with_refusal}
use Rattle.ledger_rec.specs.Items.{Entry, Receipt, Refusal, PartMark}
use Rattle.ledger_rec.specs.Limits.{Fits}
use Rattle.ledger_rec.specs.Payloads.{record_in}
use Rattle.ledger_rec.specs.Record.{RefusedText, Refused}
use Rattle.node_model.specs.declared.store.StoreFault.TheVariants.{Disk}
use Rattle.node_model.specs.Durable as Lasting
use Rattle.node_model.specs.Items as N
use Rattle.node_model.specs.Stocks.{file_refused}
use Rattle.node_model.specs.StoreStates.{shelf_of}
use Rattle.node_model.specs.StoreWords.{IsReason}
use Rattle.node_model.specs.Stores.{StoreKept, Refuse_file, Well, Refuses, refused}
use Rattle.node_model.proofs.Lists.{or_false, both_false, none_passes-append, is_same_flip}
use Rattle.node_store.specs.Beginnings.{without_file, has_file}
use Rattle.node_store.specs.Books.{Books, IsBooks}
use Rattle.node_store.specs.Contents.{Contents, durable_by}
use Rattle.node_store.specs.Logs.{noted}
use Rattle.node_store.specs.Names.{in_name}
use Rattle.node_store.specs.Stored.{Part, Memory, told_in, sizes_in, is_orderly, told_parts, part_by, stock_by, stored_in, state_of, has_receipt, IsPart, IsPut, IsMemory, IsSound}
use Rattle.node_store.specs.Tied.{IsDrawn, orderly_true, orderly_is}
use Rattle.node_store.specs.Worlds.{contents_in, HasFront, HasLength}
use Rattle.node_store.proofs.Alike.{all_by}
use Rattle.node_store.proofs.AppendCall.{Any, IsAppending, appended_failed, appended_now, appended_kept}
use Rattle.node_store.proofs.AppendTold.{shelf_with, breaks_same}
use Rattle.node_store.proofs.Calls.{standing}
use Rattle.node_store.proofs.Committed.{all_with, part_on, unmarked_on}
use Rattle.node_store.proofs.FirstParts.{all_without}
use Rattle.node_store.proofs.Mirrors.{refusal_mirrored}
use Rattle.node_store.proofs.OneRecord.{IsOne, appending, would_tell}
use Rattle.node_store.proofs.PartOpened.{apart_without, left_differ, part_held}
use Rattle.node_store.proofs.OpenTold.{left_told}
use Rattle.node_store.proofs.PartRecord.{bodies_stay}
use Rattle.node_store.proofs.Places.{part_same}
use Rattle.node_store.proofs.Receipts.{all_marks_left, above_zero}
use Rattle.node_store.proofs.RecordTold.{same_stored, stored_more, record_told}
use Rattle.node_store.proofs.NameLaws.{in_not_ledger}

-- the fold takes the refusal
pub refused_step : (s : State) (r : RefusedText) → r.session ≢ 0 → is_known r.from r.key s ≡ false → fold_step s (Refused r) ≡ Some (with_refusal r s)
refused_step s r in_session unknown =
    ap (λ (b : Bool). if b && true then after s (Refused r) else None) (above_zero r.session (omega (arith, in_session))) ∙ ap (λ (b : Bool). if_may (not b) (with_refusal r s)) unknown

-- and it keeps its limits
pub reason_fits : (r : RefusedText) → IsAddress r.from → IsKey r.key → IsReason r.reason → Fits (Refused r)
reason_fits r address key reason = record {
  from = address;
  key = key;
  some = ⊎_elim (λ e. omega (arith, e)) (λ e. omega (arith, e)) reason;
  reason = ⊎_elim (λ e. omega (arith, e)) (λ e. omega (arith, e)) reason;
}

-- A part of another file.
part_beside : (f : Folding) (r : RefusedText) (p : Part) → is_same r.from r.key p.from p.key ≡ false → IsPart f p → IsPart (record f { state = with_refusal r f.state }) p
part_beside f r p differs is = record {
  from = is.from;
  key = is.key;
  sizes = is.sizes;
  within = is.within;
  receipt = is.receipt;
  next = is.next;
  held = is.held;
  unknown = let u = or_false (is_received p.from p.key f.state.inbox) (is_refused p.from p.key f.state.refused) is.unknown in
      both_false (is_received p.from p.key f.state.inbox) (is_refused p.from p.key (f.state.refused ++ new_refusal r ∷ [])) u.0
      (none_passes-append (λ (x : Refusal). is_same p.from p.key x.from x.key) f.state.refused (new_refusal r) u.1 (is_same_flip r.from r.key p.from p.key differs));
  number = ⊎_elim (λ k. inl (record { marked = part_on r.from r.key p.from p.key differs p.number f.state.marks k.marked; given_away = k.given_away }))
      (λ u. inr (record { unused = u.unused; unmarked = unmarked_on r.from r.key p.from p.key f.state.marks u.unmarked; first = u.first })) is.number;
  marks = all_marks_left (λ (m : PartMark). m.number ≡ p.number → m.len ≤ p.have) r.from r.key f.state.marks is.marks;
  received = is.received;
}

module _ (m : Memory) (b : Books) (r : RefusedText) (is : IsMemory m) (folded : b.folding.state ≡ with_refusal r m.books.folding.state) where
  abbrev left : List Part
  left = without_file r.from r.key m.parts

  orderly_left : is_orderly m.drawn left ≡ true
  orderly_left =
      let o = orderly_true m.drawn m.parts is.orderly in
      orderly_is m.drawn left (apart_without (has_file r.from r.key) m.parts o.0) (all_without (has_file r.from r.key) (IsDrawn m.drawn) m.parts o.1)

  on_state : (P : State → Type 0) → P (with_refusal r m.books.folding.state) → P b.folding.state
  on_state P holds = subst P (sym folded) holds

  beside : (p : Part) → IsPart m.books.folding p → is_same r.from r.key p.from p.key ≡ false → is_held p.from p.key b.folding.holds ≡ true → IsPart b.folding p
  beside p part differs held =
      part_same (record m.books.folding { state = with_refusal r m.books.folding.state; holds = b.folding.holds }) b.folding p folded refl
      (part_held (record m.books.folding { state = with_refusal r m.books.folding.state }) b.folding.holds p (part_beside m.books.folding r p differs part) held)

  pub memory_refused : IsBooks b → AllByRecursion (λ (p : Part). is_held p.from p.key b.folding.holds ≡ true) left → IsMemory (record m { books = b; parts = left })
  memory_refused books held = record {
    books = books;
    orderly = orderly_left;
    parts = all_with (λ (p : Part). IsPart m.books.folding p × (is_same r.from r.key p.from p.key ≡ false)) (λ (p : Part). is_held p.from p.key b.folding.holds ≡ true) (IsPart b.folding) (λ p h k. beside p h.0 h.1 k) left
        (all_with (IsPart m.books.folding) (λ (p : Part). is_same r.from r.key p.from p.key ≡ false) (λ (p : Part). IsPart m.books.folding p × (is_same r.from r.key p.from p.key ≡ false)) (λ p part differs. (part, differs)) left
        (all_without (has_file r.from r.key) (IsPart m.books.folding) m.parts is.parts) (left_differ r.from r.key m.parts (orderly_true m.drawn m.parts is.orderly).0)) held;
    marked = on_state (λ s. AllByRecursion (λ (k : PartMark). k.number ≤ m.drawn) s.marks) (all_marks_left (λ (k : PartMark). k.number ≤ m.drawn) r.from r.key m.books.folding.state.marks is.marked);
    received = on_state (λ s. AllByRecursion (λ (x : Receipt). x.number ≤ m.drawn) s.inbox) is.received;
    numbers = on_state (λ s. AllByRecursion (λ n. n ≤ m.drawn) s.parts) is.numbers;
    given = on_state (λ s. AllByRecursion (λ n. has_receipt n s.inbox ≡ true) m.given) is.given;
    staged = on_state (λ s. AllByRecursion (IsPut m.last_staged s) m.staged)
        (all_by (IsPut m.last_staged m.books.folding.state) (IsPut m.last_staged (with_refusal r m.books.folding.state)) (λ p put. record { some = put.some; drawn = put.drawn; above = put.above }) m.staged is.staged);
    queued = on_state (λ s. AllByRecursion (λ (e : Entry). e.number ≤ m.last_staged) s.queue) is.queued;
  }

  pub stock_refused : {B : Type 0} (c : Contents B) → stock_by c (record m { books = b; parts = left }) ≡ file_refused (record { from = r.from; key = r.key }) (stock_by c m)
  stock_refused c =
      let state : durable_by c b.folding.state ≡ Lasting.with_refusal (record { from = r.from; key = r.key }) (durable_by c m.books.folding.state) = ap (durable_by c) folded ∙ refusal_mirrored c r m.books.folding.state in
      let parts : map (part_by c) (told_parts m.drawn left) ≡ Lasting.unmarked r.from r.key (map (part_by c) (told_parts m.drawn m.parts)) =
      ap (λ (b : Bool). map (part_by c) (if b then left else [])) orderly_left ∙ left_told c r.from r.key m.parts (orderly_true m.drawn m.parts is.orderly).0
      ∙ sym (ap (λ (b : Bool). Lasting.unmarked r.from r.key (map (part_by c) (if b then m.parts else []))) is.orderly) in
      λ i. record { state = state i; parts = parts i; staged = (stock_by c m).staged }

-- what such a call is given
pub record IsRefusing {D : Type 0} (tells : Bool) (content : D → World) (files : D → World → Type 0) (moment : D → ℕ) (images : D → ℕ → World → Type 0) (old new : D) (m : Memory) (r : RefusedText) (payload : List ℕ) : Type 0 where
  pub sound : IsSound tells content moment images old m
  pub whole : m.broken ≡ None
  pub in_session : r.session ≢ 0
  pub unknown : is_known r.from r.key m.books.folding.state ≡ false
  pub reads : (d : D) (w : World) → files d w → (tells ≡ true) × (w ≡ content d)
  pub told : tells ≡ true → (d : D) → files d (content d)
  pub read : Follows (Only ledger_name) (files old) (files new)
  pub run : Leaves moment images (Appends m.books.payloads (payload ∷ [])) old new
  pub spells : record_in payload ≡ Ok (Refused r)

module _ {D : Type 0} (tells : Bool) (content : D → World) (files : D → World → Type 0) (faults moment : D → ℕ) (images : D → ℕ → World → Type 0) (old new : D) (m : Memory) (r : RefusedText) (payload : List ℕ)
    (p : IsRefusing tells content files moment images old new m r payload) where
  abbrev who : N.Refusal
  who = record { from = r.from; key = r.key }

  only_ledger : tells ≡ true → Only ledger_name (content old) (content new)
  only_ledger t =
      let was = p.read (content new) (p.told t new) in
      subst (λ (w : World). Only ledger_name w (content new)) (p.reads old was.0 was.1).1 was.2

  one : IsOne tells content moment images old new m payload (Refused r) (with_refusal r m.books.folding.state) (Lasting.with_refusal who)
  one = record {
    sound = p.sound;
    whole = p.whole;
    spells = p.spells;
    step = refused_step m.books.folding.state r p.in_session p.unknown;
    takes = refl;
    mirrored = λ c. refusal_mirrored (contents_in c) r m.books.folding.state;
    files = λ c has. record { live = has.live; marked = all_marks_left (λ (k : PartMark). HasFront (in_name k.number) k.len c) r.from r.key m.books.folding.state.marks has.marked; received = has.received };
    run = p.run;
  }

  adding : IsAppending tells content moment images old new m Any (payload ∷ []) (with_refusal r m.books.folding.state) (shelf_with (Lasting.with_refusal who) (shelf_of (stored_in (content old) m)))
  adding = appending tells content moment images old new m payload (Refused r) (with_refusal r m.books.folding.state) (Lasting.with_refusal who) one

  -- the disk failed
  pub refuse_failed : Increased (faults old) (faults new) → StoreKept (standing tells content faults moment images old m) (Refuse_file r.from r.key r.session r.reason) (Refuses Disk) (standing tells content faults moment images new (record m { broken = Some (faults new) }))
  refuse_failed rose =
      appended_failed tells content faults moment images old new m Any (payload ∷ []) (with_refusal r m.books.folding.state) (shelf_with (Lasting.with_refusal who) (shelf_of (stored_in (content old) m))) adding (Refuse_file r.from r.key r.session r.reason) Well
      (refused who r.session r.reason (state_of tells (content old) (faults old) m)) refl
      (would_tell tells (content old) (faults old) m (file_refused who) (file_refused who) (Lasting.with_refusal who) (noted (Refused r) ∷ []) (λ s. refl))
      (record m { broken = Some (faults new) })
      (breaks_same tells (content old) (content new) (faults old) (faults new) m (Refuse_file r.from r.key r.session r.reason) tt rose (λ t. same_stored (content old) (content new) m (only_ledger t)) (λ t. (only_ledger t).gifts) (λ t n among. (only_ledger t).others (in_name n) (in_not_ledger n)))

  -- the refusal is durable
  module _ (b : Books) (payloads : b.payloads ≡ m.books.payloads ++ payload ∷ []) (places : b.reserved ≡ m.books.reserved - 1) (opened : b.opened ≡ m.books.opened) (seats : b.seats ≡ m.books.seats ++ m.seat ∷ []) (folded : b.folding.state ≡ with_refusal r m.books.folding.state)
      (calm : faults new ≡ faults old) (durable : Every (Now moment images new) (LedgerIs b.payloads)) where
    abbrev after_it : Memory
    after_it = record m { books = b; parts = without_file r.from r.key m.parts }

    takes : b.folding.state.takes ≡ m.books.folding.state.takes
    takes = ap (λ (s : State). s.takes) folded

    would : state_of tells (content new) (faults new) after_it ≡ refused who r.session r.reason (state_of tells (content old) (faults old) m)
    would =
        record_told tells (content old) (content new) (faults old) (faults new) m b (without_file r.from r.key m.parts) payload (Refused r) only_ledger calm p.sound.memory.books p.spells payloads places opened seats takes (file_refused who) (file_refused who)
        (stock_refused m b r p.sound.memory folded (sizes_in tells (content old) m.given)) (λ t. stock_refused m b r p.sound.memory folded (told_in (content old) m.given))

    told_now : tells ≡ true → shelf_of (stored_in (content new) after_it) ≡ shelf_with (Lasting.with_refusal who) (shelf_of (stored_in (content old) m))
    told_now t =
        ap shelf_of (stored_more tells (content old) (content new) (faults old) (faults new) m b (without_file r.from r.key m.parts) payload (Refused r) only_ledger calm p.sound.memory.books p.spells payloads places opened seats takes (file_refused who) (file_refused who)
        (stock_refused m b r p.sound.memory folded (sizes_in tells (content old) m.given)) (λ u. stock_refused m b r p.sound.memory folded (told_in (content old) m.given)) t)

    ledger_now : Every (Now moment images new) (LedgerIs (m.books.payloads ++ payload ∷ []))
    ledger_now = subst (λ (l : List (List ℕ)). Every (Now moment images new) (LedgerIs l)) payloads durable

    pub refuse_kept : StoreKept (standing tells content faults moment images old m) (Refuse_file r.from r.key r.session r.reason) Well (standing tells content faults moment images new after_it)
    refuse_kept =
        appended_kept tells content faults moment images old new m Any (payload ∷ []) (with_refusal r m.books.folding.state) (shelf_with (Lasting.with_refusal who) (shelf_of (stored_in (content old) m))) adding ledger_now (λ w now. tt)
        (Refuse_file r.from r.key r.session r.reason) Well after_it (λ s t does. does) would told_now

    pub refuse_sound : IsBooks b → AllByRecursion (λ (x : Part). is_held x.from x.key b.folding.holds ≡ true) (without_file r.from r.key m.parts) → IsSound tells content moment images new after_it
    refuse_sound books held = record {
      memory = memory_refused m b r p.sound.memory folded books held;
      kept = λ whole. appended_now tells content faults moment images old new m Any (payload ∷ []) (with_refusal r m.books.folding.state) (shelf_with (Lasting.with_refusal who) (shelf_of (stored_in (content old) m))) adding ledger_now (λ w now. tt) after_it payloads folded told_now;
      bodies = λ whole t. bodies_stay (content old) (content new) m b (without_file r.from r.key m.parts) (only_ledger t) (p.sound.bodies p.whole t)
          (all_without (has_file r.from r.key) (λ (x : Part). HasLength (in_name x.number) x.have (content old)) m.parts (p.sound.bodies p.whole t).parts);
    }
