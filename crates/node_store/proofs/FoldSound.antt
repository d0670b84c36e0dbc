-- What a ledger leaves is what a sound node keeps.
use Rattle.std.proofs.Common.{◌≡◌, ◌≢◌, ◌⊎◌, inl, inr, ⊎_elim, ℕ, ◌<◌, ◌≤◌, ◌==◌, List, [], ◌∷◌, ◌++◌, map, Option, Some, None, Result, Ok, Err, Bool, true, false, not, ◌&&◌, ◌||◌, nat_lt, nat_le, refl, sym, ◌∙◌, ap, subst, arith}
use Rattle.std.specs.Prelude.{if◌then◌else◌}
use Rattle.std.specs.List.{AllByRecursion, list_any, list_all}
use Rattle.std.proofs.lemmas.Bool.{cases_Bool}
use Rattle.std.proofs.lemmas.Bool.Decides.{Decides-eqb, Decides-ltb, leb_tells}
use Rattle.ftn_addr.specs.Address.{Address}
use Rattle.ftn_addr.specs.Files.{is_same}
use Rattle.ftn_addr.specs.Key.{Key}
use Rattle.ftn_addr.specs.declared.limits.TheConstants.{MAX_NUMBER}
use Rattle.ledger_rec.specs.Fold as F
use Rattle.ledger_rec.specs.Fold.{State, nothing_folded, is_among, is_part_of, may_queue, may_receive, may_refuse, may_mark, goes_on, begins, changed, is_live, settled, waits_for_action, acted_on, waits_for_answer, answered, fold_step, after, numbers, new_entry, new_receipt, new_mark}
use Rattle.ledger_rec.specs.Items.{Entry, Receipt, Refusal, PartMark}
use Rattle.ledger_rec.specs.Order.{IsApartFrom, AreApart, IsOrderly}
use Rattle.ledger_rec.specs.Payloads.{record_in, step_by, stepped, fold_from, fold_of}
use Rattle.ledger_rec.specs.Record.{NewFileText, ReceivedText, MarkText, RecordText, Queue, Done, Received, Refused, Mark, Taken, Acted, Answered}
use Rattle.ledger_rec.specs.declared.fault.RecFault.{RecFault}
use Rattle.ledger_rec.proofs.OrderFold.{order_step}
use Rattle.node_model.specs.Durable as D
use Rattle.node_model.specs.Durable.{Durable, done_entry, acted_entry, answered_receipt}
use Rattle.node_model.specs.Items as N
use Rattle.node_model.specs.Lists.{Member, Each, some_passes}
use Rattle.node_model.specs.Sound.{same_entry, same_number, FitsKey, ReceiptFits, SoundQueue}
use Rattle.node_model.proofs.Lists.{some_inj, none_some, and_true, or_cases, or_false, off, is_same_flip, is_same_true, Each-append, Each-weaker, Each-member}
use Rattle.node_model.proofs.Distinct.{apart_numbers, each_map, distinct_push}
use Rattle.node_model.proofs.Queueing.{queue_map, staged_map, done_same, done_fits, acted_same, acted_fits, store_queue}
use Rattle.node_model.proofs.Changes.{answered_flags}
use Rattle.node_model.proofs.Seats.{StoreFits}
use Rattle.node_model.proofs.StoreChanges.{IsOwnNumber, Numbered, store_mark, store_receipt, store_refusal, store_flagged}
use Rattle.node_store.specs.Contents.{Contents, entry_by, receipt_by, refusal_of, mark_by, durable_by, durable_after}
use Rattle.node_store.specs.Numbers.{IsNumbered}
use Rattle.node_store.specs.Sounds.{AreAsLong}
use Rattle.node_store.proofs.Numbered.{changed_keeps, if_may_some, mapped_some, step_is_after, numbered_step, receipt_differs, after_mirrored}

-- the numbers of a state's parts and files are at most these
pub record IsWithin (staged drawn : ℕ) (s : State) : Type 0 where
  pub parts : (n : ℕ) → is_among n s.parts ≡ true → n ≤ drawn
  pub queue : AllByRecursion (λ n. n ≤ staged) (map (λ (e : Entry). e.number) s.queue)

module _ (c : Contents (List ℕ)) where
  -- what is looked up

  seen_passes : {A B : Type 0} (p : A → Bool) (q : B → Bool) (f : A → B) (xs : List A) → ((x : A) → q (f x) ≡ p x) → some_passes q (map f xs) ≡ list_any p xs
  seen_passes p q f [] same = refl
  seen_passes p q f (x ∷ xs) same = let rest = seen_passes p q f xs same in λ i. same x i || rest i

  known_seen : (from : Address) (key : Key) (s : State) → D.is_known from key (durable_by c s) ≡ F.is_known from key s
  known_seen from key s =
      let received = seen_passes (λ (r : Receipt). is_same from key r.from r.key) (λ (r : N.Receipt). is_same from key r.from r.key) (receipt_by c) s.inbox (λ x. refl) in
      let refused = seen_passes (λ (r : Refusal). is_same from key r.from r.key) (λ (r : N.Refusal). is_same from key r.from r.key) refusal_of s.refused (λ x. refl) in
      λ i. received i || refused i

  not_is : (b : Bool) → not b ≡ true → b ≡ false
  not_is true e = off (sym e)
  not_is false e = refl

  unknown_seen : (from : Address) (key : Key) (s : State) → not (F.is_known from key s) ≡ true → D.is_known from key (durable_by c s) ≡ false
  unknown_seen from key s new = known_seen from key s ∙ not_is (F.is_known from key s) new

  -- a marked part of that number is of that sender and key, and no receipt has its number

  own_numbers : (n : ℕ) (from : Address) (key : Key) (ms : List PartMark) → is_part_of n from key ms ≡ true → AreApart ms → AllByRecursion (λ (m : PartMark). m.number ≡ n → is_same from key m.from m.key ≡ true) ms
  own_numbers n from key [] is apart = tt
  own_numbers n from key (m ∷ ms) is apart = ⊎_elim
      (λ here.
      let h = and_true (m.number == n) (is_same from key m.from m.key) here in
      let number : m.number ≡ n = (Decides-eqb m.number n).0 h.0 in (
        (λ e. h.1),
        Each-weaker (λ (x : PartMark). x.number ≢ m.number) (λ (x : PartMark). x.number ≡ n → is_same from key x.from x.key ≡ true) (λ x other e. absurd (other (e ∙ sym number))) ms apart.0,
      ))
      (λ later. ((λ e. absurd (elsewhere n m.number from key ms later apart.0 e)), own_numbers n from key ms later apart.1))
      (or_cases (m.number == n && is_same from key m.from m.key) (is_part_of n from key ms) is)
    where
      elsewhere : (n k : ℕ) (from : Address) (key : Key) (ms : List PartMark) → is_part_of n from key ms ≡ true → IsApartFrom k ms → k ≢ n
      elsewhere n k from key [] is apart = off (sym is)
      elsewhere n k from key (x ∷ xs) is apart = ⊎_elim
          (λ this same. apart.0 ((Decides-eqb x.number n).0 (and_true (x.number == n) (is_same from key x.from x.key) this).0 ∙ sym same))
          (λ later. elsewhere n k from key xs later apart.1)
          (or_cases (x.number == n && is_same from key x.from x.key) (is_part_of n from key xs) is)

  free_numbers : (n : ℕ) (s : State) → is_among n s.parts ≡ false → IsOrderly s → AllByRecursion (λ (m : PartMark). m.number ≢ n) s.marks
  free_numbers n s free o = Each-weaker (λ (m : PartMark). is_among m.number s.parts ≡ true) (λ (m : PartMark). m.number ≢ n) (λ m used same. off (sym used ∙ ap (λ (k : ℕ). is_among k s.parts) same ∙ free)) s.marks o.marks

  marks_own : (n : ℕ) (from : Address) (key : Key) (s : State) → IsOrderly s → (is_part_of n from key s.marks ≡ true) ⊎ (is_among n s.parts ≡ false) → Each (IsOwnNumber from key n) (durable_by c s).marks
  marks_own n from key s o h = each_map (λ (m : PartMark). m.number ≡ n → is_same from key m.from m.key ≡ true) (IsOwnNumber from key n) (mark_by c) s.marks (λ m own. own)
      (⊎_elim (λ part. own_numbers n from key s.marks part o.apart) (λ free. Each-weaker (λ (m : PartMark). m.number ≢ n) (λ (m : PartMark). m.number ≡ n → is_same from key m.from m.key ≡ true) (λ m other e. absurd (other e)) s.marks (free_numbers n s free o)) h)

  -- A receipt and a mark have numbers of their own.

  receipts_free : (n : ℕ) (rs : List Receipt) → AllByRecursion (λ k. k ≢ n) (map (λ (x : Receipt). x.number) rs) → Each (λ (r : N.Receipt). r.number ≢ n) (map (receipt_by c) rs)
  receipts_free n [] all = tt
  receipts_free n (r ∷ rs) all = (all.0, receipts_free n rs all.1)

  some_is : (n : ℕ) → nat_lt 0 n ≡ true → 1 ≤ n
  some_is n e = let h : 0 < n = (Decides-ltb 0 n).0 e in omega (arith, h)

  used_after : (n : ℕ) (ns : List ℕ) → is_among n (F.with_number n ns) ≡ true
  used_after n ns = go (is_among n ns) refl
    where
      last : (n : ℕ) (ns : List ℕ) → is_among n (ns ++ n ∷ []) ≡ true
      last n [] = ap (λ (b : Bool). b || false) ((Decides-eqb n n).1 refl)
      last n (k ∷ ks) = go (k == n) (last n ks)
        where
          go : (b : Bool) → is_among n (ks ++ n ∷ []) ≡ true → (b || is_among n (ks ++ n ∷ [])) ≡ true
          go true rest = refl
          go false rest = rest

      go : (b : Bool) → is_among n ns ≡ b → is_among n (if b then ns else ns ++ n ∷ []) ≡ true
      go true is = is
      go false is = last n ns

  receipt_numbered : (r : ReceivedText) (s : State) (staged drawn : ℕ) → may_receive r s ≡ true → nat_lt 0 r.receipt ≡ true → IsOrderly s → IsWithin staged drawn (F.with_receipt r s) → Numbered (durable_by c s) drawn r.from r.key r.receipt
  receipt_numbered r s staged drawn may some o within =
      let h = and_true (not (F.is_known r.from r.key s)) (is_part_of r.receipt r.from r.key s.marks || not (is_among r.receipt s.parts)) may in
      let number = or_cases (is_part_of r.receipt r.from r.key s.marks) (not (is_among r.receipt s.parts)) h.1 in
      record {
        new = unknown_seen r.from r.key s h.0;
        marks = marks_own r.receipt r.from r.key s o (⊎_elim (λ part. inl part) (λ free. inr (not_is (is_among r.receipt s.parts) free)) number);
        receipts = receipts_free r.receipt s.inbox (receipt_differs r s may o);
        some = some_is r.receipt some;
        was_drawn = within.parts r.receipt (used_after r.receipt s.parts);
      }

  -- the mark that a longer one goes on from
  record GoesOn (r : MarkText) (s : State) : Type 0 where
    mark : PartMark
    there : Member mark s.marks
    number : mark.number ≡ r.part
    same : is_same r.from r.key mark.from mark.key ≡ true

  goes_from : (r : MarkText) (ms : List PartMark) → goes_on r ms ≡ true → (m : PartMark) × Member m ms × (m.number ≡ r.part) × (is_same r.from r.key m.from m.key ≡ true)
  goes_from r [] is = off (sym is)
  goes_from r (m ∷ ms) is = ⊎_elim
      (λ here.
      let h = and_true (m.number == r.part) (is_same r.from r.key m.from m.key && nat_le m.len r.len) here in
      (m, inl refl, (Decides-eqb m.number r.part).0 h.0, (and_true (is_same r.from r.key m.from m.key) (nat_le m.len r.len) h.1).0))
      (λ later. let x = goes_from r ms later in (x.0, inr x.1, x.2, x.3))
      (or_cases (m.number == r.part && (is_same r.from r.key m.from m.key && nat_le m.len r.len)) (goes_on r ms) is)

  part_from : (n : ℕ) (from : Address) (key : Key) (m : PartMark) (ms : List PartMark) → Member m ms → m.number ≡ n → is_same from key m.from m.key ≡ true → is_part_of n from key ms ≡ true
  part_from n from key m [] there number same = absurd there
  part_from n from key m (x ∷ xs) (inl is) number same =
      let here : (x.number == n && is_same from key x.from x.key) ≡ true = both (x.number == n) (is_same from key x.from x.key) ((Decides-eqb x.number n).1 (ap (λ (y : PartMark). y.number) (sym is) ∙ number)) (ap (λ (y : PartMark). is_same from key y.from y.key) (sym is) ∙ same) in
      ap (λ (b : Bool). b || is_part_of n from key xs) here
    where
      both : (a b : Bool) → a ≡ true → b ≡ true → (a && b) ≡ true
      both a b e f = ap (λ (x : Bool). x && b) e ∙ f
  part_from n from key m (x ∷ xs) (inr later) number same = go (x.number == n && is_same from key x.from x.key) (part_from n from key m xs later number same)
    where
      go : (b : Bool) → is_part_of n from key xs ≡ true → (b || is_part_of n from key xs) ≡ true
      go true rest = refl
      go false rest = rest

  member_seen : (m : PartMark) (ms : List PartMark) → Member m ms → Member (mark_by c m) (map (mark_by c) ms)
  member_seen m [] there = absurd there
  member_seen m (x ∷ xs) (inl is) = inl (ap (mark_by c) is)
  member_seen m (x ∷ xs) (inr later) = inr (member_seen m xs later)

  mark_numbered : (r : MarkText) (s : State) (staged drawn : ℕ) → may_mark r s ≡ true → nat_lt 0 r.part ≡ true → IsOrderly s → StoreFits (durable_by c s) staged drawn → IsWithin staged drawn (F.with_mark r s) → Numbered (durable_by c s) drawn r.from r.key r.part
  mark_numbered r s staged drawn may some o f within =
      let h = and_true (nat_lt 0 r.len) (nat_le r.len r.key.size && (goes_on r s.marks || begins r s)) may in
      let k = and_true (nat_le r.len r.key.size) (goes_on r s.marks || begins r s) h.1 in
      ⊎_elim
      (λ more.
      let g = goes_from r s.marks more in
      let is = is_same_true r.from r.key g.0.from g.0.key g.3 in
      let unknown : D.is_known g.0.from g.0.key (durable_by c s) ≡ false = Each-member (λ (m : N.Mark). D.is_known m.from m.key (durable_by c s) ≡ false) (mark_by c g.0) (durable_by c s).marks f.inbox.marks_new (member_seen g.0 s.marks g.1) in
      record {
        new = (λ i. D.is_known (is.0 i) (is.1 i) (durable_by c s)) ∙ unknown;
        marks = marks_own r.part r.from r.key s o (inl (part_from r.part r.from r.key g.0 s.marks g.1 g.2 g.3));
        receipts = each_map (λ (x : Receipt). IsApartFrom x.number s.marks) (λ (x : N.Receipt). x.number ≢ r.part) (receipt_by c) s.inbox (λ x apart same. Each-member (λ (m : PartMark). m.number ≢ x.number) g.0 s.marks apart g.1 (g.2 ∙ sym same)) o.free;
        some = some_is r.part some;
        was_drawn = within.parts r.part (used_after r.part s.parts);
      })
      (λ first.
      let a = and_true (not (is_among r.part s.parts)) (not (F.is_marked r.from r.key s.marks) && not (F.is_known r.from r.key s)) first in
      let b = and_true (not (F.is_marked r.from r.key s.marks)) (not (F.is_known r.from r.key s)) a.1 in
      let free = not_is (is_among r.part s.parts) a.0 in
      record {
        new = unknown_seen r.from r.key s b.1;
        marks = marks_own r.part r.from r.key s o (inr free);
        receipts = each_map (λ (x : Receipt). is_among x.number s.parts ≡ true) (λ (x : N.Receipt). x.number ≢ r.part) (receipt_by c) s.inbox (λ x used same. off (sym used ∙ ap (λ (n : ℕ). is_among n s.parts) same ∙ free)) o.inbox;
        some = some_is r.part some;
        was_drawn = within.parts r.part (used_after r.part s.parts);
      })
      (or_cases (goes_on r s.marks) (begins r s) k.1)

  mark_short : (r : MarkText) (s : State) → may_mark r s ≡ true → r.len ≤ r.key.size
  mark_short r s may =
      let h = and_true (nat_lt 0 r.len) (nat_le r.len r.key.size && (goes_on r s.marks || begins r s)) may in
      at_most r.len r.key.size (and_true (nat_le r.len r.key.size) (goes_on r s.marks || begins r s) h.1).0
    where
      at_most : (a b : ℕ) → nat_le a b ≡ true → a ≤ b
      at_most a b e = ⊎_elim (λ l. l.1) (λ m. off (sym e ∙ m.0)) (leb_tells a b)

  -- A file is queued.

  entries_apart : (r : NewFileText) (es : List Entry) → list_any (λ (e : Entry). is_same r.dest r.key e.dest e.key) es ≡ false → Each (λ (e : N.Entry). same_entry e (entry_by c (new_entry r)) ≡ false) (map (entry_by c) es)
  entries_apart r [] none = tt
  entries_apart r (e ∷ es) none =
      let h = or_false (is_same r.dest r.key e.dest e.key) (list_any (λ (x : Entry). is_same r.dest r.key x.dest x.key) es) none in
      (is_same_flip r.dest r.key e.dest e.key h.0, entries_apart r es h.1)

  numbers_apart : (r : NewFileText) (es : List Entry) → list_all (λ (e : Entry). nat_lt e.number r.number) es ≡ true → Each (λ (e : N.Entry). same_number e (entry_by c (new_entry r)) ≡ false) (map (entry_by c) es)
  numbers_apart r [] all = tt
  numbers_apart r (e ∷ es) all =
      let h = and_true (nat_lt e.number r.number) (list_all (λ (x : Entry). nat_lt x.number r.number) es) all in
      let less : e.number < r.number = (Decides-ltb e.number r.number).0 h.0 in
      (apart_numbers e.number r.number (λ same. omega (arith, less, same)), numbers_apart r es h.1)

  queue_sound : (r : NewFileText) (s : State) → AreAsLong c → may_queue r s.queue ≡ true → SoundQueue (durable_by c s).queue → SoundQueue ((durable_by c s).queue ++ entry_by c (new_entry r) ∷ [])
  queue_sound r s long may q =
      let h = and_true (list_all (λ (e : Entry). nat_lt e.number r.number) s.queue) (not (list_any (λ (e : Entry). is_same r.dest r.key e.dest e.key) s.queue)) may in
      record {
        entries = distinct_push same_entry (durable_by c s).queue (entry_by c (new_entry r)) q.entries (entries_apart r s.queue (not_is (list_any (λ (e : Entry). is_same r.dest r.key e.dest e.key) s.queue) h.1));
        numbers = distinct_push same_number (durable_by c s).queue (entry_by c (new_entry r)) q.numbers (numbers_apart r s.queue h.0);
        sizes = Each-append (λ (e : N.Entry). FitsKey e.key e.body) (durable_by c s).queue (entry_by c (new_entry r) ∷ []) q.sizes (long.queued r.number r.key.size, tt);
      }

  last_of : {A : Type 0} (number : A → ℕ) (P : ℕ → Type 0) (xs : List A) (y : A) → AllByRecursion P (map number (xs ++ y ∷ [])) → P (number y)
  last_of number P [] y all = all.0
  last_of number P (x ∷ xs) y all = last_of number P xs y all.1

  -- One record more.

  receipt_long : (r : ReceivedText) → AreAsLong c → ReceiptFits r.key (c.received r.receipt r.key.size)
  receipt_long r long = go (c.received r.receipt r.key.size) refl
    where
      go : (o : Option (List ℕ)) → c.received r.receipt r.key.size ≡ o → ReceiptFits r.key o
      go None is = tt
      go (Some bytes) is = long.received r.receipt r.key.size bytes is

  fits_changed : (s : State) (r : RecordText) (t : State) (staged drawn : ℕ) → AreAsLong c → list_all (λ n. nat_lt 0 n) (numbers r) ≡ true → after s r ≡ Some t → IsOrderly s → IsWithin staged drawn t → StoreFits (durable_by c s) staged drawn → StoreFits (durable_after c r (durable_by c s)) staged drawn
  fits_changed s (Queue r) t staged drawn long some is o within f =
      let m = if_may_some (may_queue r s.queue) (F.with_queued r s) t is in
      let own : r.number ≤ staged = last_of (λ (e : Entry). e.number) (λ n. n ≤ staged) s.queue (new_entry r) (subst (λ (u : State). AllByRecursion (λ n. n ≤ staged) (map (λ (e : Entry). e.number) u.queue)) (sym m.1) within.queue) in
      store_queue (durable_by c s) ((durable_by c s).queue ++ entry_by c (new_entry r) ∷ []) staged staged drawn (queue_sound r s long m.0 f.queue) (Each-append (λ (e : N.Entry). e.number ≤ staged) (durable_by c s).queue (entry_by c (new_entry r) ∷ []) f.queue_staged (own, tt)) f
  fits_changed s (Done number session) t staged drawn long some is o within f =
      store_queue (durable_by c s) (map (done_entry number) (durable_by c s).queue) staged staged drawn (queue_map (done_entry number) (done_same number) (done_fits number) (durable_by c s).queue f.queue) (staged_map (done_entry number) (done_same number) staged (durable_by c s).queue f.queue_staged) f
  fits_changed s (Received r) t staged drawn long some is o within f =
      let m = if_may_some (may_receive r s) (F.with_receipt r s) t is in
      store_receipt (receipt_by c (new_receipt r)) (durable_by c s) staged drawn (receipt_numbered r s staged drawn m.0 (and_true (nat_lt 0 r.receipt) _ some).0 o (subst (IsWithin staged drawn) (sym m.1) within)) (receipt_long r long) f
  fits_changed s (Refused r) t staged drawn long some is o within f =
      let m = if_may_some (may_refuse r s) (F.with_refusal r s) t is in
      store_refusal (refusal_of (F.new_refusal r)) (durable_by c s) staged drawn (unknown_seen r.from r.key s m.0) f
  fits_changed s (Mark r) t staged drawn long some is o within f =
      let m = if_may_some (may_mark r s) (F.with_mark r s) t is in
      let short = mark_short r s m.0 in
      store_mark (mark_by c (new_mark r)) (durable_by c s) staged drawn (mark_numbered r s staged drawn m.0 (and_true (nat_lt 0 r.part) _ some).0 o f (subst (IsWithin staged drawn) (sym m.1) within)) (let len = long.front r.part r.len in omega (arith, len, short)) f
  fits_changed s (Taken take) t staged drawn long some is o within f = f
  fits_changed s (Acted number) t staged drawn long some is o within f =
      store_queue (durable_by c s) (map (acted_entry number) (durable_by c s).queue) staged staged drawn (queue_map (acted_entry number) (acted_same number) (acted_fits number) (durable_by c s).queue f.queue) (staged_map (acted_entry number) (acted_same number) staged (durable_by c s).queue f.queue_staged) f
  fits_changed s (Answered number) t staged drawn long some is o within f = store_flagged (answered_receipt number) (answered_flags number) (durable_by c s) staged drawn f

-- What holds of numbers after a record held before it.

front_of : {A : Type 0} (number : A → ℕ) (P : ℕ → Type 0) (xs : List A) (y : A) → AllByRecursion P (map number (xs ++ y ∷ [])) → AllByRecursion P (map number xs)
front_of number P [] y all = tt
front_of number P (x ∷ xs) y all = (all.0, front_of number P xs y all.1)

still_used : (n k : ℕ) (ns : List ℕ) → is_among n ns ≡ true → is_among n (F.with_number k ns) ≡ true
still_used n k ns is = go (is_among k ns)
  where
    longer : (ns : List ℕ) → is_among n ns ≡ true → is_among n (ns ++ k ∷ []) ≡ true
    longer [] is = off (sym is)
    longer (x ∷ xs) is = step (x == n) is (longer xs)
      where
        step : (b : Bool) → (b || is_among n xs) ≡ true → (is_among n xs ≡ true → is_among n (xs ++ k ∷ []) ≡ true) → (b || is_among n (xs ++ k ∷ [])) ≡ true
        step true e rest = refl
        step false e rest = rest e

    go : (b : Bool) → is_among n (if b then ns else ns ++ k ∷ []) ≡ true
    go true = is
    go false = longer ns is

within_before : (s : State) (r : RecordText) (t : State) (staged drawn : ℕ) → after s r ≡ Some t → IsWithin staged drawn t → IsWithin staged drawn s
within_before s (Queue r) t staged drawn is within =
    let m = if_may_some (may_queue r s.queue) (F.with_queued r s) t is in
    let w = subst (IsWithin staged drawn) (sym m.1) within in
    record { parts = w.parts; queue = front_of (λ (e : Entry). e.number) (λ n. n ≤ staged) s.queue (new_entry r) w.queue }
within_before s (Done number session) t staged drawn is within =
    let m = mapped_some (λ queue. record s { queue = queue }) (changed (is_live number) settled s.queue) t is in
    let w = subst (IsWithin staged drawn) (sym m.2) within in
    record { parts = w.parts; queue = subst (AllByRecursion (λ n. n ≤ staged)) (changed_keeps (λ (e : Entry). e.number) (is_live number) settled (λ e. refl) s.queue m.0 m.1) w.queue }
within_before s (Received r) t staged drawn is within =
    let m = if_may_some (may_receive r s) (F.with_receipt r s) t is in
    let w = subst (IsWithin staged drawn) (sym m.1) within in
    record { parts = λ n used. w.parts n (still_used n r.receipt s.parts used); queue = w.queue }
within_before s (Refused r) t staged drawn is within =
    let m = if_may_some (may_refuse r s) (F.with_refusal r s) t is in
    let w = subst (IsWithin staged drawn) (sym m.1) within in record { parts = w.parts; queue = w.queue }
within_before s (Mark r) t staged drawn is within =
    let m = if_may_some (may_mark r s) (F.with_mark r s) t is in
    let w = subst (IsWithin staged drawn) (sym m.1) within in
    record { parts = λ n used. w.parts n (still_used n r.part s.parts used); queue = w.queue }
within_before s (Taken take) t staged drawn is within =
    let m = if_may_some (not (is_among take s.takes)) (F.with_take take s) t is in
    let w = subst (IsWithin staged drawn) (sym m.1) within in record { parts = w.parts; queue = w.queue }
within_before s (Acted number) t staged drawn is within =
    let m = mapped_some (λ queue. record s { queue = queue }) (changed (waits_for_action number) acted_on s.queue) t is in
    let w = subst (IsWithin staged drawn) (sym m.2) within in
    record { parts = w.parts; queue = subst (AllByRecursion (λ n. n ≤ staged)) (changed_keeps (λ (e : Entry). e.number) (waits_for_action number) acted_on (λ e. refl) s.queue m.0 m.1) w.queue }
within_before s (Answered number) t staged drawn is within =
    let m = mapped_some (λ inbox. record s { inbox = inbox }) (changed (waits_for_answer number) answered s.inbox) t is in
    let w = subst (IsWithin staged drawn) (sym m.2) within in record { parts = w.parts; queue = w.queue }

-- The whole ledger.

module _ (c : Contents (List ℕ)) (long : AreAsLong c) (staged drawn : ℕ) where
  record Stands (s : State) : Type 0 where
    orderly : IsOrderly s
    numbered : IsNumbered s
    fits : IsWithin staged drawn s → StoreFits (durable_by c s) staged drawn

  stands_step : (s : State) (r : RecordText) (t : State) → fold_step s r ≡ Some t → Stands s → Stands t
  stands_step s r t is h = elim (cases_Bool (list_all (λ n. nat_lt 0 n) (numbers r))) [
    | inl some ↦
        let to = step_is_after s r t is in
        record {
          orderly = order_step s r t is h.orderly;
          numbered = numbered_step s r t is h.orderly h.numbered;
          fits = λ within. subst (λ (d : Durable). StoreFits d staged drawn) (sym (after_mirrored c s r t to h.numbered)) (fits_changed c s r t staged drawn long some to h.orderly within (h.fits (within_before s r t staged drawn to within)));
        }
    | inr zero_there ↦ none_some (sym (ap (λ (b : Bool). if b then after s r else None) zero_there) ∙ is)
  ]

  stands_read : (s : State) (read : Result RecordText RecFault) (t : State) → step_by s read ≡ Some t → Stands s → Stands t
  stands_read s (Ok r) t is h = stands_step s r t is h
  stands_read s (Err e) t is h = none_some is

  stands_from : (o : Option State) (ps : List (List ℕ)) (t : State) → ((s : State) → o ≡ Some s → Stands s) → fold_from o ps ≡ Some t → Stands t
  stands_from o [] t so is = so t is
  stands_from None (p ∷ ps) t so is = stands_from None ps t (λ s none. none_some none) is
  stands_from (Some s) (p ∷ ps) t so is = stands_from (stepped (Some s) p) ps t (λ u step. stands_read s (record_in p) u step (so s refl)) is

  nothing_stands : drawn ≤ MAX_NUMBER → Stands nothing_folded
  nothing_stands few = record {
    orderly = record { queue = tt; marks = tt; inbox = tt; apart = tt; free = tt };
    numbered = record { queue = tt; inbox = tt };
    fits = λ within. record { queue = record { entries = tt; numbers = tt; sizes = tt }; inbox = record { once = tt; not_refused = tt; refused_once = tt; marks_once = tt; marks_new = tt; mark_sizes = tt; sizes = tt }; marks = tt; receipts = tt; apart = tt; marks_drawn = tt; receipts_drawn = tt; queue_staged = tt; drawn_few = few };
  }

  pub fold_fits : (ps : List (List ℕ)) (s : State) → fold_of ps ≡ Some s → drawn ≤ MAX_NUMBER → IsWithin staged drawn s → StoreFits (durable_by c s) staged drawn
  fold_fits ps s is few within = (stands_from (Some nothing_folded) ps s (λ t same. subst Stands (some_inj same) (nothing_stands few)) is).fits within
