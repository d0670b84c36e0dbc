-- The calls on files of other programs.
use Rattle.std.proofs.Common.{◌≡◌, ℕ, ◌+◌, ◌<◌, ◌≤◌, Bool, true, false, ◌==◌, cond, List, [], ◌∷◌, ◌++◌, Some, None, IsSome, refl, sym, ◌∙◌, ap, subst, arith, length, set, map, option_map, append-nil}
use Rattle.std.specs.List.{remove}
use Rattle.std.proofs.lemmas.List.{length_push}
use Rattle.ftn_addr.specs.Address.{Address}
use Rattle.ftn_addr.specs.Content.{Content}
use Rattle.ftn_addr.specs.declared.limits.TheConstants.{MAX_NUMBER, MAX_SIZE}
use Rattle.node_model.specs.declared.words.TheConstants.{MOST_RECORDS}
use Rattle.node_model.specs.declared.store.Gave.TheVariants.{Given, Held, Nothing}
use Rattle.node_model.specs.declared.store.OutStat.{OutStat}
use Rattle.node_model.specs.declared.store.Staged.TheVariants.{Copied, Absent, Over}
use Rattle.node_model.specs.declared.store.StoreFault.TheVariants.{Full}
use Rattle.node_model.specs.Durable.{entry_map, receipt_map, with_acted, with_given, acted_entry, given_receipt, durable_map}
use Rattle.node_model.specs.Items.{Entry, EntryOf, Receipt, ReceiptOf}
use Rattle.node_model.specs.Lists.{Member, Each, first_that}
use Rattle.node_model.specs.Node.{Logged, Acted_record}
use Rattle.node_model.specs.Outside.{OutFile, OutFiles, Gift, BothInUse, GivenAs, inbound_for, put_at, path_in, source_acted}
use Rattle.node_model.specs.Rows.{by}
use Rattle.node_model.specs.SendRows.{InRound, NextActed, NextGiven, may_go, waits_for_action}
use Rattle.node_model.specs.Stocks.{Stock, file_staged, on_state, sizes}
use Rattle.node_model.specs.Stores.{StoreState, StoreKept, StoreDoes, Stage_copy, Give_next, Act_next, Copied_as, Gave_so, Acted_on, Refuses, acted, changed, gift_made, given, with_staged}
use Rattle.node_model.proofs.Distinct.{apart_numbers, member_map}
use Rattle.node_model.proofs.Lists.{eqb_refl, Each-weaker}
use Rattle.node_model.proofs.StockMaps.{file_staged-map, on_state-map}
use Rattle.mem_store.proofs.Kept.{told, still, grew, passed, changed_is}
use Rattle.mem_store.proofs.Outsiding.{outside_put, outside_without}
use Rattle.mem_store.proofs.Orderly.{orderly_settle}
use Rattle.mem_store.proofs.Lookups.{member_is}
use Rattle.mem_store.proofs.Places.{member_at, member_found, map_one, one_rest, one_set, the_one, each_at, each_set}
use Rattle.mem_store.proofs.Reading.{EntryAt, ReceiptAt, receipt_is}
use Rattle.mem_store.specs.ListStates.{ListState, durable_of, found_full, stock_of, stored_of, state_of, stand_of}
use Rattle.mem_store.specs.Orders.{IsOrderly}
use Rattle.mem_store.specs.Comings.{Coming}
use Rattle.mem_store.specs.Outsiders.{Placed, IsPlanned, outside_of, with_file, without_path}

-- What is seen without the bytes.

commute : {A B : Type 0} (g : A → B) (h : A → A) (k : B → B) → ((x : A) → g (h x) ≡ k (g x)) → (xs : List A) → map g (map h xs) ≡ map k (map g xs)
commute g h k e [] = refl
commute g h k e (x ∷ xs) = λ i. e x i ∷ commute g h k e xs i

acted_seen : (number : ℕ) (e : Entry) → entry_map length (acted_entry number e) ≡ acted_entry number (entry_map length e)
acted_seen number e = elim (e.number == number) as (λ b. entry_map length (cond b (record e { acted = true }) e) ≡ cond b (record (entry_map length e) { acted = true }) (entry_map length e)) [ true ↦ refl | false ↦ refl ]

given_seen : (number : ℕ) (r : Receipt) → receipt_map length (given_receipt number r) ≡ given_receipt number (receipt_map length r)
given_seen number r = elim (r.number == number) as (λ b. receipt_map length (cond b (record r { given = true }) r) ≡ cond b (record (receipt_map length r) { given = true }) (receipt_map length r)) [ true ↦ refl | false ↦ refl ]

-- Acting.

-- the entry there is next over the entries that are seen without their bytes
next_seen : (s : ListState) (dest : Address) (number i : ℕ) (x : Entry) → EntryAt s number i x → NextActed dest number s.queue → NextActed dest number (state_of s).stock.state.queue
next_seen s dest number i x at h =
    let same : h.entry ≡ x = the_one (λ (e : Entry). e.number) s.queue i x h.entry at.order.entries at.within at.is h.there (h.is ∙ sym at.numbered) in
    record {
      entry = entry_map length x;
      there = member_map (entry_map length) x s.queue (member_at s.queue i x at.within at.is);
      is = at.numbered;
      addressed = sym (ap (λ (e : Entry). e.dest) same) ∙ h.addressed;
      waits = sym (ap (λ (e : Entry). waits_for_action e) same) ∙ h.waits;
      first_one = λ e m is waits. first e (member_is s.queue e m) is waits;
    }
  where
    first : (e : EntryOf ℕ) → ((x : Entry) × Member x s.queue × (e ≡ entry_map length x)) → e.dest ≡ dest → waits_for_action e ≡ true → number ≤ e.number
    first e k is waits =
        subst (λ (z : EntryOf ℕ). number ≤ z.number) (sym k.2) (h.first_one k.0 k.1 (ap (λ (z : EntryOf ℕ). z.dest) (sym k.2) ∙ is) (ap (λ (z : EntryOf ℕ). waits_for_action z) (sym k.2) ∙ waits))

pub entry_there : (s : ListState) (dest : Address) (number : ℕ) → NextActed dest number s.queue → IsSome (first_that (λ (e : Entry). e.number == number) s.queue)
entry_there s dest number h =
    member_found (λ (e : Entry). e.number == number) s.queue h.entry h.there (subst (λ n. (h.entry.number == n) ≡ true) h.is (eqb_refl h.entry.number))

abbrev pub acted_after : ListState → ℕ → ℕ → Entry → List Placed → ListState
acted_after s number i y files = record s { queue = set s.queue i y; log = s.log ++ by s.seat (Acted_record number); outside = files }

acted_state : (s : ListState) (i : ℕ) (x y : Entry) (files : List Placed) (time : ℕ) → EntryAt s x.number i x → y ≡ record x { acted = true } → outside_of files ≡ source_acted x time (outside_of s.outside) → state_of (acted_after s x.number i y files) ≡ acted (entry_map length x) time (state_of s)
acted_state s i x y files time at is out =
    let t = acted_after s x.number i y files in
    let this : acted_entry x.number x ≡ y = ap (λ b. cond b (record x { acted = true }) x) (eqb_refl x.number) ∙ sym is in
    let rest : Each (λ (e : Entry). acted_entry x.number e ≡ e) (remove s.queue i) = Each-weaker (λ (e : Entry). e.number ≡ x.number → ⊥) (λ (e : Entry). acted_entry x.number e ≡ e) (λ e ne. ap (λ b. cond b (record e { acted = true }) e) (apart_numbers e.number x.number ne)) (remove s.queue i) (one_rest (λ (e : Entry). e.number) s.queue i x at.order.entries at.within at.is) in
    let queue : set s.queue i y ≡ map (acted_entry x.number) s.queue = sym (map_one (acted_entry x.number) s.queue i x y at.within at.is this rest) in
    let all : stock_of t ≡ on_state (with_acted x.number) (stock_of s) = ap (λ (es : List Entry). record (stock_of s) { state = record (durable_of s) { queue = es } }) queue in
    let other : ListState = record s { outside = files } in
    let seen : sizes (on_state (with_acted x.number) (stock_of s)) ≡ on_state (with_acted x.number) (sizes (stock_of s)) =
    on_state-map length (with_acted x.number) (with_acted x.number) (stock_of s) (ap (λ (es : List (EntryOf ℕ)). record (durable_map length (durable_of s)) { queue = es }) (commute (entry_map length) (acted_entry x.number) (acted_entry x.number) (acted_seen x.number) s.queue)) in
    ap (λ (z : Stock). told z t.log other) all
    ∙ (changed_is (stock_of s) s.log other (on_state (with_acted x.number)) (on_state (with_acted x.number)) (Acted_record x.number ∷ []) seen
    ∙ ap (λ (o : OutFiles). changed (on_state (with_acted x.number)) (on_state (with_acted x.number)) (Acted_record x.number ∷ []) (record (state_of s) { content = Some (record (stored_of s) { outside = o }) })) out)

pub acts : (s : ListState) (dest : Address) (number i : ℕ) (x y : Entry) (files : List Placed) (time : ℕ) → EntryAt s number i x → y ≡ record x { acted = true } → outside_of files ≡ source_acted x time (outside_of s.outside) → NextActed dest number s.queue → length s.log + s.reserved + 1 ≤ MOST_RECORDS → StoreKept (stand_of s) (Act_next dest) (Acted_on (Some number)) (stand_of (acted_after s number i y files))
unfolding next_seen
acts s dest number i x y files time at is out next room =
    let here : EntryAt s x.number i x = record { order = at.order; within = at.within; is = at.is; numbered = refl } in
    let does : StoreDoes (state_of s) (Act_next dest) (Acted_on (Some number)) (state_of (acted_after s number i y files)) =
    record { next = next_seen s dest number i x at next; room = room; time = time; after = subst (λ n. state_of (acted_after s n i y files) ≡ acted (entry_map length x) time (state_of s)) at.numbered (acted_state s i x y files time here is out) } in
    grew s (acted_after s number i y files) (Act_next dest) (Acted_on (Some number)) does does (omega (arith, length_push s.log (record { seat = s.seat; entry = Acted_record number }))) refl

pub acts_none : (s : ListState) (dest : Address) → ((e : Entry) → Member e s.queue → e.dest ≡ dest → waits_for_action e ≡ true → ⊥) → StoreKept (stand_of s) (Act_next dest) (Acted_on None) (stand_of s)
acts_none s dest none =
    still s s (Act_next dest) (Acted_on None) (λ e m is waits. go e (member_is s.queue e m) is waits, refl) refl refl
  where
    go : (e : EntryOf ℕ) → ((x : Entry) × Member x s.queue × (e ≡ entry_map length x)) → e.dest ≡ dest → waits_for_action e ≡ true → ⊥
    go e k is waits =
        none k.0 k.1 (ap (λ (z : EntryOf ℕ). z.dest) (sym k.2) ∙ is) (ap (λ (z : EntryOf ℕ). waits_for_action z) (sym k.2) ∙ waits)

pub acts_full : (s : ListState) (dest : Address) (number : ℕ) → NextActed dest number s.queue → MOST_RECORDS < length s.log + s.reserved + 1 → StoreKept (stand_of s) (Act_next dest) (Refuses Full) (stand_of (found_full s))
acts_full s dest number h over =
    still s (found_full s) (Act_next dest) (Refuses Full) (((number, seen), over), refl) refl refl
  where
    first : (e : EntryOf ℕ) → ((x : Entry) × Member x s.queue × (e ≡ entry_map length x)) → e.dest ≡ dest → waits_for_action e ≡ true → number ≤ e.number
    first e k is waits =
        subst (λ (z : EntryOf ℕ). number ≤ z.number) (sym k.2) (h.first_one k.0 k.1 (ap (λ (z : EntryOf ℕ). z.dest) (sym k.2) ∙ is) (ap (λ (z : EntryOf ℕ). waits_for_action z) (sym k.2) ∙ waits))

    seen : NextActed dest number (state_of s).stock.state.queue
    seen = record { entry = entry_map length h.entry; there = member_map (entry_map length) h.entry s.queue h.there; is = h.is; addressed = h.addressed; waits = h.waits; first_one = λ e m is waits. first e (member_is s.queue e m) is waits }

-- Giving.

next_receipt : (s : ListState) (number i : ℕ) (x : Receipt) → ReceiptAt s number i x → NextGiven number s.last_given s.inbox → NextGiven number s.last_given (state_of s).stock.state.inbox
next_receipt s number i x at h =
    let same : h.receipt ≡ x = the_one (λ (r : Receipt). r.number) s.inbox i x h.receipt at.order.receipts at.within at.is h.there (h.is ∙ sym at.numbered) in
    record {
      receipt = receipt_map length x;
      there = member_map (receipt_map length) x s.inbox (member_at s.inbox i x at.within at.is);
      is = at.numbered;
      may = sym (ap (λ (r : Receipt). may_go r) same) ∙ h.may;
      least = λ r m may. in_round r (receipt_is s.inbox r m) may;
    }
  where
    in_round : (r : ReceiptOf ℕ) → ((x : Receipt) × Member x s.inbox × (r ≡ receipt_map length x)) → may_go r ≡ true → InRound s.last_given number r.number
    in_round r k may =
        subst (λ (z : ReceiptOf ℕ). InRound s.last_given number z.number) (sym k.2) (h.least k.0 k.1 (ap (λ (z : ReceiptOf ℕ). may_go z) (sym k.2) ∙ may))

pub receipt_there : (s : ListState) (number : ℕ) → NextGiven number s.last_given s.inbox → IsSome (first_that (λ (r : Receipt). r.number == number) s.inbox)
receipt_there s number h =
    member_found (λ (r : Receipt). r.number == number) s.inbox h.receipt h.there (subst (λ n. (h.receipt.number == n) ≡ true) h.is (eqb_refl h.receipt.number))

abbrev pub given_after : ListState → ℕ → ℕ → Receipt → Placed → Gift → ListState
given_after s number i y file gift = record s { inbox = set s.inbox i y; outside = with_file file s.outside; gifts = s.gifts ++ gift ∷ []; last_given = number }

given_state : (s : ListState) (i : ℕ) (x y : Receipt) (folder : List ℕ) (file : Placed) (gift : Gift) → ReceiptAt s x.number i x → y ≡ record x { given = true } → IsPlanned x folder (outside_of s.outside) file gift → state_of (given_after s x.number i y file gift) ≡ given gift file.file.time (state_of s)
given_state s i x y folder file gift at is p =
    let n = x.number in
    let t = given_after s n i y file gift in
    let this : given_receipt n x ≡ y = ap (λ b. cond b (record x { given = true }) x) (eqb_refl n) ∙ sym is in
    let rest : Each (λ (r : Receipt). given_receipt n r ≡ r) (remove s.inbox i) = Each-weaker (λ (r : Receipt). r.number ≡ n → ⊥) (λ (r : Receipt). given_receipt n r ≡ r) (λ r ne. ap (λ b. cond b (record r { given = true }) r) (apart_numbers r.number n ne)) (remove s.inbox i) (one_rest (λ (r : Receipt). r.number) s.inbox i x at.order.receipts at.within at.is) in
    let inbox : set s.inbox i y ≡ map (given_receipt n) s.inbox = sym (map_one (given_receipt n) s.inbox i x y at.within at.is this rest) in
    let all : stock_of t ≡ on_state (with_given n) (stock_of s) = ap (λ (rs : List Receipt). record (stock_of s) { state = record (durable_of s) { inbox = rs } }) inbox in
    let seen : sizes (on_state (with_given n) (stock_of s)) ≡ on_state (with_given n) (sizes (stock_of s)) =
    on_state-map length (with_given n) (with_given n) (stock_of s) (ap (λ (rs : List (ReceiptOf ℕ)). record (durable_map length (durable_of s)) { inbox = rs }) (commute (receipt_map length) (given_receipt n) (given_receipt n) (given_seen n) s.inbox)) in
    let content : file.file ≡ record { bytes = gift.bytes; time = file.file.time } = λ j. record { bytes = p.bytes_are j; time = file.file.time } in
    let out : outside_of (with_file file s.outside) ≡ put_at (path_in gift.folder gift.name) (Some (record { bytes = gift.bytes; time = file.file.time })) (outside_of s.outside) =
    outside_put s.outside (without_path file.path s.outside) file (outside_without file.path s.outside) ∙ (λ j. put_at (p.path j) (Some (content j)) (outside_of s.outside)) in
    let by_number : ℕ → StoreState = λ m. given (record gift { receipt = m }) file.file.time (state_of s) in
    (λ j. record (told (all j) s.log (record s { last_given = n })) { content = Some (record { stock = all j; recorded = s.recorded; takes = λ name. None; outside = out j; gifts = s.gifts ++ gift ∷ []; log = s.log }) })
    ∙ (ap (λ (log : List Logged). gifted (told (on_state (with_given n) (stock_of s)) log s)) (sym (append-nil s.log))
    ∙ (ap gifted (changed_is (stock_of s) s.log s (on_state (with_given n)) (on_state (with_given n)) [] seen)
    ∙ ap (λ m. record (changed (on_state (with_given m)) (on_state (with_given m)) [] (state_of s)) { content = option_map (gift_made gift file.file.time) (changed (on_state (with_given m)) (on_state (with_given m)) [] (state_of s)).content; last_given = m }) (sym p.receipt)))
  where
    gifted : StoreState → StoreState
    gifted z = record z { content = option_map (gift_made gift file.file.time) z.content; last_given = x.number }

pub gives : (s : ListState) (inbound nonsecure : List ℕ) (number i : ℕ) (x y : Receipt) (folder : List ℕ) (file : Placed) (gift : Gift) → ReceiptAt s number i x → y ≡ record x { given = true } → folder ≡ inbound_for x.secure inbound nonsecure → IsPlanned x folder (outside_of s.outside) file gift → NextGiven number s.last_given s.inbox → StoreKept (stand_of s) (Give_next inbound nonsecure) (Gave_so (Given number)) (stand_of (given_after s number i y file gift))
unfolding next_receipt
gives s inbound nonsecure number i x y folder file gift at is goes p next =
    let here : ReceiptAt s x.number i x = record { order = at.order; within = at.within; is = at.is; numbered = refl } in
    let t = given_after s number i y file gift in
    let does : StoreDoes (state_of s) (Give_next inbound nonsecure) (Gave_so (Given number)) (state_of t) =
    record {
      next = next_receipt s number i x at next;
      gift = gift;
      time = file.file.time;
      receipt = p.receipt ∙ at.numbered;
      folder = p.folder_is ∙ goes;
      told = record { content = record { receipt = x; there = member_at s.inbox i x at.within at.is; numbered = refl; some = p.content }; name = subst (λ (f : List ℕ). GivenAs f x.number x.key.name (outside_of s.outside) gift.name) (sym p.folder_is) p.name_is };
      after = subst (λ n. state_of (given_after s n i y file gift) ≡ given gift file.file.time (state_of s)) at.numbered (given_state s i x y folder file gift here is p);
    } in
    passed s t (Give_next inbound nonsecure) (Gave_so (Given number)) does does (omega (arith, length_push s.gifts gift))

pub holds : (s : ListState) (inbound nonsecure : List ℕ) (number i : ℕ) (x : Receipt) (folder : List ℕ) → ReceiptAt s number i x → folder ≡ inbound_for x.secure inbound nonsecure → BothInUse folder x.number x.key.name (outside_of s.outside) → NextGiven number s.last_given s.inbox → StoreKept (stand_of s) (Give_next inbound nonsecure) (Gave_so (Held number)) (stand_of (record s { last_given = number }))
unfolding next_receipt
holds s inbound nonsecure number i x folder at goes both next =
    still s (record s { last_given = number }) (Give_next inbound nonsecure) (Gave_so (Held number)) (record {
      next = next_receipt s number i x at next;
      told = subst (λ n. BothInUse (inbound_for x.secure inbound nonsecure) n x.key.name (outside_of s.outside)) at.numbered (subst (λ (f : List ℕ). BothInUse f x.number x.key.name (outside_of s.outside)) goes both);
      after = refl;
    }) refl refl

pub gives_none : (s : ListState) (inbound nonsecure : List ℕ) → ((r : Receipt) → Member r s.inbox → may_go r ≡ true → ⊥) → StoreKept (stand_of s) (Give_next inbound nonsecure) (Gave_so Nothing) (stand_of s)
gives_none s inbound nonsecure none =
    still s s (Give_next inbound nonsecure) (Gave_so Nothing) (λ r m may. go r (receipt_is s.inbox r m) may, refl) refl refl
  where
    go : (r : ReceiptOf ℕ) → ((x : Receipt) × Member x s.inbox × (r ≡ receipt_map length x)) → may_go r ≡ true → ⊥
    go r k may = none k.0 k.1 (ap (λ (z : ReceiptOf ℕ). may_go z) (sym k.2) ∙ may)

-- a receipt that is given keeps its number
pub order_given : (s : ListState) (number i : ℕ) (x y : Receipt) → ReceiptAt s number i x → y ≡ record x { given = true } → IsOrderly s.queue (set s.inbox i y) s.parts s.drawn
order_given s number i x y at is =
    let same : y.number ≡ x.number = ap (λ (r : Receipt). r.number) is in
    record {
      apart = at.order.apart;
      numbers = at.order.numbers;
      entries = at.order.entries;
      receipts = one_set (λ (r : Receipt). r.number) s.inbox i x y at.order.receipts at.within at.is same;
      receipts_drawn = each_set (λ (r : Receipt). r.number ≤ s.drawn) s.inbox i y at.order.receipts_drawn (subst (λ n. n ≤ s.drawn) (sym same) (each_at (λ (r : Receipt). r.number ≤ s.drawn) s.inbox i x at.order.receipts_drawn at.within at.is));
      unreceived = Each-weaker (λ (p : Coming). Each (λ (r : Receipt). r.number ≡ p.number → ⊥) s.inbox) (λ (p : Coming). Each (λ (r : Receipt). r.number ≡ p.number → ⊥) (set s.inbox i y)) (λ p h. each_set (λ (r : Receipt). r.number ≡ p.number → ⊥) s.inbox i y h (subst (λ n. n ≡ p.number → ⊥) (sym same) (each_at (λ (r : Receipt). r.number ≡ p.number → ⊥) s.inbox i x h at.within at.is))) s.parts at.order.unreceived;
    }

pub order_acted : (s : ListState) (number i : ℕ) (x y : Entry) → EntryAt s number i x → y ≡ record x { acted = true } → IsOrderly (set s.queue i y) s.inbox s.parts s.drawn
order_acted s number i x y at is = orderly_settle s.queue s.inbox s.parts s.drawn i x y at.order at.within at.is (ap (λ (e : Entry). e.number) is)

-- Copying.

pub copies : (s : ListState) (path : List ℕ) (stat : OutStat) (bytes : List ℕ) → s.last_staged + 1 ≤ MAX_NUMBER → stat.size ≡ length bytes → length bytes ≤ MAX_SIZE → outside_of s.outside path ≡ Some (record { bytes = bytes; time = stat.time }) → StoreKept (stand_of s) (Stage_copy path) (Copied_as (Copied (s.last_staged + 1) stat)) (stand_of (record s { staged = s.staged ++ record { number = s.last_staged + 1; content = bytes } ∷ []; last_staged = s.last_staged + 1 }))
copies s path stat bytes few size within there =
    let n = s.last_staged + 1 in
    let other : ListState = record s { last_staged = n } in
    let t : ListState = record s { staged = s.staged ++ record { number = n; content = bytes } ∷ []; last_staged = n } in
    let after : state_of t ≡ with_staged bytes (state_of s) = ap (λ (log : List Logged). told (file_staged n bytes (stock_of s)) log other) (sym (append-nil s.log)) ∙ changed_is (stock_of s) s.log other (file_staged n (length bytes)) (file_staged n bytes) [] (file_staged-map length n bytes (stock_of s)) in
    still s t (Stage_copy path) (Copied_as (Copied n stat)) (refl, few, (bytes, record { size = size; within = within; there = there }, after)) refl refl

pub copies_absent : (s : ListState) (path : List ℕ) → s.last_staged < MAX_NUMBER → outside_of s.outside path ≡ None → StoreKept (stand_of s) (Stage_copy path) (Copied_as Absent) (stand_of s)
copies_absent s path few none = still s s (Stage_copy path) (Copied_as Absent) (few, none, refl) refl refl

pub copies_over : (s : ListState) (path : List ℕ) (file : OutFile) → s.last_staged < MAX_NUMBER → outside_of s.outside path ≡ Some file → MAX_SIZE < length file.bytes → StoreKept (stand_of s) (Stage_copy path) (Copied_as Over) (stand_of s)
copies_over s path file few there over =
    still s s (Stage_copy path) (Copied_as Over) (few, record { file = file; there = there; over = over }, refl) refl refl

-- what is chosen of two lists
pub chosen_list : (b : Bool) (x y : Content) → (cond b x y).list ≡ cond b x.list y.list
chosen_list true x y = refl
chosen_list false x y = refl
