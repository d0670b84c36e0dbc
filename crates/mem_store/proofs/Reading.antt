-- The calls on queued and received files.
use Rattle.std.proofs.Common.{◌≡◌, ◌≢◌, ℕ, ◌-◌, ◌<◌, true, false, ◌==◌, cond, List, [], ◌∷◌, ◌++◌, Some, IsSome, refl, sym, ◌∙◌, ap, subst, inl, inr, arith, length, get_or, set, take, drop, map, option_map}
use Rattle.std.specs.List.{remove, position_or_len}
use Rattle.std.proofs.lemmas.Bool.Decides.{Decides-eqb}
use Rattle.std.proofs.lemmas.List.{length_push}
use Rattle.ftn_addr.specs.Key.{Key}
use Rattle.node_model.specs.Items.{Body, Live, Done, Entry, EntryOf, Receipt, ReceiptOf}
use Rattle.node_model.specs.Lists.{Member, Each, first_that}
use Rattle.node_model.specs.Durable.{body_map, entry_map, receipt_map, with_done, done_entry}
use Rattle.node_model.specs.Node.{Done_record}
use Rattle.node_model.specs.Rows.{by}
use Rattle.node_model.specs.Stocks.{Stock, is_live, on_state}
use Rattle.node_model.specs.Stores.{StoreKept, IsLive, IsKept, Settle, Read_source, Read_part, Came, Well, settled}
use Rattle.node_model.specs.StoreWords.{KeyOf, size_in, size_of_entry, size_in_receipt, size_of_receipt}
use Rattle.node_model.proofs.Distinct.{apart_numbers, member_map}
use Rattle.node_model.proofs.Lists.{eqb_refl, Each-weaker}
use Rattle.node_model.proofs.StockMaps.{first-map, on_state-map, with_done-map}
use Rattle.mem_store.proofs.Kept.{told, still, grew, changed_is}
use Rattle.mem_store.proofs.Lookups.{member_is, entry_found}
use Rattle.mem_store.proofs.PartCalls.{InOrder}
use Rattle.mem_store.proofs.Orderly.{orderly_settle}
use Rattle.mem_store.proofs.Places.{first_passes, member_at, member_found, map_one, first_one, one_rest, the_one}
use Rattle.mem_store.specs.ListStates.{ListState, called, durable_of, stock_of, state_of, stand_of}
use Rattle.mem_store.specs.Orders.{IsOrderly}

-- an entry at its place, with its number
pub record EntryAt (s : ListState) (number i : ℕ) (x : Entry) : Type 0 where
  pub order : InOrder s
  pub within : i < length s.queue
  pub is : x ≡ get_or s.queue i x
  pub numbered : x.number ≡ number

pub entry_at : (s : ListState) (number i : ℕ) (x : Entry) (queue : List Entry) → InOrder s → queue ≡ s.queue → i ≡ position_or_len (λ (e : Entry). e.number == number) queue → i < length queue → x ≡ get_or s.queue i x → EntryAt s number i x
entry_at s number i x queue o same first lt is =
    let within = subst (λ (es : List Entry). i < length es) same lt in
    record { order = o; within = within; is = is; numbered = (Decides-eqb x.number number).0 (first_passes (λ (e : Entry). e.number == number) s.queue i x (subst (λ (es : List Entry). i ≡ position_or_len (λ (e : Entry). e.number == number) es) same first) within is) }

others : (s : ListState) (number i : ℕ) (x : Entry) → EntryAt s number i x → Each (λ (e : Entry). e.number ≢ x.number) (remove s.queue i)
others s number i x at = one_rest (λ (e : Entry). e.number) s.queue i x at.order.entries at.within at.is

-- Settling.

pub order_settle : (s : ListState) (number i : ℕ) (x y : Entry) → EntryAt s number i x → y ≡ record x { body = Done } → IsOrderly (set s.queue i y) s.inbox s.parts s.drawn
order_settle s number i x y at is = orderly_settle s.queue s.inbox s.parts s.drawn i x y at.order at.within at.is (ap (λ (e : Entry). e.number) is)

abbrev settled_after : ListState → ℕ → ℕ → ℕ → Entry → ListState
settled_after s number session i y = record s { queue = set s.queue i y; log = s.log ++ by s.seat (Done_record number session); reserved = s.reserved - 1 }

pub settles : (s : ListState) (number session i : ℕ) (x y : Entry) → EntryAt s number i x → y ≡ record x { body = Done } → StoreKept (stand_of s) (Settle number session) Well (stand_of (settled_after s number session i y))
settles s number session i x y at is =
    let t = settled_after s number session i y in
    let this : done_entry number x ≡ y = ap (λ b. cond b (record x { body = Done }) x) (subst (λ n. (x.number == n) ≡ true) at.numbered (eqb_refl x.number)) ∙ sym is in
    let rest : Each (λ (e : Entry). done_entry number e ≡ e) (remove s.queue i) = Each-weaker (λ (e : Entry). e.number ≢ x.number) (λ (e : Entry). done_entry number e ≡ e) (λ e ne. ap (λ b. cond b (record e { body = Done }) e) (apart_numbers e.number number (λ same. ne (same ∙ sym at.numbered)))) (remove s.queue i) (others s number i x at) in
    let queue : set s.queue i y ≡ map (done_entry number) s.queue = sym (map_one (done_entry number) s.queue i x y at.within at.is this rest) in
    let all : stock_of t ≡ on_state (with_done number) (stock_of s) = ap (λ (es : List Entry). record (stock_of s) { state = record (durable_of s) { queue = es } }) queue in
    let does : state_of t ≡ settled number session (state_of s) =
    ap (λ (z : Stock). told z t.log (record s { reserved = s.reserved - 1 })) all ∙ changed_is (stock_of s) s.log (record s { reserved = s.reserved - 1 }) (on_state (with_done number)) (on_state (with_done number)) (Done_record number session ∷ []) (on_state-map length (with_done number) (with_done number) (stock_of s) (with_done-map length number (durable_of s))) in
    grew s t (Settle number session) Well does does (omega (arith, length_push s.log (record { seat = s.seat; entry = Done_record number session }))) refl

-- Reading a source.

pub seen_live : (s old : ListState) (number : ℕ) → s ≡ called old → IsLive number (state_of old) → IsLive number (state_of s)
seen_live s old number same live = subst (λ (z : ListState). IsLive number (state_of z)) (sym same) live

pub live_stands : (s : ListState) (number : ℕ) → IsLive number (state_of s) → IsSome (first_that (λ (e : Entry). e.number == number) s.queue)
live_stands s number live = entry_found number s.queue live.entry live.there live.numbered

-- the live entry is the one there
live_is : (s : ListState) (number i : ℕ) (x : Entry) → EntryAt s number i x → IsLive number (state_of s) → body_map length x.body ≡ Live x.key.size
live_is s number i x at live =
    let h = member_is s.queue live.entry live.there in
    let same : h.0 ≡ x = the_one (λ (e : Entry). e.number) s.queue i x h.0 at.order.entries at.within at.is h.1 (ap (λ (e : EntryOf ℕ). e.number) (sym h.2) ∙ (live.numbered ∙ sym at.numbered)) in
    subst (λ (e : EntryOf ℕ). e.body ≡ Live e.key.size) (h.2 ∙ ap (entry_map length) same) live.live

pub is_live_there : (s : ListState) (number i : ℕ) (x : Entry) → EntryAt s number i x → IsLive number (state_of s) → is_live x.body ≡ true
is_live_there s number i x at live = go x.body (live_is s number i x at live)
  where
    go : (b : Body) → body_map length b ≡ Live x.key.size → is_live b ≡ true
    go (Live content) e = refl
    go Done e = absurd (cc)

content_size : (b : Body) (bytes : List ℕ) (size : ℕ) → b ≡ Live bytes → body_map length b ≡ Live size → length bytes ≡ size
content_size b bytes size is live = inside (sym (ap (body_map length) is) ∙ live)
  where
    inside : {m n : ℕ} → Live m ≡ Live n → m ≡ n
    inside e = cc

pub reads_source : (s : ListState) (number i at room : ℕ) (x : Entry) (bytes section : List ℕ) → EntryAt s number i x → x.body ≡ Live bytes → section ≡ take room (drop at bytes) → StoreKept (stand_of s) (Read_source number at room) (Came section) (stand_of s)
reads_source s number i at room x bytes section there live is =
    still s s (Read_source number at room) (Came section) ((bytes, record { entry = x; there = member_at s.queue i x there.within there.is; numbered = there.numbered; live = live }, is), refl) refl refl

pub source_size : (s : ListState) (number i : ℕ) (x : Entry) (bytes : List ℕ) → EntryAt s number i x → IsLive number (state_of s) → x.body ≡ Live bytes → length bytes ≡ size_of_entry number (state_of s).stock.state.queue
source_size s number i x bytes at live is =
    content_size x.body bytes x.key.size is (live_is s number i x at live) ∙ sym (ap size_in (first-map (entry_map length) (λ (e : EntryOf ℕ). e.number == number) s.queue ∙ ap (option_map (entry_map length)) (first_one (λ (e : Entry). e.number == number) s.queue i x at.within at.is (subst (λ n. (x.number == n) ≡ true) at.numbered (eqb_refl x.number)) (Each-weaker (λ (e : Entry). e.number ≢ x.number) (λ (e : Entry). (e.number == number) ≡ false) (λ e ne. apart_numbers e.number number (λ same. ne (same ∙ sym at.numbered))) (remove s.queue i) (others s number i x at)))))

-- the key of the entry there
pub key_there : (s : ListState) (number i : ℕ) (x : Entry) (key : Key) → EntryAt s number i x → key ≡ x.key → KeyOf number key (state_of s).stock.state.queue
key_there s number i x key at is =
    (entry_map length x, member_map (entry_map length) x s.queue (member_at s.queue i x at.within at.is), at.numbered, sym is)

-- Reading what was received.

pub record ReceiptAt (s : ListState) (number i : ℕ) (x : Receipt) : Type 0 where
  pub order : InOrder s
  pub within : i < length s.inbox
  pub is : x ≡ get_or s.inbox i x
  pub numbered : x.number ≡ number

pub receipt_at : (s : ListState) (number i : ℕ) (x : Receipt) (inbox : List Receipt) → InOrder s → inbox ≡ s.inbox → i ≡ position_or_len (λ (r : Receipt). r.number == number) inbox → i < length inbox → x ≡ get_or s.inbox i x → ReceiptAt s number i x
receipt_at s number i x inbox o same first lt is =
    let within = subst (λ (rs : List Receipt). i < length rs) same lt in
    record { order = o; within = within; is = is; numbered = (Decides-eqb x.number number).0 (first_passes (λ (r : Receipt). r.number == number) s.inbox i x (subst (λ (rs : List Receipt). i ≡ position_or_len (λ (r : Receipt). r.number == number) rs) same first) within is) }

pub receipt_is : (inbox : List Receipt) (r : ReceiptOf ℕ) → Member r (map (receipt_map length) inbox) → (x : Receipt) × Member x inbox × (r ≡ receipt_map length x)
receipt_is [] r m = absurd m
receipt_is (x ∷ inbox) r (inl same) = (x, inl refl, same)
receipt_is (x ∷ inbox) r (inr m) = let h = receipt_is inbox r m in (h.0, inr h.1, h.2)

pub seen_kept : (s old : ListState) (number : ℕ) → s ≡ called old → IsKept number (state_of old) → IsKept number (state_of s)
seen_kept s old number same kept = subst (λ (z : ListState). IsKept number (state_of z)) (sym same) kept

pub kept_stands : (s : ListState) (number : ℕ) → IsKept number (state_of s) → IsSome (first_that (λ (r : Receipt). r.number == number) s.inbox)
kept_stands s number kept =
    let h = receipt_is s.inbox kept.receipt kept.there in
    member_found (λ (r : Receipt). r.number == number) s.inbox h.0 h.1 (subst (λ n. (h.0.number == n) ≡ true) (ap (λ (r : ReceiptOf ℕ). r.number) (sym h.2) ∙ kept.numbered) (eqb_refl h.0.number))

kept_is : (s : ListState) (number i : ℕ) (x : Receipt) → ReceiptAt s number i x → IsKept number (state_of s) → option_map length x.bytes ≡ Some x.key.size
kept_is s number i x at kept =
    let h = receipt_is s.inbox kept.receipt kept.there in
    let same : h.0 ≡ x = the_one (λ (r : Receipt). r.number) s.inbox i x h.0 at.order.receipts at.within at.is h.1 (ap (λ (r : ReceiptOf ℕ). r.number) (sym h.2) ∙ (kept.numbered ∙ sym at.numbered)) in
    subst (λ (r : ReceiptOf ℕ). r.bytes ≡ Some r.key.size) (h.2 ∙ ap (receipt_map length) same) kept.some

pub reads_receipt : (s : ListState) (number i at room : ℕ) (x : Receipt) (bytes section : List ℕ) → ReceiptAt s number i x → x.bytes ≡ Some bytes → section ≡ take room (drop at bytes) → StoreKept (stand_of s) (Read_part number at room) (Came section) (stand_of s)
reads_receipt s number i at room x bytes section there some is =
    still s s (Read_part number at room) (Came section) ((bytes, record { receipt = x; there = member_at s.inbox i x there.within there.is; numbered = there.numbered; some = some }, is), refl) refl refl

pub receipt_size : (s : ListState) (number i : ℕ) (x : Receipt) (bytes : List ℕ) → ReceiptAt s number i x → IsKept number (state_of s) → x.bytes ≡ Some bytes → length bytes ≡ size_of_receipt number (state_of s).stock.state.inbox
receipt_size s number i x bytes at kept some =
    inside (sym (ap (option_map length) some) ∙ kept_is s number i x at kept) ∙ sym (ap size_in_receipt (first-map (receipt_map length) (λ (r : ReceiptOf ℕ). r.number == number) s.inbox ∙ ap (option_map (receipt_map length)) (first_one (λ (r : Receipt). r.number == number) s.inbox i x at.within at.is (subst (λ n. (x.number == n) ≡ true) at.numbered (eqb_refl x.number)) (Each-weaker (λ (r : Receipt). r.number ≢ x.number) (λ (r : Receipt). (r.number == number) ≡ false) (λ r ne. apart_numbers r.number number (λ same. ne (same ∙ sym at.numbered))) (remove s.inbox i) (one_rest (λ (r : Receipt). r.number) s.inbox i x at.order.receipts at.within at.is)))))
  where
    inside : {m n : ℕ} → Some m ≡ Some n → m ≡ n
    inside e = cc
