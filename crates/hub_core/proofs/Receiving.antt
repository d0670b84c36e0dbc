-- A file whose mark has all its bytes is received: the node of its hub has the receipt.
use Rattle.std.proofs.Common.{◌≡◌, ◌≢◌, ◌⊎◌, ℕ, ◌+◌, ◌-◌, max, Bool, true, false, ◌==◌, List, [], ◌∷◌, ◌++◌, Option, Some, None, length, option_map, refl, sym, ◌∙◌, ap, subst, inl, inr, arith, ⊎_elim}
use Rattle.std.proofs.lemmas.List.{append-nil}
use Rattle.ftn_addr.specs.Address.{Address}
use Rattle.ftn_addr.specs.Files.{is_same}
use Rattle.ftn_addr.specs.Key.{Key}
use Rattle.node_model.specs.Items.{EntryOf, Mark, MarkOf, Receipt}
use Rattle.node_model.specs.Lists.{Member, without}
use Rattle.node_model.specs.Durable.{Durable, marked, mark_of, unmarked, with_receipt}
use Rattle.node_model.specs.Node.{Received_record}
use Rattle.node_model.specs.Rows.{by, receipt_of, received_record}
use Rattle.node_model.specs.Sound.{Sound}
use Rattle.node_model.specs.Stocks.{Stock, Sizes, part_in, part_number, part_committed, by_part, by_some, receipt_from, begins_with}
use Rattle.node_model.specs.Stores.{Stored, StoreState, stored_after}
use Rattle.node_model.proofs.Lists.{Each-without, Each-append, decide_line}
use Rattle.node_model.proofs.StockMaps.{by_part-map, part_committed-map}
use Rattle.hub_core.specs.Hubs.{Taking, Sitting, HubState, HubFits, PartFits, IfClaimed, IfHeld, chair_in, sitting_at, session_over, node_with}
use Rattle.hub_core.specs.Skips.{AllBehind}
use Rattle.hub_core.specs.Steps.{OpensWhole, opened_under, received_whole, whole_under, is_file, part_under}
use Rattle.hub_core.proofs.Finding.{first-without, pushed, left_there}
use Rattle.hub_core.proofs.OpenParts.{same_number, number_apart, number_same}
use Rattle.hub_core.proofs.Nodes.{all_same, session_same, node_eq}
use Rattle.hub_core.proofs.Numbers.{IsFree, number_new, own_opened}
use Rattle.hub_core.proofs.Opening.{opened_stored, opened_sizes, opened_new, other_sizes, held_is, held_there}
use Rattle.hub_core.proofs.OpenParts.{other_opened, number_of}
use Rattle.hub_core.proofs.Telling.{begins_is}

abbrev pub received_stored : Address → Key → ℕ → Bool → StoreState → Stored → Stored
received_stored from key session secure s a =
    stored_after (by_part (part_number from key s.drawn s.stock) (λ part stock. part_committed part secure stock)) s.seat (Received_record (part_number from key s.drawn s.stock) from key session secure ∷ []) (opened_stored from key s a)

pub received_content : (from : Address) (key : Key) (session : ℕ) (secure : Bool) (s : StoreState) → (received_whole from key session secure s).content ≡ option_map (received_stored from key session secure s) s.content
received_content from key session secure s = go s.content
  where
    go : (c : Option Stored) → option_map (stored_after (by_part (part_number from key s.drawn s.stock) (λ part stock. part_committed part secure stock)) s.seat (Received_record (part_number from key s.drawn s.stock) from key session secure ∷ [])) (option_map (opened_stored from key s) c) ≡ option_map (received_stored from key session secure s) c
    go None = refl
    go (Some a) = refl

-- the store may receive it
pub opens_whole : (a : Stored) (s : StoreState) (h : HubState) (seat : ℕ) (x : Sitting) (key : Key) → IsFree a s h seat x key → OpensWhole x.first key s
opens_whole a s h seat x key free = record {
  found = own_opened x.first key (part_number x.first key s.drawn s.stock) 0 s.stock (λ p there apart. number_new a s h x.first key p free.fits free.tied there apart);
  apart = λ p there apart. number_new a s h x.first key p free.fits free.tied there apart;
}

-- the part that became the receipt
abbrev pub whole_part : Stored → StoreState → Address → Key → Mark
whole_part a s from key = record { number = part_number from key s.drawn s.stock; from = from; key = key; bytes = begins_with [] (mark_of from key a.stock.state) }

stock_received : (a : Stored) (s : StoreState) (h : HubState) (seat : ℕ) (x : Sitting) (key : Key) (secure : Bool) → IsFree a s h seat x key → by_part (part_number x.first key s.drawn s.stock) (λ part stock. part_committed part secure stock) (opened_stored x.first key s a).stock ≡ part_committed (whole_part a s x.first key) secure (opened_stored x.first key s a).stock
stock_received a s h seat x key secure free =
    ap (λ (o : Option Mark). by_some o (λ part stock. part_committed part secure stock) (opened_stored x.first key s a).stock) (own_opened x.first key (part_number x.first key s.drawn s.stock) [] a.stock (opened_new a s h seat x key free))

sizes_received : (a : Stored) (s : StoreState) (h : HubState) (seat : ℕ) (x : Sitting) (key : Key) (secure : Bool) → IsFree a s h seat x key → by_part (part_number x.first key s.drawn s.stock) (λ part stock. part_committed part secure stock) (opened_under x.first key 1 s).stock ≡ part_committed (whole_under x.first key (part_number x.first key s.drawn s.stock) s) secure (opened_under x.first key 1 s).stock
sizes_received a s h seat x key secure free =
    ap (λ (o : Option (MarkOf ℕ)). by_some o (λ part stock. part_committed part secure stock) (opened_under x.first key 1 s).stock) (opens_whole a s h seat x key free).found

-- another number is found as before
pub other_closed : {B : Type 0} (number n : ℕ) (ps : List (MarkOf B)) → n ≢ number → part_in n (without (λ (p : MarkOf B). p.number == number) ps) ≡ part_in n ps
other_closed {B} number n ps apart =
    first-without (λ (p : MarkOf B). p.number == number) (λ (p : MarkOf B). p.number == n) ps (λ p there here. number_apart p.number number (λ same. apart (sym (same_number p.number n here) ∙ same)))

-- sessions are told the same
received_told : (a : Stored) (s : StoreState) (h : HubState) (seat : ℕ) (x : Sitting) (key : Key) (session : ℕ) (secure : Bool) → IsFree a s h seat x key → (k : ℕ) (y : Sitting) → (chair_in h.chairs k).sitting ≡ Some y → session_over (received_stored x.first key session secure s a).stock y ≡ session_over a.stock y
received_told a s h seat x key session secure free k y at =
    session_same a.stock (received_stored x.first key session secure s a).stock y (λ t held. ⊎_elim (λ (here : k ≡ seat). absurd (own t held here)) (λ (apart : k ≢ seat). other t held apart) (decide_line k seat))
  where
    number : ℕ
    number = part_number x.first key s.drawn s.stock

    own : (t : Taking) → y.hold ≡ Some t → k ≡ seat → ⊥
    own t held here =
        let same : Some y ≡ Some x = sym at ∙ (ap (sitting_at h) here ∙ free.sits) in
        let gone : Some t ≡ None = sym held ∙ (ap (λ (o : Option Sitting). held_in o) same ∙ free.unheld) in
        cc
      where
        held_in : Option Sitting → Option Taking
        held_in None = None
        held_in (Some z) = z.hold

    other : (t : Taking) → y.hold ≡ Some t → k ≢ seat → part_in t.part (received_stored x.first key session secure s a).stock.parts ≡ part_in t.part a.stock.parts
    other t held apart =
        let part = held_is s y.first y.hold t held (free.fits.sittings k y at).hold in
        let there = held_there s y.first t part in
        let away = free.away k y t apart at held in
        let new = number_new a s h x.first key (part_under y.first t) free.fits free.tied there away in
        ap (λ (st : Stock). part_in t.part st.parts) (stock_received a s h seat x key secure free)
        ∙ (other_closed (part_number x.first key s.drawn s.stock) t.part (opened_stored x.first key s a).stock.parts new
        ∙ other_opened x.first key (part_number x.first key s.drawn s.stock) [] a.stock t.part new (number_of a s x.first key (part_under y.first t) free.fits.stock free.tied there away))

-- the node with the receipt
pub whole_is : (a : Stored) (s : StoreState) (h : HubState) (seat : ℕ) (x : Sitting) (key : Key) → IsFree a s h seat x key → let n = node_with a s h in let t = session_over a.stock x in let number = part_number x.first key s.drawn s.stock in node_with (received_stored x.first key x.number x.secure s a) (received_whole x.first key x.number x.secure s) h ≡ record n { state = with_receipt (receipt_of number t key (marked x.first key a.stock.state)) a.stock.state; log = a.log ++ by seat (received_record number t key); records = s.records + 1; drawn = max s.drawn number }
whole_is a s h seat x key free =
    let n = node_with a s h in
    let t = session_over a.stock x in
    let number = part_number x.first key s.drawn s.stock in
    let b = received_stored x.first key x.number x.secure s a in
    node_eq (node_with b (received_whole x.first key x.number x.secure s) h) (record n { state = with_receipt (receipt_of number t key (marked x.first key a.stock.state)) a.stock.state; log = a.log ++ by seat (received_record number t key); records = s.records + 1; drawn = max s.drawn number })
    (ap (λ (st : Stock). st.state) (stock_received a s h seat x key x.secure free) ∙ ap (λ (bytes : List ℕ). with_receipt (receipt_of number t key bytes) a.stock.state) (begins_is x.first key a.stock.state))
    (λ i. append-nil a.log i ++ (record { seat = free.seat_is i; entry = received_record number t key } ∷ []))
    (all_same a.stock b.stock h.chairs (received_told a s h seat x key x.number x.secure free))
    refl refl (more s.records) (less s.reserved) refl refl refl refl refl refl
  where
    more : (r : ℕ) → r + 0 + 1 ≡ r + 1
    more r = omega arith

    less : (r : ℕ) → r + 1 - 1 ≡ r
    less r = omega arith

-- It goes on to fit.

pub receipt_fits : (d : Durable) (r : Receipt) (p : MarkOf ℕ) → PartFits d p → r.number ≢ p.number → PartFits (with_receipt r d) p
receipt_fits d r p f apart = record {
  marks = Each-without (λ (x : Mark). (x.number ≡ p.number → is_same p.from p.key x.from x.key ≡ true) × (is_same p.from p.key x.from x.key ≡ true → x.number ≡ p.number)) (λ (x : Mark). is_same r.from r.key x.from x.key) d.marks f.marks;
  receipts = Each-append (λ (q : Receipt). q.number ≢ p.number) d.inbox (r ∷ []) f.receipts (apart, tt);
}

received_queue : (from : Address) (key : Key) (session : ℕ) (secure : Bool) (s : StoreState) → (received_whole from key session secure s).stock.state.queue ≡ s.stock.state.queue
received_queue from key session secure s = go (part_in (part_number from key s.drawn s.stock) (opened_under from key 1 s).stock.parts)
  where
    go : (o : Option (MarkOf ℕ)) → (by_some o (λ part stock. part_committed part secure stock) (opened_under from key 1 s).stock).state.queue ≡ s.stock.state.queue
    go None = refl
    go (Some p) = refl

pub received_fits : (a : Stored) (s : StoreState) (h : HubState) (seat : ℕ) (x : Sitting) (key : Key) → IsFree a s h seat x key → Sound (node_with (received_stored x.first key x.number x.secure s a) (received_whole x.first key x.number x.secure s) h) → HubFits (received_stored x.first key x.number x.secure s a) (received_whole x.first key x.number x.secure s) h
received_fits a s h seat x key free sound =
    let number = part_number x.first key s.drawn s.stock in
    let f = free.fits in
    record {
      stock = ap (λ (st : Sizes). by_part number (λ part stock. part_committed part x.secure stock) st) (opened_sizes a s x.first key 1 f.stock)
          ∙ sym (by_part-map length number (λ part stock. part_committed part x.secure stock) (λ part stock. part_committed part x.secure stock) (λ part stock. part_committed-map length part x.secure stock) (opened_stored x.first key s a).stock);
      sittings = λ k y at. let fit = f.sittings k y at in record { first = fit.first; claim = subst (λ (q : List (EntryOf ℕ)). IfClaimed q y.claim) (sym (received_queue x.first key x.number x.secure s)) fit.claim; passed = subst (λ (q : List (EntryOf ℕ)). AllBehind (y.first ∷ y.others) y.skipped q y.passed) (sym (received_queue x.first key x.number x.secure s)) fit.passed; hold = ⊎_elim (λ (here : k ≡ seat). own k y here at) (λ (apart : k ≢ seat). stays k y apart at y.hold refl fit.hold) (decide_line k seat) };
      parts = λ p there. parts p (subst (λ (st : Sizes). Member p st.parts) (sizes_received a s h seat x key x.secure free) there);
      sound = sound;
    }
  where
    own : (k : ℕ) (y : Sitting) → k ≡ seat → sitting_at h k ≡ Some y → IfHeld (received_whole x.first key x.number x.secure s) y.first y.hold
    own k y here at =
        let same : Some y ≡ Some x = sym at ∙ (ap (sitting_at h) here ∙ free.sits) in
        subst (λ (o : Option Taking). IfHeld (received_whole x.first key x.number x.secure s) y.first o) (sym (ap (λ (o : Option Sitting). held_in o) same ∙ free.unheld)) tt
      where
        held_in : Option Sitting → Option Taking
        held_in None = None
        held_in (Some z) = z.hold

    stays : (k : ℕ) (z : Sitting) → k ≢ seat → sitting_at h k ≡ Some z → (o : Option Taking) → z.hold ≡ o → IfHeld s z.first o → IfHeld (received_whole x.first key x.number x.secure s) z.first o
    stays k z apart at None is held = tt
    stays k z apart at (Some t) is held =
        let there = held_there s z.first t held.part in
        let new = number_new a s h x.first key (part_under z.first t) free.fits free.tied there (free.away k z t apart at is) in
        record {
          part = ap (λ (st : Sizes). part_in t.part st.parts) (sizes_received a s h seat x key x.secure free) ∙ (other_closed (part_number x.first key s.drawn s.stock) t.part (opened_under x.first key 1 s).stock.parts new ∙ (other_sizes a s h seat x key 1 free k z t apart at is ∙ held.part));
          kept = held.kept;
        }

    parts : (p : MarkOf ℕ) → Member p (without (λ (q : MarkOf ℕ). q.number == part_number x.first key s.drawn s.stock) (opened_under x.first key 1 s).stock.parts) → PartFits (received_stored x.first key x.number x.secure s a).stock.state p
    parts p there =
        let l = left_there (λ (q : MarkOf ℕ). q.number == part_number x.first key s.drawn s.stock) (opened_under x.first key 1 s).stock.parts p there in
        let apart : part_number x.first key s.drawn s.stock ≢ p.number = λ same. off (number_same p.number (part_number x.first key s.drawn s.stock) (sym same)) l.1 in
        subst (λ (st : Stock). PartFits st.state p) (sym (stock_received a s h seat x key x.secure free))
        (receipt_fits a.stock.state (receipt_from (whole_part a s x.first key) x.secure) p (old p (pushed (unmarked x.first key s.stock.parts) _ p l.0) apart) apart)
      where
        off : {X : Type 0} {b : Bool} → b ≡ true → b ≡ false → X
        off {X} {b} t e = absurd (cc)

        old : (p : MarkOf ℕ) → Member p (unmarked x.first key s.stock.parts) ⊎ (p ≡ whole_under x.first key (part_number x.first key s.drawn s.stock) s) → part_number x.first key s.drawn s.stock ≢ p.number → PartFits a.stock.state p
        old p (inl o) apart = free.fits.parts p (left_there (is_file x.first key) s.stock.parts p o).0
        old p (inr same) apart = absurd (apart (sym (ap (λ (q : MarkOf ℕ). q.number) same)))
