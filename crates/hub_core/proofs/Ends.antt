-- What is held is marked, and its places go back: the node of a hub is released.
use Rattle.std.proofs.Common.{◌≡◌, ℕ, ◌+◌, ◌-◌, Bool, true, false, if◌then◌else◌, List, [], ◌∷◌, ◌++◌, Option, Some, None, length, option_map, refl, sym, ◌∙◌, ap, arith}
use Rattle.std.proofs.lemmas.List.{append-nil}
use Rattle.ftn_addr.specs.Address.{Address}
use Rattle.node_model.specs.Items.{Mark, MarkOf}
use Rattle.node_model.specs.Durable.{with_mark}
use Rattle.node_model.specs.Node.{Hold, Session, Node, Logged, Mark_record, with_session}
use Rattle.node_model.specs.Rows.{by, all_by, mark_for, mark_record, released, unheld}
use Rattle.node_model.specs.Stocks.{Stock, sizes, part_in, by_part, by_some, part_marked, body_of}
use Rattle.node_model.specs.Stores.{Stored, StoreState, StoreTied, IfTold, stored_after, changed, placed, marked_part}
use Rattle.node_model.specs.Stores as T
use Rattle.node_model.proofs.Seats.{fits}
use Rattle.hub_core.specs.Hubs.{Taking, Sitting, HubState, IfHeld, HubFits, with_sitting, sitting_at, session_over, node_with}
use Rattle.hub_core.specs.Steps.{part_under, ended}
use Rattle.hub_core.proofs.Nodes.{seats_put, session_same, node_eq}
use Rattle.hub_core.proofs.Telling.{ahead_is}
use Rattle.hub_core.specs.HubLaws.{HeldTold, held_part, held_told}

-- a seat's session over a store that keeps this, whose next records are the seat's
pub record Sits (a : Stored) (s : StoreState) (h : HubState) (seat : ℕ) (x : Sitting) : Type 0 where
  pub fits : HubFits a s h
  pub sits : sitting_at h seat ≡ Some x
  pub seat_is : s.seat ≡ seat
  pub tied : StoreTied s

abbrev pub unheld_sitting : Sitting → Sitting
unheld_sitting x = record x { hold = None }

-- What is kept then.

abbrev pub marked_stored : Bool → MarkOf ℕ → ℕ → Stored → Stored
marked_stored b p seat a =
    if b then stored_after (by_part p.number (λ part stock. part_marked part stock)) seat (Mark_record p.number p.from p.key p.bytes ∷ []) a else a

abbrev pub ended_stored : Address → Option Taking → StoreState → Stored → Stored
ended_stored from None s a = a
ended_stored from (Some t) s a = marked_stored (T.is_ahead (part_under from t) s) (part_under from t) s.seat a

abbrev pub marked_by : Bool → MarkOf ℕ → StoreState → StoreState
marked_by b p s =
    if b
    then placed (changed (by_part p.number (λ part stock. part_marked part stock)) (by_part p.number (λ part stock. part_marked part stock)) (Mark_record p.number p.from p.key p.bytes ∷ []) s)
    else s

pub same_content : (c : Option Stored) → c ≡ option_map (λ (a : Stored). a) c
same_content None = refl
same_content (Some a) = refl

pub marked_content : (b : Bool) (p : MarkOf ℕ) (s : StoreState) → (marked_by b p s).content ≡ option_map (marked_stored b p s.seat) s.content
marked_content true p s = refl
marked_content false p s = same_content s.content

pub ended_content : (from : Address) (o : Option Taking) (s : StoreState) → (ended from o s).content ≡ option_map (ended_stored from o s) s.content
ended_content from None s = same_content s.content
ended_content from (Some t) s = marked_content (T.is_ahead (part_under from t) s) (part_under from t) s

-- a mark changes no counts
pub ended_counts : (from : Address) (o : Option Taking) (s : StoreState) → (ended from o s).counts ≡ s.counts
ended_counts from None s = refl
ended_counts from (Some t) s = go (T.is_ahead (part_under from t) s)
  where
    go : (b : Bool) → (marked_by b (part_under from t) s).counts ≡ s.counts
    go true = refl
    go false = refl

-- the stock with a mark
pub stock_marked : (a : Stored) (from : Address) (t : Taking) → HeldTold a from t → by_part t.part (λ part stock. part_marked part stock) a.stock ≡ part_marked (held_part a from t) a.stock
stock_marked a from t told = ap (λ (o : Option Mark). by_some o (λ part stock. part_marked part stock) a.stock) told.is

-- The node.

abbrev pub released_by : Bool → ℕ → Session → Hold → Node → Node
released_by b seat s h n =
    record (with_session seat (Some (unheld s)) n) { state = if b then with_mark (mark_for h) n.state else n.state; log = n.log ++ (if b then by seat (mark_record h) else []); records = n.records + length (if b then by seat (mark_record h) else []); reserved = n.reserved - s.hold_places }

abbrev hold_here : Stored → Address → Taking → Hold
hold_here a from t =
    record { number = t.part; from = from; key = t.key; bytes = body_of t.part a.stock; stored = true; taking = t.taking }

released_at : (a : Stored) (s : StoreState) (h : HubState) (seat : ℕ) (x : Sitting) (t : Taking) (b : Bool) → HeldTold a x.first t → s.seat ≡ seat → node_with (marked_stored b (part_under x.first t) s.seat a) (record (marked_by b (part_under x.first t) s) { reserved = s.reserved - t.places }) (with_sitting seat (Some (unheld_sitting x)) h) ≡ released_by b seat (session_over a.stock (record x { hold = Some t })) (hold_here a x.first t) (node_with a s h)
released_at a s h seat x t false told at =
    node_eq (node_with a (record s { reserved = s.reserved - t.places }) (with_sitting seat (Some (unheld_sitting x)) h)) (released_by false seat (session_over a.stock (record x { hold = Some t })) (hold_here a x.first t) (node_with a s h))
    refl (sym (append-nil a.log)) (seats_put a.stock a.stock h seat (Some (unheld_sitting x)) _ (λ k y apart is. refl) refl) refl refl (omega arith) refl refl refl refl refl refl refl
released_at a s h seat x t true told at =
    let p = part_under x.first t in
    let b : Stored = marked_stored true p s.seat a in
    let stock : b.stock ≡ part_marked (held_part a x.first t) a.stock = stock_marked a x.first t told in
    let record_is : all_by s.seat (Mark_record t.part x.first t.key t.have ∷ []) ≡ by seat (mark_record (hold_here a x.first t)) = (λ i. record { seat = at i; entry = Mark_record t.part x.first t.key (sym told.len i) } ∷ []) in
    node_eq (node_with b (record (marked_by true p s) { reserved = s.reserved - t.places }) (with_sitting seat (Some (unheld_sitting x)) h)) (released_by true seat (session_over a.stock (record x { hold = Some t })) (hold_here a x.first t) (node_with a s h))
    (ap (λ (st : Stock). st.state) stock)
    (ap (λ (l : List Logged). a.log ++ l) record_is)
    (seats_put a.stock b.stock h seat (Some (unheld_sitting x)) _ (λ k y apart is. session_same a.stock b.stock y (λ t' held. ap (λ (st : Stock). part_in t'.part st.parts) stock)) refl)
    refl refl refl refl refl refl refl refl refl refl

released_from : (a : Stored) (s : StoreState) (h : HubState) (seat : ℕ) (x : Sitting) (o : Option Taking) → s.stock ≡ sizes a.stock → IfHeld s x.first o → s.seat ≡ seat → node_with (ended_stored x.first o s a) (ended x.first o s) (with_sitting seat (Some (unheld_sitting x)) h) ≡ released seat (session_over a.stock (record x { hold = o })) (node_with a s h)
released_from a s h seat x None fits held at =
    node_eq (node_with a s (with_sitting seat (Some (unheld_sitting x)) h)) (released seat (session_over a.stock (record x { hold = None })) (node_with a s h))
    refl (sym (append-nil a.log)) (seats_put a.stock a.stock h seat (Some (unheld_sitting x)) _ (λ k y apart is. refl) refl) refl refl (omega arith) (omega arith) refl refl refl refl refl refl
released_from a s h seat x (Some t) fits held at =
    let told = held_told a s x.first t fits held.part in
    released_at a s h seat x t (T.is_ahead (part_under x.first t) s) told at
    ∙ ap (λ (b : Bool). released_by b seat (session_over a.stock (record x { hold = Some t })) (hold_here a x.first t) (node_with a s h)) (ahead_is a s x.first t (hold_here a x.first t) fits refl refl told.len)

pub released_is : (a : Stored) (s : StoreState) (h : HubState) (seat : ℕ) (x : Sitting) → Sits a s h seat x → node_with (ended_stored x.first x.hold s a) (ended x.first x.hold s) (with_sitting seat (Some (unheld_sitting x)) h) ≡ released seat (session_over a.stock x) (node_with a s h)
released_is a s h seat x sits = released_from a s h seat x x.hold sits.fits.stock (sits.fits.sittings seat x sits.sits).hold sits.seat_is
