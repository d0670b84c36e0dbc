-- Data comes for a held file, and more is to come: a step of the hub's node.
use Rattle.std.proofs.Common.{◌≡◌, ℕ, ◌+◌, ◌-◌, Bool, true, false, if◌then◌else◌, List, [], ◌∷◌, ◌++◌, Option, Some, None, length, option_map, refl, sym, ◌∙◌, ap, subst, arith}
use Rattle.std.proofs.lemmas.List.{append-nil}
use Rattle.ftn_addr.specs.Address.{Address}
use Rattle.node_model.specs.Items.{Mark}
use Rattle.node_model.specs.Durable.{with_mark}
use Rattle.node_model.specs.Node.{Hold, Session, Node, Mark_record, with_session}
use Rattle.node_model.specs.Rows.{by, grown, mark_for, mark_record}
use Rattle.node_model.specs.Stocks.{Stock, Sizes, sizes, part_in, part_put, by_part, part_marked, body_of}
use Rattle.node_model.specs.Stores.{Stored, StoreState, with_bytes}
use Rattle.hub_core.specs.Hubs.{Taking, Sitting, Chair, HubState, HubFits, SittingFits, HoldFits, IfHeld, PartFits, chair_in, with_sitting, sitting_at, session_over, hold_over, node_with}
use Rattle.hub_core.specs.HubLaws.{held_told, HeldTold, held_part}
use Rattle.hub_core.specs.Steps.{part_under, more_taking}
use Rattle.hub_core.proofs.Data.{put_stored, parts_apart, put_told, put_body}
use Rattle.hub_core.proofs.Ends.{Sits, marked_by, marked_stored, stock_marked}
use Rattle.hub_core.proofs.Marking.{by_part_parts}
use Rattle.hub_core.proofs.Nodes.{seats_put, session_same, node_eq, OthersStay}
use Rattle.hub_core.proofs.Putting.{other_put}

-- the session whose hold grew, and gave a place at a stride
abbrev pub grown_taking : Bool → ℕ → Taking → Taking
grown_taking reached n t = record (more_taking n t) { places = t.places - (if reached then 1 else 0) }

abbrev pub grown_sitting : Bool → ℕ → Taking → Sitting → Sitting
grown_sitting reached n t x = record x { hold = Some (grown_taking reached n t) }

-- a seat's session that takes the data of what it holds
pub record TakesData (a : Stored) (s : StoreState) (h : HubState) (seat : ℕ) (x : Sitting) (t : Taking) : Type 0 where
  pub sits : Sits a s h seat x
  pub holds : x.hold ≡ Some t
  pub taking : t.taking ≡ true
  pub whole : s.counts.broken ≡ None

pub data_held : (a : Stored) (s : StoreState) (h : HubState) (seat : ℕ) (x : Sitting) (t : Taking) → TakesData a s h seat x t → HoldFits s x.first t
data_held a s h seat x t d = subst (λ (o : Option Taking). IfHeld s x.first o) d.holds (d.sits.fits.sittings seat x d.sits.sits).hold

pub data_told : (a : Stored) (s : StoreState) (h : HubState) (seat : ℕ) (x : Sitting) (t : Taking) → TakesData a s h seat x t → HeldTold a x.first t
data_told a s h seat x t d = held_told a s x.first t d.sits.fits.stock (data_held a s h seat x t d).part

-- the hold in the node
abbrev pub node_hold : Stored → Address → Taking → Hold
node_hold a from t = record { number = t.part; from = from; key = t.key; bytes = body_of t.part a.stock; stored = true; taking = t.taking }

-- what is kept: the bytes, and their mark
abbrev pub more_stored : Bool → Address → Taking → List ℕ → ℕ → Stored → Stored
more_stored b from t bytes seat a = marked_stored b (part_under from (more_taking (length bytes) t)) seat (put_stored t.part bytes seat a)

more_stored_parts : (b : Bool) (from : Address) (t : Taking) (bytes : List ℕ) (seat : ℕ) (a : Stored) → (more_stored b from t bytes seat a).stock.parts ≡ (put_stored t.part bytes seat a).stock.parts
more_stored_parts false from t bytes seat a = refl
more_stored_parts true from t bytes seat a = by_part_parts t.part (put_stored t.part bytes seat a).stock

pub more_others : (a : Stored) (s : StoreState) (h : HubState) (seat : ℕ) (x : Sitting) (t : Taking) (bytes : List ℕ) (b : Bool) → TakesData a s h seat x t → OthersStay a.stock (more_stored b x.first t bytes s.seat a).stock h.chairs seat
more_others a s h seat x t bytes b d = λ k y apart at. session_same a.stock (more_stored b x.first t bytes s.seat a).stock y (λ u held.
    ap (λ (ps : List Mark). part_in u.part ps) (more_stored_parts b x.first t bytes s.seat a)
    ∙ other_put t.part (λ (z : List ℕ). z ++ bytes) u.part a.stock.parts (parts_apart a s h k seat y x u t d.sits.fits apart at held d.sits.sits d.holds))

-- the node, with or without a mark
abbrev pub more_node : Bool → ℕ → Session → Hold → Node → Node
more_node b seat sess w n =
    record (with_session seat (Some (record sess { hold = Some w; hold_places = sess.hold_places - (if b then 1 else 0) })) n) { state = if b then with_mark (mark_for w) n.state else n.state; log = n.log ++ (if b then by seat (mark_record w) else []); records = n.records + (if b then 1 else 0); reserved = n.reserved - (if b then 1 else 0) }

pub more_at : (a : Stored) (s : StoreState) (h : HubState) (seat : ℕ) (x : Sitting) (t : Taking) (bytes : List ℕ) (b : Bool) → TakesData a s h seat x t → node_with (more_stored b x.first t bytes s.seat a) (marked_by b (part_under x.first (more_taking (length bytes) t)) (with_bytes t.part bytes s)) (with_sitting seat (Some (grown_sitting b (length bytes) t x)) h) ≡ more_node b seat (session_over a.stock x) (grown (node_hold a x.first t) bytes) (node_with a s h)
more_at a s h seat x t bytes b d = go b
  where
    w : Hold
    w = grown (node_hold a x.first t) bytes

    told : HeldTold a x.first t
    told = data_told a s h seat x t d

    own_at : (b : Bool) → option_map (session_over (more_stored b x.first t bytes s.seat a).stock) (Some (grown_sitting b (length bytes) t x)) ≡ Some (record (session_over a.stock x) { hold = Some (grown (node_hold a x.first t) bytes); hold_places = (session_over a.stock x).hold_places - (if b then 1 else 0) })
    own_at b =
        let body : body_of t.part (more_stored b x.first t bytes s.seat a).stock ≡ body_of t.part a.stock ++ bytes = ap (λ (ps : List Mark). Rattle.node_model.specs.Stocks.bytes_of_part (part_in t.part ps)) (more_stored_parts b x.first t bytes s.seat a) ∙ put_body a x.first t bytes s.seat (data_told a s h seat x t d) in
        let places : t.places ≡ (session_over a.stock x).hold_places = sym (ap Rattle.hub_core.specs.Hubs.hold_places_of d.holds) in
        λ i. Some (record (session_over a.stock x) { hold = Some (record { number = t.part; from = x.first; key = t.key; bytes = body i; stored = true; taking = t.taking }); hold_places = places i - (if b then 1 else 0) })

    add_none : (n : ℕ) → n + 0 ≡ n
    add_none n = omega arith

    less_none : (n : ℕ) → n ≡ n - 0
    less_none n = omega arith

    add_one : (n : ℕ) → n + 0 + 1 ≡ n + 1
    add_one n = omega arith

    go : (b : Bool) → node_with (more_stored b x.first t bytes s.seat a) (marked_by b (part_under x.first (more_taking (length bytes) t)) (with_bytes t.part bytes s)) (with_sitting seat (Some (grown_sitting b (length bytes) t x)) h) ≡ more_node b seat (session_over a.stock x) (grown (node_hold a x.first t) bytes) (node_with a s h)
    go false =
        node_eq (node_with (more_stored false x.first t bytes s.seat a) (with_bytes t.part bytes s) (with_sitting seat (Some (grown_sitting false (length bytes) t x)) h)) (more_node false seat (session_over a.stock x) (grown (node_hold a x.first t) bytes) (node_with a s h))
        refl refl
        (seats_put a.stock (more_stored false x.first t bytes s.seat a).stock h seat (Some (grown_sitting false (length bytes) t x)) _ (more_others a s h seat x t bytes false d) (own_at false))
        refl refl refl (less_none s.reserved) refl refl refl refl refl refl
    go true =
        let a' = put_stored t.part bytes s.seat a in
        let told' = put_told a x.first t bytes s.seat (data_told a s h seat x t d) in
        let stock = stock_marked a' x.first (more_taking (length bytes) t) told' in
        let same : held_part a' x.first (more_taking (length bytes) t) ≡ mark_for (grown (node_hold a x.first t) bytes) = (λ i. record { number = t.part; from = x.first; key = t.key; bytes = put_body a x.first t bytes s.seat (data_told a s h seat x t d) i }) in
        let len : t.have + length bytes ≡ length (body_of t.part a.stock ++ bytes) = sym told'.len ∙ ap length (put_body a x.first t bytes s.seat (data_told a s h seat x t d)) in
        node_eq (node_with (more_stored true x.first t bytes s.seat a) (marked_by true (part_under x.first (more_taking (length bytes) t)) (with_bytes t.part bytes s)) (with_sitting seat (Some (grown_sitting true (length bytes) t x)) h)) (more_node true seat (session_over a.stock x) (grown (node_hold a x.first t) bytes) (node_with a s h))
        (ap (λ (st : Stock). st.state) stock ∙ ap (λ (m : Mark). with_mark m a.stock.state) same)
        (λ i. append-nil a.log i ++ (record { seat = d.sits.seat_is i; entry = Mark_record t.part x.first t.key (len i) } ∷ []))
        (seats_put a.stock (more_stored true x.first t bytes s.seat a).stock h seat (Some (grown_sitting true (length bytes) t x)) _ (more_others a s h seat x t bytes true d) (own_at true))
        refl refl (add_one s.records) refl refl refl refl refl refl refl
