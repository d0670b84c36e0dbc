-- Data: the held bytes grow, or reach the size.
use Rattle.std.proofs.Common.{◌≡◌, ◌≢◌, ◌⊎◌, ℕ, ◌+◌, ◌-◌, ◌/◌, ◌≤◌, ◌<◌, le_refl, Bool, true, false, if◌then◌else◌, List, [], ◌++◌, Option, Some, None, length, take, refl, sym, ap, ◌∙◌, subst, inl, inr, arith, length-append, length-take, take_all}
use Rattle.std.proofs.lemmas.List.{take-append-le}
use Rattle.std.proofs.lemmas.Bool.Decides.{leb_tells}
use Rattle.ftn_addr.specs.Address.{Address}
use Rattle.ftn_addr.specs.Files.{is_same}
use Rattle.node_model.specs.Items.{Mark}
use Rattle.node_model.specs.Durable.{Durable, bytes_of_mark, marked, unmarked, with_mark, with_receipt}
use Rattle.node_model.specs.Node.{Hold, Session, Settings, Node, session_at, with_session}
use Rattle.node_model.specs.Rows.{by, mark_for, mark_record, stride, at_stride, grown, holding_more, unheld, released, receipt_of, received_record, DataMore, DataWhole}
use Rattle.node_model.proofs.Lists.{off, is_same_refl, Each-without}
use Rattle.node_model.proofs.Marks.{place_used, Each-placed, mark_own}
use Rattle.node_model.proofs.StoreChanges.{Numbered, store_mark, store_receipt}
use Rattle.node_model.proofs.HoldChanges.{Beside, beside, seat_marked, seat_received}
use Rattle.node_model.proofs.Seats.{NumbersAgree, HoldSound, HoldFits, HoldsApart, SeatFits, PairFits, NodeFits, seats_put}
use Rattle.node_model.proofs.Leaving.{places_put, numbered_hold, unheld_fits, unheld_apart}

stride_some : (size : ℕ) → 0 < stride size
stride_some size = omega arith

-- a node whose seat holds more, with a mark of it or without one
abbrev more_with : Bool → ℕ → Session → Hold → Node → Node
more_with b seat s h n =
    let place : ℕ = if b then 1 else 0 in
    record (with_session seat (Some (record s { hold = Some h; hold_places = s.hold_places - place })) n) { state = if b then with_mark (mark_for h) n.state else n.state; log = n.log ++ (if b then by seat (mark_record h) else []); records = n.records + place; reserved = n.reserved - place }

-- without a mark

grown_held : (settings : Settings) (d : Durable) (drawn : ℕ) (first : Address) (places : ℕ) (h : Hold) (bytes : List ℕ) → length h.bytes + length bytes ≤ h.key.size → HoldSound settings d drawn first places h → HoldSound settings d drawn first places (grown h bytes)
grown_held settings d drawn first places h bytes short o =
    let b = marked h.from h.key d in
    let long : length (h.bytes ++ bytes) ≡ length h.bytes + length bytes = length-append h.bytes bytes in
    let within : length b ≤ length h.bytes = omega (arith, ap length o.begins, length-take (length b) h.bytes) in
    record {
      from_first = o.from_first;
      new = o.new;
      wanted = o.wanted;
      stored = o.stored;
      begins = take-append-le (length b) h.bytes bytes within ∙ o.begins;
      fits = omega (arith, long, short);
      marks = o.marks;
      receipts = o.receipts;
      some = o.some;
      was_drawn = o.was_drawn;
      places_left = o.places_left;
    }

-- with a mark of all that is held

marked_held : (settings : Settings) (d : Durable) (drawn : ℕ) (first : Address) (places : ℕ) (g : Hold) → length (marked g.from g.key d) + stride g.key.size ≤ length g.bytes → HoldSound settings d drawn first places g → HoldSound settings (with_mark (mark_for g) d) drawn first (places - 1) g
marked_held settings d drawn first places g far o =
    let mine : marked g.from g.key (with_mark (mark_for g) d) ≡ g.bytes = ap bytes_of_mark (mark_own (mark_for g) d) in
    let fits = o.fits in
    let before = o.places_left in
    let next = place_used g.key.size (length (marked g.from g.key d)) (length g.bytes) (stride g.key.size) (stride_some g.key.size) far fits in
    record {
      from_first = o.from_first;
      new = o.new;
      wanted = o.wanted;
      stored = o.stored;
      begins = subst (λ b. take (length b) g.bytes ≡ b) (sym mine) (take_all (length g.bytes) g.bytes (le_refl _));
      fits = o.fits;
      marks = Each-placed (NumbersAgree g.from g.key g.number) (mark_for g) (unmarked g.from g.key d.marks) ((λ e. is_same_refl g.from g.key), (λ e. refl)) (Each-without (NumbersAgree g.from g.key g.number) (λ (x : Mark). is_same g.from g.key x.from x.key) d.marks o.marks);
      receipts = o.receipts;
      some = o.some;
      was_drawn = o.was_drawn;
      places_left = subst (λ b. 1 + (g.key.size - length b) / stride g.key.size ≤ places - 1) (sym mine) (omega (arith, next, before));
    }

apart_grown : (h : Hold) (bytes : List ℕ) (o : Option Hold) → HoldsApart (Some h) o → HoldsApart (Some (grown h bytes)) o
apart_grown h bytes None a = tt
apart_grown h bytes (Some g) a = record { files = a.files; numbers = a.numbers }

more_fits : (n : Node) (seat : ℕ) (s : Session) (h : Hold) (bytes : List ℕ) → session_at n seat ≡ Some s → s.hold ≡ Some h → length h.bytes + length bytes < h.key.size → NodeFits n → NodeFits (holding_more seat s (grown h bytes) n)
more_fits n seat s h bytes has holds short f = go (at_stride g n.state) (leb_tells (length (marked h.from h.key n.state) + stride h.key.size) (length g.bytes))
  where
    g : Hold
    g = grown h bytes

    mine : SeatFits n.begun n.settings n.state n.drawn s
    mine = f.seats.each seat s has

    held : HoldSound n.settings n.state n.drawn s.first s.hold_places g
    held = grown_held n.settings n.state n.drawn s.first s.hold_places h bytes (omega (arith, short)) (subst (λ o. HoldFits n.settings n.state n.drawn s.first s.hold_places o) holds mine.hold)

    apart_from : (k : ℕ) (w : Session) → k ≢ seat → session_at n k ≡ Some w → PairFits s w
    apart_from k w apart at = f.seats.pairs seat k s w (λ same. apart (sym same)) has at

    apart_held : (k : ℕ) (w : Session) → k ≢ seat → session_at n k ≡ Some w → HoldsApart (Some g) w.hold
    apart_held k w apart at = apart_grown h bytes w.hold (subst (λ o. HoldsApart o w.hold) holds (apart_from k w apart at).holds)

    pair : (places k : ℕ) (w : Session) → k ≢ seat → session_at n k ≡ Some w → PairFits (record s { hold = Some g; hold_places = places }) w
    pair places k w apart at = let p = apart_from k w apart at in record { numbers = p.numbers; claims = p.claims; holds = apart_held k w apart at }

    some : 1 ≤ s.hold_places
    some = let a = held.places_left in omega (arith, a)

    go : (b : Bool) → ((b ≡ true) × (length (marked h.from h.key n.state) + stride h.key.size ≤ length g.bytes)) ⊎ ((b ≡ false) × (length g.bytes < length (marked h.from h.key n.state) + stride h.key.size)) → NodeFits (more_with b seat s g n)
    go true (inr x) = off x.0
    go false (inl x) = off (sym x.0)
    go true (inl x) =
        let sum = places_put n seat (Some s) (Some (record s { hold = Some g; hold_places = s.hold_places - 1 })) has in
        let all = f.all in
        let room = f.room in
        let left = some in
        record {
          store = store_mark (mark_for g) n.state n.staged n.drawn (numbered_hold n.settings n.state n.drawn s.first s.hold_places g held) held.fits f.store;
          seats = seats_put n (more_with true seat s g n) seat (Some (record s { hold = Some g; hold_places = s.hold_places - 1 })) refl
              (λ k w apart at o. seat_marked (mark_for g) n.begun n.settings n.state n.drawn w (beside g w.hold (apart_held k w apart at)) o)
              (record { some = mine.some; begins = mine.begins; claim = mine.claim; hold = marked_held n.settings n.state n.drawn s.first s.hold_places g x.1 held }, pair (s.hold_places - 1))
              f.seats;
          all = omega (arith, sum, all, left);
          room = omega (arith, sum, all, room, left);
        }
    go false (inr x) =
        let sum = places_put n seat (Some s) (Some (record s { hold = Some g; hold_places = s.hold_places - 0 })) has in
        let all = f.all in
        let room = f.room in
        record {
          store = f.store;
          seats = seats_put n (more_with false seat s g n) seat (Some (record s { hold = Some g; hold_places = s.hold_places - 0 })) refl
              (λ k w apart at o. o)
              (record { some = mine.some; begins = mine.begins; claim = mine.claim; hold = subst (λ places. HoldSound n.settings n.state n.drawn s.first places g) (omega arith) held }, pair (s.hold_places - 0))
              f.seats;
          all = omega (arith, sum, all);
          room = omega (arith, room);
        }

pub data_more-fits : (n m : Node) (seat : ℕ) (bytes : List ℕ) → DataMore seat bytes n m → NodeFits n → NodeFits m
data_more-fits n m seat bytes row f = subst NodeFits (sym row.after) (more_fits n seat row.session row.hold bytes row.has row.holds row.short f)

whole_fits : (n : Node) (seat : ℕ) (s : Session) (h : Hold) (bytes : List ℕ) → session_at n seat ≡ Some s → s.hold ≡ Some h → length h.bytes + length bytes ≡ h.key.size → NodeFits n
    → NodeFits (record (released seat s n) { state = with_receipt (receipt_of h.number s h.key (h.bytes ++ bytes)) n.state; log = n.log ++ by seat (received_record h.number s h.key); records = n.records + 1 })
whole_fits n seat s h bytes has holds whole f =
    record {
      store = store_receipt (receipt_of h.number s h.key (h.bytes ++ bytes)) n.state n.staged n.drawn (subst (λ a. Numbered n.state n.drawn a h.key h.number) held.from_first (numbered_hold n.settings n.state n.drawn s.first s.hold_places h held)) (length-append h.bytes bytes ∙ whole) f.store;
      seats = seats_put n _ seat (Some (unheld s)) refl
          (λ k w apart at o. seat_received (receipt_of h.number s h.key (h.bytes ++ bytes)) n.begun n.settings n.state n.drawn n.drawn w
          (let p = f.seats.pairs seat k s w (λ same. apart (sym same)) has at in
          subst (λ a. Beside a h.key h.number w.hold) held.from_first (beside h w.hold (subst (λ o. HoldsApart o w.hold) holds p.holds)))
          (omega arith) o)
          (unheld_fits n.begun n.settings n.state (with_receipt (receipt_of h.number s h.key (h.bytes ++ bytes)) n.state) n.drawn n.drawn s refl mine, unheld_apart n seat s has f.seats)
          f.seats;
      all = let sum = places_put n seat (Some s) (Some (unheld s)) has in let all = f.all in omega (arith, sum, all);
      room = let sum = places_put n seat (Some s) (Some (unheld s)) has in let all = f.all in let room = f.room in let left = held.places_left in omega (arith, sum, all, room, left);
    }
  where
    mine : SeatFits n.begun n.settings n.state n.drawn s
    mine = f.seats.each seat s has

    held : HoldSound n.settings n.state n.drawn s.first s.hold_places h
    held = subst (λ o. HoldFits n.settings n.state n.drawn s.first s.hold_places o) holds mine.hold

pub data_whole-fits : (n m : Node) (seat : ℕ) (bytes : List ℕ) → DataWhole seat bytes n m → NodeFits n → NodeFits m
data_whole-fits n m seat bytes row f = subst NodeFits (sym row.after) (whole_fits n seat row.session row.hold bytes row.has row.holds row.whole f)
