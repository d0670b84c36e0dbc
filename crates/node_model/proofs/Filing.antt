-- A file is offered: each answer keeps a node sound.
use Rattle.std.proofs.Common.{◌≡◌, ◌≢◌, ℕ, ◌≤◌, max, le_refl, Bool, true, false, ◌==◌, List, ◌∷◌, Option, Some, None, length, refl, sym, ap, ◌∙◌, subst, ⊎_elim, arith, take_all}
use Rattle.std.proofs.lemmas.Bool.Decides.{Decides-eqb}
use Rattle.ftn_addr.specs.Address.{Address}
use Rattle.ftn_addr.specs.Key.{Key}
use Rattle.ftn_addr.specs.Files.{is_same}
use Rattle.ftn_addr.specs.declared.limits.TheConstants.{MAX_NUMBER}
use Rattle.node_model.specs.Items.{Receipt, Refusal, Mark}
use Rattle.node_model.specs.Lists.{Each}
use Rattle.node_model.specs.Durable.{Durable, is_known, mark_of, bytes_of_mark, marked}
use Rattle.node_model.specs.Node.{Hold, Session, Node, session_at, hold_in}
use Rattle.node_model.specs.Rows.{HasRoom, refuses, places_for, hold_from, holding, receipt_of, FileAnswer, Have, Refuse, Elsewhere, Go, Whole, From, Late, HeldElsewhere, PartNumber, Acceptable, mark_length, Applies, wanted_places, FileMade, FileRow, unheld, released}
use Rattle.node_model.specs.Sound.{same_mark}
use Rattle.node_model.proofs.Lists.{off, is_false, some_inj, is_same_true, is_same_at, first_that_is, Each-member, Each-weaker, decide_line}
use Rattle.node_model.proofs.Distinct.{each_of, find_none, distinct_one}
use Rattle.node_model.proofs.Moves.{released-moved}
use Rattle.node_model.proofs.StoreChanges.{IsOwnNumber, Numbered, store_receipt, store_refusal}
use Rattle.node_model.proofs.HoldChanges.{FileBeside, Beside, seat_received, seat_refused, seat_drawn, store_drawn}
use Rattle.node_model.proofs.Seats.{NumbersAgree, HoldSound, HoldFits, HoldsApart, SeatOk, StoreFits, NodeFits, seats_put, seats_same}
use Rattle.node_model.proofs.Leaving.{places_put, released_fits}

-- The number of a part.

-- a mark has it exactly where it is of that sender and key
part_agrees : (n : Node) (from : Address) (key : Key) (number : ℕ) → PartNumber n from key number → StoreFits n.state n.staged n.drawn → Each (NumbersAgree from key number) n.state.marks
part_agrees n from key number part f = go (mark_of from key n.state) refl
  where
    p : Mark → Bool
    p x = is_same from key x.from x.key

    go : (o : Option Mark) → mark_of from key n.state ≡ o → Each (NumbersAgree from key number) n.state.marks
    go None none =
        let unlike : Each (λ (x : Mark). p x ≡ false) n.state.marks = find_none p n.state.marks none in
        let others : Each (λ (x : Mark). x.number ≢ number) n.state.marks = part.unmarked none in
        each_of (NumbersAgree from key number) n.state.marks (λ x m. ((λ e. absurd (Each-member (λ (y : Mark). y.number ≢ number) x n.state.marks others m e)), (λ e. off (sym e ∙ Each-member (λ (y : Mark). p y ≡ false) x n.state.marks unlike m))))
    go (Some q) one =
        let found = first_that_is p n.state.marks q one in
        let own : q.number ≡ number = part.its_own q one in
        let is = is_same_true from key q.from q.key found.1 in
        each_of (NumbersAgree from key number) n.state.marks
        (λ x m. (
          (λ e.
              let same : x.number ≡ q.number = e ∙ sym own in
              let it : x ≡ q = distinct_one (λ (a b : Mark). a.number == b.number) n.state.marks x q f.marks m found.0 ((Decides-eqb x.number q.number).1 same) ((Decides-eqb q.number x.number).1 (sym same)) in
              subst (λ (y : Mark). p y ≡ true) (sym it) found.1),
          (λ e.
              let was = is_same_true from key x.from x.key e in
              let it : x ≡ q = distinct_one same_mark n.state.marks x q f.inbox.marks_once m found.0 (is_same_at x.from x.key q.from q.key (sym was.0 ∙ is.0) (sym was.1 ∙ is.1)) (is_same_at q.from q.key x.from x.key (sym is.0 ∙ was.0) (sym is.1 ∙ was.1)) in
              ap (λ (y : Mark). y.number) it ∙ own),
        ))

drawn_more : (a b : ℕ) → a ≤ max a b
drawn_more a b = omega arith

number_drawn : (a b : ℕ) → b ≤ max a b
number_drawn a b = omega arith

part_few : (n : Node) (from : Address) (key : Key) (number : ℕ) → PartNumber n from key number → n.drawn ≤ MAX_NUMBER → max n.drawn number ≤ MAX_NUMBER
part_few n from key number part few = let a = part.few in omega (arith, a, few)

part_numbered : (n : Node) (from : Address) (key : Key) (number : ℕ) → is_known from key n.state ≡ false → PartNumber n from key number → StoreFits n.state n.staged n.drawn → Numbered n.state (max n.drawn number) from key number
part_numbered n from key number new part f = record { new = new; marks = Each-weaker (NumbersAgree from key number) (IsOwnNumber from key number) (λ x a. a.0) n.state.marks (part_agrees n from key number part f); receipts = part.unreceived; some = part.some; was_drawn = number_drawn n.drawn number }

-- what another session holds is another file, with another number
beside_part : (n : Node) (seat : ℕ) (from : Address) (key : Key) (number : ℕ) → PartNumber n from key number → (HeldElsewhere n seat from key → ⊥) → (k : ℕ) (w : Session) → k ≢ seat → session_at n k ≡ Some w → Beside from key number w.hold
beside_part n seat from key number part free k w apart at = go w.hold refl
  where
    go : (o : Option Hold) → w.hold ≡ o → Beside from key number o
    go None is = tt
    go (Some h) is =
        let held : hold_in (session_at n k) ≡ Some h = ap hold_in at ∙ is in
        (is_false (is_same from key h.from h.key) (λ t. free (record { other = k; apart = apart; hold = h; holds = held; same = t })), λ e. part.unheld k h held (sym e))

-- A file that is refused.

refused_file : (n : Node) (from : Address) (key : Key) → refuses n.settings key ≡ true → (s : Session) → SeatOk n s → FileBeside from key s.hold
refused_file n from key rule s o = go s.hold o.hold
  where
    go : (p : Option Hold) → HoldFits n.settings n.state n.drawn s.first s.hold_places p → FileBeside from key p
    go None h = tt
    go (Some h) x = is_false (is_same from key h.from h.key) (λ t. off (sym rule ∙ (ap (refuses n.settings) (is_same_true from key h.from h.key t).1 ∙ x.wanted)))

refuse_fits : (seat : ℕ) (s : Session) (key : Key) (n new : Node) → is_known s.first key n.state ≡ false → refuses n.settings key ≡ true → HasRoom n 1 → FileMade seat s key Refuse n new → NodeFits n → NodeFits new
refuse_fits seat s key n new unknown rule room made f =
    subst NodeFits (sym made)
    (record {
      store = store_refusal r n.state n.staged n.drawn unknown f.store;
      seats = seats_same n _ (λ k. refl) (λ k w at o. seat_refused r n.begun n.settings n.state n.drawn w (refused_file n s.first key rule w o) o) f.seats;
      all = f.all;
      room = omega (arith, room);
    })
  where
    r : Refusal
    r = record { from = s.first; key = key }

-- A file that begins.

-- the mark's bytes are at most as many as the size
mark_fits : (from : Address) (key : Key) (d : Durable) (staged drawn : ℕ) → StoreFits d staged drawn → length (marked from key d) ≤ key.size
mark_fits from key d staged drawn f = go (mark_of from key d) refl
  where
    go : (o : Option Mark) → mark_of from key d ≡ o → length (bytes_of_mark o) ≤ key.size
    go None is = omega arith
    go (Some m) is =
        let found = first_that_is (λ (x : Mark). is_same from key x.from x.key) d.marks m is in
        subst (λ (k : Key). length m.bytes ≤ k.size) (sym (is_same_true from key m.from m.key found.1).1) (Each-member (λ (x : Mark). length x.bytes ≤ x.key.size) m d.marks f.inbox.mark_sizes found.0)

held_new : (n : Node) (seat : ℕ) (s : Session) (key : Key) (number : ℕ) (taking : Bool) → Acceptable seat s key n → PartNumber n s.first key number → StoreFits n.state n.staged n.drawn → HoldSound n.settings n.state (max n.drawn number) s.first (places_for (mark_length s key n) key.size) (hold_from number s.first key taking n.state)
held_new n seat s key number taking ok part f =
    record {
      from_first = refl;
      new = ok.unknown;
      wanted = ok.wanted;
      stored = refl;
      begins = take_all (length (marked s.first key n.state)) (marked s.first key n.state) (le_refl _);
      fits = mark_fits s.first key n.state n.staged n.drawn f;
      marks = part_agrees n s.first key number part f;
      receipts = part.unreceived;
      some = part.some;
      was_drawn = number_drawn n.drawn number;
      places_left = le_refl _;
    }

holds_beside : (g : Hold) (o : Option Hold) → Beside g.from g.key g.number o → HoldsApart (Some g) o
holds_beside g None a = tt
holds_beside g (Some h) a = record { files = a.0; numbers = a.1 }

holding_fits : (n : Node) (seat : ℕ) (s : Session) (key : Key) (number : ℕ) (taking : Bool) (missed : List Key) → session_at n seat ≡ Some s → s.hold_places ≡ 0 → Acceptable seat s key n → PartNumber n s.first key number → HasRoom n (places_for (mark_length s key n) key.size) → NodeFits n
    → NodeFits (holding seat (hold_from number s.first key taking n.state) (places_for (mark_length s key n) key.size) (record s { missed = missed }) n)
holding_fits n seat s key number taking missed has none ok part room f =
    let mine = f.seats.each seat s has in
    let hold = hold_from number s.first key taking n.state in
    let places = places_for (mark_length s key n) key.size in
    let t : Session = record s { missed = missed; hold = Some hold; hold_places = places } in
    let sum = places_put n seat (Some s) (Some t) has in
    let all = f.all in
    record {
      store = store_drawn n.state n.staged n.staged n.drawn (max n.drawn number) (le_refl _) (drawn_more n.drawn number) (part_few n s.first key number part f.store.drawn_few) f.store;
      seats = seats_put n _ seat (Some t) refl
          (λ k w apart at o. seat_drawn n.begun n.begun n.settings n.state n.drawn (max n.drawn number) w (le_refl _) (drawn_more n.drawn number) o) (
            record { some = mine.some; begins = mine.begins; claim = mine.claim; hold = held_new n seat s key number taking ok part f.store },
            λ k w apart at. let p = f.seats.pairs seat k s w (λ same. apart (sym same)) has at in record { numbers = p.numbers; claims = p.claims; holds = holds_beside hold w.hold (beside_part n seat s.first key number part ok.free k w apart at) },
          )
          f.seats;
      all = omega (arith, sum, all, none);
      room = omega (arith, room);
    }

-- A file that is whole already.

whole_fits : (n new : Node) (seat : ℕ) (s : Session) (key : Key) → session_at n seat ≡ Some s → s.hold ≡ None → Acceptable seat s key n → mark_length s key n ≡ key.size → HasRoom n 1 → FileMade seat s key Whole n new → NodeFits n → NodeFits new
whole_fits n new seat s key has none ok whole room (number, part, made) f =
    subst NodeFits (sym made)
    (record {
      store = store_receipt r n.state n.staged drawn (part_numbered n s.first key number ok.unknown part f.store) whole (store_drawn n.state n.staged n.staged n.drawn drawn (le_refl _) (drawn_more n.drawn number) (part_few n s.first key number part f.store.drawn_few) f.store);
      seats = seats_same n _ (λ k. refl) (λ k w at o. seat_received r n.begun n.settings n.state n.drawn drawn w (nothing_there k w at) (drawn_more n.drawn number) o) f.seats;
      all = f.all;
      room = omega (arith, room);
    })
  where
    r : Receipt
    r = receipt_of number s key (marked s.first key n.state)

    drawn : ℕ
    drawn = max n.drawn number

    nothing_there : (k : ℕ) (w : Session) → session_at n k ≡ Some w → Beside s.first key number w.hold
    nothing_there k w at =
        ⊎_elim
        (λ (same : k ≡ seat).
        let it : s ≡ w = some_inj (sym has ∙ (ap (session_at n) (sym same) ∙ at)) in
        subst (Beside s.first key number) (sym none ∙ ap (λ (x : Session). x.hold) it) tt)
        (λ (apart : k ≢ seat). beside_part n seat s.first key number part ok.free k w apart at)
        (decide_line k seat)

-- The row.

made_fits : (seat : ℕ) (s : Session) (key : Key) (offset : ℕ) (answer : FileAnswer) (n new : Node) → session_at n seat ≡ Some s → s.hold ≡ None → s.hold_places ≡ 0 → Applies seat s key offset answer n → HasRoom n (wanted_places answer (mark_length s key n) key.size) → FileMade seat s key answer n new → NodeFits n → NodeFits new
made_fits seat s key offset Have n new has none left a room m f = subst NodeFits (sym m) f
made_fits seat s key offset Refuse n new has none left a room m f = refuse_fits seat s key n new a.0 a.1 room m f
made_fits seat s key offset Elsewhere n new has none left a room m f = subst NodeFits (sym m) f
made_fits seat s key offset Go n new has none left a room m f =
    subst NodeFits (sym m.2) (holding_fits n seat s key m.0 true s.missed has left a.0 m.1 room f)
made_fits seat s key offset Whole n new has none left a room m f = whole_fits n new seat s key has none a.0 (sym a.1 ∙ a.2) room m f
made_fits seat s key offset (From place) n new has none left a room m f =
    subst NodeFits (sym m.2)
    (subst (λ p. NodeFits (holding seat (hold_from m.0 s.first key false n.state) (places_for p key.size) (record s { missed = key ∷ s.missed }) n)) (sym a.1)
    (holding_fits n seat s key m.0 false (key ∷ s.missed) has left a.0 m.1 room f))
made_fits seat s key offset Late n new has none left a room m f = subst NodeFits (sym m) f

pub file-fits : (n m : Node) (seat : ℕ) (key : Key) (offset : ℕ) (answer : FileAnswer) → FileRow seat key offset answer n m → NodeFits n → NodeFits m
file-fits n m seat key offset answer row f =
    made_fits seat (unheld row.session) key offset answer (released seat row.session n) m (released-moved n seat row.session).here refl refl row.applies row.room row.made (released_fits n seat row.session row.has f)
