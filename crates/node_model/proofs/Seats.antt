-- Soundness seat by seat: what a session keeps, and what two sessions keep apart.
use Rattle.std.proofs.Common.{◌≡◌, ◌≢◌, ◌⊎◌, ℕ, ◌+◌, ◌≤◌, true, false, ◌==◌, List, Option, Some, None, length, take, refl, sym, ap, ◌∙◌, subst, inl, inr, ⊎_elim}
use Rattle.ftn_addr.specs.Address.{Address}
use Rattle.ftn_addr.specs.Key.{Key}
use Rattle.ftn_addr.specs.Files.{is_same}
use Rattle.node_model.specs.declared.words.TheConstants.{MOST_RECORDS}
use Rattle.ftn_addr.specs.declared.limits.TheConstants.{MAX_NUMBER}
use Rattle.node_model.specs.Items.{Live, Entry, Receipt, Mark}
use Rattle.node_model.specs.Lists.{Member, Each}
use Rattle.node_model.specs.Durable.{Durable, is_known, marked}
use Rattle.node_model.specs.Node.{Hold, Session, Seat, Settings, Node, peers, seat_in, put_seat, session_at, hold_in, claim_in}
use Rattle.node_model.specs.Rows.{refuses, places_for}
use Rattle.node_model.specs.Sound.{Distinct, SoundQueue, SoundInbox, all_places, Sound}
use Rattle.node_model.proofs.Lists.{is_false, off, none_some, decide_line, is_same_flip}
use Rattle.node_model.proofs.Moves.{put_at, put_apart}

pub record ClaimSound (queue : List Entry) (others : List Address) (places number : ℕ) : Type 0 where
  pub entry : Entry
  pub there : Member entry queue
  pub numbered : entry.number ≡ number
  pub bytes : List ℕ
  pub live : entry.body ≡ Live bytes
  pub for_peer : Member entry.dest others
  pub place : 1 ≤ places

abbrev pub ClaimFits : List Entry → List Address → ℕ → Option ℕ → Type 0
ClaimFits queue others places None = Unit {0}
ClaimFits queue others places (Some number) = ClaimSound queue others places number

-- a mark has a hold's number exactly where it is of the same sender and key
abbrev pub NumbersAgree : Address → Key → ℕ → Mark → Type 0
NumbersAgree from key number m =
    (m.number ≡ number → is_same from key m.from m.key ≡ true) × (is_same from key m.from m.key ≡ true → m.number ≡ number)

pub record HoldSound (settings : Settings) (d : Durable) (drawn : ℕ) (first : Address) (places : ℕ) (h : Hold) : Type 0 where
  pub from_first : h.from ≡ first
  pub new : is_known h.from h.key d ≡ false
  pub wanted : refuses settings h.key ≡ false
  pub stored : h.stored ≡ true
  pub begins : take (length (marked h.from h.key d)) h.bytes ≡ marked h.from h.key d
  pub fits : length h.bytes ≤ h.key.size
  pub marks : Each (NumbersAgree h.from h.key h.number) d.marks
  pub receipts : Each (λ (r : Receipt). r.number ≢ h.number) d.inbox
  pub some : 1 ≤ h.number
  pub was_drawn : h.number ≤ drawn
  pub places_left : places_for (length (marked h.from h.key d)) h.key.size ≤ places

abbrev pub HoldFits : Settings → Durable → ℕ → Address → ℕ → Option Hold → Type 0
HoldFits settings d drawn first places None = Unit {0}
HoldFits settings d drawn first places (Some h) = HoldSound settings d drawn first places h

-- what one session keeps
pub record SeatFits (begun : ℕ) (settings : Settings) (d : Durable) (drawn : ℕ) (s : Session) : Type 0 where
  pub some : 1 ≤ s.number
  pub begins : s.number ≤ begun
  pub claim : ClaimFits d.queue (peers s) s.claim_places s.claim
  pub hold : HoldFits settings d drawn s.first s.hold_places s.hold

abbrev pub SeatOk : Node → Session → Type 0
SeatOk n s = SeatFits n.begun n.settings n.state n.drawn s

abbrev pub ClaimsApart : Option ℕ → Option ℕ → Type 0
ClaimsApart None b = Unit {0}
ClaimsApart (Some a) None = Unit {0}
ClaimsApart (Some a) (Some b) = a ≢ b

pub record HoldsDiffer (g h : Hold) : Type 0 where
  pub files : is_same g.from g.key h.from h.key ≡ false
  pub numbers : g.number ≢ h.number

abbrev pub HoldsApart : Option Hold → Option Hold → Type 0
HoldsApart None b = Unit {0}
HoldsApart (Some g) None = Unit {0}
HoldsApart (Some g) (Some h) = HoldsDiffer g h

-- what two sessions keep apart
pub record PairFits (s t : Session) : Type 0 where
  pub numbers : s.number ≢ t.number
  pub claims : ClaimsApart s.claim t.claim
  pub holds : HoldsApart s.hold t.hold

-- what the store keeps
pub record StoreFits (d : Durable) (staged drawn : ℕ) : Type 0 where
  pub queue : SoundQueue d.queue
  pub inbox : SoundInbox d
  pub marks : Distinct (λ (m q : Mark). m.number == q.number) d.marks
  pub receipts : Distinct (λ (r q : Receipt). r.number == q.number) d.inbox
  pub apart : Each (λ (m : Mark). Each (λ (r : Receipt). m.number ≢ r.number) d.inbox) d.marks
  pub marks_drawn : Each (λ (m : Mark). (1 ≤ m.number) × (m.number ≤ drawn)) d.marks
  pub receipts_drawn : Each (λ (r : Receipt). (1 ≤ r.number) × (r.number ≤ drawn)) d.inbox
  pub queue_staged : Each (λ (e : Entry). e.number ≤ staged) d.queue
  pub drawn_few : drawn ≤ MAX_NUMBER

pub record SeatsFit (n : Node) : Type 0 where
  pub each : (k : ℕ) (s : Session) → session_at n k ≡ Some s → SeatOk n s
  pub pairs : (j k : ℕ) (s t : Session) → j ≢ k → session_at n j ≡ Some s → session_at n k ≡ Some t → PairFits s t

-- a node is sound, seat by seat
pub record NodeFits (n : Node) : Type 0 where
  pub store : StoreFits n.state n.staged n.drawn
  pub seats : SeatsFit n
  pub all : all_places n.seats ≤ n.reserved
  pub room : n.records + n.reserved ≤ MOST_RECORDS

-- Sound, and the same seat by seat.

pub fits : (n : Node) → Sound n → NodeFits n
fits n sound =
    record {
      store = record { queue = sound.queue; inbox = sound.inbox; marks = sound.parts.marks; receipts = sound.parts.receipts; apart = sound.parts.apart; marks_drawn = sound.parts.marks_drawn; receipts_drawn = sound.parts.receipts_drawn; queue_staged = sound.parts.queue_staged; drawn_few = sound.parts.drawn_few };
      seats = record {
        each = λ k s at. record { some = (sound.sessions.numbers k s at).0; begins = (sound.sessions.numbers k s at).1; claim = claim k s at s.claim refl; hold = hold k s at s.hold refl };
        pairs = λ j k s t apart a b. record { numbers = λ same. apart (sound.sessions.apart j k s t a b same); claims = claims j k s t apart a b s.claim t.claim refl refl; holds = holds j k s t apart a b s.hold t.hold refl refl };
      };
      all = sound.places.all;
      room = sound.places.room;
    }
  where
    claim : (k : ℕ) (s : Session) → session_at n k ≡ Some s → (o : Option ℕ) → s.claim ≡ o → ClaimFits n.state.queue (peers s) s.claim_places o
    claim k s at None is = tt
    claim k s at (Some number) is =
        let c = sound.claims.each k number s at is in
        record { entry = c.entry; there = c.there; numbered = c.numbered; bytes = c.bytes; live = c.live; for_peer = c.for_peer; place = sound.places.claims k number s at is }

    hold : (k : ℕ) (s : Session) → session_at n k ≡ Some s → (o : Option Hold) → s.hold ≡ o → HoldFits n.settings n.state n.drawn s.first s.hold_places o
    hold k s at None is = tt
    hold k s at (Some h) is =
        let o = sound.holds.each k s h at is in
        let held : hold_in (session_at n k) ≡ Some h = ap hold_in at ∙ is in
        let drawn = sound.parts.holds_drawn k h held in
        record { from_first = o.from_first; new = o.new; wanted = o.wanted; stored = o.stored; begins = o.begins; fits = o.fits; marks = sound.parts.held_mark k h held; receipts = sound.parts.held_receipt k h held; some = drawn.0; was_drawn = drawn.1; places_left = sound.places.holds k s h at is }

    claims : (j k : ℕ) (s t : Session) → j ≢ k → session_at n j ≡ Some s → session_at n k ≡ Some t → (o p : Option ℕ) → s.claim ≡ o → t.claim ≡ p → ClaimsApart o p
    claims j k s t apart a b None p c d = tt
    claims j k s t apart a b (Some x) None c d = tt
    claims j k s t apart a b (Some x) (Some y) c d =
        λ same. apart (sound.claims.apart j k x (ap claim_in a ∙ c) (ap claim_in b ∙ (d ∙ ap Some (sym same))))

    holds : (j k : ℕ) (s t : Session) → j ≢ k → session_at n j ≡ Some s → session_at n k ≡ Some t → (o p : Option Hold) → s.hold ≡ o → t.hold ≡ p → HoldsApart o p
    holds j k s t apart a b None p c d = tt
    holds j k s t apart a b (Some g) None c d = tt
    holds j k s t apart a b (Some g) (Some h) c d =
        record {
          files = is_false (is_same g.from g.key h.from h.key) (λ same. apart (sound.holds.apart j k g h (ap hold_in a ∙ c) (ap hold_in b ∙ d) same));
          numbers = λ same. apart (sound.parts.held_apart j k g h (ap hold_in a ∙ c) (ap hold_in b ∙ d) same);
        }

claimer : (o : Option Session) (number : ℕ) → claim_in o ≡ Some number → (s : Session) × (o ≡ Some s) × (s.claim ≡ Some number)
claimer None number e = none_some e
claimer (Some s) number e = (s, refl, e)

holder : (o : Option Session) (h : Hold) → hold_in o ≡ Some h → (s : Session) × (o ≡ Some s) × (s.hold ≡ Some h)
holder None h e = none_some e
holder (Some s) h e = (s, refl, e)

pub sound : (n : Node) → NodeFits n → Sound n
sound n f =
    record {
      queue = f.store.queue;
      inbox = f.store.inbox;
      sessions = record { numbers = λ k s at. let o = f.seats.each k s at in (o.some, o.begins); apart = λ j k s t a b same. together j k (λ apart. (f.seats.pairs j k s t apart a b).numbers same) };
      claims = record { each = λ k number s at is. let c = claim k number s at is in record { entry = c.entry; there = c.there; numbered = c.numbered; bytes = c.bytes; live = c.live; for_peer = c.for_peer }; apart = claims };
      holds = record {
        each = λ k s h at is. let o = hold k s h at is in record { from_first = o.from_first; new = o.new; wanted = o.wanted; stored = o.stored; begins = o.begins; fits = o.fits };
        apart = λ j k g h a b same. together j k (λ apart. off (sym same ∙ (holds j k g h a b apart).files));
      };
      parts = record {
        marks = f.store.marks;
        receipts = f.store.receipts;
        apart = f.store.apart;
        held_mark = λ k h e. (held k h e).marks;
        held_receipt = λ k h e. (held k h e).receipts;
        held_apart = λ j k g h a b same. together j k (λ apart. (holds j k g h a b apart).numbers same);
        marks_drawn = f.store.marks_drawn;
        receipts_drawn = f.store.receipts_drawn;
        holds_drawn = λ k h e. let o = held k h e in (o.some, o.was_drawn);
        queue_staged = f.store.queue_staged;
        drawn_few = f.store.drawn_few;
      };
      places = record { claims = λ k number s at is. (claim k number s at is).place; holds = λ k s h at is. (hold k s h at is).places_left; all = f.all; room = f.room };
    }
  where
    together : (j k : ℕ) → (j ≢ k → ⊥) → j ≡ k
    together j k not_apart = ⊎_elim (λ (same : j ≡ k). same) (λ (apart : j ≢ k). absurd (not_apart apart)) (decide_line j k)

    claim : (k number : ℕ) (s : Session) → session_at n k ≡ Some s → s.claim ≡ Some number → ClaimSound n.state.queue (peers s) s.claim_places number
    claim k number s at is = subst (λ o. ClaimFits n.state.queue (peers s) s.claim_places o) is (f.seats.each k s at).claim

    hold : (k : ℕ) (s : Session) (h : Hold) → session_at n k ≡ Some s → s.hold ≡ Some h → HoldSound n.settings n.state n.drawn s.first s.hold_places h
    hold k s h at is = subst (λ o. HoldFits n.settings n.state n.drawn s.first s.hold_places o) is (f.seats.each k s at).hold

    held : (k : ℕ) (h : Hold) (e : hold_in (session_at n k) ≡ Some h) → let w = holder (session_at n k) h e in HoldSound n.settings n.state n.drawn w.0.first w.0.hold_places h
    held k h e = let w = holder (session_at n k) h e in hold k w.0 h w.1 w.2

    claims : (j k number : ℕ) → claim_in (session_at n j) ≡ Some number → claim_in (session_at n k) ≡ Some number → j ≡ k
    claims j k number a b =
        let v = claimer (session_at n j) number a in
        let w = claimer (session_at n k) number b in
        together j k (λ apart. subst (λ (q : Option ℕ × Option ℕ). ClaimsApart q.0 q.1) (λ i. (v.2 i, w.2 i)) (f.seats.pairs j k v.0 w.0 apart v.1 w.1).claims refl)

    holds : (j k : ℕ) (g h : Hold) → hold_in (session_at n j) ≡ Some g → hold_in (session_at n k) ≡ Some h → j ≢ k → HoldsDiffer g h
    holds j k g h a b apart =
        let v = holder (session_at n j) g a in
        let w = holder (session_at n k) h b in
        subst (λ (q : Option Hold × Option Hold). HoldsApart q.0 q.1) (λ i. (v.2 i, w.2 i)) (f.seats.pairs j k v.0 w.0 apart v.1 w.1).holds

-- Another session at one seat.

claims_flip : (o p : Option ℕ) → ClaimsApart o p → ClaimsApart p o
claims_flip None None a = tt
claims_flip None (Some y) a = tt
claims_flip (Some x) None a = tt
claims_flip (Some x) (Some y) a = λ same. a (sym same)

holds_flip : (o p : Option Hold) → HoldsApart o p → HoldsApart p o
holds_flip None None a = tt
holds_flip None (Some h) a = tt
holds_flip (Some g) None a = tt
holds_flip (Some g) (Some h) a = record { files = is_same_flip g.from g.key h.from h.key a.files; numbers = λ same. a.numbers (sym same) }

pub pair_flip : (s t : Session) → PairFits s t → PairFits t s
pair_flip s t p = record { numbers = λ same. p.numbers (sym same); claims = claims_flip s.claim t.claim p.claims; holds = holds_flip s.hold t.hold p.holds }

-- what is asked of the session that is put at a seat
abbrev pub OwnSeat : Node → Node → ℕ → Option Session → Type 0
OwnSeat n m seat None = Unit {0}
OwnSeat n m seat (Some t) = SeatOk m t × ((k : ℕ) (s : Session) → k ≢ seat → session_at n k ≡ Some s → PairFits t s)

-- what is asked of the sessions at other seats
abbrev pub OtherSeats : Node → Node → ℕ → Type 0
OtherSeats n m seat = (k : ℕ) (s : Session) → k ≢ seat → session_at n k ≡ Some s → SeatOk n s → SeatOk m s

pub seats_put : (n m : Node) (seat : ℕ) (t : Option Session) → m.seats ≡ put_seat seat (record (seat_in n.seats seat) { session = t }) n.seats → OtherSeats n m seat → OwnSeat n m seat t → SeatsFit n → SeatsFit m
seats_put n m seat t put others own f =
    record {
      each = λ k s at. ⊎_elim (λ (same : k ≡ seat). (mine s t (here k s same at) own).0) (λ (apart : k ≢ seat). let e = there k apart at in others k s apart e (f.each k s e)) (decide_line k seat);
      pairs = λ j k v w apart a b. two j k v w apart a b (decide_line j seat) (decide_line k seat);
    }
  where
    here : (k : ℕ) (s : Session) → k ≡ seat → session_at m k ≡ Some s → t ≡ Some s
    here k s same at =
        sym (ap (λ (f : List Seat). (seat_in f seat).session) put ∙ ap (λ (x : Seat). x.session) (put_at seat (record (seat_in n.seats seat) { session = t }) n.seats)) ∙ (ap (session_at m) (sym same) ∙ at)

    there : {s : Session} (k : ℕ) → k ≢ seat → session_at m k ≡ Some s → session_at n k ≡ Some s
    there k apart at =
        sym (ap (λ (f : List Seat). (seat_in f k).session) put ∙ ap (λ (x : Seat). x.session) (put_apart seat (record (seat_in n.seats seat) { session = t }) n.seats k apart)) ∙ at

    mine : (s : Session) (o : Option Session) → o ≡ Some s → OwnSeat n m seat o → SeatOk m s × ((k : ℕ) (w : Session) → k ≢ seat → session_at n k ≡ Some w → PairFits s w)
    mine s o is x = subst (OwnSeat n m seat) is x

    two : (j k : ℕ) (v w : Session) → j ≢ k → session_at m j ≡ Some v → session_at m k ≡ Some w → (j ≡ seat) ⊎ (j ≢ seat) → (k ≡ seat) ⊎ (k ≢ seat) → PairFits v w
    two j k v w apart a b (inl x) (inl y) = absurd (apart (x ∙ sym y))
    two j k v w apart a b (inl x) (inr y) = (mine v t (here j v x a) own).1 k w y (there k y b)
    two j k v w apart a b (inr x) (inl y) = pair_flip w v ((mine w t (here k w y b) own).1 j v x (there j x a))
    two j k v w apart a b (inr x) (inr y) = f.pairs j k v w apart (there j x a) (there k y b)

-- the seats have the sessions of before
pub seats_same : (n m : Node) → ((k : ℕ) → session_at m k ≡ session_at n k) → ((k : ℕ) (s : Session) → session_at n k ≡ Some s → SeatOk n s → SeatOk m s) → SeatsFit n → SeatsFit m
seats_same n m same on f =
    record { each = λ k s at. let e = sym (same k) ∙ at in on k s e (f.each k s e); pairs = λ j k s t apart a b. f.pairs j k s t apart (sym (same j) ∙ a) (sym (same k) ∙ b) }
