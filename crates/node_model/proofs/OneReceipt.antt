-- No sender and key ever has two receipts, along the calls of a seat that is alone.
use Rattle.std.proofs.Common.{◌≡◌, ◌∙◌, ℕ, Bool, true, false, ◌||◌, List, [], ◌∷◌, ◌++◌, Option, Some, None, map, refl, sym, ap, subst, inl, inr}
use Rattle.std.proofs.lemmas.Bool.{both_ways, or_parts}
use Rattle.ftn_addr.specs.Address.{Address}
use Rattle.ftn_addr.specs.Files.{is_same}
use Rattle.ftn_addr.specs.Key.{Key}
use Rattle.node_model.specs.Items.{Receipt}
use Rattle.node_model.specs.Lists.{Each, some_passes}
use Rattle.node_model.specs.Durable.{Durable, is_received, is_refused, is_known, given_receipt, answered_receipt, all_answered}
use Rattle.node_model.specs.Node.{Hold, Session, Seat, Node, session_at, hold_in, with_session}
use Rattle.node_model.specs.Rows.{FileAnswer, Have, Refuse, Elsewhere, Go, Whole, From, Late, Applies, FileMade, unheld, released, grown, one_busy_more, LeaveRow}
use Rattle.node_model.specs.Calls.{Call, Answer, Fault, Event, Queue_call, Knock_call, Open_call, Offer_call, Read_call, Got_call, Skip_call, File_call, Data_call, Leave_call, Act_call, Give_call, Queued, Let_in, Busy, Begun, Offered, Nothing, Came, Acted, Given, Held, Settled, Filed, More, Whole_now, Refused, Disk, Read, Full, No_memory, IsSkip, Works, Made, Passes, Before_it, Marked, After_it, one_read_more, Unmade, NotMade, NodeStep, KnownStep, Knows, Tells, Counts_alone, DeskState, Turned, Beside, OwnRow, Made_row, Missing, CallsBeside, Turns}
use Rattle.node_model.specs.Receipts.{SameReceipt, OnceEach, HasOnce, TellsOnce}
use Rattle.node_model.proofs.SameFiles.{is_same-refl, is_same_from, is_same_key}
use Rattle.node_model.proofs.Moves.{put_at, inbox_of_mark_any, inbox_at_stride}
use Rattle.node_model.proofs.Changes.{Change, Still, Flags, Receives, Refuses, given_flags, answered_flags, made_change, file_change, leave_change, unmade_unchanged}
use Rattle.node_model.proofs.SeatSessions.{session_at-with_session}

-- what differs one way differs the other way
apart_back : (from : Address) (key : Key) (a : Address) (k : Key) → is_same from key a k ≡ false → is_same a k from key ≡ false
apart_back from key a k apart = go (is_same a k from key) refl
  where
    go : (b : Bool) → is_same a k from key ≡ b → b ≡ false
    go false e = refl
    go true e =
        let from_is = is_same_from a k from key e in
        let key_is = is_same_key a k from key e in
        let same : is_same from key a k ≡ true = rw (from_is, key_is) (is_same-refl from key) in
        absurd (both_ways (is_same from key a k) apart same)

each_push : (P : Receipt → Type 0) (rs : List Receipt) (r : Receipt) → Each P rs → P r → Each P (rs ++ r ∷ [])
each_push P [] r all last = (last, tt)
each_push P (x ∷ rs) r all last = (all.0, each_push P rs r all.1 last)

-- a receipt whose sender and key had none
once_push : (rs : List Receipt) (r : Receipt) (d : Durable) → d.inbox ≡ rs → OnceEach rs → is_received r.from r.key d ≡ false → OnceEach (rs ++ r ∷ [])
once_push rs r d is once new = push rs once (subst (λ (xs : List Receipt). is_received r.from r.key (record d { inbox = xs }) ≡ false) is new)
  where
    push : (xs : List Receipt) → OnceEach xs → is_received r.from r.key (record d { inbox = xs }) ≡ false → OnceEach (xs ++ r ∷ [])
    push [] o none = (tt, tt)
    push (x ∷ xs) o none =
        let parts = or_parts (is_same r.from r.key x.from x.key) _ none in
        (each_push (λ (later : Receipt). is_same x.from x.key later.from later.key ≡ false) xs r o.0 (apart_back r.from r.key x.from x.key parts.0), push xs o.1 parts.1)

-- of an unknown sender and key
not_received : (from : Address) (key : Key) (d : Durable) → is_known from key d ≡ false → is_received from key d ≡ false
not_received from key d unknown = (or_parts (is_received from key d) (is_refused from key d) unknown).0

-- what the seat holds isn't received yet
abbrev pub HoldsNew : ℕ → Node → Type 0
HoldsNew seat n = (s : Session) (h : Hold) → session_at n seat ≡ Some s → s.hold ≡ Some h → is_received s.first h.key n.state ≡ false

-- what a session holds isn't received in that state
abbrev pub IsNew : Option Session → Durable → Type 0
IsNew None d = Unit {0}
IsNew (Some s) d = (h : Hold) → s.hold ≡ Some h → is_received s.first h.key d ≡ false

new_at : (o : Option Session) (d : Durable) → IsNew o d → (s : Session) (h : Hold) → o ≡ Some s → s.hold ≡ Some h → is_received s.first h.key d ≡ false
new_at None d new s h is holds = absurd (cc)
new_at (Some x) d new s h is holds =
    let same : x ≡ s = cc in
    subst (λ (y : Session). (k : Hold) → y.hold ≡ Some k → is_received y.first k.key d ≡ false) same new h holds

-- a session is put at the seat
put_new : (seat : ℕ) (s : Option Session) (n new : Node) → new.seats ≡ (with_session seat s n).seats → IsNew s new.state → HoldsNew seat new
put_new seat s n new is fresh x h has holds =
    let there : session_at new seat ≡ s = ap (λ seats. session_at (record n { seats = seats }) seat) is ∙ session_at-with_session seat s n in
    new_at s new.state fresh x h (sym there ∙ has) holds

none_new : (s : Session) (d : Durable) → s.hold ≡ None → IsNew (Some s) d
none_new s d none h holds = absurd (cc)

-- nothing is held
pub unheld_new : (seat : ℕ) (s : Session) (n new : Node) → new.seats ≡ (released seat s n).seats → HoldsNew seat new
unheld_new seat s n new is = put_new seat (Some (unheld s)) n new is (none_new (unheld s) new.state refl)

-- A file.

held_key : (x h : Hold) → Some x ≡ Some h → x.key ≡ h.key
held_key x h is = let same : x ≡ h = cc in ap (λ (y : Hold). y.key) same

-- a session holds that key now
holding_new : (seat : ℕ) (s : Session) (hold : Hold) (n new : Node) → new.seats ≡ (with_session seat (Some s) n).seats → s.hold ≡ Some hold → is_received s.first hold.key new.state ≡ false → HoldsNew seat new
holding_new seat s hold n new is holds fresh =
    put_new seat (Some s) n new is (λ h also. subst (λ (k : Key). is_received s.first k new.state ≡ false) (held_key hold h (sym holds ∙ also)) fresh)

-- what is held now was unknown
file_new : (seat : ℕ) (s : Session) (key : Key) (offset : ℕ) (answer : FileAnswer) (old new : Node) → Applies seat (unheld s) key offset answer (released seat s old) → FileMade seat (unheld s) key answer (released seat s old) new → HoldsNew seat new
file_new seat s key offset Have old new a m = unheld_new seat s old new (ap (λ (n : Node). n.seats) m)
file_new seat s key offset Refuse old new a m = unheld_new seat s old new (ap (λ (n : Node). n.seats) m)
file_new seat s key offset Elsewhere old new a m = unheld_new seat s old new (ap (λ (n : Node). n.seats) m)
file_new seat s key offset Late old new a m = unheld_new seat s old new (ap (λ (n : Node). n.seats) m)
file_new seat s key offset Whole old new a m = unheld_new seat s old new (ap (λ (n : Node). n.seats) m.2)
file_new seat s key offset Go old new a m =
    let fresh = not_received s.first key (released seat s old).state a.0.unknown in
    holding_new seat _ _ (released seat s old) new (ap (λ (n : Node). n.seats) m.2) refl (subst (λ (d : Durable). is_received s.first key d ≡ false) (sym (ap (λ (n : Node). n.state) m.2)) fresh)
file_new seat s key offset (From place) old new a m =
    let fresh = not_received s.first key (released seat s old).state a.0.unknown in
    holding_new seat _ _ (released seat s old) new (ap (λ (n : Node). n.seats) m.2) refl (subst (λ (d : Durable). is_received s.first key d ≡ false) (sym (ap (λ (n : Node). n.state) m.2)) fresh)

-- the seat's hold and its sender stay, and so does what is received
holds_on : (seat : ℕ) (old new : Node) → ((s : Session) (h : Hold) → session_at new seat ≡ Some s → s.hold ≡ Some h → (t : Session) × (session_at old seat ≡ Some t) × (t.hold ≡ Some h) × (s.first ≡ t.first)) → ((from : Address) (key : Key) → is_received from key new.state ≡ is_received from key old.state) → HoldsNew seat old → HoldsNew seat new
holds_on seat old new was same fresh s h has holds =
    let w = was s h has holds in
    ap (λ a. is_received a h.key new.state) w.3 ∙ (same w.0.first h.key ∙ fresh w.0 h w.1 w.2)

passes_flags : (f : Receipt → Receipt) → ((r : Receipt) → SameReceipt r (f r)) → (from : Address) (key : Key) (rs : List Receipt) → some_passes (λ (r : Receipt). is_same from key r.from r.key) (map f rs) ≡ some_passes (λ (r : Receipt). is_same from key r.from r.key) rs
passes_flags f flags from key [] = refl
passes_flags f flags from key (r ∷ rs) = let a = flags r in let h = passes_flags f flags from key rs in λ i. is_same from key (a.from_is i) (a.key_is i) || h i

answered_passes : (o : Option ℕ) (from : Address) (key : Key) (rs : List Receipt) → some_passes (λ (r : Receipt). is_same from key r.from r.key) (all_answered o rs) ≡ some_passes (λ (r : Receipt). is_same from key r.from r.key) rs
answered_passes None from key rs = refl
answered_passes (Some number) from key rs = passes_flags (answered_receipt number) (answered_flags number) from key rs

busy_same : (seat : ℕ) (n : Node) → session_at (one_busy_more seat n) seat ≡ session_at n seat
busy_same seat n = ap (λ (x : Seat). x.session) (put_at seat _ n.seats)

reads_same : (seat : ℕ) (n : Node) → session_at (one_read_more seat n) seat ≡ session_at n seat
reads_same seat n = ap (λ (x : Seat). x.session) (put_at seat _ n.seats)

-- A call that is made.

same_once : (d e : Durable) → e ≡ d → HasOnce d → HasOnce e
same_once d e is once = subst HasOnce (sym is) once

inbox_once : (d e : Durable) → e.inbox ≡ d.inbox → HasOnce d → HasOnce e
inbox_once d e is once = subst OnceEach (sym is) once

-- flags of receipts that change
each_flags : (f : Receipt → Receipt) → ((r : Receipt) → SameReceipt r (f r)) → (from : Address) (key : Key) (rs : List Receipt) → Each (λ (later : Receipt). is_same from key later.from later.key ≡ false) rs → Each (λ (later : Receipt). is_same from key later.from later.key ≡ false) (map f rs)
each_flags f flags from key [] all = tt
each_flags f flags from key (r ∷ rs) all = let a = flags r in (subst (λ (q : Address × Key). is_same from key q.0 q.1 ≡ false) (λ i. (sym a.from_is i, sym a.key_is i)) all.0, each_flags f flags from key rs all.1)

flags_once : (f : Receipt → Receipt) → ((r : Receipt) → SameReceipt r (f r)) → (rs : List Receipt) → OnceEach rs → OnceEach (map f rs)
flags_once f flags [] once = tt
flags_once f flags (r ∷ rs) once = let a = flags r in (subst (λ (q : Address × Key). Each (λ (later : Receipt). is_same q.0 q.1 later.from later.key ≡ false) (map f rs)) (λ i. (sym a.from_is i, sym a.key_is i)) (each_flags f flags r.from r.key rs once.0), flags_once f flags rs once.1)

answered_flags_once : (o : Option ℕ) (rs : List Receipt) → OnceEach rs → OnceEach (all_answered o rs)
answered_flags_once None rs once = once
answered_flags_once (Some number) rs once = flags_once (answered_receipt number) (answered_flags number) rs once

-- what a change receives had no receipt
abbrev NewIn : (d e : Durable) → Change d e → Type 0
NewIn d e (Receives r inbox refused) = is_received r.from r.key d ≡ false
NewIn d e _ = Unit {0}

change_once : (d e : Durable) (c : Change d e) → NewIn d e c → HasOnce d → HasOnce e
change_once d e (Still inbox refused) new once = subst OnceEach (sym inbox) once
change_once d e (Flags f flags inbox refused) new once = subst OnceEach (sym inbox) (flags_once f flags d.inbox once)
change_once d e (Receives r inbox refused) new once = subst OnceEach (sym inbox) (once_push d.inbox r d refl once new)
change_once d e (Refuses r inbox refused) new once = subst OnceEach (sym inbox) once

leave_new : (seat : ℕ) (old new : Node) → LeaveRow seat old new → HoldsNew seat old → HoldsNew seat new
leave_new seat old new (inl m) fresh = put_new seat None old new (ap (λ (n : Node). n.seats) m.after) tt
leave_new seat old new (inr m) fresh = subst (HoldsNew seat) (sym m.1) fresh

-- the receipts, where what is held is new
pub made_once : (seat : ℕ) (old new : Node) (call : Call) (answer : Answer) → Made seat old call answer new → HasOnce old.state → HoldsNew seat old → HasOnce new.state
made_once seat old new (File_call key offset) (Filed answer) m once fresh = filed answer m.applies m.made
  where
    r : Node
    r = released seat m.session old

    marked : (answer : FileAnswer) (made : FileMade seat (unheld m.session) key answer r new) → NewIn r.state new.state (file_change seat (unheld m.session) key answer r new made) → HasOnce new.state
    marked answer made fresh = change_once r.state new.state (file_change seat (unheld m.session) key answer r new made) fresh (subst OnceEach (sym (inbox_of_mark_any m.session.hold old.state)) once)

    filed : (answer : FileAnswer) → Applies seat (unheld m.session) key offset answer r → FileMade seat (unheld m.session) key answer r new → HasOnce new.state
    filed Have a made = marked Have made tt
    filed Refuse a made = marked Refuse made tt
    filed Elsewhere a made = marked Elsewhere made tt
    filed Go a made = marked Go made tt
    filed Whole a made = marked Whole made (not_received m.session.first key r.state a.0.unknown)
    filed (From place) a made = marked (From place) made tt
    filed Late a made = marked Late made tt
made_once seat old new (Data_call bytes) Whole_now m once fresh =
    change_once old.state new.state (made_change seat old new (Data_call bytes) Whole_now m) (fresh m.session m.hold m.has m.holds) once
made_once seat old new (Queue_call files taken None) (Queued slots) m once fresh = change_once old.state new.state (made_change seat old new (Queue_call files taken None) (Queued slots) m) tt once
made_once seat old new (Queue_call files taken (Some number)) (Queued slots) m once fresh = change_once old.state new.state (made_change seat old new (Queue_call files taken (Some number)) (Queued slots) m) tt once
made_once seat old new (Knock_call role) Let_in m once fresh = change_once old.state new.state (made_change seat old new (Knock_call role) Let_in m) tt once
made_once seat old new (Knock_call role) Busy m once fresh = change_once old.state new.state (made_change seat old new (Knock_call role) Busy m) tt once
made_once seat old new Offer_call (Offered number key) m once fresh = change_once old.state new.state (made_change seat old new Offer_call (Offered number key) m) tt once
made_once seat old new Offer_call Nothing m once fresh = change_once old.state new.state (made_change seat old new Offer_call Nothing m) tt once
made_once seat old new (Read_call place room) (Came bytes) m once fresh = change_once old.state new.state (made_change seat old new (Read_call place room) (Came bytes) m) tt once
made_once seat old new (Got_call number) Settled m once fresh = change_once old.state new.state (made_change seat old new (Got_call number) Settled m) tt once
made_once seat old new (Skip_call number) Settled m once fresh = change_once old.state new.state (made_change seat old new (Skip_call number) Settled m) tt once
made_once seat old new (Act_call dest) (Acted number) m once fresh = change_once old.state new.state (made_change seat old new (Act_call dest) (Acted number) m) tt once
made_once seat old new (Act_call dest) Nothing m once fresh = change_once old.state new.state (made_change seat old new (Act_call dest) Nothing m) tt once
made_once seat old new Give_call (Given number) m once fresh = change_once old.state new.state (made_change seat old new Give_call (Given number) m) tt once
made_once seat old new Give_call (Held number) m once fresh = change_once old.state new.state (made_change seat old new Give_call (Held number) m) tt once
made_once seat old new Give_call Nothing m once fresh = change_once old.state new.state (made_change seat old new Give_call Nothing m) tt once
made_once seat old new (Open_call role peers secure moment) (Begun number) m once fresh = change_once old.state new.state (made_change seat old new (Open_call role peers secure moment) (Begun number) m) tt once
made_once seat old new (Data_call bytes) More m once fresh = change_once old.state new.state (made_change seat old new (Data_call bytes) More m) tt once
made_once seat old new Leave_call Settled (inl m) once fresh = change_once old.state new.state (leave_change seat old new (inl m)) tt once
made_once seat old new Leave_call Settled (inr m) once fresh = change_once old.state new.state (leave_change seat old new (inr m)) tt once
made_once seat old new call answer m once fresh = absurd m

-- what is held stays new
pub made_new : (seat : ℕ) (old new : Node) (call : Call) (answer : Answer) → Made seat old call answer new → HoldsNew seat old → HoldsNew seat new
made_new seat old new (Queue_call files taken answered) (Queued slots) m fresh = holds_on seat old new (λ s h a b. (s, ap (λ (n : Node). session_at n seat) (sym m.after) ∙ a, b, refl)) (λ from key. ap (λ (n : Node). is_received from key n.state) m.after ∙ answered_passes answered from key old.state.inbox) fresh
made_new seat old new (Knock_call role) Let_in m fresh = subst (HoldsNew seat) (sym m.after) fresh
made_new seat old new (Knock_call role) Busy m fresh = holds_on seat old new (λ s h a b. (s, sym (ap (λ (n : Node). session_at n seat) m.after ∙ busy_same seat old) ∙ a, b, refl)) (λ from key. ap (λ (n : Node). is_received from key n.state) m.after) fresh
made_new seat old new Offer_call (Offered number key) m fresh = put_new seat _ old new (ap (λ (n : Node). n.seats) m.3.after) (λ h holds. subst (λ (d : Durable). is_received m.3.session.first h.key d ≡ false) (sym (ap (λ (n : Node). n.state) m.3.after)) (fresh m.3.session h m.3.has holds))
made_new seat old new Offer_call Nothing m fresh = subst (HoldsNew seat) (sym m.after) fresh
made_new seat old new (Read_call place room) (Came bytes) m fresh = subst (HoldsNew seat) (sym m.after) fresh
made_new seat old new (Got_call number) Settled m fresh = put_new seat _ old new (ap (λ (n : Node). n.seats) m.after) (λ h holds. subst (λ (d : Durable). is_received m.session.first h.key d ≡ false) (sym (ap (λ (n : Node). n.state) m.after)) (fresh m.session h m.has holds))
made_new seat old new (Skip_call number) Settled m fresh = put_new seat _ old new (ap (λ (n : Node). n.seats) m.after) (λ h holds. subst (λ (d : Durable). is_received m.session.first h.key d ≡ false) (sym (ap (λ (n : Node). n.state) m.after)) (fresh m.session h m.has holds))
made_new seat old new (Act_call dest) (Acted number) m fresh = holds_on seat old new (λ s h a b. (s, ap (λ (n : Node). session_at n seat) (sym m.after) ∙ a, b, refl)) (λ from key. ap (λ (n : Node). is_received from key n.state) m.after) fresh
made_new seat old new (Act_call dest) Nothing m fresh = subst (HoldsNew seat) (sym m.after) fresh
made_new seat old new Give_call (Given number) m fresh = holds_on seat old new (λ s h a b. (s, ap (λ (n : Node). session_at n seat) (sym m.after) ∙ a, b, refl)) (λ from key. ap (λ (n : Node). is_received from key n.state) m.after ∙ passes_flags (given_receipt number) (given_flags number) from key old.state.inbox) fresh
made_new seat old new Give_call (Held number) m fresh = holds_on seat old new (λ s h a b. (s, ap (λ (n : Node). session_at n seat) (sym m.after) ∙ a, b, refl)) (λ from key. ap (λ (n : Node). is_received from key n.state) m.after) fresh
made_new seat old new Give_call Nothing m fresh = subst (HoldsNew seat) (sym m.after) fresh
made_new seat old new (Open_call role peers secure moment) (Begun number) m fresh =
    put_new seat _ old new (ap (λ (n : Node). n.seats) m.1.after) (λ h holds. absurd (cc))
made_new seat old new (File_call key offset) (Filed answer) m fresh =
    file_new seat m.session key offset answer old new m.applies m.made
made_new seat old new (Data_call bytes) More m fresh =
    holding_new seat _ _ old new (ap (λ (n : Node). n.seats) m.after) refl (subst (λ (l : List Receipt). some_passes (λ (r : Receipt). is_same m.session.first m.hold.key r.from r.key) l ≡ false) (sym (ap (λ (n : Node). n.state.inbox) m.after ∙ inbox_at_stride (grown m.hold bytes) old.state)) (fresh m.session m.hold m.has m.holds))
made_new seat old new (Data_call bytes) Whole_now m fresh =
    unheld_new seat m.session old new (ap (λ (n : Node). n.seats) m.after)
made_new seat old new Leave_call Settled m fresh = leave_new seat old new m fresh
made_new seat old new call answer m fresh = absurd m

-- A step of the seat.

-- no sender and key has two receipts, and while the node isn't broken, what the seat holds has none
pub record Sound (seat : ℕ) (n : Node) : Type 0 where
  pub once : HasOnce n.state
  pub fresh : n.broken ≡ None → HoldsNew seat n

-- one of the durable states that a call passes
pub passes_once : (seat : ℕ) (old : Node) (call : Call) (d : Durable) → Passes seat old call d → Sound seat old → HasOnce d
passes_once seat old call d (Before_it is) s = same_once old.state d is s.once
passes_once seat old call d (Marked unbroken first is) s = inbox_once old.state d (ap (λ (x : Durable). x.inbox) is ∙ inbox_of_mark_any (hold_in (session_at old seat)) old.state) s.once
passes_once seat old call d (After_it unbroken answer new made is) s =
    same_once new.state d is (made_once seat old new call answer made s.once (s.fresh unbroken))

never_broken : {A : Type 0} (b : Option ℕ) (count : ℕ) → b ≡ Some count → b ≡ None → A
never_broken b count some none = absurd (cc)

refused_once : (seat : ℕ) (old : Node) (call : Call) (fault : Fault) (new : Node) → NotMade seat old call fault new → Sound seat old → HasOnce new.state
refused_once seat old call (Disk count) new (may, inl same) s = subst (λ (n : Node). HasOnce n.state) (sym same.1) s.once
refused_once seat old call (Disk count) new (may, inr b) s = passes_once seat old call new.state b.passes s
refused_once seat old call (Read count) new r s = same_once old.state new.state (ap (λ (n : Node). n.state) r.3) s.once
refused_once seat old call Full new r s = inbox_once old.state new.state (unmade_unchanged seat _ old call new r.2).inbox s.once
refused_once seat old call No_memory new r s = inbox_once old.state new.state (unmade_unchanged seat _ old call new r.2).inbox s.once

unmade_new : (seat fulls : ℕ) (old : Node) (call : Call) (new : Node) → Unmade seat fulls old call new → HoldsNew seat old → HoldsNew seat new
unmade_new seat fulls old (File_call key offset) new u fresh = unheld_new seat u.session old new (ap (λ (n : Node). n.seats) u.after)
unmade_new seat fulls old (Queue_call files taken answered) new u fresh = subst (HoldsNew seat) (sym u.after) fresh
unmade_new seat fulls old call new u fresh = subst (HoldsNew seat) (sym u) fresh

refused_sound : (seat : ℕ) (old : Node) (call : Call) (fault : Fault) (new : Node) → NotMade seat old call fault new → Sound seat old → new.broken ≡ None → HoldsNew seat new
refused_sound seat old call (Disk count) new (may, inl same) s none = never_broken new.broken count (ap (λ (n : Node). n.broken) same.1 ∙ same.0) none
refused_sound seat old call (Disk count) new (may, inr b) s none = never_broken new.broken count b.broken none
refused_sound seat old call (Read count) new r s none = holds_on seat old new (λ t h a b. (t, sym (ap (λ (n : Node). session_at n seat) r.3 ∙ reads_same seat old) ∙ a, b, refl)) (λ from key. ap (λ (n : Node). is_received from key n.state) r.3) (s.fresh r.1)
refused_sound seat old call Full new r s none = unmade_new seat _ old call new r.2 (s.fresh r.0)
refused_sound seat old call No_memory new r s none = unmade_new seat _ old call new r.2 (s.fresh r.0)

-- a skip leaves what is settled and what is held, also at a broken store
skip_sound : (seat : ℕ) (old : Node) (call : Call) (answer : Answer) (new : Node) → IsSkip call → Made seat old call answer new → Sound seat old → Sound seat new
skip_sound seat old (Skip_call number) Settled new skips m s =
    record {
      once = change_once old.state new.state (made_change seat old new (Skip_call number) Settled m) tt s.once;
      fresh = λ none. made_new seat old new (Skip_call number) Settled m (s.fresh (sym (ap (λ (n : Node). n.broken) m.after) ∙ none));
    }
skip_sound seat old (Skip_call number) answer new skips m s = absurd m
skip_sound seat old call answer new skips m s = absurd skips

made_sound : (seat : ℕ) (old : Node) (call : Call) (answer : Answer) (new : Node) → Works old call → Made seat old call answer new → Sound seat old → Sound seat new
made_sound seat old call answer new (inl unbroken) m s =
    record { once = made_once seat old new call answer m s.once (s.fresh unbroken); fresh = λ none. made_new seat old new call answer m (s.fresh unbroken) }
made_sound seat old call answer new (inr skips) m s = skip_sound seat old call answer new skips m s

pub step_sound : (seat : ℕ) (old : Node) (call : Call) (answer : Answer) (new : Node) → NodeStep seat old call answer new → Sound seat old → Sound seat new
step_sound seat old call (Refused fault) new r s = record { once = refused_once seat old call fault new r s; fresh = refused_sound seat old call fault new r s }
step_sound seat old call answer new m s = made_sound seat old call answer new m.0 m.1 s

-- What a desk tells.

-- the desk tells its node's state, and it is sound
abbrev pub KnownSound : ℕ → Knows → Type 0
KnownSound seat (Tells n) = Sound seat n
KnownSound seat (Counts_alone c) = ⊥

pub known_sound : (seat : ℕ) (old : Knows) (call : Call) (answer : Answer) (new : Knows) → KnownStep seat old call answer new → KnownSound seat old → KnownSound seat new
known_sound seat (Tells old) call answer (Tells new) step s = step_sound seat old call answer new step s
known_sound seat (Tells old) call answer (Counts_alone c) step s = absurd step
known_sound seat (Counts_alone c) call answer new step s = absurd s

-- Rows beside a call.

pub beside_sound : (seat : ℕ) (a : Knows) (es : List Event) (b : Knows) → Beside seat a es b → KnownSound seat a → KnownSound seat b
beside_sound seat a [] b same s = subst (KnownSound seat) (sym same) s
beside_sound seat a (e ∷ es) b (mid, caused, step, rest) s = beside_sound seat mid es b rest (known_sound seat a e.call e.answer mid step s)

pub own_sound : (seat : ℕ) (rows : List Event) (a : Knows) (asked : Event) (b : Knows) → OwnRow seat rows a asked b → KnownSound seat a → KnownSound seat b
own_sound seat rows a asked b (Made_row made caused step) s = known_sound seat a asked.call asked.answer b step s
own_sound seat rows a asked b (Missing fault refused is same) s = subst (KnownSound seat) (sym same) s

pub turn_sound : (a : DeskState) (e : Turned) (b : DeskState) → CallsBeside true a e b → KnownSound a.seat a.knows → KnownSound b.seat b.knows
turn_sound a e b c s =
    let r = c.rows in
    let asks = beside_sound a.seat c.mid e.before r.asks r.before (subst (KnownSound a.seat) (sym c.drift) s) in
    let answers = own_sound a.seat e.before r.asks e.asked r.answers r.own asks in
    subst (λ (seat : ℕ). KnownSound seat b.knows) (sym c.seat) (beside_sound a.seat r.answers e.after b.knows r.after answers)

turns_sound : (a : DeskState) (es : List Turned) (b : DeskState) → Turns true a es b → KnownSound a.seat a.knows → KnownSound b.seat b.knows
turns_sound a [] b same s = subst (λ (x : DeskState). KnownSound x.seat x.knows) (sym same) s
turns_sound a (e ∷ es) b (mid, made, rest) s = turns_sound mid es b rest (turn_sound a e mid made s)

-- without a session nothing is held
pub closed_new : (seat : ℕ) (n : Node) → session_at n seat ≡ None → HoldsNew seat n
closed_new seat n none s h has holds = absurd (cc)

pub closed_sound : (seat : ℕ) (knows : Knows) (n : Node) → knows ≡ Tells n → session_at n seat ≡ None → HasOnce n.state → KnownSound seat knows
closed_sound seat knows n tells none once =
    subst (KnownSound seat) (sym tells) (record { once = once; fresh = λ unbroken. closed_new seat n none })

tells_once : (seat : ℕ) (knows : Knows) → KnownSound seat knows → TellsOnce knows
tells_once seat (Tells n) s = record { node = n; tells = refl; once = s.once }
tells_once seat (Counts_alone c) s = absurd s

-- From a seat without a session, whatever is called.
pub turns_once : (a : DeskState) (es : List Turned) (b : DeskState) (old : Node) → Turns true a es b → a.knows ≡ Tells old → session_at old a.seat ≡ None → HasOnce old.state → TellsOnce b.knows
turns_once a es b old chain tells none once =
    tells_once b.seat b.knows (turns_sound a es b chain (closed_sound a.seat a.knows old tells none once))
