-- Node step: for each call its answer and its change (own; the answers to a file are those of FTS-1026's receiver).
use Rattle.std.specs.Prelude.{◌≡◌, ◌≢◌, ◌⊎◌, ℕ, Bool, true, false, ◌||◌, ◌&&◌, ◌+◌, ◌-◌, ◌/◌, max, ◌≤◌, ◌<◌, List, [], ◌∷◌, ◌++◌, Option, Some, None, length, map, drop, if◌then◌else◌, nat_lt, nat_le, count_by, nat_eq}
use Rattle.std.specs.Char.{to_ascii_lowercase}
use Rattle.std.specs.Cmp.Lexicographic.{pointwise}
use Rattle.ftn_addr.specs.Address.{Address}
use Rattle.ftn_addr.specs.Counts.{next_count}
use Rattle.ftn_addr.specs.Files.{is_same}
use Rattle.ftn_addr.specs.Key.{Key}
use Rattle.node_model.specs.declared.words.TheConstants.{MOST_RECORDS, LEAST_STRIDE, STRIDES}
use Rattle.ftn_addr.specs.declared.limits.TheConstants.{MAX_NUMBER}
use Rattle.node_model.specs.declared.words.Role.{Role}
use Rattle.node_model.specs.declared.words.Role.TheVariants.{Calls, Answers}
use Rattle.node_model.specs.Items.{Receipt, Mark}
use Rattle.node_model.specs.Lists.{Member, Each, some_passes}
use Rattle.node_model.specs.Durable.{Durable, is_known, mark_of, marked, with_receipt, with_refusal, with_mark}
use Rattle.node_model.specs.Node.{Hold, Session, Seat, Settings, Node, seat_in, put_seat, session_at, hold_in, with_session, Logged, Record, Received_record, Refused_record, Mark_record}

-- one record of a seat
abbrev pub by : ℕ → Record → List Logged
by seat r = record { seat = seat; entry = r } ∷ []

-- these records of a seat
abbrev pub all_by : ℕ → List Record → List Logged
all_by seat rs = map (λ r. record { seat = seat; entry = r }) rs

-- so many places more can be reserved or used: with the records held and the places reserved they are at most those of a ledger
abbrev pub HasRoom : Node → ℕ → Type 0
HasRoom n wanted = n.records + n.reserved + wanted ≤ MOST_RECORDS

abbrev pub LacksRoom : Node → ℕ → Type 0
LacksRoom n wanted = MOST_RECORDS < n.records + n.reserved + wanted

-- Knock.

abbrev pub is_answering : Role → Bool
is_answering Calls = false
is_answering Answers = true

abbrev pub answers : Option Session → Bool
answers None = false
answers (Some s) = is_answering s.role

-- how many answering sessions are open
abbrev pub answering_sessions : Node → ℕ
answering_sessions n = count_by (λ (s : Seat). answers s.session) n.seats

-- a caller is let in while fewer answering sessions are open than the settings allow; who calls always is
abbrev pub MayCome : Role → Node → Type 0
MayCome Calls n = Unit {0}
MayCome Answers n = answering_sessions n < n.settings.max_servers

pub record KnockCome (seat : ℕ) (role : Role) (old new : Node) : Type 0 where
  pub may : MayCome role old
  pub after : new ≡ old

-- the seat's count of knocks that were turned away
abbrev pub one_busy_more : ℕ → Node → Node
one_busy_more seat n = record n { seats = put_seat seat (record (seat_in n.seats seat) { busy = next_count (seat_in n.seats seat).busy }) n.seats }

pub record KnockBusy (seat : ℕ) (role : Role) (old new : Node) : Type 0 where
  pub answers_calls : is_answering role ≡ true
  pub full : old.settings.max_servers ≤ answering_sessions old
  pub after : new ≡ one_busy_more seat old

-- Open.

abbrev pub new_session : ℕ → Role → Address → List Address → Bool → ℕ → Session
new_session number role first others secure moment =
    record { number = number; role = role; first = first; others = others; secure = secure; moment = moment; claim = None; skipped = []; hold = None; missed = []; claim_places = 0; hold_places = 0 }

-- a session opens under the next number, with what is handed in; the peer's first address is the sender of its files
pub record OpenRow (seat : ℕ) (role : Role) (peers : List Address) (secure : Bool) (moment : ℕ) (old new : Node) : Type 0 where
  pub first : Address
  pub others : List Address
  pub has_first : peers ≡ first ∷ others
  pub none_yet : session_at old seat ≡ None
  pub few : old.begun < MAX_NUMBER
  pub after : new ≡ record (with_session seat (Some (new_session (old.begun + 1) role first others secure moment)) old) { begun = old.begun + 1 }

-- File.

-- a session without its hold
abbrev pub unheld : Session → Session
unheld s = record s { hold = None; hold_places = 0 }

abbrev pub mark_for : Hold → Mark
mark_for h = record { number = h.number; from = h.from; key = h.key; bytes = h.bytes }

-- the held bytes are more than the mark's
abbrev pub is_ahead : Hold → Durable → Bool
is_ahead h d = nat_lt (length (marked h.from h.key d)) (length h.bytes)

-- the mark of what is held becomes its bytes, where these are more
abbrev pub mark_held : Hold → Durable → Durable
mark_held h d = if is_ahead h d then with_mark (mark_for h) d else d

abbrev pub mark_any : Option Hold → Durable → Durable
mark_any None d = d
mark_any (Some h) d = mark_held h d

abbrev pub mark_record : Hold → Record
mark_record h = Mark_record h.number h.from h.key (length h.bytes)

abbrev pub marks_held : ℕ → Hold → Durable → List Logged
marks_held seat h d = if is_ahead h d then by seat (mark_record h) else []

abbrev pub marks_any : ℕ → Option Hold → Durable → List Logged
marks_any seat None d = []
marks_any seat (Some h) d = marks_held seat h d

-- what is held is marked, the hold ends, and its places go back
abbrev pub released : ℕ → Session → Node → Node
released seat s n =
    record (with_session seat (Some (unheld s)) n) { state = mark_any s.hold n.state; log = n.log ++ marks_any seat s.hold n.state; records = n.records + length (marks_any seat s.hold n.state); reserved = n.reserved - s.hold_places }

-- a name ends with a text, ASCII case ignored
abbrev pub ends_with : List ℕ → List ℕ → Bool
ends_with name text =
    nat_le (length text) (length name) && pointwise nat_eq (map to_ascii_lowercase (drop (length name - length text) name)) (map to_ascii_lowercase text)

abbrev pub name_refused : Settings → Key → Bool
name_refused settings key = some_passes (λ text. ends_with key.name text) settings.refuse_names

-- the settings refuse the key, by its name or by its size
abbrev pub refuses : Settings → Key → Bool
refuses settings key = name_refused settings key || nat_lt settings.refuse_over key.size

-- why: 1 its name, 2 its size
abbrev pub reason : Settings → Key → ℕ
reason settings key = if name_refused settings key then 1 else 2

-- another seat holds that sender and key
pub record HeldElsewhere (n : Node) (seat : ℕ) (from : Address) (key : Key) : Type 0 where
  pub other : ℕ
  pub apart : other ≢ seat
  pub hold : Hold
  pub holds : hold_in (session_at n other) ≡ Some hold
  pub same : is_same from key hold.from hold.key ≡ true

-- a number for a part: that of its mark, or one that no mark, receipt or hold has, and that isn't above the next to be drawn
pub record PartNumber (n : Node) (from : Address) (key : Key) (number : ℕ) : Type 0 where
  pub its_own : (m : Mark) → mark_of from key n.state ≡ Some m → m.number ≡ number
  pub unmarked : mark_of from key n.state ≡ None → Each (λ (m : Mark). m.number ≢ number) n.state.marks
  pub unreceived : Each (λ (r : Receipt). r.number ≢ number) n.state.inbox
  pub unheld : (seat : ℕ) (h : Hold) → hold_in (session_at n seat) ≡ Some h → h.number ≢ number
  pub some : 1 ≤ number
  pub next : number ≤ n.drawn + 1
  pub few : number ≤ MAX_NUMBER

-- the unmarked bytes after which a mark is made: 16 MiB, or a 128th of the file, rounded up, where that is more
abbrev pub stride : ℕ → ℕ
stride size = max LEAST_STRIDE ((size + (STRIDES - 1)) / STRIDES)

-- one place for the receipt, and one for each whole stride between the mark and the size
abbrev pub places_for : ℕ → ℕ → ℕ
places_for from size = 1 + (size - from) / stride size

-- a hold that begins with the mark's bytes
abbrev pub hold_from : ℕ → Address → Key → Bool → Durable → Hold
hold_from number from key taking d =
    record { number = number; from = from; key = key; bytes = marked from key d; stored = true; taking = taking }

-- a session holds a file, and has places for its records
abbrev pub holding : ℕ → Hold → ℕ → Session → Node → Node
holding seat hold places s n =
    record (with_session seat (Some (record s { hold = Some hold; hold_places = places })) n) { reserved = n.reserved + places; drawn = max n.drawn hold.number }

-- a receipt that was neither answered nor given
abbrev pub receipt_of : ℕ → Session → Key → List ℕ → Receipt
receipt_of number s key bytes =
    record { number = number; from = s.first; key = key; bytes = Some bytes; secure = s.secure; answered = false; given = false }

abbrev pub received_record : ℕ → Session → Key → Record
received_record number s key = Received_record number s.first key s.number s.secure

pub data FileAnswer : Type 0 where
  Have : FileAnswer
  Refuse : FileAnswer
  Elsewhere : FileAnswer
  Go : FileAnswer
  Whole : FileAnswer
  From : (place : ℕ) → FileAnswer
  Late : FileAnswer

-- neither settled, nor refused by the settings, nor held by another seat
pub record Acceptable (seat : ℕ) (session : Session) (key : Key) (n : Node) : Type 0 where
  pub unknown : is_known session.first key n.state ≡ false
  pub wanted : refuses n.settings key ≡ false
  pub free : HeldElsewhere n seat session.first key → ⊥

-- the length of the mark of a session's file
abbrev pub mark_length : Session → Key → Node → ℕ
mark_length s key n = length (marked s.first key n.state)

-- where each answer applies, once the hold has ended; `s` is the session without it
abbrev pub Applies : ℕ → Session → Key → ℕ → FileAnswer → Node → Type 0
Applies seat s key offset Have n = is_known s.first key n.state ≡ true
Applies seat s key offset Refuse n = (is_known s.first key n.state ≡ false) × (refuses n.settings key ≡ true)
Applies seat s key offset Elsewhere n =
    (is_known s.first key n.state ≡ false) × (refuses n.settings key ≡ false) × HeldElsewhere n seat s.first key
Applies seat s key offset Go n = Acceptable seat s key n × (offset ≡ mark_length s key n) × (offset < key.size)
Applies seat s key offset Whole n = Acceptable seat s key n × (offset ≡ mark_length s key n) × (offset ≡ key.size)
Applies seat s key offset (From place) n =
    Acceptable seat s key n × (place ≡ mark_length s key n) × (offset ≢ place) × (Member key s.missed → ⊥)
Applies seat s key offset Late n = Acceptable seat s key n × (offset ≢ mark_length s key n) × Member key s.missed

-- the places that each answer wants, for a file of that size with a mark of that length
abbrev pub wanted_places : FileAnswer → (have size : ℕ) → ℕ
wanted_places Refuse have size = 1
wanted_places Whole have size = 1
wanted_places Go have size = places_for have size
wanted_places (From place) have size = places_for have size
wanted_places _ have size = 0

-- the answers that draw a number for a part
abbrev pub draws : FileAnswer → Bool
draws Go = true
draws Whole = true
draws (From place) = true
draws _ = false

-- what each answer changes
abbrev pub FileMade : ℕ → Session → Key → FileAnswer → Node → Node → Type 0
FileMade seat s key Refuse n new =
    new ≡ record n { state = with_refusal (record { from = s.first; key = key }) n.state; log = n.log ++ by seat (Refused_record s.first key s.number (reason n.settings key)); records = n.records + 1 }
FileMade seat s key Go n new =
    (number : ℕ) × PartNumber n s.first key number
    × (new ≡ holding seat (hold_from number s.first key true n.state) (places_for (mark_length s key n) key.size) s n)
FileMade seat s key Whole n new =
    (number : ℕ) × PartNumber n s.first key number
    × (new ≡ record n { state = with_receipt (receipt_of number s key (marked s.first key n.state)) n.state; log = n.log ++ by seat (received_record number s key); records = n.records + 1; drawn = max n.drawn number })
FileMade seat s key (From place) n new =
    (number : ℕ) × PartNumber n s.first key number
    × (new ≡ holding seat (hold_from number s.first key false n.state) (places_for place key.size) (record s { missed = key ∷ s.missed }) n)
FileMade seat s key _ n new = new ≡ n

-- a file is offered: first what was held is released, then the answer that applies is made
pub record FileRow (seat : ℕ) (key : Key) (offset : ℕ) (answer : FileAnswer) (old new : Node) : Type 0 where
  pub session : Session
  pub has : session_at old seat ≡ Some session
  pub applies : Applies seat (unheld session) key offset answer (released seat session old)
  pub room : HasRoom (released seat session old) (wanted_places answer (mark_length session key (released seat session old)) key.size)
  pub made : FileMade seat (unheld session) key answer (released seat session old) new

-- The answer that applies wants more places than there are, or a number where the last one is drawn.
pub record FileFull (seat : ℕ) (key : Key) (offset : ℕ) (old : Node) : Type 0 where
  pub session : Session
  pub has : session_at old seat ≡ Some session
  pub answer : FileAnswer
  pub applies : Applies seat (unheld session) key offset answer (released seat session old)
  pub cause : LacksRoom (released seat session old) (wanted_places answer (mark_length session key (released seat session old)) key.size)
      ⊎ ((draws answer ≡ true) × (mark_of session.first key (released seat session old).state ≡ None) × (old.drawn ≡ MAX_NUMBER))

-- Data.

abbrev pub grown : Hold → List ℕ → Hold
grown h bytes = record h { bytes = h.bytes ++ bytes }

-- the unmarked bytes reach the stride
abbrev pub at_stride : Hold → Durable → Bool
at_stride h d = nat_le (length (marked h.from h.key d) + stride h.key.size) (length h.bytes)

abbrev pub marked_at_stride : Hold → Durable → Durable
marked_at_stride h d = if at_stride h d then with_mark (mark_for h) d else d

abbrev pub stride_records : ℕ → Hold → Durable → List Logged
stride_records seat h d = if at_stride h d then by seat (mark_record h) else []

-- the place that it uses
abbrev pub stride_place : Hold → Durable → ℕ
stride_place h d = if at_stride h d then 1 else 0

-- a session that holds more, at a node where that is marked at a stride
abbrev pub holding_more : ℕ → Session → Hold → Node → Node
holding_more seat s h n =
    record (with_session seat (Some (record s { hold = Some h; hold_places = s.hold_places - stride_place h n.state })) n) { state = marked_at_stride h n.state; log = n.log ++ stride_records seat h n.state; records = n.records + stride_place h n.state; reserved = n.reserved - stride_place h n.state }

-- the held bytes grow, and more are to come; at a stride they are marked
pub record DataMore (seat : ℕ) (bytes : List ℕ) (old new : Node) : Type 0 where
  pub session : Session
  pub has : session_at old seat ≡ Some session
  pub hold : Hold
  pub holds : session.hold ≡ Some hold
  pub taking : hold.taking ≡ true
  pub short : length hold.bytes + length bytes < hold.key.size
  pub after : new ≡ holding_more seat session (grown hold bytes) old

-- the held bytes reach the size: a receipt, and the hold ends
pub record DataWhole (seat : ℕ) (bytes : List ℕ) (old new : Node) : Type 0 where
  pub session : Session
  pub has : session_at old seat ≡ Some session
  pub hold : Hold
  pub holds : session.hold ≡ Some hold
  pub taking : hold.taking ≡ true
  pub whole : length hold.bytes + length bytes ≡ hold.key.size
  pub after : new ≡ record (released seat session old) { state = with_receipt (receipt_of hold.number session hold.key (hold.bytes ++ bytes)) old.state; log = old.log ++ by seat (received_record hold.number session hold.key); records = old.records + 1 }

-- Leave.

-- what is held is marked; claim, hold, places and session end
abbrev pub left_by : ℕ → Session → Node → Node
left_by seat s n =
    record (with_session seat None n) { state = mark_any s.hold n.state; log = n.log ++ marks_any seat s.hold n.state; records = n.records + length (marks_any seat s.hold n.state); reserved = n.reserved - (s.claim_places + s.hold_places) }

pub record LeaveOpen (seat : ℕ) (old new : Node) : Type 0 where
  pub session : Session
  pub has : session_at old seat ≡ Some session
  pub after : new ≡ left_by seat session old

-- without an open session nothing changes
abbrev pub LeaveRow : ℕ → Node → Node → Type 0
LeaveRow seat old new = LeaveOpen seat old new ⊎ ((session_at old seat ≡ None) × (new ≡ old))
