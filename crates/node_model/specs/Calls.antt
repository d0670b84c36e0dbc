-- The calls of a desk with their answers, and their chain.
use Rattle.std.specs.Prelude.{zero, suc, ◌≡◌, ◌≢◌, ◌⊎◌, ℕ, Bool, true, false, ◌+◌, ◌≤◌, List, [], ◌∷◌, ◌++◌, map, Option, Some, None}
use Rattle.ftn_addr.specs.Address.{Address}
use Rattle.ftn_addr.specs.Counts.{Increased, next_count}
use Rattle.ftn_addr.specs.Key.{Key}
use Rattle.node_model.specs.declared.words.Role.{Role}
use Rattle.node_model.specs.Durable.{Durable}
use Rattle.node_model.specs.Items.{Entry}
use Rattle.ftn_addr.specs.declared.limits.TheConstants.{MAX_NUMBER}
use Rattle.node_model.specs.Lists.{Each}
use Rattle.node_model.specs.Node.{Session, Node, Logged, session_at, hold_in, seat_in, put_seat}
use Rattle.node_model.specs.Rows.{KnockCome, KnockBusy, OpenRow, FileAnswer, FileRow, FileFull, DataMore, DataWhole, LeaveRow, mark_any, released, unheld}
use Rattle.node_model.specs.SendRows.{NewFile, Slot, QueueRow, QueueFull, OfferFile, OfferNothing, OfferFull, ReadRow, GotRow, SkipRow, ActRow, ActNothing, ActFull, GiveRow, GiveHeld, GiveNothing}

pub data Call : Type 0 where
  Queue_call : (files : List NewFile) (taken answered : Option ℕ) → Call
  Knock_call : (role : Role) → Call
  Open_call : (role : Role) (peers : List Address) (secure : Bool) (moment : ℕ) → Call
  Offer_call : Call
  Read_call : (place room : ℕ) → Call
  Got_call : (number : ℕ) → Call
  Skip_call : (number : ℕ) → Call
  File_call : (key : Key) (offset : ℕ) → Call
  Data_call : (bytes : List ℕ) → Call
  Leave_call : Call
  Act_call : (dest : Address) → Call
  Give_call : Call

-- why a desk refused: its store is broken with that count, a read failed, no place, or no memory
pub data Fault : Type 0 where
  Disk : (count : ℕ) → Fault
  Read : (count : ℕ) → Fault
  Full : Fault
  No_memory : Fault

pub data Answer : Type 0 where
  Queued : (slots : List Slot) → Answer
  Let_in : Answer
  Busy : Answer
  Begun : (number : ℕ) → Answer
  Offered : (number : ℕ) (key : Key) → Answer
  Nothing : Answer
  Came : (bytes : List ℕ) → Answer
  Settled : Answer
  Filed : (answer : FileAnswer) → Answer
  More : Answer
  Whole_now : Answer
  Acted : (number : ℕ) → Answer
  Given : (number : ℕ) → Answer
  Held : (number : ℕ) → Answer
  Refused : (fault : Fault) → Answer

pub record Event : Type 0 where
  pub call : Call
  pub answer : Answer

abbrev pub one : Call → Answer → List Event
one call answer = record { call = call; answer = answer } ∷ []

-- what a call does where it isn't refused
abbrev pub Made : ℕ → Node → Call → Answer → Node → Type 0
Made seat old (Queue_call files taken answered) (Queued slots) new = QueueRow seat files taken answered slots old new
Made seat old (Knock_call role) Let_in new = KnockCome seat role old new
Made seat old (Knock_call role) Busy new = KnockBusy seat role old new
Made seat old (Open_call role peers secure moment) (Begun number) new =
    (number ≡ old.begun + 1) × OpenRow seat role peers secure moment old new
Made seat old Offer_call (Offered number key) new = (e : Entry) × (e.number ≡ number) × (e.key ≡ key) × OfferFile seat e old new
Made seat old Offer_call Nothing new = OfferNothing seat old new
Made seat old (Read_call place room) (Came bytes) new = ReadRow seat place room bytes old new
Made seat old (Got_call number) Settled new = GotRow seat number old new
Made seat old (Skip_call number) Settled new = SkipRow seat number old new
Made seat old (File_call key offset) (Filed answer) new = FileRow seat key offset answer old new
Made seat old (Data_call bytes) More new = DataMore seat bytes old new
Made seat old (Data_call bytes) Whole_now new = DataWhole seat bytes old new
Made seat old Leave_call Settled new = LeaveRow seat old new
Made seat old (Act_call dest) (Acted number) new = ActRow seat dest number old new
Made seat old (Act_call dest) Nothing new = ActNothing dest old new
Made seat old Give_call (Given number) new = GiveRow number old new
Made seat old Give_call (Held number) new = GiveHeld number old new
Made seat old Give_call Nothing new = GiveNothing old new
Made _ _ _ _ _ = ⊥

-- the durable state after the mark of what the seat holds
abbrev pub marked_first : ℕ → Node → Durable
marked_first seat n = mark_any (hold_in (session_at n seat)) n.state

-- the calls that first mark what is held
abbrev pub marks_first : Call → Bool
marks_first (File_call key offset) = true
marks_first _ = false

-- the durable states that a call passes: the one before it, and, of an unbroken node, the one after its mark and the
-- one after all that it changes
pub data Passes (seat : ℕ) (old : Node) (call : Call) (d : Durable) : Type 0 where
  Before_it : d ≡ old.state → Passes seat old call d
  Marked : old.broken ≡ None → marks_first call ≡ true → d ≡ marked_first seat old → Passes seat old call d
  After_it : old.broken ≡ None → (answer : Answer) (new : Node) → Made seat old call answer new → d ≡ new.state → Passes seat old call d

-- a seat's session without its hold
abbrev pub unheld_in : Option Session → Option Session
unheld_in None = None
unheld_in (Some s) = Some (unheld s)

-- the log went on with records of that seat alone
pub record Logs (seat : ℕ) (old new : List Logged) : Type 0 where
  pub rest : List Logged
  pub grows : new ≡ old ++ rest
  pub own : Each (λ (r : Logged). r.seat ≡ seat) rest

-- The disk failed in the call: one of the states that it passes is left, and the store is broken. Nothing is said of
-- the part that was held, of the places, or of the numbers drawn.
pub record Breaks (seat : ℕ) (old : Node) (call : Call) (count : ℕ) (new : Node) : Type 0 where
  pub unbroken : old.broken ≡ None
  pub rose : Increased old.faults count
  pub passes : Passes seat old call new.state
  pub broken : new.broken ≡ Some count
  pub faults : new.faults ≡ count
  pub fulls : new.fulls ≡ old.fulls
  pub log : Logs seat old.log new.log
  pub others : (k : ℕ) → k ≢ seat → seat_in new.seats k ≡ seat_in old.seats k
  pub own : unheld_in (session_at new seat) ≡ unheld_in (session_at old seat)
  pub busy : (seat_in new.seats seat).busy ≡ (seat_in old.seats seat).busy
  pub reads : (seat_in new.seats seat).reads ≡ (seat_in old.seats seat).reads
  pub settings : new.settings ≡ old.settings
  pub begun : new.begun ≡ old.begun

-- a file that is refused: what was held isn't held any more
pub record FileRefused (seat fulls : ℕ) (old new : Node) : Type 0 where
  pub session : Session
  pub has : session_at old seat ≡ Some session
  pub after : new ≡ record (released seat session old) { fulls = fulls }

-- files that aren't queued were staged all the same, and their numbers are drawn
pub record QueueRefused (fulls : ℕ) (old new : Node) : Type 0 where
  pub staged : ℕ
  pub risen : old.staged ≤ staged
  pub after : new ≡ record old { fulls = fulls; staged = staged }

-- what a call leaves that finds no place or no memory
abbrev pub Unmade : ℕ → ℕ → Node → Call → Node → Type 0
Unmade seat fulls old (File_call key offset) new = FileRefused seat fulls old new
Unmade seat fulls old (Queue_call files taken answered) new = QueueRefused fulls old new
Unmade seat fulls old call new = new ≡ record old { fulls = fulls }

-- The calls that may find no place, each with its cause: the records held, the places reserved and those that the call
-- wants are more than a ledger has, or the last number is used. A knock, reading, what settles a file, data, leaving
-- and giving want no place.
abbrev pub FindsFull : ℕ → Node → Call → Type 0
FindsFull seat old (Queue_call files taken answered) = QueueFull files taken answered old
FindsFull seat old (Open_call role peers secure moment) = old.begun ≡ MAX_NUMBER
FindsFull seat old Offer_call = OfferFull seat old
FindsFull seat old (File_call key offset) = FileFull seat key offset old
FindsFull seat old (Act_call dest) = ActFull dest old
FindsFull seat old call = ⊥

-- the calls that take memory
abbrev pub TakesMemory : Call → Type 0
TakesMemory (Queue_call files taken answered) = Unit {0}
TakesMemory (Open_call role peers secure moment) = Unit {0}
TakesMemory Offer_call = Unit {0}
TakesMemory (File_call key offset) = Unit {0}
TakesMemory (Act_call dest) = Unit {0}
TakesMemory Give_call = Unit {0}
TakesMemory call = ⊥

abbrev pub IsReading : Call → Type 0
IsReading (Read_call place room) = Unit {0}
IsReading call = ⊥

abbrev pub IsSkip : Call → Type 0
IsSkip (Skip_call number) = Unit {0}
IsSkip call = ⊥

-- the seat's count of reads that were refused
abbrev pub one_read_more : ℕ → Node → Node
one_read_more seat n = record n { seats = put_seat seat (record (seat_in n.seats seat) { reads = next_count (seat_in n.seats seat).reads }) n.seats }

-- A call that is refused. Only reading answers Read; a skip is never refused.
abbrev pub NotMade : ℕ → Node → Call → Fault → Node → Type 0
NotMade seat old call (Disk count) new =
    (IsSkip call → ⊥) × (((old.broken ≡ Some count) × (new ≡ old)) ⊎ Breaks seat old call count new)
NotMade seat old call (Read count) new =
    IsReading call × (old.broken ≡ None) × Increased old.faults count × (new ≡ record (one_read_more seat old) { faults = count })
NotMade seat old call Full new = (old.broken ≡ None) × FindsFull seat old call × Unmade seat (next_count old.fulls) old call new
NotMade seat old call No_memory new = (old.broken ≡ None) × TakesMemory call × Unmade seat old.fulls old call new

-- a call wants a store that isn't broken; a skip alone does its work at a broken one too
abbrev pub Works : Node → Call → Type 0
Works old call = (old.broken ≡ None) ⊎ IsSkip call

-- one step of a seat: this call with this answer leads from old to new
abbrev pub NodeStep : ℕ → Node → Call → Answer → Node → Type 0
NodeStep seat old call (Refused fault) new = NotMade seat old call fault new
NodeStep seat old call answer new = Works old call × Made seat old call answer new

-- steps of other seats
pub record OtherStep (seat : ℕ) (old new : Node) : Type 0 where
  pub other : ℕ
  pub apart : other ≢ seat
  pub call : Call
  pub answer : Answer
  pub step : NodeStep other old call answer new

abbrev pub OtherSteps : ℕ → ℕ → Node → Node → Type 0
OtherSteps zero seat old new = new ≡ old
OtherSteps (suc n) seat old new = (mid : Node) × OtherSteps n seat old mid × OtherStep seat mid new

-- the counts of a store, which it always tells
pub record Counts : Type 0 where
  pub faults : ℕ
  pub fulls : ℕ
  pub broken : Option ℕ

-- what a seat counts that doesn't tell its node: its store's counts, and how often its calls answered Busy and Read
pub record SeatCounts : Type 0 where
  pub store : Counts
  pub busy : ℕ
  pub reads : ℕ

-- what a desk tells: its node's state, or the counts alone
pub data Knows : Type 0 where
  Tells : (node : Node) → Knows
  Counts_alone : (counts : SeatCounts) → Knows

-- the counts of the store, which every desk tells
abbrev pub counts_of : Knows → Counts
counts_of (Tells n) = record { faults = n.faults; fulls = n.fulls; broken = n.broken }
counts_of (Counts_alone c) = c.store

-- the calls that may find no place
abbrev pub MayFindFull : Call → Type 0
MayFindFull (Queue_call files taken answered) = Unit {0}
MayFindFull (Open_call role peers secure moment) = Unit {0}
MayFindFull Offer_call = Unit {0}
MayFindFull (File_call key offset) = Unit {0}
MayFindFull (Act_call dest) = Unit {0}
MayFindFull call = ⊥

-- The causes of an answer in the counts before and after, for every desk: what is refused is counted, and but for a
-- skip a broken store answers Disk alone.
abbrev pub Caused : Counts → Call → Answer → Counts → Type 0
Caused old call (Refused (Disk count)) new =
    (IsSkip call → ⊥)
    × (((old.broken ≡ Some count) × (new ≡ old))
    ⊎ ((old.broken ≡ None) × Increased old.faults count × (new ≡ record old { faults = count; broken = Some count })))
Caused old call (Refused (Read count)) new =
    IsReading call × (old.broken ≡ None) × Increased old.faults count × (new ≡ record old { faults = count })
Caused old call (Refused Full) new =
    MayFindFull call × (old.broken ≡ None) × Increased old.fulls new.fulls × (new ≡ record old { fulls = new.fulls })
Caused old call (Refused No_memory) new = TakesMemory call × (old.broken ≡ None) × (new ≡ old)
Caused old call answer new = ((old.broken ≡ None) ⊎ IsSkip call) × (new ≡ old)

-- a store breaks once, at a count to which its faults rose
abbrev pub MayBreak : Counts → Counts → Type 0
MayBreak old new =
    (new.broken ≡ old.broken)
    ⊎ ((old.broken ≡ None) × ((count : ℕ) × Increased old.faults count × (count ≤ new.faults) × (new.broken ≡ Some count)))

-- neither count fell
pub record CountsRise (old new : Counts) : Type 0 where
  pub faults : old.faults ≤ new.faults
  pub fulls : old.fulls ≤ new.fulls

-- a seat counts what its own calls answered
abbrev pub SeatCounted : SeatCounts → Answer → SeatCounts → Type 0
SeatCounted old Busy new = (new.busy ≡ next_count old.busy) × (new.reads ≡ old.reads)
SeatCounted old (Refused (Read count)) new = (new.busy ≡ old.busy) × (new.reads ≡ next_count old.reads)
SeatCounted old answer new = (new.busy ≡ old.busy) × (new.reads ≡ old.reads)

-- other seats change the counts of the store alone
pub record SeatDrifts (old new : SeatCounts) : Type 0 where
  pub store : CountsRise old.store new.store
  pub breaks : MayBreak old.store new.store
  pub busy : new.busy ≡ old.busy
  pub reads : new.reads ≡ old.reads

-- what may happen between two calls of a seat: nothing where it is alone
abbrev pub Drifts : Bool → ℕ → Knows → Knows → Type 0
Drifts true seat old new = new ≡ old
Drifts false seat (Tells old) (Tells new) = (n : ℕ) × OtherSteps n seat old new
Drifts false seat (Counts_alone old) (Counts_alone new) = SeatDrifts old new
Drifts false seat (Tells old) (Counts_alone new) = ⊥
Drifts false seat (Counts_alone old) (Tells new) = ⊥

-- the step, where the desk tells its node's state, else what the seat counts; whether it tells is changed by no call
abbrev pub KnownStep : ℕ → Knows → Call → Answer → Knows → Type 0
KnownStep seat (Tells old) call answer (Tells new) = NodeStep seat old call answer new
KnownStep seat (Counts_alone old) call answer (Counts_alone new) = SeatCounted old answer new
KnownStep seat (Tells old) call answer (Counts_alone new) = ⊥
KnownStep seat (Counts_alone old) call answer (Tells new) = ⊥

-- where a desk stands: its seat, and what it tells
pub record DeskState : Type 0 where
  pub seat : ℕ
  pub knows : Knows

-- Rows beside a call.

-- what a session asked and was answered, with the rows of this seat that the desk made before it and behind it; a desk
-- that offers no files makes none
pub record Turned : Type 0 where
  pub asked : Event
  pub before : List Event
  pub after : List Event

abbrev pub turned : Call → Answer → List Event → List Event → Turned
turned call answer before after = record { asked = record { call = call; answer = answer }; before = before; after = after }

abbrev pub asked_of : List Turned → List Event
asked_of es = map (λ e. e.asked) es

-- rows of a seat, one behind another, with nothing between them
abbrev pub Beside : ℕ → Knows → List Event → Knows → Type 0
Beside seat old [] new = new ≡ old
Beside seat old (e ∷ es) new =
    (mid : Knows) × Caused (counts_of old) e.call e.answer (counts_of mid) × KnownStep seat old e.call e.answer mid × Beside seat mid es new

abbrev pub IsMade : Answer → Type 0
IsMade (Refused fault) = ⊥
IsMade answer = Unit {0}

abbrev pub AllMade : List Event → Type 0
AllMade [] = Unit {0}
AllMade (e ∷ es) = IsMade e.answer × AllMade es

-- the last of these rows was refused so
abbrev pub EndsRefused : List Event → Fault → Type 0
EndsRefused [] fault = ⊥
EndsRefused (e ∷ []) fault = e.answer ≡ Refused fault
EndsRefused (e ∷ f ∷ es) fault = EndsRefused (f ∷ es) fault

-- The row that was asked for; it is missing where one before it was refused, and the answer is that refusal.
pub data OwnRow (seat : ℕ) (before : List Event) (old : Knows) (asked : Event) (new : Knows) : Type 0 where
  Made_row : AllMade before → Caused (counts_of old) asked.call asked.answer (counts_of new) → KnownStep seat old asked.call asked.answer new → OwnRow seat before old asked new
  Missing : (fault : Fault) → EndsRefused before fault → asked.answer ≡ Refused fault → new ≡ old → OwnRow seat before old asked new

abbrev pub IsQueue : Call → Type 0
IsQueue (Queue_call files taken answered) = Unit {0}
IsQueue call = ⊥

-- what a take-in does: it queues files, and acts on their sources
abbrev pub TakesIn : Call → Type 0
TakesIn (Queue_call files taken answered) = Unit {0}
TakesIn (Act_call dest) = Unit {0}
TakesIn call = ⊥

abbrev pub AllTakeIn : List Event → Type 0
AllTakeIn [] = Unit {0}
AllTakeIn (e ∷ es) = TakesIn e.call × AllTakeIn es

abbrev pub OneQueue : List Event → Type 0
OneQueue [] = Unit {0}
OneQueue (e ∷ []) = IsQueue e.call
OneQueue (e ∷ f ∷ es) = ⊥

-- files are taken in before a session opens, a request is answered behind its receipt, and nothing else stands beside
abbrev pub StandBeside : Call → (before after : List Event) → Type 0
StandBeside (Open_call role peers secure moment) before after = AllTakeIn before × (after ≡ [])
StandBeside (File_call key offset) before after = (before ≡ []) × OneQueue after
StandBeside (Data_call bytes) before after = (before ≡ []) × OneQueue after
StandBeside call before after = (before ≡ []) × (after ≡ [])

-- the rows before, the own one, and the rows behind
pub record Rowed (seat : ℕ) (old : Knows) (e : Turned) (new : Knows) : Type 0 where
  pub beside : StandBeside e.asked.call e.before e.after
  pub asks : Knows
  pub before : Beside seat old e.before asks
  pub answers : Knows
  pub own : OwnRow seat e.before asks e.asked answers
  pub after : Beside seat answers e.after new

-- one call of a desk with the rows beside it, at a state that drift reaches
pub record CallsBeside (alone : Bool) (old : DeskState) (e : Turned) (new : DeskState) : Type 0 where
  pub seat : new.seat ≡ old.seat
  pub mid : Knows
  pub drift : Drifts alone old.seat old.knows mid
  pub rows : Rowed old.seat mid e new.knows

-- these calls with the rows beside them lead from old to new
abbrev pub Turns : Bool → DeskState → List Turned → DeskState → Type 0
Turns alone old [] new = new ≡ old
Turns alone old (e ∷ es) new = (mid : DeskState) × CallsBeside alone old e mid × Turns alone mid es new
