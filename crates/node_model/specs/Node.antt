-- Node state: what a node keeps, and what is gone after a stop (own).
use Rattle.std.specs.Prelude.{zero, suc, ℕ, Bool, false, List, [], ◌∷◌, Option, Some, None, slice_index_or}
use Rattle.ftn_addr.specs.Address.{Address}
use Rattle.ftn_addr.specs.Key.{Key}
use Rattle.ftn_addr.specs.declared.source_file.Action.{Action}
use Rattle.node_model.specs.declared.words.Flavour.{Flavour}
use Rattle.node_model.specs.declared.words.Role.{Role}
use Rattle.node_model.specs.Durable.{Durable, nothing_kept}

-- the file that a session is receiving, its bytes so far, whether the store has the part open with them, and
-- whether data is taken
pub record Hold : Type 0 where
  pub number : ℕ
  pub from : Address
  pub key : Key
  pub bytes : List ℕ
  pub stored : Bool
  pub taking : Bool

-- an open session: the peer's addresses, the entry that it has claimed, those that it skipped, the file that it
-- holds, the keys that mismatched once, and the places that its claim and its hold have left
pub record Session : Type 0 where
  pub number : ℕ
  pub role : Role
  pub first : Address
  pub others : List Address
  pub secure : Bool
  pub moment : ℕ
  pub claim : Option ℕ
  pub skipped : List ℕ
  pub hold : Option Hold
  pub missed : List Key
  pub claim_places : ℕ
  pub hold_places : ℕ

-- a seat: how often its calls answered Busy and Read, and its open session
pub record Seat : Type 0 where
  pub busy : ℕ
  pub reads : ℕ
  pub session : Option Session

abbrev pub empty_seat : Seat
empty_seat = record { busy = 0; reads = 0; session = None }

-- a record of the ledger
pub data Record : Type 0 where
  Queue_record : (number : ℕ) (dest : Address) (key : Key) (flavour : Flavour) (source : List ℕ) (action : Action) → Record
  Done_record : (number session : ℕ) → Record
  Received_record : (receipt : ℕ) (from : Address) (key : Key) (session : ℕ) (secure : Bool) → Record
  Refused_record : (from : Address) (key : Key) (session reason : ℕ) → Record
  Mark_record : (part : ℕ) (from : Address) (key : Key) (size : ℕ) → Record
  Taken_record : (take : ℕ) → Record
  Acted_record : (number : ℕ) → Record
  Answered_record : (receipt : ℕ) → Record

-- a record with the seat that made it
pub record Logged : Type 0 where
  pub seat : ℕ
  pub entry : Record

pub record Settings : Type 0 where
  pub max_servers : ℕ
  pub refuse_names : List (List ℕ)
  pub refuse_over : ℕ

-- the state; the records appended since the store was opened or made; the seats, empty beyond the list's end; the
-- sessions begun; the records that the ledger holds and the places reserved; the greatest numbers of a queued file and
-- of a part that were drawn; the store's counts, and the receipt last given
pub record Node : Type 0 where
  pub state : Durable
  pub log : List Logged
  pub seats : List Seat
  pub settings : Settings
  pub begun : ℕ
  pub records : ℕ
  pub reserved : ℕ
  pub staged : ℕ
  pub drawn : ℕ
  pub faults : ℕ
  pub fulls : ℕ
  pub broken : Option ℕ
  pub last_given : ℕ

-- settings that refuse nothing
abbrev pub plain_settings : Settings
plain_settings = record { max_servers = 100; refuse_names = []; refuse_over = 18446744073709551615 }

-- a node with nothing in it
abbrev pub blank : Node
blank =
    record { state = nothing_kept; log = []; seats = []; settings = plain_settings; begun = 0; records = 0; reserved = 0; staged = 0; drawn = 0; faults = 0; fulls = 0; broken = None; last_given = 0 }

abbrev pub peers : Session → List Address
peers s = s.first ∷ s.others

-- the seat with that number
abbrev pub seat_in : List Seat → ℕ → Seat
seat_in seats k = slice_index_or seats k empty_seat

-- the seats with another value at that number
abbrev pub put_seat : ℕ → Seat → List Seat → List Seat
put_seat zero v [] = v ∷ []
put_seat zero v (x ∷ xs) = v ∷ xs
put_seat (suc k) v [] = empty_seat ∷ put_seat k v []
put_seat (suc k) v (x ∷ xs) = x ∷ put_seat k v xs

abbrev pub session_at : Node → ℕ → Option Session
session_at n seat = (seat_in n.seats seat).session

abbrev pub hold_in : Option Session → Option Hold
hold_in None = None
hold_in (Some s) = s.hold

abbrev pub claim_in : Option Session → Option ℕ
claim_in None = None
claim_in (Some s) = s.claim

abbrev pub takes : Option Hold → Bool
takes None = false
takes (Some h) = h.taking

-- a file is held and its data is taken
abbrev pub taking_in : Option Session → Bool
taking_in s = takes (hold_in s)

-- the seat's session is another
abbrev pub with_session : ℕ → Option Session → Node → Node
with_session seat s n = record n { seats = put_seat seat (record (seat_in n.seats seat) { session = s }) n.seats }

-- with what a node is opened again: settings that may be others, the counts of new objects, and what the ledger holds
pub record Opening : Type 0 where
  pub settings : Settings
  pub faults : ℕ
  pub fulls : ℕ
  pub records : ℕ
  pub staged : ℕ
  pub drawn : ℕ

-- Stop: what is kept stays, no seat has a session, and the store is opened again.
abbrev pub stopped : Opening → Node → Node
stopped o n =
    record blank { state = n.state; settings = o.settings; records = o.records; staged = o.staged; drawn = o.drawn; faults = o.faults; fulls = o.fulls }
