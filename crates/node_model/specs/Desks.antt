-- What a desk's answers say, and what every desk tells of its session.
use Rattle.std.specs.Prelude.{◌≡◌, ℕ, ◌-◌, ◌<◌, ◌≤◌, Bool, true, false, List, Option, Some, None, Result, Ok, Err, length, take, option_map}
use Rattle.ftn_addr.specs.Key.{Key, key_of}
use Rattle.node_model.specs.declared.desk.DeskFault.{DeskFault}
use Rattle.node_model.specs.declared.desk.DeskFault.TheVariants as D
use Rattle.node_model.specs.declared.desk.Knock.{Knock}
use Rattle.node_model.specs.declared.desk.Knock.TheVariants as K
use Rattle.node_model.specs.declared.desk.Offer.{Offer}
use Rattle.node_model.specs.declared.desk.Offer.TheVariants as O
use Rattle.node_model.specs.declared.desk.FileIn.{FileIn}
use Rattle.node_model.specs.declared.desk.FileIn.TheVariants as F
use Rattle.node_model.specs.declared.desk.DataIn.{DataIn}
use Rattle.node_model.specs.declared.desk.DataIn.TheVariants as I
use Rattle.node_model.specs.Rows.{Have, Refuse, Elsewhere, Go, Whole, From, Late}
use Rattle.node_model.specs.Calls.{Call, File_call, Data_call, Open_call, Offer_call, Got_call, Skip_call, Leave_call, Fault, Disk, Read, Full, No_memory, Answer, Let_in, Busy, Begun, Offered, Nothing, Came, Filed, More, Whole_now, Settled, Refused, Knows, Tells, Counts_alone}
use Rattle.std.specs.Option.{is_some}
use Rattle.node_model.specs.Items.{Entry}
use Rattle.node_model.specs.Lists.{Member}
use Rattle.node_model.specs.Node.{Node, session_at, claim_in}
use Rattle.node_model.specs.Talk.{Part, part_at}

abbrev pub fault_of : DeskFault → Fault
fault_of (D.Disk count) = Disk count
fault_of (D.Read count) = Read count
fault_of D.Full = Full
fault_of D.NoMemory = No_memory

abbrev pub knock_answer : Result Knock DeskFault → Answer
knock_answer (Ok K.Come) = Let_in
knock_answer (Ok K.Busy) = Busy
knock_answer (Err fault) = Refused (fault_of fault)

abbrev pub begin_answer : Result ℕ DeskFault → Answer
begin_answer (Ok number) = Begun number
begin_answer (Err fault) = Refused (fault_of fault)

abbrev pub offer_answer : Result Offer DeskFault → Answer
offer_answer (Ok (O.File number key)) = Offered number (key_of key)
offer_answer (Ok O.Nothing) = Nothing
offer_answer (Err fault) = Refused (fault_of fault)

-- so many bytes at the front of the buffer were read
abbrev pub read_answer : List ℕ → Result ℕ DeskFault → Answer
read_answer buffer (Ok count) = Came (take count buffer)
read_answer buffer (Err fault) = Refused (fault_of fault)

abbrev pub file_answer : Result FileIn DeskFault → Answer
file_answer (Ok F.Go) = Filed Go
file_answer (Ok F.Whole) = Filed Whole
file_answer (Ok F.Have) = Filed Have
file_answer (Ok F.Refuse) = Filed Refuse
file_answer (Ok F.Elsewhere) = Filed Elsewhere
file_answer (Ok (F.From place)) = Filed (From place)
file_answer (Ok F.Late) = Filed Late
file_answer (Err fault) = Refused (fault_of fault)

abbrev pub data_answer : Result DataIn DeskFault → Answer
data_answer (Ok I.More) = More
data_answer (Ok I.Whole) = Whole_now
data_answer (Err fault) = Refused (fault_of fault)

abbrev pub settled_answer : Result (Unit {0}) DeskFault → Answer
settled_answer (Ok done) = Settled
settled_answer (Err fault) = Refused (fault_of fault)

-- the entry that a session has claimed, with its key
pub record Claim : Type 0 where
  pub number : ℕ
  pub key : Key

-- whether a session is open, the entry that it has claimed, and the file that it holds
pub record DeskPart : Type 0 where
  pub open_now : Bool
  pub claim : Option Claim
  pub held : Option Part

abbrev pub less : ℕ → Option Part → Option Part
less n None = None
less n (Some p) = Some (record p { left = p.left - n })

-- the file that is held after a call
abbrev pub held_after : Option Part → Call → Answer → Option Part
held_after old (File_call key offset) (Filed Go) = Some (record { key = key; left = key.size - offset; taking = true })
held_after old (File_call key offset) (Filed (From place)) = Some (record { key = key; left = key.size - place; taking = false })
held_after old (File_call key offset) answer = None
held_after old (Data_call bytes) More = less (length bytes) old
held_after old (Data_call bytes) Whole_now = None
held_after old Leave_call Settled = None
held_after old call answer = old

abbrev pub open_after : Bool → Call → Answer → Bool
open_after old (Open_call role peers secure moment) (Begun number) = true
open_after old Leave_call Settled = false
open_after old call answer = old

-- the entry that is claimed after a call
abbrev pub claim_after : Option Claim → Call → Answer → Option Claim
claim_after old Offer_call (Offered number key) = Some (record { number = number; key = key })
claim_after old (Got_call number) Settled = None
claim_after old (Skip_call number) Settled = None
claim_after old Leave_call Settled = None
claim_after old call answer = old

abbrev pub part_after : DeskPart → Call → Answer → DeskPart
part_after old call answer =
    record { open_now = open_after old.open_now call answer; claim = claim_after old.claim call answer; held = held_after old.held call answer }

-- an entry is claimed
pub record HasClaim (part : DeskPart) : Type 0 where
  pub claim : Claim
  pub is : part.claim ≡ Some claim

abbrev pub number_in : Option Claim → ℕ
number_in None = 0
number_in (Some c) = c.number

abbrev pub size_in : Option Claim → ℕ
size_in None = 0
size_in (Some c) = c.key.size

-- so many bytes fit what is held
pub record Fits (part : DeskPart) (n : ℕ) : Type 0 where
  pub held : Part
  pub is : part.held ≡ Some held
  pub taking : held.taking ≡ true
  pub fits : n ≤ held.left

-- Of a held file with so many bytes left: more is to come only where fewer came, and it is whole only where all of them came.
abbrev pub DataExact : Option Part → ℕ → Answer → Type 0
DataExact (Some p) n More = n < p.left
DataExact (Some p) n Whole_now = n ≡ p.left
DataExact held n answer = Unit {0}

-- the claimed entry is queued with its key
pub record IsClaimed (c : Claim) (queue : List Entry) : Type 0 where
  pub entry : Entry
  pub there : Member entry queue
  pub numbered : entry.number ≡ c.number
  pub keyed : entry.key ≡ c.key

-- The part is that of the seat's session: whether one is open, the entry that it has claimed, and the file that it holds.
pub record IsPartAt (part : DeskPart) (seat : ℕ) (n : Node) : Type 0 where
  pub opened : part.open_now ≡ is_some (session_at n seat)
  pub claimed : option_map (λ (c : Claim). c.number) part.claim ≡ claim_in (session_at n seat)
  pub queued : (c : Claim) → part.claim ≡ Some c → IsClaimed c n.state.queue
  pub held : part.held ≡ part_at n seat

-- the same where a desk tells its node, and that isn't broken: of a broken store no held file is told
abbrev pub PartTold : DeskPart → ℕ → Knows → Type 0
PartTold part seat (Tells n) = n.broken ≡ None → IsPartAt part seat n
PartTold part seat (Counts_alone c) = Unit {0}
