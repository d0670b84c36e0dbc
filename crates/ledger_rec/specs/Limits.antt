-- What a record's fields may be.
use Rattle.std.specs.Prelude.{ℕ, ◌<◌, ◌≤◌, ◌^◌, List, length, slice_index}
use Rattle.ftn_addr.specs.Address.{Address}
use Rattle.ftn_addr.specs.Key.{Key}
use Rattle.ftn_addr.specs.Limits.{IsAddress, IsKey}
use Rattle.ledger_rec.specs.Record.{NewFileText, ReceivedText, RefusedText, MarkText, RecordText, Queue, Done, Received, Refused, Mark, Taken, Acted, Answered}

-- numbers of two bytes
pub record HasShortNumbers (a : Address) : Type 0 where
  pub zone : a.zone < 2 ^ 16
  pub net : a.net < 2 ^ 16
  pub node : a.node < 2 ^ 16
  pub point : a.point < 2 ^ 16

-- a path of at most 1024 bytes; actions from 0 to 2, flavours from 0 to 4
pub record IsNewFile (r : NewFileText) : Type 0 where
  pub dest : IsAddress r.dest
  pub key : IsKey r.key
  pub source : length r.source ≤ 1024
  pub action : r.action ≤ 2
  pub flavour : r.flavour ≤ 4

pub record IsReceived (r : ReceivedText) : Type 0 where
  pub from : IsAddress r.from
  pub key : IsKey r.key

-- reasons are 1 and 2
pub record IsRefused (r : RefusedText) : Type 0 where
  pub from : IsAddress r.from
  pub key : IsKey r.key
  pub some : 1 ≤ r.reason
  pub reason : r.reason ≤ 2

pub record IsMark (r : MarkText) : Type 0 where
  pub from : IsAddress r.from
  pub key : IsKey r.key

-- the fields keep their limits
abbrev pub Fits : RecordText → Type 0
Fits (Queue r) = IsNewFile r
Fits (Done number session) = Unit {0}
Fits (Received r) = IsReceived r
Fits (Refused r) = IsRefused r
Fits (Mark r) = IsMark r
Fits (Taken take) = Unit {0}
Fits (Acted number) = Unit {0}
Fits (Answered receipt) = Unit {0}

abbrev pub IsCount : ℕ → Type 0
IsCount n = n < 2 ^ 32

-- a size and a time of eight bytes
abbrev pub HasTime : Key → Type 0
HasTime k = (k.size < 2 ^ 64) × (k.time < 2 ^ 64)

-- numbers have four bytes; sizes, times and lengths have eight
abbrev pub HasNumbers : RecordText → Type 0
HasNumbers (Queue r) = IsCount r.number × HasTime r.key
HasNumbers (Done number session) = IsCount number × IsCount session
HasNumbers (Received r) = IsCount r.receipt × IsCount r.session × HasTime r.key
HasNumbers (Refused r) = IsCount r.session × HasTime r.key
HasNumbers (Mark r) = IsCount r.part × (r.len < 2 ^ 64) × HasTime r.key
HasNumbers (Taken take) = IsCount take
HasNumbers (Acted number) = IsCount number
HasNumbers (Answered receipt) = IsCount receipt

-- each of these is a byte
abbrev pub AreBytes : List ℕ → Type 0
AreBytes bytes = (i : ℕ) → slice_index bytes i < 256
