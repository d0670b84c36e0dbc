-- Which seat's session holds a file of a sender, as an index finds it (own).
use Rattle.std.specs.Prelude.{ℕ, Bool, true, false, List, Option, Some, None}
use Rattle.std.specs.BTreeMap.{BTreeMap}
use Rattle.std.specs.Map.{lookup}
use Rattle.ftn_addr.specs.Address.{Address, address, same_address}
use Rattle.ftn_addr.specs.Key.{Key, key_of, same_key}
use Rattle.ftn_addr.specs.declared.addr.Addr.{Addr}
use Rattle.ftn_addr.specs.declared.addr.FileKey.{FileKey}
use Rattle.node_model.specs.declared.desk.FileIn.{FileIn}
use Rattle.node_model.specs.declared.desk.FileIn.TheVariants as F
use Rattle.hub_core.specs.declared.hold_index.HoldIndex.{HoldIndex}
use Rattle.hub_core.specs.Hubs.{Sitting, Chair}
use Rattle.hub_core.specs.Indices.{Finds}
use Rattle.hub_core.specs.Steps.{sitting_holds}

abbrev pub seat_under : Option (BTreeMap Addr ℕ) → Address → Option ℕ
seat_under None from = None
seat_under (Some senders) from = lookup (λ a. same_address from (address a)) senders.entries

-- the seat that stands under the key and the sender
abbrev pub holder_in : List (FileKey × BTreeMap Addr ℕ) → Address → Key → Option ℕ
holder_in entries from key = seat_under (lookup (λ k. same_key key (key_of k)) entries) from

abbrev pub holder : HoldIndex → Address → Key → Option ℕ
holder index from key = holder_in index.seats.entries from key

-- a file of a sender that the session holds
abbrev pub holds_filed : Address × Key → Option Sitting → Bool
holds_filed f o = sitting_holds f.0 f.1 o

abbrev pub holder_of : HoldIndex → Address × Key → Option ℕ
holder_of index f = holder index f.0 f.1

-- the index has what the sessions of these seats hold
abbrev pub HoldsOf : HoldIndex → List Chair → Type 0
HoldsOf index chairs = Finds holds_filed (holder_of index) chairs

-- whether an answer makes the session hold the file
abbrev pub takes : FileIn → Bool
takes F.Go = true
takes (F.From place) = true
takes F.Whole = false
takes F.Have = false
takes F.Refuse = false
takes F.Elsewhere = false
takes F.Late = false
