-- The nodes of an index (own).
use Rattle.std.specs.Prelude.{ℕ, zero, suc, ◌+◌, ◌-◌, ◌*◌, ◌/◌, ◌%◌, ◌^◌, ◌≤◌, ◌==◌, Bool, ◌&&◌, List, [], ◌∷◌, ◌++◌, length, Option, Some, None, Result, Ok, Err, if◌then◌else◌}
use Rattle.nodelist_comp.specs.Node.{ListedNode, place}
use Rattle.nodelist_comp.specs.declared.node.NodeKind.{NodeKind}
use Rattle.nodelist_comp.specs.declared.node.NodeKind.TheVariants.{Zone, Region, Host, Hub, Pvt, Hold, Down, Plain}
use Rattle.ftn_addr.specs.Outcomes.{◌>>=◌}
use Rattle.ftn_addr.specs.declared.limits.TheConstants.{MAX_ADDRESS_NUMBER}
use Rattle.nodelist_find.specs.Cursor.{Left, Span, after_magic, byte_at, byte_in, bytes_at, number_in}
use Rattle.nodelist_find.specs.declared.fault.IndexFault.{IndexFault}
use Rattle.nodelist_find.specs.declared.fault.IndexFault.TheVariants.{Bad}

-- zone, net and node
pub record SpotAt : Type 0 where
  pub zone : ℕ
  pub net : ℕ
  pub node : ℕ

abbrev pub place_at : SpotAt → ℕ
place_at spot = place spot.zone spot.net spot.node

abbrev pub address_of : ListedNode → SpotAt
address_of n = record { zone = n.zone; net = n.net; node = n.node }

-- The number of an address among all whose three numbers are at most 32767. It rises as addresses do.
abbrev pub ordinal : SpotAt → ℕ
ordinal spot = spot.zone * 0x40000000 + spot.net * 0x8000 + spot.node

-- the address with that number
abbrev pub spot_at : ℕ → SpotAt
spot_at n = record { zone = n / 0x40000000; net = n / 0x8000 % 0x8000; node = n % 0x8000 }

-- the addresses from one to another
pub record Bounds : Type 0 where
  pub low : SpotAt
  pub high : SpotAt

-- numbers of at most 32767
pub record IsSpot (spot : SpotAt) : Type 0 where
  pub zone : spot.zone ≤ MAX_ADDRESS_NUMBER
  pub net : spot.net ≤ MAX_ADDRESS_NUMBER
  pub node : spot.node ≤ MAX_ADDRESS_NUMBER

pub record IsBounds (b : Bounds) : Type 0 where
  pub low : IsSpot b.low
  pub high : IsSpot b.high

-- one of these addresses
pub record IsAmong (b : Bounds) (spot : SpotAt) : Type 0 where
  pub is : IsSpot spot
  pub low : ordinal b.low ≤ ordinal spot
  pub high : ordinal spot ≤ ordinal b.high

-- the addresses from a number on, but for the last of all that further nodes need, so many with this one
abbrev pub bounds_for : (next left : ℕ) → Bounds
bounds_for next left = record { low = spot_at next; high = spot_at (2 ^ 45 - left) }

abbrev pub zones_in : Bounds → Span
zones_in b = record { low = b.low.zone; high = b.high.zone }

-- the numbers of nets and of nodes: a bound counts behind its own numbers alone
abbrev pub span_if : (low high : Bool) → (least most : ℕ) → Span
span_if low high least most = record { low = if low then least else 0; high = if high then most else MAX_ADDRESS_NUMBER }

abbrev pub nets_in : Bounds → ℕ → Span
nets_in b zone = span_if (zone == b.low.zone) (zone == b.high.zone) b.low.net b.high.net

abbrev pub nodes_in : Bounds → ℕ → ℕ → Span
nodes_in b zone net =
    span_if (zone == b.low.zone && net == b.low.net) (zone == b.high.zone && net == b.high.net) b.low.node b.high.node

-- an address of these
unfoldable pub address_in : Bounds → Left → Result (SpotAt × Left) IndexFault
address_in b left = do
  zone ← number_in (zones_in b) left
  net ← number_in (nets_in b zone.0) zone.1
  node ← number_in (nodes_in b zone.0 net.0) net.1
  Ok (record { zone = zone.0; net = net.0; node = node.0 }, node.1)

abbrev pub kind_of : ℕ → Option NodeKind
kind_of byte =
    if byte == 0 then Some Zone
    else if byte == 1 then Some Region
    else if byte == 2 then Some Host
    else if byte == 3 then Some Hub
    else if byte == 4 then Some Pvt
    else if byte == 5 then Some Hold
    else if byte == 6 then Some Down
    else if byte == 7 then Some Plain
    else None

abbrev pub kind_or : ℕ → Left → Option NodeKind → Result (NodeKind × Left) IndexFault
kind_or place left None = Err (Bad place)
kind_or place left (Some kind) = Ok (kind, left)

unfoldable pub kind_at : Left → Result (NodeKind × Left) IndexFault
kind_at left = do
  byte ← byte_at left
  kind_or left.place byte.1 (kind_of byte.0)

-- one byte of length, and the host
unfoldable pub host_at : Left → Result (List ℕ × Left) IndexFault
host_at left = do
  len ← byte_in (record { low = 0; high = 255 }) left
  bytes_at len.0 len.1

-- all numbers of two bytes
abbrev pub all_numbers : Span
all_numbers = record { low = 0; high = 65535 }

-- a node whose address is one of these
unfoldable pub node_at : Bounds → Left → Result (ListedNode × Left) IndexFault
node_at b left = do
  address ← address_in b left
  kind ← kind_at address.1
  host ← host_at kind.1
  port ← number_in all_numbers host.1
  Ok (record { zone = address.0.zone; net = address.0.net; node = address.0.node; kind = kind.0; host = host.0; port = port.0 }, port.1)

-- a count of at most 65536 in four bytes
unfoldable pub count_at : Left → Result (ℕ × Left) IndexFault
count_at left = do
  high ← number_in (record { low = 0; high = 1 }) left
  low ← number_in (record { low = 0; high = if high.0 == 1 then 0 else 65535 }) high.1
  Ok (high.0 * 65536 + low.0, low.1)

-- the nodes so far, and so many more, whose addresses have numbers from the next on
abbrev pub nodes_from : (count next : ℕ) → List ListedNode → Left → Result (List ListedNode × Left) IndexFault
nodes_from zero next nodes left = Ok (nodes, left)
nodes_from (suc count) next nodes left =
    node_at (bounds_for next (suc count)) left >>= λ x. nodes_from count (ordinal (address_of x.0) + 1) (nodes ++ x.0 ∷ []) x.1

abbrev pub at_end : List ListedNode → Left → Result (List ListedNode) IndexFault
at_end nodes left = if length left.rest == 0 then Ok nodes else Err (Bad left.place)

-- the nodes of an index; no byte stands behind the last
unfoldable pub read_index : List ℕ → Result (List ListedNode) IndexFault
read_index bytes = do
  left ← after_magic bytes
  count ← count_at left
  nodes ← nodes_from count.0 0 [] count.1
  at_end nodes.0 nodes.1
