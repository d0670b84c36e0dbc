-- What names are read as.
use Rattle.std.specs.Prelude.{◌≡◌, ◌≢◌, ◌∷◌, ◌++◌, ℕ, ◌<◌, ◌≤◌, Bool, true, ◌==◌, not, List, Option, Some, None}
use Rattle.std.specs.List.{list_all}
use Rattle.ftn_addr.specs.Address.{Address, address}
use Rattle.ftn_addr.specs.Limits.{IsAddress}
use Rattle.ftn_addr.specs.declared.addr.Addr.{Addr}
use Rattle.ftn_addr.specs.declared.limits.TheConstants.{MAX_ADDRESS_NUMBER}
use Rattle.bso_outbound.specs.declared.kind.Kind.{Kind}
use Rattle.bso_outbound.specs.declared.spot.Spot.{Spot}
use Rattle.bso_outbound.specs.Kinds.{ending}
use Rattle.bso_outbound.specs.Names.{name_in_zone, outbound_name, zone_folder}
use Rattle.bso_outbound.specs.Paths.{as_compared, lower_case}

-- What was read is a value whose text this is, as texts are compared; nothing was read only where no value has this text.
abbrev pub ReadsBy : {A : Type 0} → (compared : List ℕ → List ℕ) → (A → Type 0) → (A → List ℕ) → List ℕ → Option A → Type 0
ReadsBy compared Fits spelled text (Some x) = Fits x × (compared text ≡ compared (spelled x))
ReadsBy compared Fits spelled text None = (x : _) → Fits x → compared text ≢ compared (spelled x)

-- the same of a name, with ASCII case ignored
abbrev pub Reads : {A : Type 0} → (A → Type 0) → (A → List ℕ) → List ℕ → Option A → Type 0
Reads Fits spelled name found = ReadsBy lower_case Fits spelled name found

-- a zone, a net, a node or a point
abbrev pub IsNumber : ℕ → Type 0
IsNumber n = n ≤ MAX_ADDRESS_NUMBER

-- a net and a node
abbrev pub IsNode : ℕ × ℕ → Type 0
IsNode node = IsNumber node.0 × IsNumber node.1

-- a point of a node
abbrev pub IsPoint : ℕ → Type 0
IsPoint n = (0 < n) × IsNumber n

-- a node of a zone, or a point of one
abbrev pub IsSpot : Spot → Type 0
IsSpot spot = IsNode (spot.net, spot.node) × IsNumber spot.point

abbrev pub no_slash : List ℕ → Bool
no_slash name = list_all (λ byte. not (byte == 47)) name

-- a file of a spot, in the folder of its zone
abbrev pub name_at : Spot × Kind → List ℕ
name_at file = name_in_zone (file.0.net, file.0.node) file.0.point (ending file.1)

-- a file in the outbound of a base, behind the folder above the base
abbrev pub name_below : List ℕ → ℕ → ℕ × (Spot × Kind) → List ℕ
name_below base default file = zone_folder base file.0 default ++ 47 ∷ name_at file.1

-- an address of a domain, within the limits of addresses
abbrev pub IsOfDomain : List ℕ → Address × Kind → Type 0
IsOfDomain domain file = IsAddress file.0 × (file.0.domain ≡ domain)

-- The address and kind whose outbound name a path is; None exactly where no address of the domain has that name.
abbrev pub AddressOf : (base : List ℕ) (default : ℕ) (domain path : List ℕ) → Option (Address × Kind) → Type 0
AddressOf base default domain path found =
    ReadsBy (as_compared base) (IsOfDomain domain) (λ file. outbound_name file.0 file.1 base default) path found

-- an address and a kind, without where the domain lies in memory
abbrev pub named : Addr × Kind → Address × Kind
named file = (address file.0, file.1)

-- what stands before the first `/` of a path and what stands behind it; None where it has none
abbrev pub CutAtSlash : List ℕ → Option (List ℕ × List ℕ) → Type 0
CutAtSlash path (Some (front, back)) = (path ≡ front ++ 47 ∷ back) × (no_slash front ≡ true)
CutAtSlash path None = no_slash path ≡ true

-- a file of a node, by net and node
abbrev pub at_node : (ℕ × ℕ) × Kind → Spot × Kind
at_node ((net, node), kind) = (record { net = net; node = node; point = 0 }, kind)

-- a file of a point, by net and node, and its point
abbrev pub at_point : (ℕ × ℕ) × (ℕ × Kind) → Spot × Kind
at_point ((net, node), (point, kind)) = (record { net = net; node = node; point = point }, kind)
