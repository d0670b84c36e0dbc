-- Nodes and points, their addresses in a domain, and sets of them (own).
use Rattle.std.specs.Prelude.{◌≡◌, ◌≢◌, ℕ, Bool, true, ◌==◌, nat_le, ◌&&◌, List, ◌++◌, Option, Some, None}
use Rattle.std.specs.List.{list_any}
use Rattle.std.specs.List.Sorted.{IsStrictlySortedBy}
use Rattle.std.specs.declared.cmp.Ordering.{Ordering}
use Rattle.std.specs.Ordering.{nat_cmp, ordering_then}
use Rattle.ftn_addr.specs.Address.{Address}
use Rattle.ftn_addr.specs.declared.limits.TheConstants.{MAX_ADDRESS_NUMBER}
use Rattle.bso_outbound.specs.Digits.{four_digits}
use Rattle.bso_outbound.specs.Names.{node_digits}
use Rattle.bso_outbound.specs.Reading.{IsNode, IsNumber}
use Rattle.outbound_places.specs.declared.place.Place.{Place}
use Rattle.outbound_places.specs.declared.set.PlaceSet.{PlaceSet}

-- numbers of at most 32767
pub record IsPlace (p : Place) : Type 0 where
  pub zone : IsNumber p.zone
  pub net : IsNumber p.net
  pub node : IsNumber p.node
  pub point : IsNumber p.point

abbrev pub is_place : Place → Bool
is_place p = nat_le p.zone MAX_ADDRESS_NUMBER && (nat_le p.net MAX_ADDRESS_NUMBER && (nat_le p.node MAX_ADDRESS_NUMBER && nat_le p.point MAX_ADDRESS_NUMBER))

-- its address in a domain
abbrev pub address_at : List ℕ → Place → Address
address_at domain p = record { zone = p.zone; net = p.net; node = p.node; point = p.point; domain = domain }

-- an address without its domain
abbrev pub place_at : Address → Place
place_at a = record { zone = a.zone; net = a.net; node = a.node; point = a.point }

-- the place of an address in a domain; none where it has no place there
abbrev pub PlaceIn : List ℕ → Address → Option Place → Type 0
PlaceIn domain a (Some p) = IsPlace p × (a ≡ address_at domain p)
PlaceIn domain a None = (p : Place) → IsPlace p → a ≢ address_at domain p

-- zone and net, node and point
abbrev pub joined : (ℕ × ℕ) × (ℕ × ℕ) → Place
joined ((zone, net), (node, point)) = record { zone = zone; net = net; node = node; point = point }

abbrev pub same_place : Place → Place → Bool
same_place p q = p.zone == q.zone && (p.net == q.net && (p.node == q.node && p.point == q.point))

abbrev pub AreHalves : (ℕ × ℕ) × (ℕ × ℕ) → Type 0
AreHalves halves = IsNode halves.0 × IsNode halves.1

-- four digits each
abbrev pub digits_of_halves : (ℕ × ℕ) × (ℕ × ℕ) → List ℕ
digits_of_halves halves = node_digits halves.0 ++ node_digits halves.1

-- zone, net, node and point, four digits each
abbrev pub digits_of : Place → List ℕ
digits_of p = (four_digits p.zone ++ four_digits p.net) ++ (four_digits p.node ++ four_digits p.point)

-- the place is in the set
abbrev pub has_place : PlaceSet → Place → Bool
has_place set p = list_any (λ q. same_place p q) set.places.keys

-- the address is that of a place in the set
pub record HasAddress (domain : List ℕ) (set : PlaceSet) (a : Address) : Type 0 where
  pub place : Place
  pub there : has_place set place ≡ true
  pub is : a ≡ address_at domain place

-- by zone, net, node and point
abbrev pub in_order : Address → Address → Ordering
in_order a b = ordering_then (nat_cmp a.zone b.zone) (ordering_then (nat_cmp a.net b.net) (ordering_then (nat_cmp a.node b.node) (nat_cmp a.point b.point)))

-- each comes before those after it
abbrev pub IsRising : List Address → Type 0
IsRising found = IsStrictlySortedBy in_order found
