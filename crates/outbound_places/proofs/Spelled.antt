-- Places by their digits.
use Rattle.std.proofs.Common.{◌≡◌, ◌∙◌, ℕ, List, length, Option, Some, None, refl, sym, arith, length-append}
use Rattle.std.specs.Prelude.{option_map}
use Rattle.ftn_addr.specs.Address.{Address}
use Rattle.ftn_addr.specs.Limits.{IsAddress}
use Rattle.bso_outbound.specs.Names.{node_digits}
use Rattle.bso_outbound.specs.Paths.{lower_case}
use Rattle.bso_outbound.specs.Reading.{AddressOf, Reads}
use Rattle.bso_outbound.proofs.Numbers.{length-node, one_node}
use Rattle.bso_outbound.proofs.Texts.{halves}
use Rattle.outbound_places.specs.declared.place.Place.{Place}
use Rattle.outbound_places.specs.Files.{IsFor}
use Rattle.outbound_places.specs.Places.{AreHalves, IsPlace, address_at, digits_of, digits_of_halves, joined}

pub length-halves : (h : (ℕ × ℕ) × (ℕ × ℕ)) → length (digits_of_halves h) ≡ 16
length-halves h = omega (arith, length-append (node_digits h.0) (node_digits h.1), length-node h.0, length-node h.1)

pub read_place : (s : List ℕ) (r : Option ((ℕ × ℕ) × (ℕ × ℕ))) → Reads AreHalves digits_of_halves s r → Reads IsPlace digits_of s (option_map joined r)
read_place s None a = λ p fits is. a ((p.zone, p.net), (p.node, p.point)) ((fits.zone, fits.net), (fits.node, fits.point)) is
read_place s (Some h) a = (record { zone = a.0.0.0; net = a.0.0.1; node = a.0.1.0; point = a.0.1.1 }, a.1)

-- no other place has those digits
pub one_spelled : (p q : Place) → IsPlace p → IsPlace q → lower_case (digits_of p) ≡ lower_case (digits_of q) → p ≡ q
one_spelled p q a b is =
    let parts = halves (node_digits (p.zone, p.net)) (node_digits (p.node, p.point)) (node_digits (q.zone, q.net)) (node_digits (q.node, q.point)) (length-node (p.zone, p.net) ∙ sym (length-node (q.zone, q.net))) is in
    let front = one_node (p.zone, p.net) (q.zone, q.net) (a.zone, a.net) (b.zone, b.net) parts.0 in
    let back = one_node (p.node, p.point) (q.node, q.point) (a.node, a.point) (b.node, b.point) parts.1 in
    λ i. joined (front i, back i)

-- no address of the home's domain has that name, and so no place
pub for_none : (base path : List ℕ) (default : ℕ) (home : Address) → IsAddress home → AddressOf base default home.domain path None → (p : Place) → IsFor base default path p → ⊥
for_none base path default home within none p f =
    none (address_at home.domain p, f.kind) (record { zone = f.within.zone; net = f.within.net; node = f.within.node; point = f.within.point; domain = within.domain; lower_case = within.lower_case }, refl) f.named
