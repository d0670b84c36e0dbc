-- The fields of a node are read back.
use Rattle.std.proofs.Common.{◌≡◌, ℕ, ◌+◌, ◌*◌, ◌/◌, ◌%◌, ◌<◌, ◌≤◌, Bool, true, false, cond, eqb, leb, ltb, List, [], ◌∷◌, ◌++◌, length, get_or, Result, Ok, refl, ap, inl, inr, arith}
use Rattle.std.specs.Int.{w16, to_be_bytes}
use Rattle.std.proofs.lemmas.Bool.{cases_Bool, eqb-true, le-leb, le-ltb, ltb-false}
use Rattle.std.proofs.lemmas.List.{take_at, drop_at, length-append}
use Rattle.std.proofs.lemmas.Nat.{from_be_bytes-to_be_bytes_2}
use Rattle.nodelist_comp.specs.Index.{host_bytes, kind_byte}
use Rattle.nodelist_comp.specs.declared.node.NodeKind.{NodeKind}
use Rattle.nodelist_comp.specs.declared.node.NodeKind.TheVariants.{Zone, Region, Host, Hub, Pvt, Hold, Down, Plain}
use Rattle.nodelist_find.proofs.Among.{Within, zone_within, net_within, node_within}
use Rattle.nodelist_find.specs.Cursor.{Left, Span, byte_at, byte_in, bytes_at, number_in}
use Rattle.nodelist_find.specs.Nodes.{Bounds, IsAmong, IsBounds, SpotAt, address_in, host_at, kind_at, nets_in, nodes_in, zones_in}
use Rattle.nodelist_find.specs.declared.fault.IndexFault.{IndexFault}

abbrev pub left : ℕ → List ℕ → Left
left place rest = record { place = place; rest = rest }

-- what was read, and what is left behind it
abbrev pub Reads : {X : Type 0} → Result (X × Left) IndexFault → X → List ℕ → Type 0
Reads read x rest = (place : ℕ) × (read ≡ Ok (x, record { place = place; rest = rest }))

-- the two bytes of a number
abbrev high : ℕ → ℕ
high n = get_or (to_be_bytes w16 n) 0 0

abbrev low : ℕ → ℕ
low n = get_or (to_be_bytes w16 n) 1 0

whole : (n : ℕ) → n < 65536 → high n * 256 + low n ≡ n
whole n small = from_be_bytes-to_be_bytes_2 n small

low_over : (n low : ℕ) (p : Bool) → eqb (high n) (low / 256) ≡ p → n < 65536 → low ≤ n → leb (cond p (low % 256) 0) (get_or (to_be_bytes w16 n) 1 0) ≡ true
low_over n bound true e small over = le-leb _ _ (let sum = whole n small in let same = eqb-true (high n) (bound / 256) e in omega (arith, sum, same, over))
low_over n bound false e small over = le-leb _ _ (omega arith)

low_under : (n high_bound : ℕ) (p : Bool) → eqb (high n) (high_bound / 256) ≡ p → n < 65536 → n ≤ high_bound → leb (get_or (to_be_bytes w16 n) 1 0) (cond p (high_bound % 256) 255) ≡ true
low_under n bound true e small under = le-leb _ _ (let sum = whole n small in let same = eqb-true (high n) (bound / 256) e in omega (arith, sum, same, under))
low_under n bound false e small under = le-leb _ _ (omega arith)

pub number_again : (span : Span) (place n : ℕ) (rest : List ℕ) → n < 65536 → Within span n → number_in span (left place (to_be_bytes w16 n ++ rest)) ≡ Ok (n, left (place + 1 + 1) rest)
unfolding number_in byte_in byte_at
number_again span place n rest small within =
    let sum = whole n small in
    let over : leb (span.low / 256) (high n) ≡ true = le-leb _ _ (omega (arith, sum, within.0)) in
    let under : leb (high n) (span.high / 256) ≡ true = le-leb _ _ (omega (arith, sum, within.1)) in
    let low_is = low_over n span.low (eqb (high n) (span.low / 256)) refl small within.0 in
    let high_is = low_under n span.high (eqb (high n) (span.high / 256)) refl small within.1 in
    rw (over, under, low_is, high_is) (ap (λ (k : ℕ). Ok (k, left (place + 1 + 1) rest)) sum)

abbrev pub address_bytes : SpotAt → List ℕ → List ℕ
address_bytes s rest = to_be_bytes w16 s.zone ++ (to_be_bytes w16 s.net ++ (to_be_bytes w16 s.node ++ rest))

pub address_again : (place : ℕ) (b : Bounds) (s : SpotAt) (rest : List ℕ) → IsBounds b → IsAmong b s → address_in b (left place (address_bytes s rest)) ≡ Ok (s, left (place + 1 + 1 + 1 + 1 + 1 + 1) rest)
unfolding address_in
address_again place b s rest is at =
    let z : s.zone ≤ 32767 = at.is.zone in let n : s.net ≤ 32767 = at.is.net in let d : s.node ≤ 32767 = at.is.node in
    let zone = number_again (zones_in b) place s.zone (to_be_bytes w16 s.net ++ (to_be_bytes w16 s.node ++ rest)) (omega (arith, z)) (zone_within b s is at) in
    let net = number_again (nets_in b s.zone) (place + 1 + 1) s.net (to_be_bytes w16 s.node ++ rest) (omega (arith, n)) (net_within b s is at) in
    let node = number_again (nodes_in b s.zone s.net) (place + 1 + 1 + 1 + 1) s.node rest (omega (arith, d)) (node_within b s is at) in
    rw (zone, net, node) refl

pub kind_again : (place : ℕ) (kind : NodeKind) (rest : List ℕ) → kind_at (left place (kind_byte kind ∷ rest)) ≡ Ok (kind, left (place + 1) rest)
unfolding kind_at byte_at
kind_again place Zone rest = refl
kind_again place Region rest = refl
kind_again place Host rest = refl
kind_again place Hub rest = refl
kind_again place Pvt rest = refl
kind_again place Hold rest = refl
kind_again place Down rest = refl
kind_again place Plain rest = refl

-- a host of more than 255 bytes is taken as empty
abbrev pub clipped_host : List ℕ → List ℕ
clipped_host host = cond (ltb 255 (length host)) [] host

pub host_again : (place : ℕ) (host rest : List ℕ) → Reads (host_at (left place (host_bytes host ++ rest))) (clipped_host host) rest
unfolding host_at byte_in byte_at bytes_at
host_again place host rest =
    elim (cases_Bool (ltb 255 (length host))) as (λ _. Reads (host_at (left place (host_bytes host ++ rest))) (clipped_host host) rest) [
      | inl long ↦ (place + 1 + 0, (let room : ltb (length rest) 0 ≡ false = le-ltb (length rest) 0 (omega arith) in rw (long, room) refl))
      | inr short ↦ (place + 1 + length host, (let some : leb 0 (length host) ≡ true = le-leb _ _ (omega arith) in let fits : leb (length host) 255 ≡ true = le-leb _ _ (ltb-false 255 (length host) short) in let room : ltb (length (host ++ rest)) (length host) ≡ false = le-ltb (length (host ++ rest)) (length host) (omega (arith, length-append host rest)) in rw (short, some, fits, room, take_at host rest (length host) refl, drop_at host rest (length host) refl) refl))
    ]
