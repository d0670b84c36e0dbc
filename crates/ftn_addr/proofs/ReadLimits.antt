-- What is read of a home within the limits is an address within the limits.
use Rattle.std.proofs.Common.{◌≡◌, ℕ, ◌+◌, ◌<◌, ◌≤◌, Bool, true, false, not, ◌&&◌, ltb, List, [], ◌∷◌, length, map, Option, Some, None, Result, Ok, Err, refl, sym, subst, arith}
use Rattle.std.specs.Prelude.{◌||◌, nat_le, if◌then◌else◌, IfOk}
use Rattle.std.specs.Char.{to_ascii_lowercase}
use Rattle.std.specs.List.{list_all}
use Rattle.std.proofs.lemmas.Bool.{ltb-false, le-ltb, and_parts, and_from, agree_below_at}
use Rattle.std.proofs.lemmas.Bool.Decides.{nat_tests}
use Rattle.std.proofs.lemmas.List.{length-map}
use Rattle.ftn_addr.specs.Address.{Address, address}
use Rattle.ftn_addr.proofs.Outcomes.{steps_ok}
use Rattle.ftn_addr.specs.Digits.{is_numeral, number_of}
use Rattle.ftn_addr.specs.Domain.{domain_byte, is_domain}
use Rattle.ftn_addr.specs.Limits.{IsAddress}
use Rattle.ftn_addr.specs.Outcomes.{Gives}
use Rattle.ftn_addr.specs.Parts.{Piece, Pieces, pieces_of}
use Rattle.ftn_addr.specs.Reading.{number_at, number_or, domain_at, domain_or, reading, reading_of}
use Rattle.ftn_addr.specs.declared.addr.Addr.{Addr}
use Rattle.ftn_addr.specs.declared.reading.AddrFault.{AddrFault}
use Rattle.ftn_addr.specs.declared.reading.AddrFault.TheVariants.{NoNet, BadNumber, TooBig, BadDomain, NoMemory}

small_number : (p : Piece) (n : ℕ) → number_at p ≡ Ok n → n ≤ 32767
unfolding number_at
small_number p n e = go (not (is_numeral p.bytes)) (ltb 32767 (number_of p.bytes)) refl e
  where
    go : (a b : Bool) → ltb 32767 (number_of p.bytes) ≡ b → (if a then Err (BadNumber p.place) else if b then Err (TooBig p.place) else Ok (number_of p.bytes)) ≡ Ok n → n ≤ 32767
    go true b t e = absurd (let clash : Err (BadNumber p.place) ≡ Ok n = e in cc)
    go false true t e = absurd (let clash : Err (TooBig p.place) ≡ Ok n = e in cc)
    go false false t e = let same : number_of p.bytes ≡ n = cc in subst (λ k. k ≤ 32767) same (ltb-false _ _ t)

small_or : (p : Option Piece) (missing n : ℕ) → missing ≤ 32767 → number_or p missing ≡ Ok n → n ≤ 32767
small_or None missing n small e = let same : missing ≡ n = cc in subst (λ k. k ≤ 32767) same small
small_or (Some piece) missing n small e = small_number piece n e

-- a letter in lower case stays
lower_byte : (c : ℕ) → to_ascii_lowercase (to_ascii_lowercase c) ≡ to_ascii_lowercase c
lower_byte c = go (ltb c 65) (ltb c 91) refl refl
  where
    go : (a b : Bool) → ltb c 65 ≡ a → ltb c 91 ≡ b → to_ascii_lowercase (to_ascii_lowercase c) ≡ to_ascii_lowercase c
    go true b s t = rw (s, s) refl
    go false true s t =
        let at : 65 ≤ c = ltb-false c 65 s in
        let below : ltb (c + 32) 65 ≡ false = le-ltb (c + 32) 65 (omega arith) in
        let past : ltb (c + 32) 91 ≡ false = le-ltb (c + 32) 91 (omega arith) in
        rw (s, t, below, past) refl
    go false false s t = rw (s, t, s, t) refl

pub lower_lower : (bytes : List ℕ) → map to_ascii_lowercase (map to_ascii_lowercase bytes) ≡ map to_ascii_lowercase bytes
lower_lower [] = refl
lower_lower (x ∷ xs) = rw (lower_byte x, lower_lower xs) refl

letters : (c : ℕ) → domain_byte c ≡ true → c < 123
letters c h = grind (arith, nat_tests)

lower_domain_byte : (c : ℕ) → domain_byte c ≡ true → domain_byte (to_ascii_lowercase c) ≡ true
lower_domain_byte c h =
    let small = letters c h in
    let table : (not (domain_byte c) || domain_byte (to_ascii_lowercase c)) ≡ true = agree_below_at (λ k. not (domain_byte k) || domain_byte (to_ascii_lowercase k)) (λ k. true) 123 c refl small in
    rw h at table

lower_bytes : (bytes : List ℕ) → list_all domain_byte bytes ≡ true → list_all domain_byte (map to_ascii_lowercase bytes) ≡ true
lower_bytes [] h = refl
lower_bytes (x ∷ xs) h = let parts = and_parts (domain_byte x) (list_all domain_byte xs) h in and_from _ _ (lower_domain_byte x parts.0) (lower_bytes xs parts.1)

pub lower_domain : (bytes : List ℕ) → is_domain bytes ≡ true → is_domain (map to_ascii_lowercase bytes) ≡ true
lower_domain bytes h =
    let outer = and_parts (ltb 0 (length bytes) && nat_le (length bytes) 32) (list_all domain_byte bytes) h in
    rw length-map (and_from _ _ outer.0 (lower_bytes bytes outer.1))

-- a domain within the limits
abbrev pub IsDomain : List ℕ → Type 0
IsDomain d = (is_domain d ≡ true) × (map to_ascii_lowercase d ≡ d)

good_domain : (p : Piece) (d : List ℕ) → domain_at p ≡ Ok d → IsDomain d
unfolding domain_at
good_domain p d e = go (is_domain p.bytes) refl e
  where
    go : (a : Bool) → is_domain p.bytes ≡ a → (if a then Ok (map to_ascii_lowercase p.bytes) else Err (BadDomain p.place)) ≡ Ok d → IsDomain d
    go true t e = let same : map to_ascii_lowercase p.bytes ≡ d = cc in subst IsDomain same (lower_domain p.bytes t, lower_lower p.bytes)
    go false t e = absurd (let clash : Err (BadDomain p.place) ≡ Ok d = e in cc)

good_or : (p : Option Piece) (missing d : List ℕ) → IsDomain missing → domain_or p missing ≡ Ok d → IsDomain d
good_or None missing d good e = let same : missing ≡ d = cc in subst IsDomain same good
good_or (Some piece) missing d good e = good_domain piece d e

-- what is read of a home with such a domain is within the limits, if its zone is
pieces_within : (p : Option Pieces) (home a : Address) → IsDomain home.domain → reading_of p home ≡ Ok a → a.zone ≤ 32767 → IsAddress a
pieces_within None home a good e small = absurd (let clash : Err NoNet ≡ Ok a = e in cc)
pieces_within (Some pieces) home a good e small =
    let zone = steps_ok (number_or pieces.zone home.zone) _ a e in
    let net = steps_ok (number_at pieces.net) _ a zone.2 in
    let node = steps_ok (number_at pieces.node) _ a net.2 in
    let point = steps_ok (number_or pieces.point 0) _ a node.2 in
    let domain = steps_ok (domain_or pieces.domain home.domain) _ a point.2 in
    let kept = good_or pieces.domain home.domain domain.0 good domain.1 in
    let read : Address = record { zone = zone.0; net = net.0; node = node.0; point = point.0; domain = domain.0 } in
    let same : read ≡ a = cc in
    subst IsAddress same (record {
      zone = subst (λ (b : Address). b.zone ≤ 32767) (sym same) small;
      net = small_number pieces.net net.0 net.1;
      node = small_number pieces.node node.0 node.1;
      point = small_or pieces.point 0 point.0 (omega arith) point.1;
      domain = kept.0;
      lower_case = kept.1;
    })

-- a home's zone within the limits keeps the zone within them
zone_within : (p : Option Pieces) (home a : Address) → home.zone ≤ 32767 → reading_of p home ≡ Ok a → a.zone ≤ 32767
zone_within None home a small e = absurd (let clash : Err NoNet ≡ Ok a = e in cc)
zone_within (Some pieces) home a small e =
    let zone = steps_ok (number_or pieces.zone home.zone) _ a e in
    let net = steps_ok (number_at pieces.net) _ a zone.2 in
    let node = steps_ok (number_at pieces.node) _ a net.2 in
    let point = steps_ok (number_or pieces.point 0) _ a node.2 in
    let domain = steps_ok (domain_or pieces.domain home.domain) _ a point.2 in
    let read : Address = record { zone = zone.0; net = net.0; node = node.0; point = point.0; domain = domain.0 } in
    let same : read ≡ a = cc in
    subst (λ (b : Address). b.zone ≤ 32767) same (small_or pieces.zone home.zone zone.0 small zone.1)

-- the same of a home whose zone may be any, as where a text names none
pub reading_within_zone : (text : List ℕ) (home a : Address) → IsDomain home.domain → reading text home ≡ Ok a → a.zone ≤ 32767 → IsAddress a
reading_within_zone text home a good e small = pieces_within (pieces_of text) home a good e small

pub reading-limits : (text : List ℕ) (home a : Address) → IsAddress home → reading text home ≡ Ok a → IsAddress a
reading-limits text home a is e = pieces_within (pieces_of text) home a (is.domain, is.lower_case) e (zone_within (pieces_of text) home a is.zone e)

pub read_within : (text : List ℕ) (home : Address) (read : Result Addr AddrFault) → Gives NoMemory address read (reading text home) → IsAddress home → IfOk read (λ addr. IsAddress (address addr))
read_within text home (Ok addr) gives is = reading-limits text home (address addr) is gives
read_within text home (Err fault) gives is = tt
