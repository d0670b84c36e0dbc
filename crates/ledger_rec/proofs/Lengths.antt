-- How long a record is.
use Rattle.std.proofs.Common.{◌≡◌, ℕ, ◌<◌, ◌≤◌, true, eqb, List, [], ◌∷◌, ◌++◌, length, map, inl, inr, arith}
use Rattle.std.specs.Char.{to_ascii_lowercase}
use Rattle.std.specs.Fmt.{decimal}
use Rattle.std.proofs.lemmas.Bool.{cases_Bool}
use Rattle.std.proofs.lemmas.Bool.Decides.{nat_tests}
use Rattle.std.proofs.lemmas.Fmt.{length-decimal-le}
use Rattle.std.proofs.lemmas.List.{length-append, length-map}
use Rattle.ftn_addr.specs.Address.{Address}
use Rattle.ftn_addr.specs.Key.{Key}
use Rattle.ftn_addr.specs.Limits.{IsAddress, IsKey}
use Rattle.ftn_addr.specs.Domain.{is_domain}
use Rattle.ftn_addr.specs.Writing.{canonical, point_text}
use Rattle.ledger_rec.specs.Limits.{Fits}
use Rattle.ledger_rec.specs.Record.{RecordText, Queue, Done, Received, Refused, Mark, Taken, Acted, Answered}
use Rattle.ledger_rec.specs.Spelling.{address_bytes, key_bytes, path_bytes, flag_byte, number_bytes, wide_bytes, spelling}

number_short : (n : ℕ) → n ≤ 32767 → length (decimal n) ≤ 5
number_short n small = length-decimal-le 5 n (omega arith) (omega arith) (omega arith)

point_short : (n : ℕ) → n ≤ 32767 → length (point_text n) ≤ 6
point_short n small =
    elim (cases_Bool (eqb n 0)) as (λ _. length (point_text n) ≤ 6) [
      | inl none ↦ rw none (omega arith)
      | inr some ↦ rw some (let short = number_short n small in omega (arith, short))
    ]

domain_short : (d : List ℕ) → is_domain d ≡ true → length d ≤ 32
domain_short d is = grind (arith, nat_tests)

pub canonical_short : (a : Address) → IsAddress a → length (canonical a) ≤ 56
canonical_short a is =
    let zone = number_short a.zone is.zone in
    let net = number_short a.net is.net in
    let node = number_short a.node is.node in
    let point = point_short a.point is.point in
    let domain = domain_short a.domain is.domain in
    let same = length-map a.domain to_ascii_lowercase in
    let one = length-append (decimal a.zone) (58 ∷ decimal a.net) in
    let two = length-append (decimal a.zone ++ 58 ∷ decimal a.net) (47 ∷ decimal a.node) in
    let three = length-append (decimal a.zone ++ 58 ∷ decimal a.net ++ 47 ∷ decimal a.node) (point_text a.point) in
    let four = length-append (decimal a.zone ++ 58 ∷ decimal a.net ++ 47 ∷ decimal a.node ++ point_text a.point) (64 ∷ map to_ascii_lowercase a.domain) in
    omega arith

key_short : (k : Key) → IsKey k → length (key_bytes k) ≤ 217
key_short k is =
    let one = length-append k.name (wide_bytes k.size) in
    let two = length-append (k.name ++ wide_bytes k.size) (wide_bytes k.time) in
    let short = is.short in
    omega arith

pub spelling_some : (r : RecordText) → 0 < length (spelling r)
spelling_some r = omega arith

pub spelling_short : (r : RecordText) → Fits r → length (spelling r) ≤ 1400
spelling_short (Queue r) fits =
    let address = canonical_short r.dest fits.dest in
    let key = key_short r.key fits.key in
    let source = fits.source in
    let one = length-append (number_bytes r.number) (address_bytes r.dest) in
    let two = length-append (number_bytes r.number ++ address_bytes r.dest) (key_bytes r.key) in
    let three = length-append (number_bytes r.number ++ address_bytes r.dest ++ key_bytes r.key) (path_bytes r.source) in
    let four = length-append (number_bytes r.number ++ address_bytes r.dest ++ key_bytes r.key ++ path_bytes r.source) (r.action ∷ r.flavour ∷ []) in
    omega arith
spelling_short (Done number session) fits = omega arith
spelling_short (Received r) fits =
    let address = canonical_short r.from fits.from in
    let key = key_short r.key fits.key in
    let one = length-append (number_bytes r.receipt) (address_bytes r.from) in
    let two = length-append (number_bytes r.receipt ++ address_bytes r.from) (key_bytes r.key) in
    let three = length-append (number_bytes r.receipt ++ address_bytes r.from ++ key_bytes r.key) (number_bytes r.session) in
    let four = length-append (number_bytes r.receipt ++ address_bytes r.from ++ key_bytes r.key ++ number_bytes r.session) (flag_byte r.secure ∷ []) in
    omega arith
spelling_short (Refused r) fits =
    let address = canonical_short r.from fits.from in
    let key = key_short r.key fits.key in
    let one = length-append (address_bytes r.from) (key_bytes r.key) in
    let two = length-append (address_bytes r.from ++ key_bytes r.key) (number_bytes r.session) in
    let three = length-append (address_bytes r.from ++ key_bytes r.key ++ number_bytes r.session) (r.reason ∷ []) in
    omega arith
spelling_short (Mark r) fits =
    let address = canonical_short r.from fits.from in
    let key = key_short r.key fits.key in
    let one = length-append (number_bytes r.part) (address_bytes r.from) in
    let two = length-append (number_bytes r.part ++ address_bytes r.from) (key_bytes r.key) in
    let three = length-append (number_bytes r.part ++ address_bytes r.from ++ key_bytes r.key) (wide_bytes r.len) in
    omega arith
spelling_short (Taken take) fits = omega arith
spelling_short (Acted number) fits = omega arith
spelling_short (Answered receipt) fits = omega arith
