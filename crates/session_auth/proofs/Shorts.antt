-- What is said is short.
use Rattle.std.proofs.Common.{◌≡◌, ℕ, ◌+◌, ◌-◌, ◌≤◌, true, eqb, leb, List, [], ◌∷◌, length, map, codes, inl, inr, arith}
use Rattle.std.specs.Fmt.{decimal}
use Rattle.std.proofs.lemmas.Bool.{cases_Bool, and_parts, leb-true, le-leb}
use Rattle.std.proofs.lemmas.Fmt.{length-decimal-le}
use Rattle.std.proofs.lemmas.List.{length-append, length-map, length-take}
use Rattle.hex.specs.Hex.{encode_with, lower_digits}
use Rattle.hex.proofs.HexLemmas.{length-encode_with}
use Rattle.md5.proofs.StandardFacts.{length-md5}
use Rattle.ftn_addr.specs.Address.{Address}
use Rattle.ftn_addr.specs.Limits.{IsAddress}
use Rattle.ftn_addr.specs.Writing.{canonical, point_text}
use Rattle.binkp_args.specs.Command.{Adr}
use Rattle.binkp_args.specs.Limits.{AreAddresses}
use Rattle.binkp_args.specs.Words.{spaced}
use Rattle.binkp_args.specs.Writing.{argument_of, IsKnown}
use Rattle.cram_md5.specs.Answer.{answer}
use Rattle.cram_md5.specs.Hmac.{hmac}
use Rattle.cram_md5.specs.Offer.{Offered, Absent, Md5, Foreign, Bad, offer_spelling}
use Rattle.session_auth.specs.Greeting.{announced, fitting}
use Rattle.session_auth.specs.Passwords.{is_password, hidden_password, spoken_password}

pub offer_length : (challenge : List ℕ) → length challenge ≡ 16 → length (offer_spelling challenge) ≡ 41
offer_length challenge e = omega (arith, length-append (codes "CRAM-MD5-") (encode_with lower_digits challenge), length-encode_with lower_digits challenge, e)

pub answer_length : (password challenge : List ℕ) → length (answer password challenge) ≡ 41
answer_length password challenge =
    let digest : length (hmac password challenge) ≡ 16 = length-md5 _ in
    omega (arith, length-append (codes "CRAM-MD5-") (encode_with lower_digits (hmac password challenge)), length-encode_with lower_digits (hmac password challenge), digest)

hidden_short : (password : List ℕ) (offer : Offered) → length (hidden_password password offer) ≤ 1024
hidden_short password (Md5 challenge) = omega (arith, answer_length password challenge)
hidden_short password Absent = omega (arith, length-take 1024 password)
hidden_short password Foreign = omega (arith, length-take 1024 password)
hidden_short password Bad = omega (arith, length-take 1024 password)

pub spoken_short : (password : List ℕ) (offer : Offered) → length (spoken_password password offer) ≤ 1024
spoken_short password offer =
    elim (cases_Bool (is_password password)) as (λ _. length (spoken_password password offer) ≤ 1024) [
      | inl e ↦ rw e (hidden_short password offer)
      | inr e ↦ rw e (omega arith)
    ]

-- Addresses.

five_digits : (n : ℕ) → n ≤ 32767 → length (decimal n) ≤ 5
five_digits n small = length-decimal-le 5 n (omega arith) (omega arith) (omega arith)

point_short : (n : ℕ) → n ≤ 32767 → length (point_text n) ≤ 6
point_short n small = elim (cases_Bool (eqb n 0)) as (λ _. length (point_text n) ≤ 6) [ inl e ↦ rw e (omega arith) | inr e ↦ rw e (let some = five_digits n small in omega arith) ]

address_short : (a : Address) → IsAddress a → length (canonical a) ≤ 56
address_short a is =
    let zone = five_digits a.zone is.zone in
    let net = five_digits a.net is.net in
    let node = five_digits a.node is.node in
    let point = point_short a.point is.point in
    let domain : length a.domain ≤ 32 = leb-true (length a.domain) 32 (and_parts _ _ (and_parts _ _ is.domain).0).1 in
    simp (length-append, length-map) (omega arith)

-- the texts, with a space behind each
abbrev pub total : List Address → ℕ
total [] = 0
total (a ∷ more) = length (canonical a) + 1 + total more

spaced_short : (addresses : List Address) → length (spaced (map canonical addresses)) ≤ total addresses - 1
spaced_short [] = omega arith
spaced_short (a ∷ []) = omega arith
spaced_short (a ∷ b ∷ more) =
    let rest = spaced_short (b ∷ more) in
    omega (arith, length-append (canonical a) (32 ∷ spaced (map canonical (b ∷ more))))

fitting_short : (room : ℕ) (addresses : List Address) → total (fitting room addresses) ≤ room
fitting_short room [] = omega arith
fitting_short room (a ∷ more) =
    let rest = fitting_short (room - (length (canonical a) + 1)) more in
    elim (cases_Bool (leb (length (canonical a) + 1) room)) as (λ _. total (fitting room (a ∷ more)) ≤ room) [
      | inl e ↦ rw e (let fits = leb-true _ _ e in omega arith)
      | inr e ↦ rw e (omega arith)
    ]

-- the argument of the own M_ADR has 32,000 bytes at the most
pub announced_short : (addresses : List Address) → length (argument_of (Adr (announced addresses))) ≤ 32000
announced_short addresses = omega (arith, spaced_short (announced addresses), fitting_short 32001 addresses)

-- the first address is among them
pub announced_some : (addresses : List Address) → AreAddresses addresses → IsKnown (Adr (announced addresses))
announced_some [] are = absurd (let some = are.some in omega arith)
announced_some (a ∷ more) are =
    let first = address_short a (are.each 0 a (omega arith)) in
    let fits : leb (length (canonical a) + 1) 32001 ≡ true = le-leb _ _ (omega arith) in
    rw fits tt
