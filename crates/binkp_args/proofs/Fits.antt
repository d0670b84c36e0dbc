-- The arguments of short commands fit a frame.
use Rattle.std.proofs.Common.{◌≡◌, ℕ, suc, zero, ◌+◌, ◌*◌, ◌/◌, ◌%◌, ◌<◌, ◌≤◌, false, eqb, List, [], ◌∷◌, ◌++◌, length, map, ap, ◌∙◌, inl, inr, arith}
use Rattle.std.specs.Fmt.{decimal, digits, digits_onto, digit_glyph}
use Rattle.std.specs.List.{All}
use Rattle.std.proofs.lemmas.Bool.{cases_Bool, and_parts, leb-true}
use Rattle.std.proofs.lemmas.Fmt.{length-decimal-le}
use Rattle.std.proofs.lemmas.List.{length-append, length-map}
use Rattle.ftn_addr.specs.Address.{Address, address}
use Rattle.ftn_addr.specs.Key.{Key}
use Rattle.ftn_addr.specs.Limits.{IsAddress, IsKey}
use Rattle.ftn_addr.specs.Writing.{canonical, point_text}
use Rattle.ftn_addr.specs.declared.addr.Addr.{Addr}
use Rattle.binkp_args.specs.Command.{CommandText, Nul, Adr, Pwd, File, Accept, Eob, Got, Error, Bsy, Get, Skip, Other}
use Rattle.binkp_args.specs.Escape.{is_plain, escaped_byte, escaped}
use Rattle.binkp_args.specs.Limits.{IsShort}
use Rattle.binkp_args.specs.Words.{spaced}
use Rattle.binkp_args.specs.Writing.{key_text, place_text, argument_of}
use Rattle.binkp_args.proofs.SpacedWords.{head_of, tail_of}

digits_short : (k n : ℕ) (behind : List ℕ) → length (digits_onto k 10 false n behind) ≤ k + length behind
digits_short zero n behind = omega arith
digits_short (suc k) n behind =
    elim (cases_Bool (eqb (n / 10) 0)) as (λ _. length (digits_onto (suc k) 10 false n behind) ≤ suc k + length behind) [
      | inl e ↦ rw e (omega arith)
      | inr e ↦ rw e (let more = digits_short k (n / 10) (digit_glyph false (n % 10) ∷ behind) in omega arith)
    ]

-- every number, also one that is none of the code's
number_short : (n : ℕ) → length (decimal n) ≤ 64
unfolding digits
number_short n = let all = digits_short 64 n [] in omega arith

byte_short : (byte : ℕ) → length (escaped_byte byte) ≤ 4
byte_short byte = elim (cases_Bool (is_plain byte)) as (λ _. length (escaped_byte byte) ≤ 4) [ inl e ↦ rw e (omega arith) | inr e ↦ rw e (omega arith) ]

name_short : (name : List ℕ) → length (escaped name) ≤ 4 * length name
name_short [] = omega arith
name_short (byte ∷ name) = let more = name_short name in omega (arith, length-append (escaped_byte byte) (escaped name), byte_short byte)

pub key_short : (k : Key) → IsKey k → length (key_text k) ≤ 930
key_short k is =
    let name = name_short k.name in
    let size = number_short k.size in
    let time = number_short k.time in
    simp length-append (omega arith)

pub place_short : (k : Key) (offset : ℕ) → IsKey k → length (place_text k offset) ≤ 995
place_short k offset is =
    let name = name_short k.name in
    let size = number_short k.size in
    let time = number_short k.time in
    let last = number_short offset in
    simp length-append (omega arith)

five_digits : (n : ℕ) → n ≤ 32767 → length (decimal n) ≤ 5
five_digits n small = length-decimal-le 5 n (omega arith) (omega arith) (omega arith)

point_short : (n : ℕ) → n ≤ 32767 → length (point_text n) ≤ 6
point_short n small = elim (cases_Bool (eqb n 0)) as (λ _. length (point_text n) ≤ 6) [ inl e ↦ rw e (omega arith) | inr e ↦ rw e (let some = five_digits n small in omega arith) ]

address_short : (a : Address) → IsAddress a → length (canonical a) ≤ 56
address_short a is =
    let zone = five_digits a.zone is.zone in
    let net = five_digits a.net is.net in
    let node = five_digits a.node is.node in
    let point = point_short a.point is.point in
    let domain : length a.domain ≤ 32 = leb-true (length a.domain) 32 (and_parts _ _ (and_parts _ _ is.domain).0).1 in
    simp (length-append, length-map) (omega arith)

addresses_short : (addresses : List Address) → All IsAddress addresses → length (spaced (map canonical addresses)) ≤ 57 * length addresses
addresses_short [] are = omega arith
addresses_short (a ∷ []) are = let one = address_short a (head_of IsAddress a [] are) in omega arith
addresses_short (a ∷ b ∷ more) are =
    let one = address_short a (head_of IsAddress a (b ∷ more) are) in
    let rest = addresses_short (b ∷ more) (tail_of IsAddress a (b ∷ more) are) in
    omega (arith, length-append (canonical a) (32 ∷ spaced (map canonical (b ∷ more))))

pub argument_short : (command : CommandText) → IsShort command → length (argument_of command) < 32767
argument_short (Nul text) is = is
argument_short (Adr addresses) is = let all = addresses_short addresses is.each in let few = is.few in omega arith
argument_short (Pwd text) is = is
argument_short (File key offset) is = let all = place_short key offset is in omega arith
argument_short (Accept text) is = is
argument_short Eob is = omega arith
argument_short (Got key) is = let all = key_short key is in omega arith
argument_short (Error text) is = is
argument_short (Bsy text) is = is
argument_short (Get key offset) is = let all = place_short key offset is in omega arith
argument_short (Skip key) is = let all = key_short key is in omega arith
argument_short (Other number) is = omega arith

-- an M_ADR with the one address that was pushed
pub one_address_short : (a : Addr) (none addrs : List Addr) → none ≡ [] → addrs ≡ none ++ a ∷ [] → IsAddress (address a) → length (argument_of (Adr (map address addrs))) < 32767
one_address_short a none addrs empty pushed is =
    let all : addrs ≡ a ∷ [] = pushed ∙ ap (λ (x : List Addr). x ++ a ∷ []) empty in
    rw all (let one = address_short (address a) is in omega arith)
