-- The bytes of a record are read as that record.
use Rattle.std.proofs.Common.{◌≡◌, inl, inr, ℕ, ◌<◌, ◌≤◌, ◌^◌, Bool, true, false, eqb, ltb, List, [], ◌∷◌, ◌++◌, length, Result, Ok, Err, refl, sym, ap, ◌∙◌, subst, arith, append_assoc, nat_eq}
use Rattle.std.specs.Int.{w16, w32, w64, from_be_bytes}
use Rattle.std.specs.Cmp.Lexicographic.{pointwise}
use Rattle.std.proofs.lemmas.Bool.{le-leb, le-ltb, eq-eqb}
use Rattle.std.proofs.lemmas.List.{take_at, drop_at, length-append}
use Rattle.std.proofs.lemmas.Nat.{from_be_bytes-to_be_bytes_2, from_be_bytes-to_be_bytes_4, from_be_bytes-to_be_bytes_8}
use Rattle.ftn_addr.proofs.AddressText.{reading-canonical}
use Rattle.ftn_addr.specs.Address.{Address}
use Rattle.ftn_addr.specs.Key.{Key}
use Rattle.ftn_addr.specs.Limits.{IsAddress, IsKey}
use Rattle.ftn_addr.specs.Writing.{canonical}
use Rattle.ledger_rec.proofs.Lengths.{canonical_short}
use Rattle.ledger_rec.specs.Limits.{Fits, HasNumbers, HasTime, IsNewFile, IsReceived, IsRefused, IsMark}
use Rattle.ftn_addr.specs.Outcomes.{◌>>=◌, Gives}
use Rattle.ledger_rec.specs.Reading.{Read, bytes_at, byte_at, short_at, number_at, wide_at, canonical_at, address_at, key_at, path_at, new_file_at, received_at, refused_at, mark_at, pair_at, one_at, fields_at, record_at}
use Rattle.ledger_rec.specs.Record.{record_of, NewFileText, ReceivedText, RefusedText, MarkText, RecordText, Queue, Done, Received, Refused, Mark, Taken, Acted, Answered}
use Rattle.ledger_rec.specs.Spelling.{number_bytes, short_bytes, wide_bytes, address_bytes, key_bytes, path_bytes, flag_byte, field_bytes, spelling, Spells, SpellsNone}
use Rattle.ledger_rec.specs.declared.fault.RecFault.{RecFault}
use Rattle.ledger_rec.specs.declared.fault.RecFault.TheVariants.{BadRecord, NoMemory}
use Rattle.ledger_rec.specs.declared.record.Record.{Record}

bytes_again : (front rest : List ℕ) (len : ℕ) → length front ≡ len → bytes_at len (front ++ rest) ≡ Ok (front, rest)
unfolding bytes_at
bytes_again front rest len is =
    let room : ltb (length (front ++ rest)) len ≡ false = le-ltb _ _ (omega (arith, length-append front rest)) in
    rw (room, take_at front rest len is, drop_at front rest len is) refl

byte_again : (low high byte : ℕ) (rest : List ℕ) → low ≤ byte → byte ≤ high → byte_at low high (byte ∷ rest) ≡ Ok (byte, rest)
unfolding byte_at
byte_again low high byte rest over under = rw (le-leb low byte over, le-leb byte high under) refl

short_again : (n : ℕ) (rest : List ℕ) → n < 2 ^ 16 → short_at (short_bytes n ++ rest) ≡ Ok (n, rest)
unfolding short_at
short_again n rest small =
    ap (λ (r : Read (List ℕ)). r >>= λ x. Ok (from_be_bytes w16 x.0, x.1)) (bytes_again (short_bytes n) rest 2 refl) ∙ ap (λ (k : ℕ). Ok (k, rest)) (from_be_bytes-to_be_bytes_2 n small)

number_again : (n : ℕ) (rest : List ℕ) → n < 2 ^ 32 → number_at (number_bytes n ++ rest) ≡ Ok (n, rest)
unfolding number_at
number_again n rest small =
    ap (λ (r : Read (List ℕ)). r >>= λ x. Ok (from_be_bytes w32 x.0, x.1)) (bytes_again (number_bytes n) rest 4 refl) ∙ ap (λ (k : ℕ). Ok (k, rest)) (from_be_bytes-to_be_bytes_4 n small)

wide_again : (n : ℕ) (rest : List ℕ) → n < 2 ^ 64 → wide_at (wide_bytes n ++ rest) ≡ Ok (n, rest)
unfolding wide_at
wide_again n rest small =
    ap (λ (r : Read (List ℕ)). r >>= λ x. Ok (from_be_bytes w64 x.0, x.1)) (bytes_again (wide_bytes n) rest 8 refl) ∙ ap (λ (k : ℕ). Ok (k, rest)) (from_be_bytes-to_be_bytes_8 n small)

same_text : (text : List ℕ) → pointwise nat_eq text text ≡ true
same_text [] = refl
same_text (x ∷ text) = rw (eq-eqb x x refl, same_text text) refl

pub canonical_again : (home a : Address) → IsAddress a → canonical_at home (canonical a) ≡ Ok a
unfolding canonical_at
canonical_again home a is = rw (reading-canonical a home is, same_text (canonical a)) refl

address_again : (home a : Address) (rest : List ℕ) → IsAddress a → address_at home (address_bytes a ++ rest) ≡ Ok (a, rest)
unfolding address_at
address_again home a rest is =
    let short = canonical_short a is in
    let len = byte_again 0 255 (length (canonical a)) (canonical a ++ rest) (omega arith) (omega (arith, short)) in
    rw (len, bytes_again (canonical a) rest (length (canonical a)) refl, canonical_again home a is) refl

key_again : (k : Key) (rest : List ℕ) → IsKey k → HasTime k → key_at (key_bytes k ++ rest) ≡ Ok (k, rest)
unfolding key_at
key_again k rest is time =
    let behind = wide_bytes k.size ++ (wide_bytes k.time ++ rest) in
    let grouped : key_bytes k ++ rest ≡ length k.name ∷ (k.name ++ behind) = ap (λ (l : List ℕ). length k.name ∷ l) (append_assoc (k.name ++ wide_bytes k.size) (wide_bytes k.time) rest ∙ append_assoc k.name (wide_bytes k.size) (wide_bytes k.time ++ rest)) in
    let len = byte_again 1 200 (length k.name) (k.name ++ behind) is.some is.short in
    ap (λ (l : List ℕ). key_at l) grouped ∙ rw (len, bytes_again k.name behind (length k.name) refl, wide_again k.size (wide_bytes k.time ++ rest) time.0, wide_again k.time rest time.1) refl

path_again : (path rest : List ℕ) → length path ≤ 1024 → path_at (path_bytes path ++ rest) ≡ Ok (path, rest)
unfolding path_at
path_again path rest short =
    let len = short_again (length path) (path ++ rest) (omega (arith, short)) in
    rw (len, le-ltb 1024 (length path) short, bytes_again path rest (length path) refl) refl

flag_again : (flag : Bool) (rest : List ℕ) → byte_at 0 1 (flag_byte flag ∷ rest) ≡ Ok (flag_byte flag, rest)
unfolding byte_at
flag_again true rest = refl
flag_again false rest = refl

is_flag : (flag : Bool) → eqb (flag_byte flag) 1 ≡ flag
is_flag true = refl
is_flag false = refl

-- grouped from the right
four_pieces : (a b c d : List ℕ) → a ++ b ++ c ++ d ≡ a ++ (b ++ (c ++ d))
four_pieces a b c d = append_assoc (a ++ b) c d ∙ append_assoc a b (c ++ d)

five_pieces : (a b c d e : List ℕ) → a ++ b ++ c ++ d ++ e ≡ a ++ (b ++ (c ++ (d ++ e)))
five_pieces a b c d e = append_assoc (a ++ b ++ c) d e ∙ four_pieces a b c (d ++ e)

new_file_again : (home : Address) (r : NewFileText) → IsNewFile r → HasNumbers (Queue r) → new_file_at home (field_bytes (Queue r)) ≡ Ok r
unfolding new_file_at
new_file_again home r fits numbers =
    let last = r.action ∷ r.flavour ∷ [] in
    let grouped = five_pieces (number_bytes r.number) (address_bytes r.dest) (key_bytes r.key) (path_bytes r.source) last in
    let number = number_again r.number (address_bytes r.dest ++ (key_bytes r.key ++ (path_bytes r.source ++ last))) numbers.0 in
    let dest = address_again home r.dest (key_bytes r.key ++ (path_bytes r.source ++ last)) fits.dest in
    let key = key_again r.key (path_bytes r.source ++ last) fits.key numbers.1 in
    let source = path_again r.source last fits.source in
    let action = byte_again 0 2 r.action (r.flavour ∷ []) (omega arith) fits.action in
    let flavour = byte_again 0 4 r.flavour [] (omega arith) fits.flavour in
    ap (λ (l : List ℕ). new_file_at home l) grouped ∙ rw (number, dest, key, source, action, flavour) refl

received_again : (home : Address) (r : ReceivedText) → IsReceived r → HasNumbers (Received r) → received_at home (field_bytes (Received r)) ≡ Ok r
unfolding received_at
received_again home r fits numbers =
    let last = flag_byte r.secure ∷ [] in
    let grouped = five_pieces (number_bytes r.receipt) (address_bytes r.from) (key_bytes r.key) (number_bytes r.session) last in
    let receipt = number_again r.receipt (address_bytes r.from ++ (key_bytes r.key ++ (number_bytes r.session ++ last))) numbers.0 in
    let from = address_again home r.from (key_bytes r.key ++ (number_bytes r.session ++ last)) fits.from in
    let key = key_again r.key (number_bytes r.session ++ last) fits.key numbers.2 in
    let session = number_again r.session last numbers.1 in
    ap (λ (l : List ℕ). received_at home l) grouped ∙ rw (receipt, from, key, session, flag_again r.secure [], is_flag r.secure) refl

refused_again : (home : Address) (r : RefusedText) → IsRefused r → HasNumbers (Refused r) → refused_at home (field_bytes (Refused r)) ≡ Ok r
unfolding refused_at
refused_again home r fits numbers =
    let last = r.reason ∷ [] in
    let grouped = four_pieces (address_bytes r.from) (key_bytes r.key) (number_bytes r.session) last in
    let from = address_again home r.from (key_bytes r.key ++ (number_bytes r.session ++ last)) fits.from in
    let key = key_again r.key (number_bytes r.session ++ last) fits.key numbers.1 in
    let session = number_again r.session last numbers.0 in
    let reason = byte_again 1 2 r.reason [] fits.some fits.reason in
    ap (λ (l : List ℕ). refused_at home l) grouped ∙ rw (from, key, session, reason) refl

mark_again : (home : Address) (r : MarkText) → IsMark r → HasNumbers (Mark r) → mark_at home (field_bytes (Mark r)) ≡ Ok r
unfolding mark_at
mark_again home r fits numbers =
    let grouped = four_pieces (number_bytes r.part) (address_bytes r.from) (key_bytes r.key) (wide_bytes r.len) in
    let part = number_again r.part (address_bytes r.from ++ (key_bytes r.key ++ wide_bytes r.len)) numbers.0 in
    let from = address_again home r.from (key_bytes r.key ++ wide_bytes r.len) fits.from in
    let key = key_again r.key (wide_bytes r.len) fits.key numbers.2 in
    let len = wide_again r.len [] numbers.1 in
    ap (λ (l : List ℕ). mark_at home l) grouped ∙ rw (part, from, key, len) refl

pair_again : (first second : ℕ) → first < 2 ^ 32 → second < 2 ^ 32 → pair_at (number_bytes first ++ number_bytes second) ≡ Ok (first, second)
unfolding pair_at
pair_again first second small low = rw (number_again first (number_bytes second) small, number_again second [] low) refl

one_again : (n : ℕ) → n < 2 ^ 32 → one_at (number_bytes n) ≡ Ok n
unfolding one_at
one_again n small = rw (number_again n [] small) refl

pub record-spelling : (home : Address) (r : RecordText) → Fits r → HasNumbers r → record_at home (spelling r) ≡ Ok r
unfolding record_at fields_at byte_at
record-spelling home (Queue r) fits numbers = rw (new_file_again home r fits numbers) refl
record-spelling home (Done number session) fits numbers = rw (pair_again number session numbers.0 numbers.1) refl
record-spelling home (Received r) fits numbers = rw (received_again home r fits numbers) refl
record-spelling home (Refused r) fits numbers = rw (refused_again home r fits numbers) refl
record-spelling home (Mark r) fits numbers = rw (mark_again home r fits numbers) refl
record-spelling home (Taken take) fits numbers = rw (one_again take numbers) refl
record-spelling home (Acted number) fits numbers = rw (one_again number numbers) refl
record-spelling home (Answered receipt) fits numbers = rw (one_again receipt numbers) refl

pub record_of_payload : (home : Address) (payload : List ℕ) (r : RecordText) → HasNumbers r → Spells r payload → record_at home payload ≡ Ok r
record_of_payload home payload r numbers spells = ap (λ (l : List ℕ). record_at home l) spells.text ∙ record-spelling home r spells.fits numbers

pub read_again : (home : Address) (payload : List ℕ) (read : Result Record RecFault) → Gives NoMemory record_of read (record_at home payload) → (r : RecordText) → HasNumbers r → Spells r payload → Gives NoMemory record_of read (Ok r)
read_again home payload read gives r numbers spells = subst (λ (told : Result RecordText RecFault). Gives NoMemory record_of read told) (record_of_payload home payload r numbers spells) gives

pub read_none : (home : Address) (payload : List ℕ) (read : Result Record RecFault) → Gives NoMemory record_of read (record_at home payload) → read ≡ Err BadRecord → SpellsNone payload
read_none home payload read gives bad r numbers spells =
    let none : Gives NoMemory record_of (Err BadRecord) (Ok r) = subst (λ (x : Result Record RecFault). Gives NoMemory record_of x (Ok r)) bad (read_again home payload read gives r numbers spells) in
    elim none as (λ _. ⊥) [ inl e ↦ (let clash : BadRecord ≡ NoMemory = e in cc) | inr e ↦ (let clash : Ok r ≡ Err BadRecord = e in cc) ]

pub one_record : (payload : List ℕ) (r s : RecordText) → HasNumbers r → HasNumbers s → Spells r payload → Spells s payload → r ≡ s
one_record payload r s first second one two =
    let home : Address = record { zone = 0; net = 0; node = 0; point = 0; domain = [] } in
    let same : Ok r ≡ Ok s = sym (record_of_payload home payload r first one) ∙ record_of_payload home payload s second two in
    cc
