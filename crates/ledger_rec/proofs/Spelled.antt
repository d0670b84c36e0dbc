-- What is read as a record is the spelling of that record.
use Rattle.std.proofs.Common.{◌≡◌, ℕ, zero, suc, ◌+◌, ◌<◌, ◌≤◌, ◌^◌, Bool, false, ◌&&◌, List, [], ◌∷◌, ◌++◌, length, get_or, take, drop, Result, Ok, Err, refl, sym, ap, subst, ◌∙◌, inl, inr, arith, append_assoc, eqb-true}
use Rattle.std.specs.Prelude.{nat_lt, nat_le, ◌==◌, if◌then◌else◌}
use Rattle.std.specs.Int.{w16, w32, w64, from_be_bytes}
use Rattle.std.proofs.lemmas.Bool.{cases_Bool, and_parts, ltb-false, leb-true}
use Rattle.std.proofs.lemmas.Bool.Decides.{nat_tests}
use Rattle.std.proofs.lemmas.List.{append-nil, get_or-append-add, length-take-le, take-append-drop}
use Rattle.std.proofs.lemmas.Nat.{be_bytes_2, be_bytes_4, be_bytes_8}
use Rattle.ftn_addr.proofs.Outcomes.{steps_ok}
use Rattle.ftn_addr.proofs.ReadLimits.{reading-limits}
use Rattle.ftn_addr.specs.Address.{Address}
use Rattle.ftn_addr.specs.Key.{Key}
use Rattle.ftn_addr.specs.Limits.{IsAddress, IsKey}
use Rattle.ftn_addr.specs.Outcomes.{◌>>=◌}
use Rattle.ledger_rec.proofs.Fronts.{front_of_bytes}
use Rattle.ledger_rec.proofs.Homes.{of_canonical, nowhere_is}
use Rattle.ledger_rec.specs.Limits.{AreBytes, Fits, HasNumbers, HasTime}
use Rattle.ledger_rec.specs.Payloads.{nowhere, record_in}
use Rattle.ledger_rec.specs.Reading.{Read, bytes_at, byte_at, short_at, number_at, wide_at, canonical_at, address_at, key_at, path_at, if_last, new_file_at, received_at, refused_at, mark_at, pair_at, one_at, fields_at, record_at}
use Rattle.ledger_rec.specs.Record.{NewFileText, ReceivedText, RefusedText, MarkText, RecordText, Queue, Done, Received, Refused, Mark, Taken, Acted, Answered}
use Rattle.ledger_rec.specs.Spelling.{short_bytes, number_bytes, wide_bytes, address_bytes, key_bytes, path_bytes, flag_byte, kind_byte, field_bytes, spelling, Spells}
use Rattle.ledger_rec.specs.declared.fault.RecFault.{RecFault}
use Rattle.ledger_rec.specs.declared.fault.RecFault.TheVariants.{BadRecord}

-- bytes that are a front and a rest
record Cut (bytes front rest : List ℕ) : Type 0 where
  pub is : bytes ≡ front ++ rest
  pub rest_bytes : AreBytes rest

rest_of_bytes : (bytes front rest : List ℕ) → bytes ≡ front ++ rest → AreBytes bytes → AreBytes rest
rest_of_bytes bytes front rest is small i =
    subst (λ (k : ℕ). k < 256) (ap (λ (l : List ℕ). get_or l (length front + i) 0) is ∙ get_or-append-add front rest i 0) (small (length front + i))

cut_at : (bytes front rest : List ℕ) → AreBytes bytes → bytes ≡ front ++ rest → Cut bytes front rest
cut_at bytes front rest small is = record { is = is; rest_bytes = rest_of_bytes bytes front rest is small }

-- two cuts, one behind the other
then_cut : (bytes front rest more last : List ℕ) → Cut bytes front rest → Cut rest more last → Cut bytes (front ++ more) last
then_cut bytes front rest more last one two =
    record { is = one.is ∙ ap (λ (l : List ℕ). front ++ l) two.is ∙ sym (append_assoc front more last); rest_bytes = two.rest_bytes }

bytes_cut : (len : ℕ) (bytes : List ℕ) (x : List ℕ × List ℕ) → AreBytes bytes → bytes_at len bytes ≡ Ok x → Cut bytes x.0 x.1 × (length x.0 ≡ len)
unfolding bytes_at
bytes_cut len bytes x small is = elim (cases_Bool (nat_lt (length bytes) len)) as (λ _. Cut bytes x.0 x.1 × (length x.0 ≡ len)) [
  | inl short ↦ absurd (let clash : Err BadRecord ≡ Ok x = sym (ap (λ (b : Bool). if b then Err BadRecord else Ok (take len bytes, drop len bytes)) short) ∙ is in cc clash)
  | inr room ↦
      let now : ◌≡◌ {A = Result (List ℕ × List ℕ) RecFault} (Ok (take len bytes, drop len bytes)) (Ok x) = sym (ap (λ (b : Bool). if b then Err BadRecord else Ok (take len bytes, drop len bytes)) room) ∙ is in
      let it : (take len bytes, drop len bytes) ≡ x = cc now in
      let fits : len ≤ length bytes = ltb-false (length bytes) len room in
      subst (λ (y : List ℕ × List ℕ). Cut bytes y.0 y.1 × (length y.0 ≡ len)) it (cut_at bytes (take len bytes) (drop len bytes) small (sym (take-append-drop len bytes)), length-take-le len bytes fits)
]

-- what is read by a definition of such a field
abbrev Read_as : {X : Type 0} → (X → List ℕ) → (X → Type 0) → List ℕ → X × List ℕ → Type 0
Read_as spell P bytes x = Cut bytes (spell x.0) x.1 × P x.0

-- the value of a step that went well
module _ {X : Type 0} (spell : X → List ℕ) (P : X → Type 0) (bytes : List ℕ) where
  as_told : (x y : X × List ℕ) → ◌≡◌ {A = Read X} (Ok x) (Ok y) → Read_as spell P bytes x → Read_as spell P bytes y
  as_told x y is read = let same : x ≡ y = cc is in subst (λ (z : X × List ℕ). Read_as spell P bytes z) same read

abbrev one_byte : ℕ → List ℕ
one_byte b = b ∷ []

byte_read : (low high : ℕ) (bytes : List ℕ) (x : ℕ × List ℕ) → AreBytes bytes → byte_at low high bytes ≡ Ok x → Read_as one_byte (λ b. (low ≤ b) × (b ≤ high)) bytes x
unfolding byte_at
byte_read low high [] x small is = absurd (let clash : Err BadRecord ≡ Ok x = is in cc clash)
byte_read low high (byte ∷ rest) x small is = elim (cases_Bool (nat_le low byte && nat_le byte high)) as (λ _. Read_as one_byte (λ b. (low ≤ b) × (b ≤ high)) (byte ∷ rest) x) [
  | inl inside ↦
      let parts = and_parts (nat_le low byte) (nat_le byte high) inside in
      let now : ◌≡◌ {A = Read ℕ} (Ok (byte, rest)) (Ok x) = sym (ap (λ (b : Bool). if b then Ok (byte, rest) else Err BadRecord) inside) ∙ is in
      as_told one_byte (λ b. (low ≤ b) × (b ≤ high)) (byte ∷ rest) (byte, rest) x now (cut_at (byte ∷ rest) (byte ∷ []) rest small refl, (leb-true low byte parts.0, leb-true byte high parts.1))
  | inr outside ↦ absurd (let clash : Err BadRecord ≡ Ok x = sym (ap (λ (b : Bool). if b then Ok (byte, rest) else Err BadRecord) outside) ∙ is in cc clash)
]

module _ (bytes : List ℕ) (x : ℕ × List ℕ) (small : AreBytes bytes) where
  short_read : short_at bytes ≡ Ok x → Read_as short_bytes (λ n. n < 2 ^ 16) bytes x
  unfolding short_at
  short_read is =
      let front = steps_ok (bytes_at 2 bytes) _ x is in
      let cut = bytes_cut 2 bytes front.0 small front.1 in
      let low = front_of_bytes bytes front.0.0 front.0.1 cut.0.is small in
      let same = be_bytes_2 front.0.0 (from_be_bytes w16 front.0.0) cut.1 low refl in
      let few : from_be_bytes w16 front.0.0 < 2 ^ 16 = omega (arith, low 0, low 1) in
      as_told short_bytes (λ n. n < 2 ^ 16) bytes (from_be_bytes w16 front.0.0, front.0.1) x front.2 (subst (λ (l : List ℕ). Cut bytes l front.0.1) (sym same) cut.0, few)

  number_read : number_at bytes ≡ Ok x → Read_as number_bytes (λ n. n < 2 ^ 32) bytes x
  unfolding number_at
  number_read is =
      let front = steps_ok (bytes_at 4 bytes) _ x is in
      let cut = bytes_cut 4 bytes front.0 small front.1 in
      let low = front_of_bytes bytes front.0.0 front.0.1 cut.0.is small in
      let same = be_bytes_4 front.0.0 (from_be_bytes w32 front.0.0) cut.1 low refl in
      let few : from_be_bytes w32 front.0.0 < 2 ^ 32 = omega (arith, low 0, low 1, low 2, low 3) in
      as_told number_bytes (λ n. n < 2 ^ 32) bytes (from_be_bytes w32 front.0.0, front.0.1) x front.2 (subst (λ (l : List ℕ). Cut bytes l front.0.1) (sym same) cut.0, few)

  wide_read : wide_at bytes ≡ Ok x → Read_as wide_bytes (λ n. n < 2 ^ 64) bytes x
  unfolding wide_at
  wide_read is =
      let front = steps_ok (bytes_at 8 bytes) _ x is in
      let cut = bytes_cut 8 bytes front.0 small front.1 in
      let low = front_of_bytes bytes front.0.0 front.0.1 cut.0.is small in
      let same = be_bytes_8 front.0.0 (from_be_bytes w64 front.0.0) cut.1 low refl in
      let few : from_be_bytes w64 front.0.0 < 2 ^ 64 = omega (arith, low 0, low 1, low 2, low 3, low 4, low 5, low 6, low 7) in
      as_told wide_bytes (λ n. n < 2 ^ 64) bytes (from_be_bytes w64 front.0.0, front.0.1) x front.2 (subst (λ (l : List ℕ). Cut bytes l front.0.1) (sym same) cut.0, few)

address_read : (bytes : List ℕ) (x : Address × List ℕ) → AreBytes bytes → address_at nowhere bytes ≡ Ok x → Read_as address_bytes IsAddress bytes x
unfolding address_at
address_read bytes x small is =
    let len = steps_ok (byte_at 0 255 bytes) _ x is in
    let one = byte_read 0 255 bytes len.0 small len.1 in
    let text = steps_ok (bytes_at len.0.0 len.0.1) _ x len.2 in
    let two = bytes_cut len.0.0 len.0.1 text.0 one.0.rest_bytes text.1 in
    let addr = steps_ok (canonical_at nowhere text.0.0) _ x text.2 in
    let told = of_canonical text.0.0 addr.0 addr.1 in
    let both = then_cut bytes (len.0.0 ∷ []) len.0.1 text.0.0 text.0.1 one.0 two.0 in
    let same : len.0.0 ∷ text.0.0 ≡ address_bytes addr.0 = ap (λ (n : ℕ). n ∷ text.0.0) (sym two.1) ∙ ap (λ (l : List ℕ). length l ∷ l) (sym told.1) in
    as_told address_bytes IsAddress bytes (addr.0, text.0.1) x addr.2 (subst (λ (l : List ℕ). Cut bytes l text.0.1) same both, reading-limits text.0.0 nowhere addr.0 nowhere_is told.0)

-- a key within its limits
abbrev IsWholeKey : Key → Type 0
IsWholeKey k = IsKey k × HasTime k

key_spelling : (len : ℕ) (k : Key) → length k.name ≡ len → len ∷ (k.name ++ (wide_bytes k.size ++ wide_bytes k.time)) ≡ key_bytes k
key_spelling len k is =
    ap (λ (n : ℕ). n ∷ (k.name ++ (wide_bytes k.size ++ wide_bytes k.time))) (sym is) ∙ ap (λ (l : List ℕ). length k.name ∷ l) (sym (append_assoc k.name (wide_bytes k.size) (wide_bytes k.time)))

key_read : (bytes : List ℕ) (x : Key × List ℕ) → AreBytes bytes → key_at bytes ≡ Ok x → Read_as key_bytes IsWholeKey bytes x
unfolding key_at
key_read bytes x small is =
    let len = steps_ok (byte_at 1 200 bytes) _ x is in
    let one = byte_read 1 200 bytes len.0 small len.1 in
    let name = steps_ok (bytes_at len.0.0 len.0.1) _ x len.2 in
    let two = bytes_cut len.0.0 len.0.1 name.0 one.0.rest_bytes name.1 in
    let size = steps_ok (wide_at name.0.1) _ x name.2 in
    let three = wide_read name.0.1 size.0 two.0.rest_bytes size.1 in
    let time = steps_ok (wide_at size.0.1) _ x size.2 in
    let four = wide_read size.0.1 time.0 three.0.rest_bytes time.1 in
    let it : Key = record { name = name.0.0; size = size.0.0; time = time.0.0 } in
    let front = then_cut name.0.1 (wide_bytes size.0.0) size.0.1 (wide_bytes time.0.0) time.0.1 three.0 four.0 in
    let behind = then_cut len.0.1 name.0.0 name.0.1 (wide_bytes size.0.0 ++ wide_bytes time.0.0) time.0.1 two.0 front in
    let all = then_cut bytes (len.0.0 ∷ []) len.0.1 (name.0.0 ++ (wide_bytes size.0.0 ++ wide_bytes time.0.0)) time.0.1 one.0 behind in
    let same = key_spelling len.0.0 it two.1 in
    let lens = one.1 in
    let is_len = two.1 in
    as_told key_bytes IsWholeKey bytes (it, time.0.1) x time.2 (subst (λ (l : List ℕ). Cut bytes l time.0.1) same all, (record { some = omega (arith, lens.0, is_len); short = omega (arith, lens.1, is_len) }, (three.1, four.1)))

path_read : (bytes : List ℕ) (x : List ℕ × List ℕ) → AreBytes bytes → path_at bytes ≡ Ok x → Read_as path_bytes (λ path. length path ≤ 1024) bytes x
unfolding path_at
path_read bytes x small is =
    let len = steps_ok (short_at bytes) _ x is in
    let one = short_read bytes len.0 small len.1 in
    elim (cases_Bool (nat_lt 1024 len.0.0)) as (λ _. Read_as path_bytes (λ path. length path ≤ 1024) bytes x) [
      | inl long ↦ absurd (let clash : Err BadRecord ≡ Ok x = sym (ap (λ (b : Bool). if b then Err BadRecord else bytes_at len.0.0 len.0.1) long) ∙ len.2 in cc clash)
      | inr fits ↦
          let now : bytes_at len.0.0 len.0.1 ≡ Ok x = sym (ap (λ (b : Bool). if b then Err BadRecord else bytes_at len.0.0 len.0.1) fits) ∙ len.2 in
          let two = bytes_cut len.0.0 len.0.1 x one.0.rest_bytes now in
          let both = then_cut bytes (short_bytes len.0.0) len.0.1 x.0 x.1 one.0 two.0 in
          let low : len.0.0 ≤ 1024 = ltb-false 1024 len.0.0 fits in
          let same = two.1 in
          (subst (λ (n : ℕ). Cut bytes (short_bytes n ++ x.0) x.1) (sym same) both, omega (arith, low, same))
    ]

last_is : {X : Type 0} (x r : X) (rest : List ℕ) → if_last x rest ≡ Ok r → (x ≡ r) × (rest ≡ [])
last_is x r [] is = (cc is, refl)
last_is x r (b ∷ rest) is = absurd (
    let apart : (suc (length rest) == 0) ≡ false = grind (arith, nat_tests) in
    let clash : Err BadRecord ≡ Ok r = sym (ap (λ (t : Bool). if t then Ok x else Err BadRecord) apart) ∙ is in
    cc clash)

whole : (bytes front rest : List ℕ) → Cut bytes front rest → rest ≡ [] → bytes ≡ front
whole bytes front rest cut none = cut.is ∙ ap (λ (l : List ℕ). front ++ l) none ∙ append-nil front

-- these bytes are the fields of the record, which keep their limits
abbrev Told : RecordText → List ℕ → Type 0
Told r bytes = (bytes ≡ field_bytes r) × Fits r × HasNumbers r

new_file_read : (bytes : List ℕ) (r : NewFileText) → AreBytes bytes → new_file_at nowhere bytes ≡ Ok r → Told (Queue r) bytes
unfolding new_file_at
new_file_read bytes r small is =
    let number = steps_ok (number_at bytes) _ r is in
    let one = number_read bytes number.0 small number.1 in
    let dest = steps_ok (address_at nowhere number.0.1) _ r number.2 in
    let two = address_read number.0.1 dest.0 one.0.rest_bytes dest.1 in
    let key = steps_ok (key_at dest.0.1) _ r dest.2 in
    let three = key_read dest.0.1 key.0 two.0.rest_bytes key.1 in
    let source = steps_ok (path_at key.0.1) _ r key.2 in
    let four = path_read key.0.1 source.0 three.0.rest_bytes source.1 in
    let action = steps_ok (byte_at 0 2 source.0.1) _ r source.2 in
    let five = byte_read 0 2 source.0.1 action.0 four.0.rest_bytes action.1 in
    let flavour = steps_ok (byte_at 0 4 action.0.1) _ r action.2 in
    let six = byte_read 0 4 action.0.1 flavour.0 five.0.rest_bytes flavour.1 in
    let last = last_is _ r flavour.0.1 flavour.2 in
    let fields = then_cut bytes _ _ _ _ (then_cut bytes _ _ _ _ (then_cut bytes _ _ _ _ (then_cut bytes _ _ _ _ one.0 two.0) three.0) four.0) (then_cut source.0.1 _ _ _ _ five.0 six.0) in
    subst (λ (file : NewFileText). Told (Queue file) bytes) last.0
    (whole bytes _ flavour.0.1 fields last.1, record { dest = two.1; key = three.1.0; source = four.1; action = five.1.1; flavour = six.1.1 }, (one.1, three.1.1))

flag_is : (n : ℕ) → n ≤ 1 → flag_byte (n == 1) ≡ n
flag_is zero low = refl
flag_is (suc zero) low = refl
flag_is (suc (suc n)) low = absurd (omega arith)

received_read : (bytes : List ℕ) (r : ReceivedText) → AreBytes bytes → received_at nowhere bytes ≡ Ok r → Told (Received r) bytes
unfolding received_at
received_read bytes r small is =
    let receipt = steps_ok (number_at bytes) _ r is in
    let one = number_read bytes receipt.0 small receipt.1 in
    let from = steps_ok (address_at nowhere receipt.0.1) _ r receipt.2 in
    let two = address_read receipt.0.1 from.0 one.0.rest_bytes from.1 in
    let key = steps_ok (key_at from.0.1) _ r from.2 in
    let three = key_read from.0.1 key.0 two.0.rest_bytes key.1 in
    let session = steps_ok (number_at key.0.1) _ r key.2 in
    let four = number_read key.0.1 session.0 three.0.rest_bytes session.1 in
    let secure = steps_ok (byte_at 0 1 session.0.1) _ r session.2 in
    let five = byte_read 0 1 session.0.1 secure.0 four.0.rest_bytes secure.1 in
    let last = last_is _ r secure.0.1 secure.2 in
    let flag = subst (λ (n : ℕ). Cut session.0.1 (n ∷ []) secure.0.1) (sym (flag_is secure.0.0 five.1.1)) five.0 in
    let fields = then_cut bytes _ _ _ _ (then_cut bytes _ _ _ _ (then_cut bytes _ _ _ _ (then_cut bytes _ _ _ _ one.0 two.0) three.0) four.0) flag in
    subst (λ (file : ReceivedText). Told (Received file) bytes) last.0
    (whole bytes _ secure.0.1 fields last.1, record { from = two.1; key = three.1.0 }, (one.1, four.1, three.1.1))

refused_read : (bytes : List ℕ) (r : RefusedText) → AreBytes bytes → refused_at nowhere bytes ≡ Ok r → Told (Refused r) bytes
unfolding refused_at
refused_read bytes r small is =
    let from = steps_ok (address_at nowhere bytes) _ r is in
    let one = address_read bytes from.0 small from.1 in
    let key = steps_ok (key_at from.0.1) _ r from.2 in
    let two = key_read from.0.1 key.0 one.0.rest_bytes key.1 in
    let session = steps_ok (number_at key.0.1) _ r key.2 in
    let three = number_read key.0.1 session.0 two.0.rest_bytes session.1 in
    let reason = steps_ok (byte_at 1 2 session.0.1) _ r session.2 in
    let four = byte_read 1 2 session.0.1 reason.0 three.0.rest_bytes reason.1 in
    let last = last_is _ r reason.0.1 reason.2 in
    let fields = then_cut bytes _ _ _ _ (then_cut bytes _ _ _ _ (then_cut bytes _ _ _ _ one.0 two.0) three.0) four.0 in
    subst (λ (file : RefusedText). Told (Refused file) bytes) last.0
    (whole bytes _ reason.0.1 fields last.1, record { from = one.1; key = two.1.0; some = four.1.0; reason = four.1.1 }, (three.1, two.1.1))

mark_read : (bytes : List ℕ) (r : MarkText) → AreBytes bytes → mark_at nowhere bytes ≡ Ok r → Told (Mark r) bytes
unfolding mark_at
mark_read bytes r small is =
    let part = steps_ok (number_at bytes) _ r is in
    let one = number_read bytes part.0 small part.1 in
    let from = steps_ok (address_at nowhere part.0.1) _ r part.2 in
    let two = address_read part.0.1 from.0 one.0.rest_bytes from.1 in
    let key = steps_ok (key_at from.0.1) _ r from.2 in
    let three = key_read from.0.1 key.0 two.0.rest_bytes key.1 in
    let len = steps_ok (wide_at key.0.1) _ r key.2 in
    let four = wide_read key.0.1 len.0 three.0.rest_bytes len.1 in
    let last = last_is _ r len.0.1 len.2 in
    let fields = then_cut bytes _ _ _ _ (then_cut bytes _ _ _ _ (then_cut bytes _ _ _ _ one.0 two.0) three.0) four.0 in
    subst (λ (it : MarkText). Told (Mark it) bytes) last.0
    (whole bytes _ len.0.1 fields last.1, record { from = two.1; key = three.1.0 }, (one.1, four.1, three.1.1))

pair_read : (bytes : List ℕ) (x : ℕ × ℕ) → AreBytes bytes → pair_at bytes ≡ Ok x → Told (Done x.0 x.1) bytes
unfolding pair_at
pair_read bytes x small is =
    let first = steps_ok (number_at bytes) _ x is in
    let one = number_read bytes first.0 small first.1 in
    let second = steps_ok (number_at first.0.1) _ x first.2 in
    let two = number_read first.0.1 second.0 one.0.rest_bytes second.1 in
    let last = last_is _ x second.0.1 second.2 in
    subst (λ (y : ℕ × ℕ). Told (Done y.0 y.1) bytes) last.0
    (whole bytes _ second.0.1 (then_cut bytes _ _ _ _ one.0 two.0) last.1, tt, (one.1, two.1))

one_read : (bytes : List ℕ) (n : ℕ) → AreBytes bytes → one_at bytes ≡ Ok n → (bytes ≡ number_bytes n) × (n < 2 ^ 32)
unfolding one_at
one_read bytes n small is =
    let number = steps_ok (number_at bytes) _ n is in
    let one = number_read bytes number.0 small number.1 in
    let last = last_is _ n number.0.1 number.2 in
    subst (λ (m : ℕ). (bytes ≡ number_bytes m) × (m < 2 ^ 32)) last.0 (whole bytes _ number.0.1 one.0 last.1, one.1)

-- the bytes of a record behind its kind
abbrev Told_of : ℕ → List ℕ → RecordText → Type 0
Told_of kind bytes r = (kind ≡ kind_byte r) × Told r bytes

kind_read : {Q : Type 0} (kind k : ℕ) (this others : Result RecordText RecFault) (r : RecordText) → (kind ≡ k → this ≡ Ok r → Q) → (others ≡ Ok r → Q) → (if kind == k then this else others) ≡ Ok r → Q
kind_read {Q} kind k this others r here there is = elim (cases_Bool (kind == k)) as (λ _. Q) [
  | inl same ↦ here (eqb-true kind k same) (sym (ap (λ (b : Bool). if b then this else others) same) ∙ is)
  | inr apart ↦ there (sym (ap (λ (b : Bool). if b then this else others) apart) ∙ is)
]

-- the record of what was read
then_is : {X : Type 0} (read : Result X RecFault) (view : X → RecordText) (kind : ℕ) (bytes : List ℕ) (r : RecordText) → ((x : X) → read ≡ Ok x → Told_of kind bytes (view x)) → (read >>= λ x. Ok (view x)) ≡ Ok r → Told_of kind bytes r
then_is read view kind bytes r told is =
    let x = steps_ok read (λ y. Ok (view y)) r is in
    let same : view x.0 ≡ r = (let e : ◌≡◌ {A = Result RecordText RecFault} (Ok (view x.0)) (Ok r) = x.2 in cc e) in
    subst (Told_of kind bytes) same (told x.0 x.1)

fields_read : (kind : ℕ) (bytes : List ℕ) (r : RecordText) → AreBytes bytes → fields_at nowhere kind bytes ≡ Ok r → Told_of kind bytes r
unfolding fields_at
fields_read kind bytes r small is =
    kind_read kind 1 _ _ r (λ k e. then_is (new_file_at nowhere bytes) Queue kind bytes r (λ x f. (k, new_file_read bytes x small f)) e)
    (λ v. kind_read kind 2 _ _ r (λ k e. then_is (pair_at bytes) (λ x. Done x.0 x.1) kind bytes r (λ x f. (k, pair_read bytes x small f)) e)
    (λ v. kind_read kind 3 _ _ r (λ k e. then_is (received_at nowhere bytes) Received kind bytes r (λ x f. (k, received_read bytes x small f)) e)
    (λ v. kind_read kind 4 _ _ r (λ k e. then_is (refused_at nowhere bytes) Refused kind bytes r (λ x f. (k, refused_read bytes x small f)) e)
    (λ v. kind_read kind 5 _ _ r (λ k e. then_is (mark_at nowhere bytes) Mark kind bytes r (λ x f. (k, mark_read bytes x small f)) e)
    (λ v. kind_read kind 6 _ _ r (λ k e. then_is (one_at bytes) Taken kind bytes r (λ x f. (let n = one_read bytes x small f in (k, (n.0, tt, n.1)))) e)
    (λ v. kind_read kind 7 _ _ r (λ k e. then_is (one_at bytes) Acted kind bytes r (λ x f. (let n = one_read bytes x small f in (k, (n.0, tt, n.1)))) e)
    (λ v. kind_read kind 8 _ _ r (λ k e. then_is (one_at bytes) Answered kind bytes r (λ x f. (let n = one_read bytes x small f in (k, (n.0, tt, n.1)))) e)
    (λ v. absurd (let clash : Err BadRecord ≡ Ok r = v in cc clash)) v) v) v) v) v) v) v) is

-- a payload that reads as a record is its spelling
pub read_spells : (payload : List ℕ) (r : RecordText) → AreBytes payload → record_in payload ≡ Ok r → HasNumbers r × Spells r payload
unfolding record_at
read_spells payload r small is =
    let kind = steps_ok (byte_at 0 255 payload) _ r is in
    let one = byte_read 0 255 payload kind.0 small kind.1 in
    let told = fields_read kind.0.0 kind.0.1 r one.0.rest_bytes kind.2 in
    let text : payload ≡ spelling r = one.0.is ∙ ap (λ (n : ℕ). n ∷ kind.0.1) told.0 ∙ ap (λ (l : List ℕ). kind_byte r ∷ l) told.1.0 in
    (told.1.2, record { text = text; fits = told.1.1 })
