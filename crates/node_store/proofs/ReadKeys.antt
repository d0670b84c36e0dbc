-- The key and the flavour of a file that a payload queues keep their limits, whatever the bytes.
use Rattle.std.proofs.Common.{◌≡◌, ℕ, ◌≤◌, Bool, ◌&&◌, List, [], ◌∷◌, length, take, drop, Result, Ok, Err, sym, ◌∙◌, ap, subst, inl, inr, arith}
use Rattle.std.specs.Prelude.{nat_lt, nat_le, ◌==◌, if◌then◌else◌}
use Rattle.std.proofs.lemmas.Bool.{cases_Bool, and_parts, ltb-false, leb-true}
use Rattle.std.proofs.lemmas.List.{length-take-le}
use Rattle.ftn_addr.proofs.Outcomes.{steps_ok}
use Rattle.ftn_addr.specs.Key.{Key}
use Rattle.ftn_addr.specs.Limits.{IsKey}
use Rattle.ftn_addr.specs.Outcomes.{◌>>=◌}
use Rattle.ledger_rec.specs.Payloads.{nowhere, record_in}
use Rattle.ledger_rec.specs.Reading.{Read, bytes_at, byte_at, number_at, wide_at, address_at, key_at, path_at, if_last, new_file_at, received_at, refused_at, mark_at, pair_at, one_at, fields_at, record_at}
use Rattle.ledger_rec.specs.Record.{NewFileText, RecordText, Queue, Done, Received, Refused, Mark, Taken, Acted, Answered}
use Rattle.ledger_rec.specs.declared.fault.RecFault.{RecFault}
use Rattle.ledger_rec.specs.declared.fault.RecFault.TheVariants.{BadRecord}

byte_within : (low high : ℕ) (bytes : List ℕ) (x : ℕ × List ℕ) → byte_at low high bytes ≡ Ok x → (low ≤ x.0) × (x.0 ≤ high)
unfolding byte_at
byte_within low high [] x is = absurd (let clash : Err BadRecord ≡ Ok x = is in cc clash)
byte_within low high (byte ∷ rest) x is = elim (cases_Bool (nat_le low byte && nat_le byte high)) as (λ _. (low ≤ x.0) × (x.0 ≤ high)) [
  | inl inside ↦
      let parts = and_parts (nat_le low byte) (nat_le byte high) inside in
      let now : ◌≡◌ {A = Read ℕ} (Ok (byte, rest)) (Ok x) = sym (ap (λ (b : Bool). if b then Ok (byte, rest) else Err BadRecord) inside) ∙ is in
      let same : (byte, rest) ≡ x = cc now in
      subst (λ (y : ℕ × List ℕ). (low ≤ y.0) × (y.0 ≤ high)) same (leb-true low byte parts.0, leb-true byte high parts.1)
  | inr outside ↦ absurd (let clash : Err BadRecord ≡ Ok x = sym (ap (λ (b : Bool). if b then Ok (byte, rest) else Err BadRecord) outside) ∙ is in cc clash)
]

bytes_long : (len : ℕ) (bytes : List ℕ) (x : List ℕ × List ℕ) → bytes_at len bytes ≡ Ok x → length x.0 ≡ len
unfolding bytes_at
bytes_long len bytes x is = elim (cases_Bool (nat_lt (length bytes) len)) as (λ _. length x.0 ≡ len) [
  | inl short ↦ absurd (let clash : Err BadRecord ≡ Ok x = sym (ap (λ (b : Bool). if b then Err BadRecord else Ok (take len bytes, drop len bytes)) short) ∙ is in cc clash)
  | inr room ↦
      let now : ◌≡◌ {A = Result (List ℕ × List ℕ) RecFault} (Ok (take len bytes, drop len bytes)) (Ok x) = sym (ap (λ (b : Bool). if b then Err BadRecord else Ok (take len bytes, drop len bytes)) room) ∙ is in
      let it : (take len bytes, drop len bytes) ≡ x = cc now in
      let fits : len ≤ length bytes = ltb-false (length bytes) len room in
      subst (λ (y : List ℕ × List ℕ). length y.0 ≡ len) it (length-take-le len bytes fits)
]

key_limits : (bytes : List ℕ) (x : Key × List ℕ) → key_at bytes ≡ Ok x → IsKey x.0
unfolding key_at
key_limits bytes x is =
    let len = steps_ok (byte_at 1 200 bytes) _ x is in
    let most = byte_within 1 200 bytes len.0 len.1 in
    let name = steps_ok (bytes_at len.0.0 len.0.1) _ x len.2 in
    let long = bytes_long len.0.0 len.0.1 name.0 name.1 in
    let size = steps_ok (wide_at name.0.1) _ x name.2 in
    let time = steps_ok (wide_at size.0.1) _ x size.2 in
    let now : ◌≡◌ {A = Read Key} (Ok (record { name = name.0.0; size = size.0.0; time = time.0.0 }, time.0.1)) (Ok x) = time.2 in
    let same : (record { name = name.0.0; size = size.0.0; time = time.0.0 }, time.0.1) ≡ x = cc now in
    subst (λ (y : Key × List ℕ). IsKey y.0) same (record { some = omega (arith, most.0, long); short = omega (arith, most.1, long) })

file_last : (r s : NewFileText) (rest : List ℕ) → if_last r rest ≡ Ok s → r ≡ s
file_last r s [] is = cc is
file_last r s (b ∷ rest) is = elim (cases_Bool (length (b ∷ rest) == 0)) as (λ _. r ≡ s) [
  | inl none ↦ (let e : ◌≡◌ {A = Result NewFileText RecFault} (Ok r) (Ok s) = sym (ap (λ (t : Bool). if t then Ok r else Err BadRecord) none) ∙ is in cc e)
  | inr some ↦ absurd (let clash : Err BadRecord ≡ Ok s = sym (ap (λ (t : Bool). if t then Ok r else Err BadRecord) some) ∙ is in cc clash)
]

file_limits : (bytes : List ℕ) (r : NewFileText) → new_file_at nowhere bytes ≡ Ok r → IsKey r.key × (r.flavour ≤ 4)
unfolding new_file_at
file_limits bytes r is =
    let number = steps_ok (number_at bytes) _ r is in
    let dest = steps_ok (address_at nowhere number.0.1) _ r number.2 in
    let key = steps_ok (key_at dest.0.1) _ r dest.2 in
    let source = steps_ok (path_at key.0.1) _ r key.2 in
    let action = steps_ok (byte_at 0 2 source.0.1) _ r source.2 in
    let flavour = steps_ok (byte_at 0 4 action.0.1) _ r action.2 in
    subst (λ (file : NewFileText). IsKey file.key × (file.flavour ≤ 4)) (file_last _ r flavour.0.1 flavour.2) (key_limits dest.0.1 key.0 key.1, (byte_within 0 4 action.0.1 flavour.0 flavour.1).1)

-- the key and the flavour of the file that a record queues, if it queues one
abbrev pub HasKey : RecordText → Type 0
HasKey (Queue r) = IsKey r.key × (r.flavour ≤ 4)
HasKey (Done number session) = Unit {0}
HasKey (Received r) = Unit {0}
HasKey (Refused r) = Unit {0}
HasKey (Mark r) = Unit {0}
HasKey (Taken take) = Unit {0}
HasKey (Acted number) = Unit {0}
HasKey (Answered receipt) = Unit {0}

kind_read : {Q : Type 0} (kind k : ℕ) (this others : Result RecordText RecFault) (r : RecordText) → (this ≡ Ok r → Q) → (others ≡ Ok r → Q) → (if kind == k then this else others) ≡ Ok r → Q
kind_read {Q} kind k this others r here there is = elim (cases_Bool (kind == k)) as (λ _. Q) [
  | inl same ↦ here (sym (ap (λ (b : Bool). if b then this else others) same) ∙ is)
  | inr apart ↦ there (sym (ap (λ (b : Bool). if b then this else others) apart) ∙ is)
]

then_has : {X : Type 0} (read : Result X RecFault) (view : X → RecordText) (r : RecordText) → ((x : X) → read ≡ Ok x → HasKey (view x)) → (read >>= λ x. Ok (view x)) ≡ Ok r → HasKey r
then_has read view r has is =
    let x = steps_ok read (λ y. Ok (view y)) r is in
    let same : view x.0 ≡ r = (let e : ◌≡◌ {A = Result RecordText RecFault} (Ok (view x.0)) (Ok r) = x.2 in cc e) in
    subst HasKey same (has x.0 x.1)

fields_key : (kind : ℕ) (bytes : List ℕ) (r : RecordText) → fields_at nowhere kind bytes ≡ Ok r → HasKey r
unfolding fields_at
fields_key kind bytes r is =
    kind_read kind 1 _ _ r (then_has (new_file_at nowhere bytes) Queue r (λ x f. file_limits bytes x f))
    (kind_read kind 2 _ _ r (then_has (pair_at bytes) (λ x. Done x.0 x.1) r (λ x f. tt))
    (kind_read kind 3 _ _ r (then_has (received_at nowhere bytes) Received r (λ x f. tt))
    (kind_read kind 4 _ _ r (then_has (refused_at nowhere bytes) Refused r (λ x f. tt))
    (kind_read kind 5 _ _ r (then_has (mark_at nowhere bytes) Mark r (λ x f. tt))
    (kind_read kind 6 _ _ r (then_has (one_at bytes) Taken r (λ x f. tt))
    (kind_read kind 7 _ _ r (then_has (one_at bytes) Acted r (λ x f. tt))
    (kind_read kind 8 _ _ r (then_has (one_at bytes) Answered r (λ x f. tt))
    (λ v. absurd (let clash : Err BadRecord ≡ Ok r = v in cc clash))))))))) is

pub read_key : (payload : List ℕ) (r : RecordText) → record_in payload ≡ Ok r → HasKey r
unfolding record_at
read_key payload r is =
    let kind = steps_ok (byte_at 0 255 payload) _ r is in
    fields_key kind.0.0 kind.0.1 r kind.2
