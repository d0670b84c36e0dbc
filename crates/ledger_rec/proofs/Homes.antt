-- What one home reads, each home reads.
use Rattle.std.proofs.Common.{◌≡◌, ◌≢◌, ℕ, Bool, true, false, List, Result, Ok, Err, refl, sym, ap, ◌∙◌, subst, arith, inl, inr, nat_eq}
use Rattle.std.specs.Prelude.{if◌then◌else◌, ◌==◌, IfOk}
use Rattle.std.specs.Cmp.Lexicographic.{pointwise}
use Rattle.std.proofs.lemmas.Bool.{cases_Bool}
use Rattle.std.proofs.lemmas.Bool.Decides.{Decides-eqb}
use Rattle.std.proofs.lemmas.Slice.Eq.{slice_eq-Decides}
use Rattle.ftn_addr.proofs.ReadLimits.{reading-limits}
use Rattle.ftn_addr.specs.Address.{Address}
use Rattle.ftn_addr.specs.Limits.{IsAddress}
use Rattle.ftn_addr.specs.Outcomes.{◌>>=◌, Gives}
use Rattle.ftn_addr.specs.Reading.{reading}
use Rattle.ftn_addr.specs.Writing.{canonical}
use Rattle.ftn_addr.specs.declared.reading.AddrFault.{AddrFault}
use Rattle.ledger_rec.proofs.ReadBack.{canonical_again, record_of_payload}
use Rattle.ledger_rec.specs.Limits.{HasNumbers}
use Rattle.ledger_rec.specs.Payloads.{nowhere, record_in}
use Rattle.ledger_rec.specs.Reading.{if_canonical, byte_at, number_at, canonical_at, bytes_at, address_at, new_file_at, received_at, refused_at, mark_at, fields_at, record_at}
use Rattle.ledger_rec.specs.Record.{record_of, RecordText, NewFileText, ReceivedText, RefusedText, MarkText}
use Rattle.ledger_rec.specs.Spelling.{Spells}
use Rattle.ledger_rec.specs.declared.fault.RecFault.{RecFault}
use Rattle.ledger_rec.specs.declared.fault.RecFault.TheVariants.{BadRecord, NoMemory}
use Rattle.ledger_rec.specs.declared.record.Record.{Record}

pub nowhere_is : IsAddress nowhere
nowhere_is = record { zone = omega arith; net = omega arith; node = omega arith; point = omega arith; domain = refl; lower_case = refl }

-- where two read the same, so do what goes on from them
then_same : {X Y : Type 0} (a b : Result X RecFault) (f g : X → Result Y RecFault) (y : Y) → ((x : X) → a ≡ Ok x → b ≡ Ok x) → ((x : X) → f x ≡ Ok y → g x ≡ Ok y) → (a >>= f) ≡ Ok y → (b >>= g) ≡ Ok y
then_same (Ok x) b f g y first rest is = ap (λ r. r >>= g) (first x refl) ∙ rest x is
then_same (Err e) b f g y first rest is = absurd (let clash : Err e ≡ Ok y = is in cc clash)

canonical_of : (text : List ℕ) (read : Result Address AddrFault) (a : Address) → if_canonical text read ≡ Ok a → (read ≡ Ok a) × (canonical a ≡ text)
canonical_of text (Ok b) a is = elim (cases_Bool (pointwise nat_eq (canonical b) text)) as (λ _. (◌≡◌ {A = Result Address AddrFault} (Ok b) (Ok a)) × (canonical a ≡ text)) [
  | inl same ↦ (let now : ◌≡◌ {A = Result Address RecFault} (Ok b) (Ok a) = sym (ap (λ (t : Bool). if t then Ok b else Err BadRecord) same) ∙ is in
      let it : b ≡ a = cc now in
      (ap (λ (x : Address). Ok x) it, subst (λ (x : Address). canonical x ≡ text) it ((slice_eq-Decides Decides-eqb (canonical b) text (pointwise nat_eq (canonical b) text) refl).0 same)))
  | inr apart ↦ absurd (let clash : Err BadRecord ≡ Ok a = sym (ap (λ (t : Bool). if t then Ok b else Err BadRecord) apart) ∙ is in cc clash)
]
canonical_of text (Err fault) a is = absurd (let clash : Err BadRecord ≡ Ok a = is in cc clash)

pub of_canonical : (text : List ℕ) (a : Address) → canonical_at nowhere text ≡ Ok a → (reading text nowhere ≡ Ok a) × (canonical a ≡ text)
unfolding canonical_at
of_canonical text a is = canonical_of text (reading text nowhere) a is

canonical_here : (home : Address) (text : List ℕ) (a : Address) → canonical_at nowhere text ≡ Ok a → canonical_at home text ≡ Ok a
canonical_here home text a is =
    let read = of_canonical text a is in
    let limits = reading-limits text nowhere a nowhere_is read.0 in
    subst (λ (t : List ℕ). canonical_at home t ≡ Ok a) read.1 (canonical_again home a limits)

address_here : (home : Address) (bytes : List ℕ) (x : Address × List ℕ) → address_at nowhere bytes ≡ Ok x → address_at home bytes ≡ Ok x
unfolding address_at
address_here home bytes x is =
    then_same (byte_at 0 255 bytes) (byte_at 0 255 bytes) _ _ x (λ _ e. e) (λ len. then_same (bytes_at len.0 len.1) (bytes_at len.0 len.1) _ _ x (λ _ e. e) (λ text. then_same (canonical_at nowhere text.0) (canonical_at home text.0) _ _ x (λ a e. canonical_here home text.0 a e) (λ a e. e))) is

new_file_here : (home : Address) (bytes : List ℕ) (r : NewFileText) → new_file_at nowhere bytes ≡ Ok r → new_file_at home bytes ≡ Ok r
unfolding new_file_at
new_file_here home bytes r is =
    then_same (number_at bytes) (number_at bytes) _ _ r (λ _ e. e) (λ number. then_same (address_at nowhere number.1) (address_at home number.1) _ _ r (λ a e. address_here home number.1 a e) (λ _ e. e)) is

received_here : (home : Address) (bytes : List ℕ) (r : ReceivedText) → received_at nowhere bytes ≡ Ok r → received_at home bytes ≡ Ok r
unfolding received_at
received_here home bytes r is =
    then_same (number_at bytes) (number_at bytes) _ _ r (λ _ e. e) (λ number. then_same (address_at nowhere number.1) (address_at home number.1) _ _ r (λ a e. address_here home number.1 a e) (λ _ e. e)) is

refused_here : (home : Address) (bytes : List ℕ) (r : RefusedText) → refused_at nowhere bytes ≡ Ok r → refused_at home bytes ≡ Ok r
unfolding refused_at
refused_here home bytes r is = then_same (address_at nowhere bytes) (address_at home bytes) _ _ r (λ a e. address_here home bytes a e) (λ _ e. e) is

mark_here : (home : Address) (bytes : List ℕ) (r : MarkText) → mark_at nowhere bytes ≡ Ok r → mark_at home bytes ≡ Ok r
unfolding mark_at
mark_here home bytes r is =
    then_same (number_at bytes) (number_at bytes) _ _ r (λ _ e. e) (λ number. then_same (address_at nowhere number.1) (address_at home number.1) _ _ r (λ a e. address_here home number.1 a e) (λ _ e. e)) is

choice : (b : Bool) (p q v w : Result RecordText RecFault) (r : RecordText) → (p ≡ Ok r → q ≡ Ok r) → (v ≡ Ok r → w ≡ Ok r) → (if b then p else v) ≡ Ok r → (if b then q else w) ≡ Ok r
choice true p q v w r one two is = one is
choice false p q v w r one two is = two is

fields_here : (home : Address) (kind : ℕ) (bytes : List ℕ) (r : RecordText) → fields_at nowhere kind bytes ≡ Ok r → fields_at home kind bytes ≡ Ok r
unfolding fields_at
fields_here home kind bytes r is =
    choice (kind == 1) _ _ _ _ r (λ e. then_same (new_file_at nowhere bytes) (new_file_at home bytes) _ _ r (λ x f. new_file_here home bytes x f) (λ _ f. f) e)
    (λ v. choice (kind == 2) _ _ _ _ r (λ e. e)
    (λ v. choice (kind == 3) _ _ _ _ r (λ e. then_same (received_at nowhere bytes) (received_at home bytes) _ _ r (λ x f. received_here home bytes x f) (λ _ f. f) e)
    (λ v. choice (kind == 4) _ _ _ _ r (λ e. then_same (refused_at nowhere bytes) (refused_at home bytes) _ _ r (λ x f. refused_here home bytes x f) (λ _ f. f) e)
    (λ v. choice (kind == 5) _ _ _ _ r (λ e. then_same (mark_at nowhere bytes) (mark_at home bytes) _ _ r (λ x f. mark_here home bytes x f) (λ _ f. f) e) (λ e. e) v) v) v) v) is

pub record_here : (home : Address) (payload : List ℕ) (r : RecordText) → record_in payload ≡ Ok r → record_at home payload ≡ Ok r
unfolding record_at
record_here home payload r is = then_same (byte_at 0 255 payload) (byte_at 0 255 payload) _ _ r (λ _ e. e) (λ kind e. fields_here home kind.0 kind.1 r e) is

pub record_is : (payload : List ℕ) (read : Result Record RecFault) → IfOk read (λ rec. HasNumbers (record_of rec)) → IfOk read (λ rec. Spells (record_of rec) payload) → IfOk read (λ rec. record_in payload ≡ Ok (record_of rec))
record_is payload (Ok rec) numbers spells = record_of_payload nowhere payload (record_of rec) numbers spells
record_is payload (Err fault) numbers spells = tt

pub record_none : (home : Address) (payload : List ℕ) (read : Result Record RecFault) → Gives NoMemory record_of read (record_at home payload) → read ≡ Err BadRecord → (r : RecordText) → record_in payload ≢ Ok r
record_none home payload read gives bad r is =
    let none : Gives NoMemory record_of (Err BadRecord) (Ok r) = subst (λ (x : Result Record RecFault). Gives NoMemory record_of x (Ok r)) bad (subst (λ (x : Result RecordText RecFault). Gives NoMemory record_of read x) (record_here home payload r is) gives) in
    elim none as (λ _. ⊥) [ inl e ↦ (let clash : BadRecord ≡ NoMemory = e in cc) | inr e ↦ (let clash : Ok r ≡ Err BadRecord = e in cc) ]
