-- Bytes have one reading at most.
use Rattle.std.proofs.Common.{◌≡◌, ◌≢◌, ◌⊎◌, inl, inr, ℕ, ◌+◌, ◌*◌, ◌/◌, ◌%◌, ◌<◌, ◌≤◌, ◌^◌, true, false, List, [], ◌∷◌, ◌++◌, length, get_or, take, drop, Result, Ok, Err, refl, sym, ◌∙◌, ap, arith, append_assoc}
use Rattle.std.specs.Prelude.{nat_eq, if◌then◌else◌}
use Rattle.std.proofs.lemmas.Bool.{cases_Bool, cases_lt}
use Rattle.std.proofs.lemmas.Bool.Decides.{nat_tests}
use Rattle.std.proofs.lemmas.List.{take_at, drop_at, append_cancel_left}
use Rattle.ledger_file.specs.Text.{IsPayload, ArePayloads, header_of, header, record_of, records, gate_of, Spells}
use Rattle.ledger_file.specs.Reading.{IsNoLedger, IsBroken, IsCut, IsOver, Reads, OneReading}
use Rattle.ledger_file.specs.declared.fault.OpenFault.{OpenFault}
use Rattle.ledger_file.specs.declared.fault.OpenFault.TheVariants.{Disk, NotLedger, Version, Cut, Over, NoMemory}
use Rattle.ledger_file.proofs.HeaderLemmas.{same_version}

-- no record stands at the front
IsEnd : List ℕ → Type 0
IsEnd tail = (payload more : List ℕ) → IsPayload payload → tail ≢ record_of payload ++ more

same_length : (m n : ℕ) → m / 256 ≡ n / 256 → m % 256 ≡ n % 256 → m ≡ n
same_length m n high low = omega arith

-- two splittings of the same bytes are one, where the shorter one ends
same_split : (ps qs : List (List ℕ)) (t u : List ℕ) → ArePayloads ps → records ps ++ t ≡ records qs ++ u → length qs ≤ length ps → (length qs < length ps → IsEnd u) → (ps ≡ qs) × (t ≡ u)
unfolding IsEnd
same_split [] [] t u are same le ends = (refl, same)
same_split [] (q ∷ qs) t u are same le ends = absurd (omega arith)
same_split (p ∷ ps) [] t u are same le ends = absurd (ends (omega arith) p (records ps ++ t) are.0 (sym same ∙ append_assoc (record_of p) (records ps) t))
same_split (p ∷ ps) (q ∷ qs) t u are same le ends =
    let high : length p / 256 ≡ length q / 256 = cc same in
    let low : length p % 256 ≡ length q % 256 = cc same in
    let tails : (p ++ records ps) ++ t ≡ (q ++ records qs) ++ u = cc same in
    let size = same_length (length p) (length q) high low in
    let split : p ++ (records ps ++ t) ≡ q ++ (records qs ++ u) = sym (append_assoc p (records ps) t) ∙ tails ∙ append_assoc q (records qs) u in
    let head : p ≡ q = sym (take_at p (records ps ++ t) (length p) refl) ∙ ap (λ (l : List ℕ). take (length p) l) split ∙ take_at q (records qs ++ u) (length p) (sym size) in
    let rest : records ps ++ t ≡ records qs ++ u = sym (drop_at p (records ps ++ t) (length p) refl) ∙ ap (λ (l : List ℕ). drop (length p) l) split ∙ drop_at q (records qs ++ u) (length p) (sym size) in
    let more = same_split ps qs t u are.1 rest (omega arith) (λ lt. ends (omega arith)) in
    (λ i. head i ∷ more.0 i, more.1)

-- what the bytes behind the records say
verdict : List (List ℕ) → List ℕ → Result (List (List ℕ)) OpenFault
verdict ps [] = Err (Cut (gate_of ps))
verdict ps (b ∷ rest) = if nat_eq b 1 then (if nat_eq (length ps) 262144 then Err (Over (gate_of ps)) else Err (Cut (gate_of ps))) else Ok ps

record Other (r : Result (List (List ℕ)) OpenFault) (bytes : List ℕ) : Type 0 where
  version : ℕ
  rest : List ℕ
  is : bytes ≡ header_of version ++ rest
  number : version < 2 ^ 32
  other : version ≢ 1
  result : r ≡ Err (Version version)

record Split (r : Result (List (List ℕ)) OpenFault) (bytes : List ℕ) : Type 0 where
  payloads : List (List ℕ)
  tail : List ℕ
  is : bytes ≡ (header ++ records payloads) ++ tail
  sizes : ArePayloads payloads
  few : length payloads ≤ 262144
  ends : length payloads < 262144 → IsEnd tail
  result : r ≡ verdict payloads tail

not_equal : (m n : ℕ) → m ≢ n → nat_eq m n ≡ false
not_equal m n other = elim (cases_Bool (nat_eq m n)) [
  | inl holds ↦ absurd (other (grind (arith, nat_tests)))
  | inr fails ↦ fails
]

shut_ends : (b : ℕ) (rest : List ℕ) → b ≢ 1 → IsEnd (b ∷ rest)
unfolding IsEnd
shut_ends b rest shut p more size same = let e : b ≡ 1 = cc same in absurd (shut e)

spelled : (payloads : List (List ℕ)) (bytes : List ℕ) → Spells payloads bytes → Split (Ok payloads) bytes
unfolding verdict
spelled payloads bytes s =
    let shut = not_equal s.byte 1 s.shut in
    record { payloads = payloads; tail = s.byte ∷ s.rest; is = s.is; sizes = s.sizes; few = s.few; ends = λ lt. shut_ends s.byte s.rest s.shut; result = rw shut refl }

cut : (place : ℕ) (bytes : List ℕ) (c : IsCut place bytes) → (c.tail ≡ []) ⊎ ((length c.payloads < 262144) × IsBroken c.tail) → Split (Err (Cut place)) bytes
unfolding verdict IsEnd
cut place bytes c (inl empty) = record {
  payloads = c.payloads;
  tail = [];
  is = c.is ∙ ap (λ (l : List ℕ). (header ++ records c.payloads) ++ l) empty;
  sizes = c.sizes;
  few = c.few;
  ends = λ lt p more size same. cc same;
  result = ap (λ (n : ℕ). Err (Cut n)) c.at;
}
cut place bytes c (inr broken) =
    let b = broken.1 in
    let few : length c.payloads ≢ 262144 = omega arith in
    let room = not_equal (length c.payloads) 262144 few in
    let here : verdict c.payloads (1 ∷ b.rest) ≡ Err (Cut (gate_of c.payloads)) = rw room refl in
    record {
      payloads = c.payloads;
      tail = c.tail;
      is = c.is;
      sizes = c.sizes;
      few = c.few;
      ends = λ lt. b.none;
      result = ap (λ (n : ℕ). Err (Cut n)) c.at ∙ sym here ∙ ap (verdict c.payloads) (sym b.open_gate);
    }

over : (place : ℕ) (bytes : List ℕ) → IsOver place bytes → Split (Err (Over place)) bytes
unfolding verdict
over place bytes o =
    let full : nat_eq (length o.payloads) 262144 ≡ true = ap (λ (n : ℕ). nat_eq n 262144) o.many in
    record {
      payloads = o.payloads;
      tail = 1 ∷ o.rest;
      is = o.is;
      sizes = o.sizes;
      few = omega (arith, o.many);
      ends = λ lt. absurd (omega (arith, o.many));
      result = ap (λ (n : ℕ). Err (Over n)) o.at ∙ rw full refl;
    }

Shape : Result (List (List ℕ)) OpenFault → List ℕ → Type 0
Shape r bytes = ((r ≡ Err NotLedger) × IsNoLedger bytes) ⊎ (Other r bytes ⊎ Split r bytes)

shape : (r : Result (List (List ℕ)) OpenFault) (bytes : List ℕ) → Reads r bytes → Shape r bytes
unfolding Shape
shape (Ok payloads) bytes reads = inr (inr (spelled payloads bytes reads))
shape (Err NotLedger) bytes reads = inl (refl, reads)
shape (Err (Version version)) bytes reads = inr (inl (record { version = version; rest = reads.rest; is = reads.is; number = reads.number; other = reads.other; result = refl }))
shape (Err (Cut place)) bytes reads = inr (inr (cut place bytes reads reads.ends))
shape (Err (Over place)) bytes reads = inr (inr (over place bytes reads))
shape (Err Disk) bytes reads = absurd reads
shape (Err NoMemory) bytes reads = absurd reads

one_version : (bytes x y : List ℕ) (v w : ℕ) → v < 2 ^ 32 → w < 2 ^ 32 → bytes ≡ header_of v ++ x → bytes ≡ header_of w ++ y → v ≡ w
one_version bytes x y v w v_fits w_fits v_is w_is =
    let found = get_or bytes 8 0 * 16777216 + get_or bytes 9 0 * 65536 + get_or bytes 10 0 * 256 + get_or bytes 11 0 in
    sym (same_version bytes x v found v_fits v_is refl) ∙ same_version bytes y w found w_fits w_is refl

begins : (r : Result (List (List ℕ)) OpenFault) (bytes : List ℕ) (s : Split r bytes) → bytes ≡ header ++ (records s.payloads ++ s.tail)
begins r bytes s = s.is ∙ append_assoc header (records s.payloads) s.tail

either : (a b : ℕ) → (a ≤ b) ⊎ (b ≤ a)
either a b = elim (cases_lt a b) [ inl lt ↦ inl (omega arith) | inr le ↦ inr le ]

one_split : (r q : Result (List (List ℕ)) OpenFault) (bytes : List ℕ) → Split r bytes → Split q bytes → r ≡ q
one_split r q bytes s u =
    let same : records s.payloads ++ s.tail ≡ records u.payloads ++ u.tail = append_cancel_left header (records s.payloads ++ s.tail) (records u.payloads ++ u.tail) (sym (begins r bytes s) ∙ begins q bytes u) in
    let both : (s.payloads ≡ u.payloads) × (s.tail ≡ u.tail) = ordered same (either (length u.payloads) (length s.payloads)) in
    s.result ∙ ap (λ (l : List (List ℕ)). verdict l s.tail) both.0 ∙ ap (verdict u.payloads) both.1 ∙ sym u.result
  where
    ordered : records s.payloads ++ s.tail ≡ records u.payloads ++ u.tail → (length u.payloads ≤ length s.payloads) ⊎ (length s.payloads ≤ length u.payloads) → (s.payloads ≡ u.payloads) × (s.tail ≡ u.tail)
    ordered same (inl le) = same_split s.payloads u.payloads s.tail u.tail s.sizes same le (λ lt. u.ends (omega (arith, s.few)))
    ordered same (inr le) =
        let back = same_split u.payloads s.payloads u.tail s.tail u.sizes (sym same) le (λ lt. s.ends (omega (arith, u.few))) in
        (sym back.0, sym back.1)

one_shape : (r q : Result (List (List ℕ)) OpenFault) (bytes : List ℕ) → Shape r bytes → Shape q bytes → r ≡ q
unfolding Shape
one_shape r q bytes (inl a) (inl b) = a.0 ∙ sym b.0
one_shape r q bytes (inl a) (inr (inl b)) = absurd (a.1 b.version b.rest b.number b.is)
one_shape r q bytes (inl a) (inr (inr b)) = absurd (a.1 1 (records b.payloads ++ b.tail) (omega arith) (begins q bytes b))
one_shape r q bytes (inr (inl a)) (inl b) = absurd (b.1 a.version a.rest a.number a.is)
one_shape r q bytes (inr (inr a)) (inl b) = absurd (b.1 1 (records a.payloads ++ a.tail) (omega arith) (begins r bytes a))
one_shape r q bytes (inr (inl a)) (inr (inl b)) = a.result ∙ ap (λ (n : ℕ). Err (Version n)) (one_version bytes a.rest b.rest a.version b.version a.number b.number a.is b.is) ∙ sym b.result
one_shape r q bytes (inr (inl a)) (inr (inr b)) = absurd (a.other (one_version bytes a.rest (records b.payloads ++ b.tail) a.version 1 a.number (omega arith) a.is (begins q bytes b)))
one_shape r q bytes (inr (inr a)) (inr (inl b)) = absurd (b.other (one_version bytes b.rest (records a.payloads ++ a.tail) b.version 1 b.number (omega arith) b.is (begins r bytes a)))
one_shape r q bytes (inr (inr a)) (inr (inr b)) = one_split r q bytes a b

pub one_reading : OneReading
one_reading one two bytes first second = one_shape one two bytes (shape one bytes first) (shape two bytes second)
