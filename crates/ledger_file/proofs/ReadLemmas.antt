-- What reading finds behind some records.
use Rattle.std.proofs.Common.{◌≡◌, ◌≢◌, inl, inr, ℕ, ◌+◌, ◌-◌, ◌*◌, ◌/◌, ◌%◌, ◌<◌, ◌≤◌, List, [], ◌∷◌, ◌++◌, length, get_or, take, drop, refl, sym, ◌∙◌, ap, arith, append_assoc, length-append, length-drop, take-append-drop}
use Rattle.std.proofs.Math.Seq.{take-length}
use Rattle.std.proofs.lemmas.List.{length-take-le}
use Rattle.ledger_file.specs.Text.{IsPayload, ArePayloads, header, record_of, records, gate_of, Spells}
use Rattle.ledger_file.specs.Reading.{IsCut, IsOver}
use Rattle.ledger_file.proofs.RecordLemmas.{records-append, records-one, are-append}

high_of : (h l : ℕ) → l < 256 → (h * 256 + l) / 256 ≡ h
high_of h l lt = omega arith

low_of : (h l : ℕ) → l < 256 → (h * 256 + l) % 256 ≡ l
low_of h l lt = omega arith

-- the record at the front
pub record_front : (bytes x : List ℕ) (len : ℕ) → 3 ≤ length bytes → get_or bytes 0 0 ≡ 1 → get_or bytes 2 0 < 256 → len ≡ get_or bytes 1 0 * 256 + get_or bytes 2 0
    → x ≡ take (length bytes - 3) (drop 3 bytes) → len ≤ length x → bytes ≡ record_of (take len x) ++ take (length x - len) (drop len x)
record_front [] x len long gate low len_is x_is fits = absurd (omega arith)
record_front (g ∷ []) x len long gate low len_is x_is fits = absurd (omega arith)
record_front (g ∷ h ∷ []) x len long gate low len_is x_is fits = absurd (omega arith)
record_front (g ∷ h ∷ l ∷ after) x len long gate low len_is x_is fits =
    let p = take len x in
    let counts : length (g ∷ h ∷ l ∷ after) - 3 ≡ length after = omega arith in
    let whole : x ≡ after = x_is ∙ ap (λ (n : ℕ). take n after) counts ∙ take-length after in
    let size : length p ≡ len = length-take-le len x fits in
    let back : take (length x - len) (drop len x) ≡ drop len x = ap (λ (n : ℕ). take n (drop len x)) (sym (length-drop len x)) ∙ take-length (drop len x) in
    sym
    (λ i.
    sym gate i
    ∷ (ap (λ (n : ℕ). n / 256) (size ∙ len_is) ∙ high_of h l low) i
    ∷ (ap (λ (n : ℕ). n % 256) (size ∙ len_is) ∙ low_of h l low) i
    ∷ (ap (λ (t : List ℕ). p ++ t) back ∙ take-append-drop len x ∙ whole) i)

-- bytes that begin with an open gate
opens : (rest : List ℕ) → 1 ≤ length rest → get_or rest 0 0 ≡ 1 → (more : List ℕ) × (rest ≡ 1 ∷ more)
opens [] some gate = absurd (omega arith)
opens (g ∷ more) some gate = (more, ap (λ (n : ℕ). n ∷ more) gate)

module _ (ps : List (List ℕ)) (bytes rest : List ℕ) (is : bytes ≡ (header ++ records ps) ++ rest) (sizes : ArePayloads ps) (few : length ps ≤ 262144) where
  pub place_is : length bytes - length rest ≡ gate_of ps
  place_is = omega (arith, ap length is, length-append (header ++ records ps) rest)

  pub is_over : length ps ≡ 262144 → 1 ≤ length rest → get_or rest 0 0 ≡ 1 → IsOver (length bytes - length rest) bytes
  is_over many some gate =
      let more = opens rest some gate in
      record { payloads = ps; rest = more.0; is = is ∙ ap (λ (l : List ℕ). (header ++ records ps) ++ l) more.1; sizes = sizes; many = many; at = place_is }

  pub is_broken : length ps ≢ 262144 → 1 ≤ length rest → get_or rest 0 0 ≡ 1 → ((payload more : List ℕ) → IsPayload payload → rest ≢ record_of payload ++ more) → IsCut (length bytes - length rest) bytes
  is_broken other some gate none =
      let more = opens rest some gate in
      let left : length ps < 262144 = omega arith in
      record {
        payloads = ps;
        tail = rest;
        is = is;
        sizes = sizes;
        few = few;
        at = place_is;
        ends = inr (left, record { rest = more.0; open_gate = more.1; none = none });
      }

  pub is_ended : length rest ≡ 0 → IsCut (length bytes) bytes
  is_ended ended =
      let at : length bytes ≡ gate_of ps = omega (arith, place_is, ended) in
      record { payloads = ps; tail = rest; is = is; sizes = sizes; few = few; at = at; ends = inl (nothing rest ended) }
    where
      nothing : (l : List ℕ) → length l ≡ 0 → l ≡ []
      nothing [] none = refl
      nothing (x ∷ l) none = absurd (omega arith)

  pub spells : 1 ≤ length rest → get_or rest 0 0 ≢ 1 → Spells ps bytes
  spells some shut =
      let parts = splits rest some in
      let shut_part : parts.0 ≢ 1 = λ is_open. shut (ap (λ (l : List ℕ). get_or l 0 0) parts.2 ∙ is_open) in
      record { byte = parts.0; rest = parts.1; is = is ∙ ap (λ (l : List ℕ). (header ++ records ps) ++ l) parts.2; shut = shut_part; sizes = sizes; few = few }
    where
      splits : (l : List ℕ) → 1 ≤ length l → (x : ℕ) × (more : List ℕ) × (l ≡ x ∷ more)
      splits [] none = absurd (omega arith)
      splits (x ∷ more) it = (x, more, refl)

  -- one record more was read
  pub read_more : (p after : List ℕ) → rest ≡ record_of p ++ after → bytes ≡ (header ++ records (ps ++ p ∷ [])) ++ after
  read_more p after front =
      is
      ∙ ap (λ (l : List ℕ). (header ++ records ps) ++ l) front
      ∙ sym (append_assoc (header ++ records ps) (record_of p) after)
      ∙ ap (λ (l : List ℕ). l ++ after) (append_assoc header (records ps) (record_of p) ∙ ap (λ (l : List ℕ). header ++ (records ps ++ l)) (sym (records-one p)) ∙ ap (λ (l : List ℕ). header ++ l) (sym (records-append ps (p ∷ []))))

  pub sizes_more : (p : List ℕ) → IsPayload p → ArePayloads (ps ++ p ∷ [])
  sizes_more p size = are-append ps (p ∷ []) sizes (size, tt)
