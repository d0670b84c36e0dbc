-- Records in a text.
use Rattle.std.proofs.Common.{◌≡◌, ℕ, zero, suc, ◌+◌, ◌-◌, ◌*◌, ◌/◌, ◌%◌, ◌<◌, ◌≤◌, List, [], ◌∷◌, ◌++◌, length, map, get_or, take, drop, refl, sym, ◌∙◌, ap, subst, arith, append_assoc, length-append}
use Rattle.std.specs.Prelude.{Some, slice_get, option_map}
use Rattle.std.proofs.lemmas.List.{take_at, drop_at, get_or-append-add, get_or_read, append-nil, take-append-drop}
use Rattle.std.proofs.lemmas.Option.{slice_get-map}
use Rattle.ledger_file.specs.Text.{IsPayload, ArePayloads, header, record_of, records, gate_of}
use Rattle.ledger_file.specs.Records.{payload_at, gates_from, IsText}

pub length-record : (p : List ℕ) → length (record_of p) ≡ length p + 3
length-record p = omega arith

pub length-records : (ps : List (List ℕ)) → ArePayloads ps → length (records ps) ≤ 1403 * length ps
length-records [] are = omega arith
length-records (p ∷ ps) are = omega (arith, length-records ps are.1, length-append p (records ps), are.0.most)

pub records-append : (ps qs : List (List ℕ)) → records (ps ++ qs) ≡ records ps ++ records qs
records-append [] qs = refl
records-append (p ∷ ps) qs = ap (λ (l : List ℕ). record_of p ++ l) (records-append ps qs) ∙ sym (append_assoc (record_of p) (records ps) (records qs))

pub records-one : (p : List ℕ) → records (p ∷ []) ≡ record_of p
records-one p = append-nil (record_of p)

pub are-append : (ps qs : List (List ℕ)) → ArePayloads ps → ArePayloads qs → ArePayloads (ps ++ qs)
are-append [] qs are more = more
are-append (p ∷ ps) qs are more = (are.0, are-append ps qs are.1 more)

pub are-take : (n : ℕ) (ps : List (List ℕ)) → ArePayloads ps → ArePayloads (take n ps)
are-take zero ps are = tt
are-take (suc n) [] are = tt
are-take (suc n) (p ∷ ps) are = (are.0, are-take n ps are.1)

pub are-drop : (n : ℕ) (ps : List (List ℕ)) → ArePayloads ps → ArePayloads (drop n ps)
are-drop zero ps are = are
are-drop (suc n) [] are = tt
are-drop (suc n) (p ∷ ps) are = are-drop n ps are.1

pub gate_of-append : (ps qs : List (List ℕ)) → gate_of (ps ++ qs) ≡ gate_of ps + length (records qs)
gate_of-append ps qs = omega (arith, ap length (records-append ps qs), length-append (records ps) (records qs))

-- the payload of the record that stands behind a front
pub payload_behind : (front p more : List ℕ) → IsPayload p → payload_at (front ++ (record_of p ++ more)) (length front) ≡ p
payload_behind front p more size =
    let text = front ++ (record_of p ++ more) in
    let high : get_or text (length front + 1) 0 ≡ length p / 256 = get_or-append-add front (record_of p ++ more) 1 0 in
    let low : get_or text (length front + 2) 0 ≡ length p % 256 = get_or-append-add front (record_of p ++ more) 2 0 in
    let count : get_or text (length front + 1) 0 * 256 + get_or text (length front + 2) 0 ≡ length p = omega (arith, high, low) in
    let head : List ℕ = 1 ∷ (length p / 256) ∷ (length p % 256) ∷ [] in
    let parts : text ≡ (front ++ head) ++ (p ++ more) = sym (append_assoc front head (p ++ more)) in
    let behind : drop (length front + 3) text ≡ p ++ more =
    ap (λ (l : List ℕ). drop (length front + 3) l) parts ∙ drop_at (front ++ head) (p ++ more) (length front + 3) (length-append front head) in
    ap (λ (l : List ℕ). take (get_or text (length front + 1) 0 * 256 + get_or text (length front + 2) 0) l) behind ∙ take_at p more (get_or text (length front + 1) 0 * 256 + get_or text (length front + 2) 0) (sym count)

-- the payloads are read where their gates are
pub seen : (ps : List (List ℕ)) (front tail : List ℕ) (place : ℕ) → place ≡ length front → ArePayloads ps → map (payload_at (front ++ (records ps ++ tail))) (gates_from place ps) ≡ ps
seen [] front tail place at are = refl
seen (p ∷ ps) front tail place at are =
    let text = front ++ (records (p ∷ ps) ++ tail) in
    let next = place + length (record_of p) in
    let inner : text ≡ front ++ (record_of p ++ (records ps ++ tail)) = ap (λ (l : List ℕ). front ++ l) (append_assoc (record_of p) (records ps) tail) in
    let outer : text ≡ (front ++ record_of p) ++ (records ps ++ tail) = inner ∙ sym (append_assoc front (record_of p) (records ps ++ tail)) in
    let here : payload_at text place ≡ p = ap (λ (l : List ℕ). payload_at l place) inner ∙ ap (λ (n : ℕ). payload_at (front ++ (record_of p ++ (records ps ++ tail))) n) at ∙ payload_behind front p (records ps ++ tail) are.0 in
    let size : next ≡ length (front ++ record_of p) = omega (arith, at, length-append front (record_of p)) in
    let later : map (payload_at text) (gates_from next ps) ≡ ps =
    ap (λ (l : List ℕ). map (payload_at l) (gates_from next ps)) outer ∙ seen ps (front ++ record_of p) tail next size are.1 in
    (λ i. here i ∷ later i)

pub view_of : (ps : List (List ℕ)) (text gates : List ℕ) → IsText ps text gates → map (payload_at text) gates ≡ ps
view_of ps text gates is =
    let whole : text ≡ header ++ (records ps ++ 0 ∷ []) = is.text ∙ append_assoc header (records ps) (0 ∷ []) in
    ap (λ (l : List ℕ). map (payload_at l) gates) whole
    ∙ ap (λ (l : List ℕ). map (payload_at (header ++ (records ps ++ 0 ∷ []))) l) is.gates
    ∙ seen ps header (0 ∷ []) 16 refl is.sizes

-- the gates of a front, and of what is added
pub gates-add : (ps : List (List ℕ)) (place : ℕ) (p : List ℕ) → gates_from place (ps ++ p ∷ []) ≡ gates_from place ps ++ (place + length (records ps)) ∷ []
gates-add [] place p = let e : place ≡ place + 0 = omega arith in ap (λ (n : ℕ). n ∷ []) e
gates-add (q ∷ ps) place p =
    let next = place + length (record_of q) in
    let e : next + length (records ps) ≡ place + length (records (q ∷ ps)) = omega (arith, length-append (record_of q) (records ps)) in
    ap (λ (l : List ℕ). place ∷ l) (gates-add ps next p ∙ ap (λ (n : ℕ). gates_from next ps ++ n ∷ []) e)

pub length-gates : (ps : List (List ℕ)) (place : ℕ) → length (gates_from place ps) ≡ length ps
length-gates [] place = refl
length-gates (p ∷ ps) place = omega (arith, length-gates ps (place + length (record_of p)))

pub take-gates : (n : ℕ) (ps : List (List ℕ)) (place : ℕ) → take n (gates_from place ps) ≡ gates_from place (take n ps)
take-gates zero ps place = refl
take-gates (suc n) [] place = refl
take-gates (suc n) (p ∷ ps) place = ap (λ (l : List ℕ). place ∷ l) (take-gates n ps (place + length (record_of p)))

pub get_or-gates : (ps : List (List ℕ)) (place i : ℕ) → i < length ps → get_or (gates_from place ps) i 0 ≡ place + length (records (take i ps))
get_or-gates [] place i within = absurd (omega arith)
get_or-gates (p ∷ ps) place zero within = omega arith
get_or-gates (p ∷ ps) place (suc i) within =
    omega (arith, get_or-gates ps (place + length (record_of p)) i (omega arith), length-append (record_of p) (records (take i ps)))

-- the records up to one, and those from it on
pub records-split : (n : ℕ) (ps : List (List ℕ)) → records ps ≡ records (take n ps) ++ records (drop n ps)
records-split n ps = ap records (sym (take-append-drop n ps)) ∙ records-append (take n ps) (drop n ps)

-- where a gate stands, and that its record is inside the text
pub gate_at : (ps : List (List ℕ)) (text gates : List ℕ) (i : ℕ) → IsText ps text gates → i < length ps → get_or gates i 0 ≡ gate_of (take i ps)
gate_at ps text gates i is within =
    ap (λ (l : List ℕ). get_or l i 0) is.gates ∙ get_or-gates ps 16 i within ∙ sym (length-append header (records (take i ps)))

first_of_drop : (ps : List (List ℕ)) (i : ℕ) → i < length ps → ArePayloads ps → (p : List ℕ) × (rest : List (List ℕ)) × (drop i ps ≡ p ∷ rest) × IsPayload p
first_of_drop [] i within are = absurd (omega arith)
first_of_drop (p ∷ ps) zero within are = (p, ps, refl, are.0)
first_of_drop (p ∷ ps) (suc i) within are = first_of_drop ps i (omega arith) are.1

-- a record that stands in a text
pub record Standing (text : List ℕ) (gate : ℕ) : Type 0 where
  pub high : gate + 1 < length text
  pub low : gate + 2 < length text
  pub whole : gate + 3 + (get_or text (gate + 1) 0 * 256 + get_or text (gate + 2) 0) ≤ length text
  pub short : get_or text (gate + 1) 0 * 256 + get_or text (gate + 2) 0 ≤ 1400

standing_behind : (front p more : List ℕ) → IsPayload p → Standing (front ++ (record_of p ++ more)) (length front)
standing_behind front p more size =
    let text = front ++ (record_of p ++ more) in
    let high : get_or text (length front + 1) 0 ≡ length p / 256 = get_or-append-add front (record_of p ++ more) 1 0 in
    let low : get_or text (length front + 2) 0 ≡ length p % 256 = get_or-append-add front (record_of p ++ more) 2 0 in
    let total : length text ≡ length front + (3 + length p + length more) = omega (arith, length-append front (record_of p ++ more), length-append p more) in
    record {
      high = omega (arith, total);
      low = omega (arith, total);
      whole = omega (arith, total, high, low);
      short = omega (arith, high, low, size.most);
    }

pub standing : (ps : List (List ℕ)) (text gates : List ℕ) (i : ℕ) → IsText ps text gates → i < length ps → Standing text (get_or gates i 0)
standing ps text gates i is within =
    let first = first_of_drop ps i within is.sizes in
    let front = header ++ records (take i ps) in
    let parts : text ≡ front ++ (record_of first.0 ++ (records first.1 ++ 0 ∷ [])) =
    is.text
    ∙ ap (λ (l : List ℕ). (header ++ l) ++ 0 ∷ []) (records-split i ps ∙ ap (λ (l : List (List ℕ)). records (take i ps) ++ records l) first.2)
    ∙ ap (λ (l : List ℕ). l ++ 0 ∷ []) (sym (append_assoc header (records (take i ps)) (records (first.0 ∷ first.1))))
    ∙ append_assoc front (records (first.0 ∷ first.1)) (0 ∷ [])
    ∙ ap (λ (l : List ℕ). front ++ l) (append_assoc (record_of first.0) (records first.1) (0 ∷ [])) in
    subst (λ (n : ℕ). Standing text n) (sym (gate_at ps text gates i is within))
    (subst (λ (l : List ℕ). Standing l (length front)) (sym parts) (standing_behind front first.0 (records first.1 ++ 0 ∷ []) first.3))

-- one record more
pub is_text-add : (ps : List (List ℕ)) (text gates p : List ℕ) (gate : ℕ) (text' gates' : List ℕ) → IsText ps text gates → IsPayload p → gate ≡ length text - 1
    → text' ≡ take gate text ++ (record_of p ++ 0 ∷ []) → gates' ≡ gates ++ gate ∷ [] → IsText (ps ++ p ∷ []) text' gates'
is_text-add ps text gates p gate text' gates' is size at texts gates_are =
    let front = header ++ records ps in
    let place : gate ≡ length front = omega (arith, at, ap length is.text, length-append front (0 ∷ [])) in
    let ahead : take gate text ≡ front = ap (λ (l : List ℕ). take gate l) is.text ∙ take_at front (0 ∷ []) gate (sym place) in
    let more : records (ps ++ p ∷ []) ≡ records ps ++ record_of p = records-append ps (p ∷ []) ∙ ap (λ (l : List ℕ). records ps ++ l) (records-one p) in
    record {
      text = texts
          ∙ ap (λ (l : List ℕ). l ++ (record_of p ++ 0 ∷ [])) ahead
          ∙ sym (append_assoc front (record_of p) (0 ∷ []))
          ∙ ap (λ (l : List ℕ). l ++ 0 ∷ []) (append_assoc header (records ps) (record_of p) ∙ ap (λ (l : List ℕ). header ++ l) (sym more));
      gates = gates_are ∙ ap (λ (l : List ℕ). l ++ gate ∷ []) is.gates ∙ ap (λ (n : ℕ). gates_from 16 ps ++ n ∷ []) (place ∙ length-append header (records ps)) ∙ sym (gates-add ps 16 p);
      sizes = are-append ps (p ∷ []) is.sizes (size, tt);
    }

-- the first records alone
pub is_text-take : (ps : List (List ℕ)) (text gates : List ℕ) (n : ℕ) (text' gates' : List ℕ) → IsText ps text gates → n < length ps
    → text' ≡ take (get_or gates n 0) text ++ 0 ∷ [] → gates' ≡ take n gates → IsText (take n ps) text' gates'
is_text-take ps text gates n text' gates' is within texts gates_are =
    let front = header ++ records (take n ps) in
    let gate : get_or gates n 0 ≡ length front = gate_at ps text gates n is within in
    let parts : text ≡ front ++ (records (drop n ps) ++ 0 ∷ []) =
    is.text
    ∙ ap (λ (l : List ℕ). (header ++ l) ++ 0 ∷ []) (records-split n ps)
    ∙ ap (λ (l : List ℕ). l ++ 0 ∷ []) (sym (append_assoc header (records (take n ps)) (records (drop n ps))))
    ∙ append_assoc front (records (drop n ps)) (0 ∷ []) in
    record {
      text = texts ∙ ap (λ (l : List ℕ). l ++ 0 ∷ []) (ap (λ (l : List ℕ). take (get_or gates n 0) l) parts ∙ take_at front (records (drop n ps) ++ 0 ∷ []) (get_or gates n 0) (sym gate));
      gates = gates_are ∙ ap (λ (l : List ℕ). take n l) is.gates ∙ take-gates n ps 16;
      sizes = are-take n ps is.sizes;
    }

-- how long the text is, up to a record and from it on
pub length-text : (ps : List (List ℕ)) (text gates : List ℕ) (n : ℕ) → IsText ps text gates → length text ≡ gate_of (take n ps) + length (records (drop n ps)) + 1
length-text ps text gates n is =
    omega (
      arith,
      ap length is.text,
      length-append (header ++ records ps) (0 ∷ []),
      length-append header (records ps),
      length-append header (records (take n ps)),
      ap length (records-split n ps),
      length-append (records (take n ps)) (records (drop n ps)),
    )

-- reading a record by its number
slice_get_is : (xs : List ℕ) (i x : ℕ) → i < length xs → x ≡ get_or xs i x → slice_get xs i ≡ Some x
slice_get_is [] i x within is = absurd (omega arith)
slice_get_is (y ∷ xs) zero x within is = ap Some (sym is)
slice_get_is (y ∷ xs) (suc i) x within is = slice_get_is xs i x (omega arith) is

pub within_gates : (ps : List (List ℕ)) (text gates : List ℕ) (i : ℕ) → IsText ps text gates → i < length ps → i < length gates
within_gates ps text gates i is within = omega (arith, within, ap length is.gates, length-gates ps 16)

module _ (ps : List (List ℕ)) (text gates s : List ℕ) (i gate : ℕ) (is : IsText ps text gates) (within : i < length ps) (at : gate ≡ get_or gates i gate) (same : s ≡ text) where
  pub stands_there : Standing s gate
  stands_there = subst (λ (l : List ℕ). Standing l gate) (sym same) (subst (Standing text) (sym (get_or_read gates i gate (within_gates ps text gates i is within) at 0)) (standing ps text gates i is within))

  pub payload_there : slice_get (map (payload_at text) gates) i ≡ Some (take (gate + 3 + (get_or s (gate + 1) 0 * 256 + get_or s (gate + 2) 0) - (gate + 3)) (drop (gate + 3) s))
  payload_there =
      let n = get_or s (gate + 1) 0 * 256 + get_or s (gate + 2) 0 in
      let size : gate + 3 + n - (gate + 3) ≡ n = omega arith in
      slice_get-map (payload_at text) gates i
      ∙ ap (option_map (payload_at text)) (slice_get_is gates i gate (within_gates ps text gates i is within) at)
      ∙ ap (λ (l : List ℕ). Some (payload_at l gate)) (sym same)
      ∙ ap (λ (k : ℕ). Some (take k (drop (gate + 3) s))) (sym size)
