-- What the gate's protocol makes of a ledger's payloads.
use Rattle.std.proofs.Common.{◌≡◌, ◌⊎◌, inl, inr, ℕ, ◌+◌, ◌-◌, ◌<◌, ◌≤◌, ◌^◌, List, [], ◌∷◌, ◌++◌, length, take, drop, sym, ◌∙◌, ap, subst, arith, append_assoc, length-append, take-append-drop}
use Rattle.std.proofs.lemmas.Bool.{cases_eq}
use Rattle.std.proofs.lemmas.List.{drop_at, drop-drop, take_rest, length-take, length-drop}
use Rattle.disk_model.specs.World.{World}
use Rattle.disk_model.specs.Changes.{OnOwn, Rewrites}
use Rattle.ledger_file.specs.Gate.{IsShut, ShutAt, Published, Opened}
use Rattle.ledger_file.specs.Text.{ArePayloads, header, record_of, records, gate_of, Spells}
use Rattle.ledger_file.specs.Ledger.{ledger_name, LedgerIs, Appends}
use Rattle.ledger_file.proofs.GateLemmas.{front}
use Rattle.ledger_file.proofs.OwnLemmas.{only_rewrites}
use Rattle.ledger_file.proofs.RecordLemmas.{records-append, records-split, length-records}

-- what stands behind a gate is the records from there on without their first gate, and a closed gate
opens_with : (more : List (List ℕ)) (l : List ℕ) → 0 < length more → l ≡ records more ++ 0 ∷ [] → 1 ∷ drop 1 l ≡ l
opens_with [] l some is = absurd (omega arith)
opens_with (p ∷ ps) l some is = ap (λ (x : List ℕ). 1 ∷ drop 1 x) is ∙ sym is

pub block_is : (ps : List (List ℕ)) (text : List ℕ) (count gate : ℕ) → text ≡ (header ++ records ps) ++ 0 ∷ [] → count < length ps → gate ≡ gate_of (take count ps)
    → 1 ∷ take (length text - (gate + 1)) (drop (gate + 1) text) ≡ records (drop count ps) ++ 0 ∷ []
block_is ps text count gate is within at =
    let more = drop count ps in
    let front = header ++ records (take count ps) in
    let parts : text ≡ front ++ (records more ++ 0 ∷ []) =
    is
    ∙ ap (λ (l : List ℕ). (header ++ l) ++ 0 ∷ []) (records-split count ps)
    ∙ ap (λ (l : List ℕ). l ++ 0 ∷ []) (sym (append_assoc header (records (take count ps)) (records more)))
    ∙ append_assoc front (records more) (0 ∷ []) in
    let behind : drop gate text ≡ records more ++ 0 ∷ [] = ap (λ (l : List ℕ). drop gate l) parts ∙ drop_at front (records more ++ 0 ∷ []) gate (sym at) in
    let some : 0 < length more = omega (arith, ap length (take-append-drop count ps), length-append (take count ps) more, length-take count ps) in
    ap (λ (l : List ℕ). 1 ∷ l) (take_rest text (gate + 1) ∙ sym (drop-drop 1 gate text)) ∙ opens_with more (drop gate text) some behind ∙ behind

module _ (old more : List (List ℕ)) (gate : ℕ) (block : List ℕ) (place : gate ≡ gate_of old) (is_block : 1 ∷ block ≡ records more ++ 0 ∷ [])
    (sizes : ArePayloads (old ++ more)) (few : length (old ++ more) ≤ 262144) where
  is_shut : (b : List ℕ) → Spells old b → IsShut gate b
  is_shut b s = record { front = header ++ records old; byte = s.byte; rest = s.rest; is = s.is; place = sym place; shut = s.shut }

  head : (b : List ℕ) → Spells old b → take gate b ≡ header ++ records old
  unfolding is_shut
  head b s = front gate b (is_shut b s)

  joined : (c m : List ℕ) → c ≡ (header ++ records old) ++ (1 ∷ block ++ m) → Spells (old ++ more) c
  joined c m is = record {
    byte = 0;
    rest = m;
    is = is
        ∙ ap (λ (l : List ℕ). (header ++ records old) ++ (l ++ m)) is_block
        ∙ ap (λ (l : List ℕ). (header ++ records old) ++ l) (append_assoc (records more) (0 ∷ []) m)
        ∙ sym (append_assoc (header ++ records old) (records more) (0 ∷ m))
        ∙ ap (λ (l : List ℕ). l ++ 0 ∷ m) (append_assoc header (records old) (records more) ∙ ap (λ (l : List ℕ). header ++ l) (sym (records-append old more)));
    shut = omega arith;
    sizes = sizes;
    few = few;
  }

  old_or_all : (b c : List ℕ) → Spells old b → Published gate block b c → Spells old c ⊎ Spells (old ++ more) c
  old_or_all b c s p =
      let is : c ≡ (header ++ records old) ++ p.byte ∷ p.rest = p.is ∙ ap (λ (l : List ℕ). l ++ p.byte ∷ p.rest) (head b s) in
      elim (cases_eq p.byte 1) [
        | inl is_open ↦
            let whole = p.whole is_open in
            inr (joined c whole.0 (is ∙ ap (λ (x : ℕ). (header ++ records old) ++ x ∷ p.rest) is_open ∙ ap (λ (l : List ℕ). (header ++ records old) ++ 1 ∷ l) whole.1))
        | inr shut ↦ inl (record { byte = p.byte; rest = p.rest; is = is; shut = shut; sizes = s.sizes; few = s.few })
      ]

  all : (b c : List ℕ) → Spells old b → Opened gate block b c → Spells (old ++ more) c
  all b c s o = joined c o.more (o.is ∙ ap (λ (l : List ℕ). l ++ (1 ∷ block ++ o.more)) (head b s))

  -- the same of worlds
  pub shut_at : (d : World) → LedgerIs old d → ShutAt ledger_name gate d
  shut_at d is = (is.0, is.1, is_shut is.0 is.2)

  pub appends : (d c : World) → LedgerIs old d → OnOwn (Rewrites ledger_name (Published gate block)) d c → Appends old more d c
  appends d c was step =
      let after = step.own.file was.0 was.1 in
      record {
        others = only_rewrites ledger_name (Published gate block) d c step;
        ledger = elim (old_or_all was.0 after.0 was.2 after.2) [
          | inl same ↦ inl (after.0, after.1, same)
          | inr joined_all ↦ inr (after.0, after.1, joined_all)
        ];
      }

  pub appended : (d c : World) → LedgerIs old d → OnOwn (Rewrites ledger_name (Opened gate block)) d c → LedgerIs (old ++ more) c
  appended d c was step =
      let after = step.own.file was.0 was.1 in
      (after.0, after.1, all was.0 after.0 was.2 after.2)

-- the block that stands in a text behind its first records
abbrev pub block_in : List ℕ → ℕ → List ℕ
block_in text gate = take (length text - (gate + 1)) (drop (gate + 1) text)

module _ (ps : List (List ℕ)) (text : List ℕ) (count gate : ℕ) (is : text ≡ (header ++ records ps) ++ 0 ∷ []) (sizes : ArePayloads ps)
    (within : count < length ps) (few : length ps ≤ 262144) (at : gate ≡ gate_of (take count ps)) where
  again : take count ps ++ drop count ps ≡ ps
  again = take-append-drop count ps

  sizes_again : ArePayloads (take count ps ++ drop count ps)
  sizes_again = subst ArePayloads (sym again) sizes

  few_again : length (take count ps ++ drop count ps) ≤ 262144
  few_again = omega (arith, ap length again, few)

  is_block : 1 ∷ block_in text gate ≡ records (drop count ps) ++ 0 ∷ []
  is_block = block_is ps text count gate is within at

  -- the text is longer than the gate's place, and not too long
  pub inside : gate + 1 < length text
  inside =
      let some : 0 < length (drop count ps) = omega (arith, ap length again, length-append (take count ps) (drop count ps), length-take count ps) in
      let left = least (drop count ps) some in
      omega (arith, at, ap length is, length-append (header ++ records ps) (0 ∷ []), length-append header (records ps), length-append header (records (take count ps)), ap length (records-split count ps), length-append (records (take count ps)) (records (drop count ps)), left)
    where
      least : (qs : List (List ℕ)) → 0 < length qs → 0 < length (records qs)
      least [] some = absurd (omega arith)
      least (q ∷ qs) some = omega (arith, length-append (record_of q) (records qs))

  pub short : length text ≤ 400000000
  short = omega (arith, ap length is, length-append (header ++ records ps) (0 ∷ []), length-append header (records ps), length-records ps sizes, few)

  pub room : gate + length (block_in text gate) + 1 < 2 ^ 64
  room = omega (arith, inside, short, length-take (length text - (gate + 1)) (drop (gate + 1) text), length-drop (gate + 1) text)

  pub stands_shut : (name : List ℕ) → name ≡ ledger_name → (d : World) → LedgerIs (take count ps) d → ShutAt name gate d
  stands_shut name named d was =
      subst (λ (n : List ℕ). ShutAt n gate d) (sym named) (shut_at (take count ps) (drop count ps) gate (block_in text gate) at is_block sizes_again few_again d was)

  pub leaves_some : (name : List ℕ) → name ≡ ledger_name → (d c : World) → LedgerIs (take count ps) d → OnOwn (Rewrites name (Published gate (block_in text gate))) d c → Appends (take count ps) (drop count ps) d c
  leaves_some name named d c was step =
      appends (take count ps) (drop count ps) gate (block_in text gate) at is_block sizes_again few_again d c was (subst (λ (n : List ℕ). OnOwn (Rewrites n (Published gate (block_in text gate))) d c) named step)

  pub leaves_all : (name : List ℕ) → name ≡ ledger_name → (d c : World) → LedgerIs (take count ps) d → OnOwn (Rewrites name (Opened gate (block_in text gate))) d c → LedgerIs ps c
  leaves_all name named d c was step =
      subst (λ (l : List (List ℕ)). LedgerIs l c) again
      (appended (take count ps) (drop count ps) gate (block_in text gate) at is_block sizes_again few_again d c was (subst (λ (n : List ℕ). OnOwn (Rewrites n (Opened gate (block_in text gate))) d c) named step))
