-- What a stop leaves of a file by a digit, before and after a write, a cut and a sync.
use Rattle.std.proofs.Common.{◌≡◌, ◌⊎◌, inl, inr, ℕ, zero, suc, ◌+◌, ◌<◌, ◌≤◌, max, min, List, [], ◌∷◌, ◌++◌, length, take, drop, Bool, true, false, refl, sym, ◌∙◌, ap, subst, arith, length-append, length-drop, length-take, append_assoc}
use Rattle.std.specs.Prelude.{nat_le, nat_lt, nat_eq, ◌&&◌, ◌||◌, if◌then◌else◌}
use Rattle.std.proofs.lemmas.Bool.{cases_Bool, cases_lt}
use Rattle.std.proofs.lemmas.Bool.Decides.{nat_tests}
use Rattle.std.proofs.lemmas.List.{take_at, drop_at, take_all, length-take-le}
use Rattle.std.proofs.lemmas.List.Folds.{list_any-append}
use Rattle.disk_model.specs.Changes.{Torn, Cut}
use Rattle.disk_model.proofs.TornLemmas.{torn_same}
use Rattle.mem_disk.specs.Kept.{Kept, settled, splice, written_over, shortened, is_open, spoiled, spoilt_by, chosen}

pub cut_same : (n : ℕ) (b : List ℕ) → Cut n b b
cut_same n b = record { no_shorter = omega arith; front = sym (take_all (length b) b (omega arith)) }

within : (a b : ℕ) → nat_le a b ≡ true → a ≤ b
within a b holds = grind (arith, nat_tests)

take-splice : (at : ℕ) (bytes b : List ℕ) → at ≤ length b → take at (splice at bytes b) ≡ take at b
take-splice at bytes b le =
    ap (λ (l : List ℕ). take at l) (append_assoc (take at b) bytes (drop (at + length bytes) b)) ∙ take_at (take at b) (bytes ++ drop (at + length bytes) b) at (length-take-le at b le)

drop-splice : (at : ℕ) (bytes b : List ℕ) → at ≤ length b → drop (at + length bytes) (splice at bytes b) ≡ drop (at + length bytes) b
drop-splice at bytes b le =
    drop_at (take at b ++ bytes) (drop (at + length bytes) b) (at + length bytes) (omega (arith, length-append (take at b) bytes, length-take-le at b le))

length-splice : (at : ℕ) (bytes b : List ℕ) → at ≤ length b → length (splice at bytes b) ≡ max (length b) (at + length bytes)
length-splice at bytes b le =
    omega (arith, length-append (take at b ++ bytes) (drop (at + length bytes) b), length-append (take at b) bytes, length-take-le at b le, length-drop (at + length bytes) b)

torn_written : (at : ℕ) (bytes b : List ℕ) → at ≤ length b → Torn at (length bytes) b (splice at bytes b)
torn_written at bytes b le = record {
  before = take-splice at bytes b le;
  after = drop-splice at bytes b le;
  no_shorter = omega (arith, length-splice at bytes b le);
  no_longer = omega (arith, length-splice at bytes b le);
}

take_min : (n : ℕ) (b : List ℕ) → take (min n (length b)) b ≡ take n b
take_min n b = elim (cases_lt n (length b)) [
  | inl lt ↦ let e : min n (length b) ≡ n = omega arith in ap (λ (k : ℕ). take k b) e
  | inr ge ↦ let e : min n (length b) ≡ length b = omega arith in ap (λ (k : ℕ). take k b) e ∙ take_all (length b) b (omega arith) ∙ sym (take_all n b ge)
]

cut_taken : (len : ℕ) (b : List ℕ) → Cut len b (take len b)
cut_taken len b =
    let size = length-take len b in
    record { no_shorter = omega (arith, size); front = sym (ap (λ (n : ℕ). take n b) size ∙ take_min len b) }

-- the changed bytes, by places
length-spoiled : (how : ℕ → ℕ) (R : List (ℕ × ℕ)) (k : ℕ) (bs : List ℕ) → length (spoiled how R k bs) ≡ length bs
length-spoiled how R k [] = refl
length-spoiled how R k (b ∷ bs) = omega (arith, length-spoiled how R (k + 1) bs)

take-spoiled : (how : ℕ → ℕ) (R : List (ℕ × ℕ)) (k n : ℕ) (bs : List ℕ) → take n (spoiled how R k bs) ≡ spoiled how R k (take n bs)
take-spoiled how R k zero bs = refl
take-spoiled how R k (suc n) [] = refl
take-spoiled how R k (suc n) (b ∷ bs) = ap (λ (l : List ℕ). (if is_open R k then how b else b) ∷ l) (take-spoiled how R (k + 1) n bs)

drop-spoiled : (how : ℕ → ℕ) (R : List (ℕ × ℕ)) (k n m : ℕ) (bs : List ℕ) → m ≡ k + n → drop n (spoiled how R k bs) ≡ spoiled how R m (drop n bs)
drop-spoiled how R k zero m bs is = ap (λ (i : ℕ). spoiled how R i bs) (omega arith)
drop-spoiled how R k (suc n) m [] is = refl
drop-spoiled how R k (suc n) m (b ∷ bs) is = drop-spoiled how R (k + 1) n m bs (omega (arith, is))

spoiled_alike : (how : ℕ → ℕ) (R S : List (ℕ × ℕ)) (k : ℕ) (bs : List ℕ) → ((i : ℕ) → k ≤ i → i < k + length bs → is_open R i ≡ is_open S i) → spoiled how R k bs ≡ spoiled how S k bs
spoiled_alike how R S k [] same = refl
spoiled_alike how R S k (b ∷ bs) same =
    let here : is_open R k ≡ is_open S k = same k (omega arith) (omega arith) in
    let rest = spoiled_alike how R S (k + 1) bs (λ i from to. same i (omega (arith, from)) (omega (arith, to))) in
    ap (λ (t : Bool). (if t then how b else b) ∷ spoiled how R (k + 1) bs) here ∙ ap (λ (l : List ℕ). (if is_open S k then how b else b) ∷ l) rest

or_false : (a b : Bool) → b ≡ false → (a || b) ≡ a
or_false true b is = refl
or_false false b is = is

-- one range more, at a place outside it
open_more : (R : List (ℕ × ℕ)) (at n i : ℕ) → (i < at) ⊎ (at + n ≤ i) → is_open (R ++ (at, n) ∷ []) i ≡ is_open R i
open_more R at n i outside =
    list_any-append (λ (r : ℕ × ℕ). nat_le r.0 i && nat_lt i (r.0 + r.1)) R ((at, n) ∷ [])
    ∙ or_false (is_open R i) ((nat_le at i && nat_lt i (at + n)) || false) (elim outside [
      | inl lt ↦ let fails : nat_le at i ≡ false = grind (arith, nat_tests) in rw fails refl
      | inr ge ↦ let fails : nat_lt i (at + n) ≡ false = grind (arith, nat_tests) in rw fails (both_false (nat_le at i))
    ])
  where
    both_false : (a : Bool) → ((a && false) || false) ≡ false
    both_false true = refl
    both_false false = refl

torn_spoiled : (how : ℕ → ℕ) (R : List (ℕ × ℕ)) (at : ℕ) (bytes b : List ℕ) → at ≤ length b
    → Torn at (length bytes) (spoiled how R 0 b) (spoiled how (R ++ (at, length bytes) ∷ []) 0 (splice at bytes b))
torn_spoiled how R at bytes b le =
    let S = R ++ (at, length bytes) ∷ [] in
    let m = at + length bytes in
    record {
      before = take-spoiled how S 0 at (splice at bytes b) ∙ ap (λ (l : List ℕ). spoiled how S 0 l) (take-splice at bytes b le)
          ∙ spoiled_alike how S R 0 (take at b) (λ i from to. open_more R at (length bytes) i (inl (omega (arith, to, length-take-le at b le))))
          ∙ sym (take-spoiled how R 0 at b);
      after = drop-spoiled how S 0 m m (splice at bytes b) (omega arith) ∙ ap (λ (l : List ℕ). spoiled how S m l) (drop-splice at bytes b le)
          ∙ spoiled_alike how S R m (drop m b) (λ i from to. open_more R at (length bytes) i (inr from))
          ∙ sym (drop-spoiled how R 0 m m b (omega arith));
      no_shorter = omega (arith, length-spoiled how R 0 b, length-spoiled how S 0 (splice at bytes b), length-splice at bytes b le);
      no_longer = omega (arith, length-spoiled how R 0 b, length-spoiled how S 0 (splice at bytes b), length-splice at bytes b le);
    }

cut_spoiled : (how : ℕ → ℕ) (R : List (ℕ × ℕ)) (len : ℕ) (b : List ℕ) → Cut len (spoiled how R 0 b) (spoiled how (R ++ (len, 0) ∷ []) 0 (take len b))
cut_spoiled how R len b =
    subst (Cut len (spoiled how R 0 b))
    (take-spoiled how R 0 len b ∙ sym (spoiled_alike how (R ++ (len, 0) ∷ []) R 0 (take len b) (λ i from to. open_more R len 0 i (either i))))
    (cut_taken len (spoiled how R 0 b))
  where
    either : (i : ℕ) → (i < len) ⊎ (len + 0 ≤ i)
    either i = elim (cases_lt i len) [ inl lt ↦ inl lt | inr ge ↦ inr (omega (arith, ge)) ]

spoiled_none : (how : ℕ → ℕ) (k : ℕ) (bs : List ℕ) → spoiled how [] k bs ≡ bs
spoiled_none how k [] = refl
spoiled_none how k (b ∷ bs) = ap (λ (l : List ℕ). b ∷ l) (spoiled_none how (k + 1) bs)

-- digit by digit
chosen_pair : (R : List ℕ → List ℕ → Type 0) (digit : ℕ) (f g : Kept) → R f.synced g.synced → R f.written g.written
    → ((how : ℕ → ℕ) → R (spoiled how f.ranges 0 f.written) (spoiled how g.ranges 0 g.written)) → R (chosen digit f) (chosen digit g)
chosen_pair R digit f g synced written changed = elim (cases_Bool (nat_eq digit 0)) [
  | inl none ↦ rw none synced
  | inr some ↦ elim (cases_Bool (nat_eq digit 1)) [
    | inl one ↦ rw some (rw one written)
    | inr other ↦ rw some (rw other (changed (spoilt_by digit)))
  ]
]

pub chosen_written : (digit at : ℕ) (bytes : List ℕ) (f : Kept) → Torn at (length bytes) (chosen digit f) (chosen digit (written_over at bytes f))
chosen_written digit at bytes f = elim (cases_Bool (nat_le at (length f.written))) [
  | inl fits ↦ rw fits (chosen_pair (Torn at (length bytes)) digit f (record { written = splice at bytes f.written; synced = f.synced; ranges = f.ranges ++ (at, length bytes) ∷ [] })
      (torn_same at (length bytes) f.synced) (torn_written at bytes f.written (within at (length f.written) fits))
      (λ how. torn_spoiled how f.ranges at bytes f.written (within at (length f.written) fits)))
  | inr past ↦ rw past (torn_same at (length bytes) (chosen digit f))
]

pub chosen_shortened : (digit len : ℕ) (f : Kept) → Cut len (chosen digit f) (chosen digit (shortened len f))
chosen_shortened digit len f = elim (cases_Bool (nat_le len (length f.written))) [
  | inl fits ↦ rw fits (chosen_pair (Cut len) digit f (record { written = take len f.written; synced = f.synced; ranges = f.ranges ++ (len, 0) ∷ [] })
      (cut_same len f.synced) (cut_taken len f.written) (λ how. cut_spoiled how f.ranges len f.written))
  | inr past ↦ rw past (cut_same len (chosen digit f))
]

pub chosen_settled : (digit : ℕ) (bytes : List ℕ) → chosen digit (settled bytes) ≡ bytes
chosen_settled digit bytes = chosen_pair (λ a b. a ≡ bytes) digit (settled bytes) (settled bytes) refl refl (λ how. spoiled_none how 0 bytes)

pub length-chosen-le : (digit : ℕ) (f : Kept) → length f.synced ≤ length f.written → length (chosen digit f) ≤ length f.written
length-chosen-le digit f le = chosen_pair (λ a b. length a ≤ length f.written) digit f f le (omega arith) (λ how. omega (arith, length-spoiled how f.ranges 0 f.written))
