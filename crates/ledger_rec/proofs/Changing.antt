-- Changes of items, by what contracts see of them.
use Rattle.std.proofs.Common.{◌≡◌, ℕ, zero, suc, ◌+◌, ◌<◌, ◌≤◌, Bool, true, false, not, ltb, cond, List, [], ◌∷◌, length, get_or, set, map, filter, Option, Some, None, refl, sym, ap, ◌∙◌, inl, inr, arith}
use Rattle.std.specs.Prelude.{position, unwrap_or, nat_lt, is_some, option_map}
use Rattle.std.specs.List.{position_or_len, insert, list_any}
use Rattle.std.proofs.lemmas.Bool.{cases_Bool, ltb-false}
use Rattle.std.proofs.lemmas.List.Folds.{list_any_at}
use Rattle.std.proofs.lemmas.List.Quantifiers.{position-Some}
use Rattle.ftn_addr.specs.Address.{Address, address}
use Rattle.ftn_addr.specs.Files.{is_same}
use Rattle.ftn_addr.specs.Key.{Key, key_of}
use Rattle.ledger_rec.specs.Fold.{changed, unmarked, in_place}
use Rattle.ledger_rec.specs.Items.{PartMark, part_mark}
use Rattle.ledger_rec.specs.declared.items.MarkItem.{MarkItem}

changed_here : {X Y : Type 0} (view : X → Y) (p : Y → Bool) (f : Y → Y) (xs : List X) (i : ℕ) (new d : X) → i < length xs → p (view (get_or xs i d)) ≡ true → ((k : ℕ) → k < i → p (view (get_or xs k d)) ≡ false) → view new ≡ f (view (get_or xs i d)) → changed p f (map view xs) ≡ Some (map view (set xs i new))
changed_here view p f [] i new d within here before is = absurd (omega arith)
changed_here view p f (x ∷ xs) zero new d within here before is = rw (here, sym is) refl
changed_here view p f (x ∷ xs) (suc i) new d within here before is =
    let first : p (view x) ≡ false = before 0 (omega arith) in
    let rest = changed_here view p f xs i new d (omega arith) here (λ k low. before (suc k) (omega arith)) is in
    rw (first, rest) refl

-- the item at the first place that passes is changed
pub changed_at : {X Y : Type 0} (view : X → Y) (p : Y → Bool) (f : Y → Y) (xs : List X) (i : ℕ) (new d : X) → position (λ x. p (view x)) xs ≡ Some i → view new ≡ f (view (get_or xs i d)) → changed p f (map view xs) ≡ Some (map view (set xs i new))
changed_at view p f xs i new d found is =
    let first = position-Some (λ x. p (view x)) xs i d found in
    changed_here view p f xs i new d first.0 first.1 first.2 is

none_before : {X Y : Type 0} (view : X → Y) (p : Y → Bool) (f : Y → Y) (xs : List X) → length xs ≤ position_or_len (λ x. p (view x)) xs → changed p f (map view xs) ≡ None
none_before view p f [] all = refl
none_before view p f (x ∷ xs) all =
    elim (cases_Bool (p (view x))) as (λ _. changed p f (map view (x ∷ xs)) ≡ None) [
      | inl passes ↦ absurd (let short : length (x ∷ xs) ≤ 0 = rw passes at all in omega arith)
      | inr fails ↦ (let more : length (x ∷ xs) ≤ 1 + position_or_len (λ x. p (view x)) xs = rw fails at all in rw (fails, none_before view p f xs (omega arith)) refl)
    ]

pub past_end : (i len : ℕ) → cond (nat_lt i len) (Some i) None ≡ None → len ≤ i
past_end i len none =
    elim (cases_Bool (nat_lt i len)) as (λ _. len ≤ i) [
      | inl low ↦ absurd (let clash : Some i ≡ None = rw low at none in cc)
      | inr high ↦ ltb-false i len high
    ]

-- where none passes, none is changed
pub none_changed : {X Y : Type 0} (view : X → Y) (p : Y → Bool) (f : Y → Y) (xs : List X) → position (λ x. p (view x)) xs ≡ None → changed p f (map view xs) ≡ None
none_changed view p f xs none = none_before view p f xs (past_end (position_or_len (λ x. p (view x)) xs) (length xs) none)

-- whether one passes, by where the first that passes stands

pub found_any : {X : Type 0} (p : X → Bool) (xs : List X) (i : ℕ) → position p xs ≡ Some i → list_any p xs ≡ true
found_any p [] i found = absurd (cc found)
found_any p (x ∷ xs) i found =
    let first = position-Some p (x ∷ xs) i x found in
    list_any_at p (x ∷ xs) i x first.0 first.1

pub none_any : {X : Type 0} (p : X → Bool) (xs : List X) → length xs ≤ position_or_len p xs → list_any p xs ≡ false
none_any p [] all = refl
none_any p (x ∷ xs) all =
    elim (cases_Bool (p x)) as (λ _. list_any p (x ∷ xs) ≡ false) [
      | inl passes ↦ absurd (let short : length (x ∷ xs) ≤ 0 = rw passes at all in omega arith)
      | inr fails ↦ (let more : length (x ∷ xs) ≤ 1 + position_or_len p xs = rw fails at all in rw fails (none_any p xs (omega arith)))
    ]

pub position_any : {X : Type 0} (p : X → Bool) (xs : List X) → is_some (position p xs) ≡ list_any p xs
position_any p xs = told (position p xs) refl
  where
    told : (o : Option ℕ) → position p xs ≡ o → is_some o ≡ list_any p xs
    told None none = sym (none_any p xs (past_end (position_or_len p xs) (length xs) none))
    told (Some i) found = sym (found_any p xs i found)

mapped_some : {A B : Type 0} (f : A → B) (o : Option A) → is_some (option_map f o) ≡ is_some o
mapped_some f None = refl
mapped_some f (Some a) = refl

-- whether one is changed
pub changed_any : {X : Type 0} (p : X → Bool) (f : X → X) (xs : List X) → is_some (changed p f xs) ≡ list_any p xs
changed_any p f [] = refl
changed_any p f (x ∷ xs) = elim (cases_Bool (p x)) as (λ _. is_some (changed p f (x ∷ xs)) ≡ list_any p (x ∷ xs)) [
  | inl passes ↦ rw passes refl
  | inr fails ↦ rw fails (mapped_some (λ ys. x ∷ ys) (changed p f xs) ∙ changed_any p f xs)
]

pub unmarked_map : (from : Address) (key : Key) (xs : List MarkItem) → map part_mark (filter (λ (m : MarkItem). not (is_same from key (address m.from) (key_of m.key))) xs) ≡ unmarked from key (map part_mark xs)
unmarked_map from key [] = refl
unmarked_map from key (x ∷ xs) =
    elim (cases_Bool (is_same from key (address x.from) (key_of x.key))) as (λ _. map part_mark (filter (λ (m : MarkItem). not (is_same from key (address m.from) (key_of m.key))) (x ∷ xs)) ≡ unmarked from key (map part_mark (x ∷ xs))) [
      | inl same ↦ rw (same, unmarked_map from key xs) refl
      | inr other ↦ rw (other, unmarked_map from key xs) refl
    ]

-- the first later mark
abbrev pub later : ℕ → MarkItem → Bool
later part m = nat_lt part m.part

insert_suc : (x m : MarkItem) (xs : List MarkItem) (k : ℕ) → insert (x ∷ xs) (1 + k) m ≡ x ∷ insert xs k m
insert_suc x m xs k = let one : 1 + k ≡ suc k = omega arith in ap (λ (n : ℕ). insert (x ∷ xs) n m) one

in_place_first : (m : MarkItem) (xs : List MarkItem) → in_place (part_mark m) (map part_mark xs) ≡ map part_mark (insert xs (position_or_len (later m.part) xs) m)
in_place_first m [] = refl
in_place_first m (x ∷ xs) =
    elim (cases_Bool (ltb m.part x.part)) as (λ _. in_place (part_mark m) (map part_mark (x ∷ xs)) ≡ map part_mark (insert (x ∷ xs) (position_or_len (later m.part) (x ∷ xs)) m)) [
      | inl low ↦ rw low refl
      | inr high ↦ rw high (ap (λ (ms : List PartMark). part_mark x ∷ ms) (in_place_first m xs) ∙ sym (ap (map part_mark) (insert_suc x m xs (position_or_len (later m.part) xs))))
    ]

within_len : (part : ℕ) (xs : List MarkItem) → position_or_len (later part) xs ≤ length xs
within_len part [] = omega arith
within_len part (x ∷ xs) =
    let rest = within_len part xs in
    elim (cases_Bool (ltb part x.part)) as (λ _. position_or_len (later part) (x ∷ xs) ≤ length (x ∷ xs)) [
      | inl low ↦ rw low (omega arith)
      | inr high ↦ rw high (omega arith)
    ]

place_is : (part : ℕ) (xs : List MarkItem) → unwrap_or (position (later part) xs) (length xs) ≡ position_or_len (later part) xs
place_is part xs =
    let within = within_len part xs in
    elim (cases_Bool (ltb (position_or_len (later part) xs) (length xs))) as (λ _. unwrap_or (position (later part) xs) (length xs) ≡ position_or_len (later part) xs) [
      | inl low ↦ rw low refl
      | inr high ↦ rw high (let past = ltb-false _ _ high in omega arith)
    ]

pub place_within : (part place : ℕ) (xs : List MarkItem) → place ≡ unwrap_or (position (later part) xs) (length xs) → place ≤ length xs
place_within part place xs is = let first = place_is part xs in let within = within_len part xs in omega (arith, is, first, within)

pub placed : (m : MarkItem) (place : ℕ) (xs : List MarkItem) → place ≡ unwrap_or (position (later m.part) xs) (length xs) → in_place (part_mark m) (map part_mark xs) ≡ map part_mark (insert xs place m)
placed m place xs is = in_place_first m xs ∙ ap (λ (n : ℕ). map part_mark (insert xs n m)) (sym (is ∙ place_is m.part xs))
