-- Holds that end, by what contracts see of them.
use Rattle.std.proofs.Common.{◌≡◌, ℕ, zero, suc, ◌+◌, ◌<◌, ◌≤◌, Bool, true, false, List, [], ◌∷◌, length, get_or, map, Some, None, refl, ap, arith, inl, inr}
use Rattle.std.specs.Prelude.{position}
use Rattle.std.specs.List.{position_or_len, remove}
use Rattle.std.proofs.lemmas.Bool.{cases_Bool}
use Rattle.std.proofs.lemmas.List.Quantifiers.{position-Some}
use Rattle.ftn_addr.specs.Address.{Address, address}
use Rattle.ftn_addr.specs.Files.{is_same}
use Rattle.ftn_addr.specs.Key.{Key, key_of}
use Rattle.ledger_rec.proofs.Changing.{past_end}
use Rattle.ledger_rec.specs.Fold.{without_hold}
use Rattle.ledger_rec.specs.Items.{hold}
use Rattle.ledger_rec.specs.declared.items.Held.{Held}

abbrev pub is_held_by : Address → Key → Held → Bool
is_held_by from key h = is_same from key (address h.from) (key_of h.key)

removed_here : (from : Address) (key : Key) (xs : List Held) (i : ℕ) (d : Held) → i < length xs → is_held_by from key (get_or xs i d) ≡ true → ((k : ℕ) → k < i → is_held_by from key (get_or xs k d) ≡ false) → map hold (remove xs i) ≡ without_hold from key (map hold xs)
removed_here from key [] i d within here before = absurd (omega arith)
removed_here from key (x ∷ xs) zero d within here before = rw here refl
removed_here from key (x ∷ xs) (suc i) d within here before =
    let first : is_held_by from key x ≡ false = before 0 (omega arith) in
    let rest = removed_here from key xs i d (omega arith) here (λ k low. before (suc k) (omega arith)) in
    rw (first, rest) refl

pub removed_at : (from : Address) (key : Key) (xs : List Held) (i : ℕ) (d : Held) → position (is_held_by from key) xs ≡ Some i → map hold (remove xs i) ≡ without_hold from key (map hold xs)
removed_at from key xs i d found =
    let first = position-Some (is_held_by from key) xs i d found in
    removed_here from key xs i d first.0 first.1 first.2

none_here : (from : Address) (key : Key) (xs : List Held) → length xs ≤ position_or_len (is_held_by from key) xs → map hold xs ≡ without_hold from key (map hold xs)
none_here from key [] all = refl
none_here from key (x ∷ xs) all =
    elim (cases_Bool (is_held_by from key x)) as (λ _. map hold (x ∷ xs) ≡ without_hold from key (map hold (x ∷ xs))) [
      | inl passes ↦ absurd (let short : length (x ∷ xs) ≤ 0 = rw passes at all in omega arith)
      | inr fails ↦ (let more : length (x ∷ xs) ≤ 1 + position_or_len (is_held_by from key) xs = rw fails at all in
          let rest = none_here from key xs (omega arith) in
          rw fails (ap (λ hs. hold x ∷ hs) rest))
    ]

pub none_removed : (from : Address) (key : Key) (xs : List Held) → position (is_held_by from key) xs ≡ None → map hold xs ≡ without_hold from key (map hold xs)
none_removed from key xs none = none_here from key xs (past_end (position_or_len (is_held_by from key) xs) (length xs) none)
