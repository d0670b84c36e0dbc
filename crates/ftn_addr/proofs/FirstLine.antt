-- The lines of a text are its first line and the lines of what follows.
use Rattle.std.proofs.Common.{◌≡◌, ℕ, ◌+◌, ◌<◌, ◌≤◌, Bool, false, eqb, ltb, List, [], ◌∷◌, length, take, drop, Some, None, refl, ap, ◌∙◌, inl, inr, arith}
use Rattle.std.specs.Prelude.{position}
use Rattle.std.specs.List.{slice_split, position_or_len, before_first, after_first}
use Rattle.std.specs.Str.Lines.{lines, lines_of_parts, strip_carriage_return}
use Rattle.std.proofs.lemmas.Bool.{cases_Bool, ltb-true, ltb-false, ne_eqb}
use Rattle.std.proofs.lemmas.List.Splits.{slice_split_first}
use Rattle.std.proofs.lemmas.Option.{cond_some}

abbrev is_feed : ℕ → Bool
is_feed byte = eqb byte 10

-- there is always a part
has_part : (bytes : List ℕ) → (part : List ℕ) × (parts : List (List ℕ)) × (slice_split is_feed bytes ≡ part ∷ parts)
has_part [] = ([], [], refl)
has_part (x ∷ bytes) =
    elim (cases_Bool (is_feed x)) as (λ _. (part : List ℕ) × (parts : List (List ℕ)) × (slice_split is_feed (x ∷ bytes) ≡ part ∷ parts)) [
      | inl ends ↦ ([], slice_split is_feed bytes, rw ends refl)
      | inr goes ↦ (let more = has_part bytes in (x ∷ more.0, more.1, rw (goes, more.2) refl))
    ]

one_part : (bytes : List ℕ) → length bytes ≤ position_or_len is_feed bytes → slice_split is_feed bytes ≡ bytes ∷ []
one_part [] all = refl
one_part (x ∷ bytes) all =
    elim (cases_Bool (is_feed x)) as (λ _. slice_split is_feed (x ∷ bytes) ≡ (x ∷ bytes) ∷ []) [
      | inl ends ↦ absurd (let short : length (x ∷ bytes) ≤ 0 = rw ends at all in omega arith)
      | inr goes ↦ (let rest : length (x ∷ bytes) ≤ 1 + position_or_len is_feed bytes = rw goes at all in rw (goes, one_part bytes (omega arith)) refl)
    ]

past_end : (bytes : List ℕ) → position is_feed bytes ≡ None → length bytes ≤ position_or_len is_feed bytes
past_end bytes none =
    elim (cases_Bool (ltb (position_or_len is_feed bytes) (length bytes))) as (λ _. length bytes ≤ position_or_len is_feed bytes) [
      | inl within ↦ absurd (let clash : Some (position_or_len is_feed bytes) ≡ None = rw within at none in cc)
      | inr without ↦ ltb-false _ _ without
    ]

pub last_line : (text : List ℕ) → 0 < length text → position is_feed text ≡ None → lines text ≡ text ∷ []
last_line [] some none = absurd (omega arith)
last_line (x ∷ text) some none =
    let filled : eqb (length (x ∷ text)) 0 ≡ false = ne_eqb (length (x ∷ text)) 0 (λ empty. omega arith) in
    rw (one_part (x ∷ text) (past_end (x ∷ text) none), filled) refl

before_more : (part : List ℕ) (bytes : List ℕ) → lines_of_parts (part ∷ slice_split is_feed bytes) ≡ strip_carriage_return part ∷ lines bytes
before_more part bytes = let more = has_part bytes in rw more.2 refl

pub line_at : (text : List ℕ) (end : ℕ) → position is_feed text ≡ Some end → lines text ≡ strip_carriage_return (take end text) ∷ lines (drop (end + 1) text)
line_at text end found =
    let place = cond_some (ltb (position_or_len is_feed text) (length text)) (position_or_len is_feed text) end found in
    let within : position_or_len is_feed text < length text = ltb-true _ _ place.0 in
    let parts : slice_split is_feed text ≡ before_first is_feed text ∷ slice_split is_feed (after_first is_feed text) = slice_split_first is_feed text 0 within in
    ap lines_of_parts parts ∙ (before_more (before_first is_feed text) (after_first is_feed text) ∙ ap (λ (n : ℕ). strip_carriage_return (take n text) ∷ lines (drop (n + 1) text)) place.1)
