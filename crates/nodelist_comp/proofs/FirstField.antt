-- The fields of a line are its first field and those of what follows.
use Rattle.std.proofs.Common.{◌≡◌, ℕ, ◌+◌, ◌<◌, ◌≤◌, Bool, false, eqb, ltb, List, [], ◌∷◌, length, take, drop, Option, Some, None, ap, ◌∙◌, inl, inr, arith}
use Rattle.std.specs.Prelude.{position}
use Rattle.std.specs.List.{slice_split, position_or_len}
use Rattle.std.proofs.lemmas.Bool.{cases_Bool, ltb-true, ltb-false}
use Rattle.std.proofs.lemmas.List.Splits.{slice_split_first, slice_split_none}
use Rattle.std.proofs.lemmas.List.Sums.{fails_before_first}
use Rattle.std.proofs.lemmas.Option.{cond_some}

abbrev is_comma : ℕ → Bool
is_comma byte = eqb byte 44

past_end : (line : List ℕ) → position is_comma line ≡ None → length line ≤ position_or_len is_comma line
past_end line none =
    elim (cases_Bool (ltb (position_or_len is_comma line) (length line))) as (λ _. length line ≤ position_or_len is_comma line) [
      | inl within ↦ absurd (let clash : Some (position_or_len is_comma line) ≡ None = rw within at none in cc)
      | inr without ↦ ltb-false _ _ without
    ]

pub last_field : (line : List ℕ) → position is_comma line ≡ None → slice_split is_comma line ≡ line ∷ []
last_field line none =
    let past = past_end line none in
    slice_split_none is_comma line (λ k d within. fails_before_first is_comma line k d (omega (arith, past, within)))

pub field_at : (line : List ℕ) (end : ℕ) → position is_comma line ≡ Some end → slice_split is_comma line ≡ take end line ∷ slice_split is_comma (drop (end + 1) line)
field_at line end found =
    let place = cond_some (ltb (position_or_len is_comma line) (length line)) (position_or_len is_comma line) end found in
    slice_split_first is_comma line 0 (ltb-true _ _ place.0) ∙ ap (λ (n : ℕ). take n line ∷ slice_split is_comma (drop (n + 1) line)) place.1

-- a measure of what is left of a line
abbrev pub bytes_left : Option (List ℕ) → ℕ
bytes_left None = 0
bytes_left (Some rest) = length rest + 1
