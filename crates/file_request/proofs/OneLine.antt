-- One more line of a request, and the answer after the last.
use Rattle.std.proofs.Common.{◌≡◌, ℕ, ◌+◌, ◌-◌, ◌<◌, ◌≤◌, Bool, true, false, not, eqb, List, [], ◌∷◌, ◌++◌, length, take, Option, Some, None, refl, sym, ap, ◌∙◌, inl, inr, arith}
use Rattle.std.specs.Prelude.{filter}
use Rattle.std.specs.List.{filter_map, cons_option}
use Rattle.std.specs.Option.{IsNone, is_some}
use Rattle.std.specs.Str.Lines.{lines}
use Rattle.std.proofs.lemmas.Bool.{cases_lt}
use Rattle.std.proofs.lemmas.List.{append_assoc, take_all, take-append-le, append-nil}
use Rattle.file_request.specs.Answer.{all_asked, answer_short, asked_by, full_lines}
use Rattle.file_request.specs.Share.{SharedFolder}

abbrev is_full : List ℕ → Bool
is_full line = not (eqb (length line) 0)

pub full_more : (text line after : List ℕ) → lines text ≡ line ∷ lines after → eqb (length line) 0 ≡ false → full_lines text ≡ line ∷ full_lines after
full_more text line after first filled = ap (filter is_full) first ∙ rw filled refl

pub asked_more : (shares : List SharedFolder) (text line after : List ℕ) → lines text ≡ line ∷ lines after → eqb (length line) 0 ≡ false → all_asked shares text ≡ cons_option (asked_by shares line) (all_asked shares after)
asked_more shares text line after first filled =
    ap (filter_map (asked_by shares)) (full_more text line after first filled)

-- a line that gets no file changes no file
pub none_given : (paths more : List (List ℕ)) (asked : Option (List ℕ)) → (length paths < 64 → asked ≡ None) → take 64 (paths ++ more) ≡ take 64 (paths ++ cons_option asked more)
none_given paths more asked none =
    elim (cases_lt (length paths) 64) as (λ _. take 64 (paths ++ more) ≡ take 64 (paths ++ cons_option asked more)) [
      | inl below ↦ rw (none below) refl
      | inr full ↦ take-append-le 64 paths more full ∙ sym (take-append-le 64 paths (cons_option asked more) full)
    ]

-- where a file is given, there is room for it
pub room_for : {X : Type 0} (n : ℕ) (asked : Option X) (x : X) → asked ≡ Some x → (64 ≤ n → IsNone asked) → n < 64
room_for n asked x is none =
    elim (cases_lt n 64) as (λ _. n < 64) [
      | inl below ↦ below
      | inr full ↦ absurd (let clash : true ≡ false = sym (ap is_some is) ∙ none full in cc)
    ]

-- a line that gets a file adds it
pub one_given : (paths more : List (List ℕ)) (path : List ℕ) (asked : Option (List ℕ)) → asked ≡ Some path → (paths ++ path ∷ []) ++ more ≡ paths ++ cons_option asked more
one_given paths more path asked is = append_assoc paths (path ∷ []) more ∙ rw is refl

pub after_last : (shares : List SharedFolder) (paths : List (List ℕ)) (passed : ℕ) (rest text : List ℕ) → lines rest ≡ [] → take 64 (paths ++ all_asked shares rest) ≡ take 64 (all_asked shares text) → length paths ≤ 64 → passed + length paths + length (full_lines rest) ≡ length (full_lines text) → record { files = paths; passed = passed } ≡ answer_short shares text
unfolding answer_short
after_last shares paths passed rest text last same room each =
    let none : all_asked shares rest ≡ [] = ap (λ (ls : List (List ℕ)). filter_map (asked_by shares) (filter is_full ls)) last in
    let no_line : length (full_lines rest) ≡ 0 = ap (λ (ls : List (List ℕ)). length (filter is_full ls)) last in
    let files : paths ≡ take 64 (all_asked shares text) = sym (take_all 64 paths room) ∙ ap (take 64) (sym (append-nil paths) ∙ ap (λ (ps : List (List ℕ)). paths ++ ps) (sym none)) ∙ same in
    let count : passed ≡ length (full_lines text) - length paths = omega arith in
    ap (λ (n : ℕ). record { files = paths; passed = n }) count ∙ ap (λ (ps : List (List ℕ)). record { files = ps; passed = length (full_lines text) - length ps }) files
