-- Names and the slashes of paths.
use Rattle.std.proofs.Common.{◌≡◌, ℕ, ◌+◌, ◌<◌, ◌≤◌, suc, ◌==◌, not, ltb, nat_lt, Bool, true, false, List, [], ◌∷◌, ◌++◌, length, take, drop, get_or, Some, None, refl, sym, ap, ◌∙◌, inl, inr, arith}
use Rattle.std.specs.Prelude.{position, codes, if◌then◌else◌}
use Rattle.std.specs.List.{position_or_len}
use Rattle.std.proofs.lemmas.Bool.{cases_Bool, ltb-true, ltb-false, eqb-true}
use Rattle.std.proofs.lemmas.List.{take_all, take-append-drop}
use Rattle.std.proofs.lemmas.List.Folds.{list_all-append}
use Rattle.std.proofs.lemmas.List.Sums.{passes_at_first}
use Rattle.std.proofs.lemmas.List.{drop_more}
use Rattle.std.proofs.lemmas.Option.{cond_some}
use Rattle.node_model.proofs.Lists.{and_true, and_both}
use Rattle.bso_outbound.specs.declared.kind.Kind.{Kind}
use Rattle.bso_outbound.specs.Digits.{four_digits, three_digits_or_more}
use Rattle.bso_outbound.specs.Kinds.{ending}
use Rattle.bso_outbound.specs.Names.{node_digits, point_folder, zone_ending, zone_folder}
use Rattle.bso_outbound.specs.Reading.{no_slash, CutAtSlash}
use Rattle.bso_outbound.proofs.Four.{four_no_slash}
use Rattle.bso_outbound.proofs.KindNames.{ending_is}

abbrev pub is_slash : ℕ → Bool
is_slash byte = byte == 47

pub both_no_slash : (x y : List ℕ) → no_slash x ≡ true → no_slash y ≡ true → no_slash (x ++ y) ≡ true
both_no_slash x y a b = list_all-append (λ byte. not (byte == 47)) x y ∙ and_both (no_slash x) (no_slash y) a b

-- before the first slash there is none
front_no_slash : (path : List ℕ) → no_slash (take (position_or_len is_slash path) path) ≡ true
front_no_slash [] = refl
front_no_slash (b ∷ path) =
    elim (cases_Bool (b == 47)) as (λ _. no_slash (take (position_or_len is_slash (b ∷ path)) (b ∷ path)) ≡ true) [
      | inl at ↦ rw at refl
      | inr other ↦ (let rest = front_no_slash path in let one : 1 + position_or_len is_slash path ≡ suc (position_or_len is_slash path) = omega arith in rw (other, one) (rw (other) rest))
    ]

pub cut_found : (path : List ℕ) (i : ℕ) → position is_slash path ≡ Some i → CutAtSlash path (Some (take i path, drop (i + 1) path))
cut_found path i is =
    let place = cond_some (ltb (position_or_len is_slash path) (length path)) (position_or_len is_slash path) i is in
    let within : i < length path = (let w = ltb-true _ _ place.0 in let e = place.1 in omega (arith, w, e)) in
    let slash : get_or path i 0 ≡ 47 = ap (λ (k : ℕ). get_or path k 0) (sym place.1) ∙ eqb-true _ 47 (passes_at_first is_slash path 0 (ltb-true _ _ place.0)) in (
      sym (take-append-drop i path) ∙ ap (λ (l : List ℕ). take i path ++ l) (drop_more path i 0 within ∙ ap (λ (b : ℕ). b ∷ drop (i + 1) path) slash),
      ap (λ (k : ℕ). no_slash (take k path)) (sym place.1) ∙ front_no_slash path,
    )

pub cut_none : (path : List ℕ) → position is_slash path ≡ None → no_slash path ≡ true
cut_none path none =
    let past : length path ≤ position_or_len is_slash path = elim (cases_Bool (ltb (position_or_len is_slash path) (length path))) as (λ _. length path ≤ position_or_len is_slash path) [
      | inl within ↦ absurd (let clash : Some (position_or_len is_slash path) ≡ None = rw within at none in cc)
      | inr without ↦ ltb-false _ _ without
    ] in
    ap no_slash (sym (take_all (position_or_len is_slash path) path past)) ∙ front_no_slash path

-- the names of this crate are parts of paths

pub node_no_slash : (p : ℕ × ℕ) → no_slash (node_digits p) ≡ true
node_no_slash p = both_no_slash (four_digits p.0) (four_digits p.1) (four_no_slash p.0) (four_no_slash p.1)

pub folder_no_slash : (p : ℕ × ℕ) → no_slash (point_folder p) ≡ true
folder_no_slash p = both_no_slash (node_digits p) (codes ".pnt") (node_no_slash p) refl

pub file_no_slash : (p : ℕ × ℕ) (k : Kind) → no_slash (node_digits p ++ ending k) ≡ true
file_no_slash p k = both_no_slash (node_digits p) (ending k) (node_no_slash p) (ending_is k).part

behind_no_slash : (x : List ℕ) → no_slash x ≡ true → no_slash (drop 1 x) ≡ true
behind_no_slash [] h = refl
behind_no_slash (b ∷ x) h = (and_true (not (b == 47)) (no_slash x) h).1

three_no_slash : (n : ℕ) → no_slash (three_digits_or_more n) ≡ true
three_no_slash n = go (nat_lt n 4096)
  where
    go : (b : Bool) → no_slash (if b then drop 1 (four_digits n) else four_digits n) ≡ true
    go true = behind_no_slash (four_digits n) (four_no_slash n)
    go false = four_no_slash n

pub zone_no_slash : (base : List ℕ) (zone default : ℕ) → no_slash base ≡ true → no_slash (zone_folder base zone default) ≡ true
zone_no_slash base zone default h = both_no_slash base (zone_ending zone default) h (go (zone == default))
  where
    go : (b : Bool) → no_slash (if b then [] else 46 ∷ three_digits_or_more zone) ≡ true
    go true = refl
    go false = three_no_slash zone
