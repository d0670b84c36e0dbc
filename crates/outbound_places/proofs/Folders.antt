-- Where the files of an outbound stand.
use Rattle.std.proofs.Common.{◌≡◌, ◌≢◌, ◌⊎◌, ℕ, ◌+◌, ◌-◌, ◌≤◌, ◌==◌, not, Bool, true, false, List, [], ◌∷◌, ◌++◌, length, take, drop, refl, sym, ap, ◌∙◌, subst, inl, inr, arith, length-append, append_assoc}
use Rattle.std.specs.Prelude.{reverse, if◌then◌else◌, nat_le}
use Rattle.std.specs.Str.{bytes_eq}
use Rattle.std.proofs.lemmas.Bool.{eqb-true}
use Rattle.std.proofs.lemmas.Bool.Decides.{nat_tests}
use Rattle.std.proofs.lemmas.List.{append-nil, append_cancel_left, reverse-append, take_at}
use Rattle.node_model.specs.Outside.{front_of, path_in}
use Rattle.node_model.proofs.Lists.{and_true, and_both, both_false, off, is_false}
use Rattle.node_model.proofs.SameFiles.{bytes-refl, same_bytes}
use Rattle.bso_outbound.specs.declared.kind.Kind.{Kind}
use Rattle.bso_outbound.specs.Digits.{eight_digits}
use Rattle.bso_outbound.specs.Kinds.{ending}
use Rattle.bso_outbound.specs.Names.{name_in_zone, node_digits, point_folder, zone_folder}
use Rattle.bso_outbound.specs.Paths.{as_compared, folder_above, from_slash, last_part, lower_case, up_to_slash}
use Rattle.bso_outbound.specs.Reading.{no_slash}
use Rattle.bso_outbound.proofs.Bases.{compared_front, compared_name, is_there, last_no_slash, split_base}
use Rattle.bso_outbound.proofs.Slashes.{file_no_slash, folder_no_slash, zone_no_slash}
use Rattle.bso_outbound.proofs.SpotNames.{eight_is, length-file, length-folder}
use Rattle.bso_outbound.proofs.Texts.{at_slash, heads, no_path, same_length, tails}
use Rattle.outbound_places.specs.declared.place.Place.{Place}
use Rattle.outbound_places.specs.Files.{IsFor}
use Rattle.outbound_places.specs.Outbound.{IsBeside, IsEntry, IsNamed}

-- the front of the folder above

-- it is empty, or ends with a slash
pub ends_so : (base : List ℕ) → (up_to_slash base ≡ []) ⊎ ((x : List ℕ) × (up_to_slash base ≡ x ++ 47 ∷ []))
ends_so base = go (from_slash (reverse base)) (heads_so (reverse base))
  where
    heads_so : (l : List ℕ) → (from_slash l ≡ []) ⊎ ((y : List ℕ) × (from_slash l ≡ 47 ∷ y))
    heads_so [] = inl refl
    heads_so (b ∷ l) = at_head (b == 47) refl (heads_so l)
      where
        at_head : (t : Bool) → (b == 47) ≡ t → (from_slash l ≡ []) ⊎ ((y : List ℕ) × (from_slash l ≡ 47 ∷ y)) → (from_slash (b ∷ l) ≡ []) ⊎ ((y : List ℕ) × (from_slash (b ∷ l) ≡ 47 ∷ y))
        at_head true e rest = inr (l, ap (λ (v : Bool). if v then b ∷ l else from_slash l) e ∙ ap (λ (n : ℕ). n ∷ l) (eqb-true b 47 e))
        at_head false e (inl none) = inl (ap (λ (v : Bool). if v then b ∷ l else from_slash l) e ∙ none)
        at_head false e (inr some) = inr (some.0, ap (λ (v : Bool). if v then b ∷ l else from_slash l) e ∙ some.1)

    go : (f : List ℕ) → (f ≡ []) ⊎ ((y : List ℕ) × (f ≡ 47 ∷ y)) → (reverse f ≡ []) ⊎ ((x : List ℕ) × (reverse f ≡ x ++ 47 ∷ []))
    go f (inl none) = inl (ap reverse none)
    go f (inr some) = inr (reverse some.0, ap reverse some.1 ∙ reverse-append (47 ∷ []) some.0)

-- names of folders and files

cons_some : (b : ℕ) (l : List ℕ) → b ∷ l ≢ []
cons_some b l is = absurd (let clash : b ∷ l ≡ [] = is in cc)

no_first : (b : ℕ) (l : List ℕ) → no_slash (b ∷ l) ≡ true → b ≢ 47
no_first b l part is = off (sym (and_true (not (b == 47)) (no_slash l) part).0 ∙ ap (λ (k : ℕ). not (k == 47)) is)

-- the name of a folder that isn't empty or `/`
front_is : (folder : List ℕ) → folder ≢ [] → folder ≢ 47 ∷ [] → IsNamed folder
front_is folder some root =
    ap (λ (b : Bool). if b then folder else folder ++ 47 ∷ [])
    (both_false (bytes_eq folder []) (bytes_eq folder (47 ∷ [])) (is_false _ (λ t. some (same_bytes folder [] t))) (is_false _ (λ t. root (same_bytes folder (47 ∷ []) t))))

-- names in the folder above stand behind the front of the base, unless that is two slashes
above_is : (base : List ℕ) → (front_of (folder_above base) ≡ up_to_slash base) ⊎ ((folder_above base ≡ 47 ∷ []) × (up_to_slash base ≡ 47 ∷ 47 ∷ []))
above_is base = go (ends_so base)
  where
    by_front : List ℕ → List ℕ
    by_front u = if nat_le (length u) 1 then u else take (length u - 1) base

    longer : (b : ℕ) (l : List ℕ) → up_to_slash base ≡ (b ∷ l) ++ 47 ∷ [] → folder_above base ≡ b ∷ l
    longer b l is =
        let len : length (up_to_slash base) ≡ length (b ∷ l) + 1 = ap length is ∙ length-append (b ∷ l) (47 ∷ []) in
        let two : 2 ≤ length (up_to_slash base) = omega (arith, len) in
        let long : nat_le (length (up_to_slash base)) 1 ≡ false = grind (arith, nat_tests) in
        ap (λ (t : Bool). if t then up_to_slash base else take (length (up_to_slash base) - 1) base) long
        ∙ ap (take (length (up_to_slash base) - 1)) (split_base base ∙ ap (λ (k : List ℕ). k ++ last_part base) is ∙ append_assoc (b ∷ l) (47 ∷ []) (last_part base))
        ∙ take_at (b ∷ l) (47 ∷ last_part base) (length (up_to_slash base) - 1) (omega (arith, len))

    apart : (b : ℕ) (l : List ℕ) → up_to_slash base ≡ (b ∷ l) ++ 47 ∷ [] → (t : Bool) → bytes_eq (b ∷ l) (47 ∷ []) ≡ t → (front_of (folder_above base) ≡ up_to_slash base) ⊎ ((folder_above base ≡ 47 ∷ []) × (up_to_slash base ≡ 47 ∷ 47 ∷ []))
    apart b l is true e = let root = same_bytes (b ∷ l) (47 ∷ []) e in inr (longer b l is ∙ root, is ∙ ap (λ (k : List ℕ). k ++ 47 ∷ []) root)
    apart b l is false e = inl (ap front_of (longer b l is) ∙ front_is (b ∷ l) (λ none. cons_some b l none) (λ root. off (sym (bytes-refl (47 ∷ [])) ∙ ap (λ (k : List ℕ). bytes_eq k (47 ∷ [])) (sym root) ∙ e)) ∙ sym is)

    go : (up_to_slash base ≡ []) ⊎ ((x : List ℕ) × (up_to_slash base ≡ x ++ 47 ∷ [])) → (front_of (folder_above base) ≡ up_to_slash base) ⊎ ((folder_above base ≡ 47 ∷ []) × (up_to_slash base ≡ 47 ∷ 47 ∷ []))
    go (inl none) = inl (ap front_of (ap by_front none) ∙ sym none)
    go (inr ([], is)) = inl (ap front_of (ap by_front is) ∙ sym is)
    go (inr (b ∷ l, is)) = apart b l is (bytes_eq (b ∷ l) (47 ∷ [])) refl

-- what begins with a name doesn't begin with a slash
begins_other : (name rest t : List ℕ) → IsEntry name → name ++ rest ≡ 47 ∷ t → ⊥
begins_other [] rest t entry is = entry.some refl
begins_other (b ∷ name) rest t entry is = no_first b name entry.one (heads b 47 (name ++ rest) t is)

ends_named : (front name : List ℕ) → IsEntry name → IsNamed (front ++ name)
ends_named front name entry = front_is (front ++ name) (not_empty front) (not_root front)
  where
    not_empty : (front : List ℕ) → front ++ name ≢ []
    not_empty [] is = entry.some is
    not_empty (b ∷ front) is = cons_some b (front ++ name) is

    not_root : (front : List ℕ) → front ++ name ≢ 47 ∷ []
    not_root [] is = begins_other name [] [] entry (append-nil name ∙ is)
    not_root (b ∷ front) is = not_empty front (tails b 47 (front ++ name) [] is)

pub beside_named : (base folder : List ℕ) → IsBeside base folder → IsNamed folder
beside_named base folder beside = subst IsNamed (sym beside.2) (ends_named (front_of (folder_above base)) beside.0 beside.1)

pub below_named : (folder name : List ℕ) → IsEntry name → IsNamed (folder ++ 47 ∷ name)
below_named folder name entry = subst IsNamed (append_assoc folder (47 ∷ []) name) (ends_named (folder ++ 47 ∷ []) name entry)

-- a text has no slash, or a first one
slash_or : (l : List ℕ) → (no_slash l ≡ true) ⊎ ((x : List ℕ) × (y : List ℕ) × (l ≡ x ++ 47 ∷ y) × (no_slash x ≡ true))
slash_or [] = inl refl
slash_or (b ∷ l) = go (b == 47) refl (slash_or l)
  where
    go : (t : Bool) → (b == 47) ≡ t → (no_slash l ≡ true) ⊎ ((x : List ℕ) × (y : List ℕ) × (l ≡ x ++ 47 ∷ y) × (no_slash x ≡ true)) → (no_slash (b ∷ l) ≡ true) ⊎ ((x : List ℕ) × (y : List ℕ) × (b ∷ l ≡ x ++ 47 ∷ y) × (no_slash x ≡ true))
    go true e rest = inr ([], l, ap (λ (n : ℕ). n ∷ l) (eqb-true b 47 e), refl)
    go false e (inl none) = inl (and_both (not (b == 47)) (no_slash l) (ap not e) none)
    go false e (inr (x, y, cut, part)) = inr (b ∷ x, y, ap (λ (k : List ℕ). b ∷ k) cut, and_both (not (b == 47)) (no_slash x) (ap not e) part)

-- where a file of an outbound stands

abbrev name_of : (base : List ℕ) → ℕ → Place → Kind → List ℕ
name_of base default p k = zone_folder (last_part base) p.zone default ++ 47 ∷ name_in_zone (p.net, p.node) p.point (ending k)

abbrev path_of : (base z rest : List ℕ) → List ℕ
path_of base z rest = path_in (folder_above base) z ++ 47 ∷ rest

abbrev pub IsZoneFile : (base z rest : List ℕ) (default : ℕ) (p : Place) (k : Kind) → Type 0
IsZoneFile base z rest default p k = (lower_case z ≡ lower_case (zone_folder (last_part base) p.zone default)) × (lower_case rest ≡ lower_case (name_in_zone (p.net, p.node) p.point (ending k)))

-- Behind the folder above the base, the folder's name is that of the zone's, and the rest that of the file.
pub in_zone : (base z rest : List ℕ) (default : ℕ) (p : Place) → IsEntry z → (f : IsFor base default (path_in (folder_above base) z ++ 47 ∷ rest) p) → IsZoneFile base z rest default p f.kind
in_zone base z rest default p entry f = go (above_is base) (f.named ∙ compared_name base default (p.zone, (record { net = p.net; node = p.node; point = p.point }, f.kind)))
  where
    go : (front_of (folder_above base) ≡ up_to_slash base) ⊎ ((folder_above base ≡ 47 ∷ []) × (up_to_slash base ≡ 47 ∷ 47 ∷ []))
        → as_compared base (path_of base z rest) ≡ up_to_slash base ++ lower_case (name_of base default p f.kind) → IsZoneFile base z rest default p f.kind
    go (inl front) named =
        let is : path_of base z rest ≡ up_to_slash base ++ (z ++ 47 ∷ rest) = ap (λ (l : List ℕ). (l ++ z) ++ 47 ∷ rest) front ∙ append_assoc (up_to_slash base) z (47 ∷ rest) in
        let same : lower_case (z ++ 47 ∷ rest) ≡ lower_case (name_of base default p f.kind) =
        append_cancel_left (up_to_slash base) _ _ (sym (compared_front base (z ++ 47 ∷ rest)) ∙ sym (ap (as_compared base) is) ∙ named) in
        at_slash z rest (zone_folder (last_part base) p.zone default) (name_in_zone (p.net, p.node) p.point (ending f.kind)) entry.one (zone_no_slash (last_part base) p.zone default (last_no_slash base)) same
    go (inr (above, front)) named =
        let there = is_there base (path_of base z rest) (lower_case (name_of base default p f.kind)) named in
        let is : 47 ∷ (z ++ 47 ∷ rest) ≡ 47 ∷ 47 ∷ drop (length (up_to_slash base)) (path_of base z rest) =
        sym (ap (λ (l : List ℕ). (front_of l ++ z) ++ 47 ∷ rest) above) ∙ there ∙ ap (λ (l : List ℕ). l ++ drop (length (up_to_slash base)) (path_of base z rest)) front in
        absurd (begins_other z (47 ∷ rest) (drop (length (up_to_slash base)) (path_of base z rest)) entry (tails 47 47 _ _ is))

-- a node's file stands directly in the folder of its zone
pub alone : (rest : List ℕ) (node : ℕ × ℕ) (k : Kind) → lower_case rest ≡ lower_case (node_digits node ++ ending k) → IsEntry rest
alone rest node k is = go (slash_or rest)
  where
    go : (no_slash rest ≡ true) ⊎ ((x : List ℕ) × (y : List ℕ) × (rest ≡ x ++ 47 ∷ y) × (no_slash x ≡ true)) → IsEntry rest
    go (inl part) = record { some = λ none. absurd (let len = same_length rest (node_digits node ++ ending k) is in let twelve = length-file node k in let zero_long = ap length none in omega (arith, len, twelve, zero_long)); one = part }
    go (inr (x, y, cut, part)) = absurd (no_path (node_digits node ++ ending k) x y (file_no_slash node k) (sym is ∙ ap lower_case cut))

-- a point's file stands directly in the folder of its node's points
pub record InPoints (rest : List ℕ) (node : ℕ × ℕ) : Type 0 where
  pub folder : List ℕ
  pub name : List ℕ
  pub is : rest ≡ folder ++ 47 ∷ name
  pub points : lower_case folder ≡ lower_case (point_folder node)
  pub folder_entry : IsEntry folder
  pub name_entry : IsEntry name

pub in_points : (rest : List ℕ) (node : ℕ × ℕ) (point : ℕ) (k : Kind) → lower_case rest ≡ lower_case (point_folder node ++ 47 ∷ (eight_digits point ++ ending k)) → InPoints rest node
in_points rest node point k is = go (slash_or rest)
  where
    go : (no_slash rest ≡ true) ⊎ ((x : List ℕ) × (y : List ℕ) × (rest ≡ x ++ 47 ∷ y) × (no_slash x ≡ true)) → InPoints rest node
    go (inl part) = absurd (no_path rest (point_folder node) (eight_digits point ++ ending k) part is)
    go (inr (x, y, cut, part)) =
        let parts = at_slash x y (point_folder node) (eight_digits point ++ ending k) part (folder_no_slash node) (sym (ap lower_case cut) ∙ is) in
        record {
          folder = x;
          name = y;
          is = cut;
          points = parts.0;
          folder_entry = record { some = λ none. absurd (let len = same_length x (point_folder node) parts.0 in let twelve = length-folder node in let zero_long = ap length none in omega (arith, len, twelve, zero_long)); one = part };
          name_entry = alone y (0, point) k (parts.1 ∙ ap (λ (l : List ℕ). lower_case (l ++ ending k)) (eight_is point));
        }
