-- What a search finds, piece by piece.
use Rattle.std.proofs.Common.{◌≡◌, ◌⊎◌, ℕ, ◌==◌, not, true, List, [], ◌∷◌, ◌++◌, Some, None, refl, sym, ap, ◌∙◌, subst, inl, inr, ⊎_elim, append_assoc}
use Rattle.std.specs.Prelude.{◌||◌}
use Rattle.ftn_addr.specs.Address.{Address}
use Rattle.ftn_addr.specs.Limits.{IsAddress}
use Rattle.node_model.specs.Lists.{Member}
use Rattle.node_model.specs.Outside.{OutFile, OutFiles, path_in}
use Rattle.node_model.proofs.Lists.{Member-append, Member-append_cases, Member-append_right, and_true, none_some, off, or_cases, or_true_right}
use Rattle.bso_outbound.specs.Names.{point_folder, zone_folder}
use Rattle.bso_outbound.specs.Paths.{folder_above, last_part}
use Rattle.bso_outbound.specs.Reading.{IsNode, IsNumber, Reads, no_slash}
use Rattle.bso_outbound.proofs.Texts.{at_slash}
use Rattle.bso_outbound.proofs.Bases.{one_name}
use Rattle.bso_outbound.proofs.SpotNames.{node_name, point_name, zero_or}
use Rattle.bso_outbound.specs.Kinds.{ending}
use Rattle.bso_outbound.specs.Paths.{lower_case}
use Rattle.outbound_places.specs.declared.place.Place.{Place}
use Rattle.outbound_places.specs.declared.set.PlaceSet.{PlaceSet}
use Rattle.outbound_places.specs.Files.{FileIn, IsFor}
use Rattle.outbound_places.specs.Outbound.{Finds, Grows, IsAmong, IsAt, IsBelow, IsBelowOne, IsBeside, IsEntry, IsFile, IsIn, IsInOne, IsInZones, IsNamed, Lists}
use Rattle.outbound_places.specs.Places.{IsPlace, address_at, has_place, place_at, same_place}
use Rattle.outbound_places.proofs.Folders.{InPoints, alone, beside_named, in_points, in_zone}
use Rattle.outbound_places.proofs.Sets.{same_place_is, same_place-refl}

-- one name is for one node or point

within_domain : (home : Address) → IsAddress home → (p : Place) → IsPlace p → IsAddress (address_at home.domain p)
within_domain home within p fits = record { zone = fits.zone; net = fits.net; node = fits.node; point = fits.point; domain = within.domain; lower_case = within.lower_case }

pub one_for : (base : List ℕ) (default : ℕ) (path : List ℕ) (home : Address) → IsAddress home → (p q : Place) → IsFor base default path p → IsFor base default path q → p ≡ q
one_for base default path home within p q f g =
    ap place_at (one_name base home.domain default (address_at home.domain p) (address_at home.domain q) f.kind g.kind (within_domain home within p f.within, refl) (within_domain home within q g.within, refl) (sym f.named ∙ g.named)).0

-- at one of these names
abbrev pub AmongBy : (At : List ℕ → List ℕ → Type 0) → List (List ℕ) → List ℕ → Type 0
AmongBy At names path = (name : List ℕ) × Member name names × At name path

slashed : (x y : List ℕ) → no_slash (x ++ 47 ∷ y) ≡ true → ⊥
slashed [] y part = off (sym part)
slashed (b ∷ x) y part = slashed x y (and_true (not (b == 47)) (no_slash (x ++ 47 ∷ y)) part).1

module _ (base : List ℕ) (default : ℕ) (outside : OutFiles) where
  -- nothing was looked for
  pub nothing : (set : PlaceSet) (Of : List ℕ → Type 0) → ((path : List ℕ) → Of path → ⊥) → Finds base default outside Of set set
  nothing set Of none = record { all = λ path p of file. absurd (none path of); only = λ p there. inl there }

  -- and then more
  pub and_more : (a b c : PlaceSet) (P Q : List ℕ → Type 0) → Finds base default outside P a b → Finds base default outside Q b c → Grows b c → Finds base default outside (λ path. P path ⊎ Q path) a c
  and_more a b c P Q x y grows = record {
    all = λ path p of file. ⊎_elim (λ (l : P path). grows.kept p (x.all path p l file)) (λ (r : Q path). y.all path p r file) of;
    only = λ p there. ⊎_elim
        (λ before. ⊎_elim (λ old. inl old) (λ (found : (path : List ℕ) × P path × IsFile base default outside path p). inr (found.0, inl found.1, found.2)) (x.only p before))
        (λ (found : (path : List ℕ) × Q path × IsFile base default outside path p). inr (found.0, inr found.1, found.2)) (y.only p there);
  }

  -- the same paths by other words, where a file of the outbound stands
  pub reworded : (a b : PlaceSet) (P Q : List ℕ → Type 0) → ((path : List ℕ) (p : Place) → Q path → IsFile base default outside path p → P path) → ((path : List ℕ) → P path → Q path) → Finds base default outside P a b → Finds base default outside Q a b
  reworded a b P Q to from x = record {
    all = λ path p of file. x.all path p (to path p of file) file;
    only = λ p there. ⊎_elim (λ old. inl old) (λ (found : (path : List ℕ) × P path × IsFile base default outside path p). inr (found.0, from found.0 found.1, found.2)) (x.only p there);
  }

  -- One path.

  -- that is no file's of the outbound
  pub for_nobody : (path : List ℕ) (set : PlaceSet) → FileIn base default path None → Finds base default outside (λ q. q ≡ path) set set
  for_nobody path set none = record {
    all = λ q p is file. absurd (none p (subst (λ (l : List ℕ). IsFor base default l p) is file.is_for));
    only = λ p there. inl there;
  }

  -- where no file stands
  pub not_there : (path : List ℕ) (set : PlaceSet) → outside path ≡ None → Finds base default outside (λ q. q ≡ path) set set
  not_there path set none = record {
    all = λ q p is file. none_some (sym none ∙ ap outside (sym is) ∙ file.stands);
    only = λ p there. inl there;
  }

  -- where one stands
  pub there_is : (path : List ℕ) (old new : PlaceSet) (place : Place) (home : Address) (out : OutFile) → IsAddress home → IsFor base default path place → outside path ≡ Some out
      → ((p : Place) → has_place new p ≡ (has_place old p || same_place p place)) → Finds base default outside (λ q. q ≡ path) old new
  there_is path old new place home out within f stands added = record {
    all = λ q p is file.
        let same : p ≡ place = one_for base default path home within p place (subst (λ (l : List ℕ). IsFor base default l p) is file.is_for) f in
        added p ∙ or_true_right (has_place old p) (same_place p place) (ap (λ (x : Place). same_place x place) same ∙ same_place-refl place);
    only = λ p there. ⊎_elim (λ before. inl before)
        (λ same. let is = same_place_is p place same in inr (path, refl, record { file = out; stands = stands; is_for = subst (IsFor base default path) (sym is) f }))
        (or_cases (has_place old p) (same_place p place) (sym (added p) ∙ there));
  }

  -- Folders.

  -- a folder by its names
  pub in_folder : (a b : PlaceSet) (folder : List ℕ) (names : List (List ℕ)) → IsNamed folder → Lists folder outside names → Finds base default outside (IsAmong folder names) a b → Finds base default outside (IsIn folder) a b
  in_folder a b folder names named listed x = reworded a b (IsAmong folder names) (IsIn folder)
      (λ path p of file. (of.0, listed.all of.0 of.1 (record { at = path; file = file.file; stands = file.stands; under = inl (of.2 ∙ sym (ap (λ (l : List ℕ). l ++ of.0) named ∙ append_assoc folder (47 ∷ []) of.0)) }), of.2))
      (λ path of. (of.0, listed.only of.0 of.1, of.2)) x

  -- in the folder of a zone a file of the outbound stands directly, or in a folder of points
  in_zone_folder : (folder rest path : List ℕ) (p : Place) → IsBeside base folder → IsAt folder rest path → IsFile base default outside path p → IsEntry rest ⊎ InPoints rest (p.net, p.node)
  in_zone_folder folder rest path p beside is file =
      let f = subst (λ (l : List ℕ). IsFor base default l p) (is ∙ ap (λ (l : List ℕ). l ++ 47 ∷ rest) beside.2) file.is_for in
      let named = (in_zone base beside.0 rest default p beside.1 f).1 in
      ⊎_elim
      (λ zero. inl (alone rest (p.net, p.node) f.kind (named ∙ ap lower_case (node_name (p.net, p.node) p.point (ending f.kind) zero))))
      (λ some. inr (in_points rest (p.net, p.node) p.point f.kind (named ∙ ap lower_case (point_name (p.net, p.node) p.point (ending f.kind) some))))
      (zero_or p.point)

  -- a folder of another name than those of points
  pub no_points : (set : PlaceSet) (folder name : List ℕ) → IsBeside base folder → IsEntry name → Reads IsNode point_folder name None → Finds base default outside (IsIn (folder ++ 47 ∷ name)) set set
  no_points set folder name beside entry none = record {
    all = λ path p of file.
        let is : IsAt folder (name ++ 47 ∷ of.0) path = of.2 ∙ append_assoc folder (47 ∷ name) (47 ∷ of.0) in
        ⊎_elim
        (λ (alone' : IsEntry (name ++ 47 ∷ of.0)). absurd (slashed name of.0 alone'.one))
        (λ (points : InPoints (name ++ 47 ∷ of.0) (p.net, p.node)).
        let same = (at_slash name of.0 points.folder points.name entry.one points.folder_entry.one (ap lower_case points.is)).0 in
        absurd (none (p.net, p.node) (file.is_for.within.net, file.is_for.within.node) (same ∙ points.points)))
        (in_zone_folder folder (name ++ 47 ∷ of.0) path p beside is file);
    only = λ p there. inl there;
  }

  -- the folder of a zone by its names
  pub in_zone_of : (a b c : PlaceSet) (folder : List ℕ) (names : List (List ℕ)) → IsBeside base folder → Lists folder outside names
      → Finds base default outside (IsAmong folder names) a b → Finds base default outside (IsBelowOne folder names) b c → Grows b c → Finds base default outside (IsBelow folder) a c
  in_zone_of a b c folder names beside listed x y grows = reworded a c (λ path. IsAmong folder names path ⊎ IsBelowOne folder names path) (IsBelow folder)
      (λ path p of file. ⊎_elim
      (λ (entry : IsEntry of.0). inl (of.0, listed.all of.0 entry (record { at = path; file = file.file; stands = file.stands; under = inl (of.1 ∙ in_it of.0) }), of.1))
      (λ (points : InPoints of.0 (p.net, p.node)).
      let is : path ≡ (folder ++ 47 ∷ points.folder) ++ 47 ∷ points.name = of.1 ∙ ap (λ (l : List ℕ). folder ++ 47 ∷ l) points.is ∙ sym (append_assoc folder (47 ∷ points.folder) (47 ∷ points.name)) in
      inr (points.folder, listed.all points.folder points.folder_entry (record { at = path; file = file.file; stands = file.stands; under = inr (points.name, is ∙ ap (λ (l : List ℕ). l ++ 47 ∷ points.name) (in_it points.folder)) }), (points.name, points.name_entry, is)))
      (in_zone_folder folder of.0 path p beside of.1 file))
      (λ path of. ⊎_elim
      (λ (one : IsAmong folder names path). (one.0, one.2))
      (λ (one : IsBelowOne folder names path). (one.0 ++ 47 ∷ one.2.0, one.2.2 ∙ append_assoc folder (47 ∷ one.0) (47 ∷ one.2.0))) of)
      (and_more a b c (IsAmong folder names) (IsBelowOne folder names) x y grows)
    where
      in_it : (name : List ℕ) → folder ++ 47 ∷ name ≡ path_in folder name
      in_it name = sym (ap (λ (l : List ℕ). l ++ name) (beside_named base folder beside) ∙ append_assoc folder (47 ∷ []) name)

  -- a folder of another name than those of zones
  pub no_zone : (set : PlaceSet) (name : List ℕ) → IsEntry name → Reads IsNumber (λ zone. zone_folder (last_part base) zone default) name None → Finds base default outside (IsBelow (path_in (folder_above base) name)) set set
  no_zone set name entry none = record {
    all = λ path p of file.
        let f = subst (λ (l : List ℕ). IsFor base default l p) of.1 file.is_for in
        absurd (none p.zone f.within.zone (in_zone base name of.0 default p entry f).0);
    only = λ p there. inl there;
  }

  -- the folder above the base by its names
  pub in_zones : (a b : PlaceSet) (names : List (List ℕ)) → Lists (folder_above base) outside names → Finds base default outside (IsInOne (folder_above base) names) a b → Finds base default outside (IsInZones base) a b
  in_zones a b names listed x = reworded a b (IsInOne (folder_above base) names) (IsInZones base)
      (λ path p of file. (of.0, listed.all of.0 of.1 (record { at = path; file = file.file; stands = file.stands; under = inr of.2 }), of.2))
      (λ path of. (of.0, listed.only of.0 of.1, of.2)) x

  -- Names one after another.

  pub none_yet : (set : PlaceSet) (At : List ℕ → List ℕ → Type 0) → Finds base default outside (AmongBy At []) set set
  none_yet set At = nothing set (AmongBy At []) (λ path of. of.1)

  pub one_more : (a b c : PlaceSet) (At : List ℕ → List ℕ → Type 0) (names : List (List ℕ)) (name : List ℕ) → Finds base default outside (AmongBy At names) a b → Finds base default outside (At name) b c → Grows b c
      → Finds base default outside (AmongBy At (names ++ name ∷ [])) a c
  one_more a b c At names name x y grows = reworded a c (λ path. AmongBy At names path ⊎ At name path) (AmongBy At (names ++ name ∷ []))
      (λ path p of file. ⊎_elim
      (λ (m : Member of.0 names). inl (of.0, m, of.2))
      (λ (m : Member of.0 (name ∷ [])). ⊎_elim (λ (is : of.0 ≡ name). inr (subst (λ (n : List ℕ). At n path) is of.2)) (λ none. absurd none) m)
      (Member-append_cases of.0 names (name ∷ []) of.1))
      (λ path of. ⊎_elim
      (λ (one : AmongBy At names path). (one.0, Member-append one.0 names (name ∷ []) one.1, one.2))
      (λ (at : At name path). (name, Member-append_right name names (name ∷ []) (inl refl), at)) of)
      (and_more a b c (AmongBy At names) (At name) x y grows)
