-- The folders in which files of an address stand.
use Rattle.std.proofs.Common.{◌≡◌, ◌≢◌, inl, inr, ⊎_elim, ℕ, ◌<◌, Bool, true, false, List, [], ◌∷◌, ◌++◌, Some, None, refl, sym, ◌∙◌, ap, subst, append_assoc, eq-eqb, ◌==◌}
use Rattle.std.specs.Prelude.{codes}
use Rattle.std.proofs.lemmas.Bool.{eqb-true}
use Rattle.ftn_addr.specs.Address.{Address}
use Rattle.ftn_addr.specs.Limits.{IsAddress}
use Rattle.bso_outbound.specs.declared.kind.Kind.{Kind}
use Rattle.bso_outbound.specs.Kinds.{ending}
use Rattle.bso_outbound.specs.Names.{node_digits, outbound_name, point_folder}
use Rattle.bso_outbound.specs.Paths.{as_compared, folder_above, lower_case}
use Rattle.bso_outbound.specs.Reading.{IsNode, Reads}
use Rattle.bso_outbound.proofs.Numbers.{length-node, one_node}
use Rattle.bso_outbound.proofs.SpotNames.{node_name, point_name}
use Rattle.bso_outbound.proofs.Texts.{halves}
use Rattle.node_model.specs.Lists.{Member}
use Rattle.node_model.specs.Outside.{IsInUse, OutFile, OutFiles, path_in}
use Rattle.node_model.proofs.Lists.{Member-append, Member-append_cases, Member-append_right, off}
use Rattle.outbound_places.specs.Outbound.{IsBeside, IsNamed, Lists}
use Rattle.outbound_places.specs.Places.{IsPlace, place_at}
use Rattle.outbound_places.proofs.Folders.{IsZoneFile, alone, below_named, beside_named, in_points, in_zone}
use Rattle.outbound_take.specs.Plans.{Answers}
use Rattle.outbound_intake.specs.Files.{AddsFolders, FoldersFor, IsFileFor, IsInOne, NamesPoints, NamesZone, PointFolders, ZoneFolders}

-- Folders of points by their names.

one_points : (p q : ℕ × ℕ) → IsNode p → IsNode q → lower_case (point_folder p) ≡ lower_case (point_folder q) → p ≡ q
one_points p q ip iq is = one_node p q ip iq (halves (node_digits p) (codes ".pnt") (node_digits q) (codes ".pnt") (length-node p ∙ sym (length-node q)) is).0

pub node_within : (a : Address) → IsAddress a → IsNode (a.net, a.node)
node_within a within = (within.net, within.node)

pub points_read : (node whose : ℕ × ℕ) (name : List ℕ) (b : Bool) → IsNode whose → Reads IsNode point_folder name (Some node) → (b ≡ true → node ≡ whose) → (node ≡ whose → b ≡ true) → Answers (NamesPoints whose name) b
points_read node whose name true within read so back = subst (λ (n : ℕ × ℕ). NamesPoints n name) (so refl) read.1
points_read node whose name false within read so back = λ named. off (sym (back (one_points node whose read.0 within (sym read.1 ∙ named))))

-- by net and node
pub points_node : (n m a b : ℕ) (name : List ℕ) → IsNode (a, b) → Reads IsNode point_folder name (Some (n, m)) → n ≡ a → Answers (NamesPoints (a, b) name) (m == b)
points_node n m a b name within read net =
    points_read (n, m) (a, b) name (m == b) within read (λ same. let node = eqb-true m b same in ap (λ (x : ℕ). (x, m)) net ∙ ap (λ (x : ℕ). (a, x)) node) (λ is. eq-eqb m b (ap (λ (p : ℕ × ℕ). p.1) is))

pub points_net : (n m a b : ℕ) (name : List ℕ) → IsNode (a, b) → Reads IsNode point_folder name (Some (n, m)) → n ≢ a → Answers (NamesPoints (a, b) name) (n == a)
points_net n m a b name within read other =
    points_read (n, m) (a, b) name (n == a) within read (λ same. absurd (other (eqb-true n a same))) (λ is. absurd (other (ap (λ (p : ℕ × ℕ). p.0) is)))

pub points_unread : (whose : ℕ × ℕ) (name : List ℕ) → IsNode whose → Reads IsNode point_folder name None → Answers (NamesPoints whose name) false
points_unread whose name within none = λ named. none whose within named

-- Folders that were added.

module _ (above : List ℕ) (Is : List ℕ → Type 0) where
  pub folders_none : (old : List (List ℕ)) → AddsFolders above Is [] old old
  folders_none old = record { kept = λ folder there. there; all = λ name none is. absurd none; only = λ folder there. inl there }

  pub folders_pass : (names : List (List ℕ)) (name : List ℕ) (a b : List (List ℕ)) → (Is name → ⊥) → AddsFolders above Is names a b → AddsFolders above Is (names ++ name ∷ []) a b
  folders_pass names name a b other x = record {
    kept = x.kept;
    all = λ one there is. ⊎_elim (λ (before : Member one names). x.all one before is)
        (λ (last : Member one (name ∷ [])). ⊎_elim (λ (same : one ≡ name). absurd (other (subst Is same is))) (λ none. absurd none) last)
        (Member-append_cases one names (name ∷ []) there);
    only = λ folder there. ⊎_elim (λ before. inl before)
        (λ (one : (n : List ℕ) × Member n names × Is n × (folder ≡ path_in above n)). inr (one.0, Member-append one.0 names (name ∷ []) one.1, one.2, one.3))
        (x.only folder there);
  }

  pub folders_more : (names : List (List ℕ)) (name folder : List ℕ) (a b c : List (List ℕ)) → Is name → folder ≡ path_in above name → c ≡ b ++ folder ∷ [] → AddsFolders above Is names a b → AddsFolders above Is (names ++ name ∷ []) a c
  folders_more names name folder a b c is at last x = record {
    kept = λ one there. behind one (x.kept one there);
    all = λ one there is'. ⊎_elim (λ (before : Member one names). behind (path_in above one) (x.all one before is'))
        (λ (end' : Member one (name ∷ [])). ⊎_elim (λ (same : one ≡ name). subst (λ (n : List ℕ). Member (path_in above n) c) (sym same) here) (λ none. absurd none) end')
        (Member-append_cases one names (name ∷ []) there);
    only = λ one there. ⊎_elim
        (λ (before : Member one b). ⊎_elim (λ old. inl old)
        (λ (found : (n : List ℕ) × Member n names × Is n × (one ≡ path_in above n)). inr (found.0, Member-append found.0 names (name ∷ []) found.1, found.2, found.3))
        (x.only one before))
        (λ (end' : Member one (folder ∷ [])). ⊎_elim (λ (same : one ≡ folder). inr (name, Member-append_right name names (name ∷ []) (inl refl), is, same ∙ at)) (λ none. absurd none) end')
        (Member-append_cases one b (folder ∷ []) (subst (Member one) last there));
  }
    where
      behind : (one : List ℕ) → Member one b → Member one c
      behind one there = subst (Member one) (sym last) (Member-append one b (folder ∷ []) there)

      here : Member (path_in above name) c
      here = subst (Member (path_in above name)) (sym last) (Member-append_right (path_in above name) b (folder ∷ []) (inl (sym at)))

-- Folders of zones.

pub zones_told : (base : List ℕ) (zone default : ℕ) (outside : OutFiles) (above : List ℕ) (names folders : List (List ℕ)) → above ≡ folder_above base → Lists above outside names
    → AddsFolders above (NamesZone base zone default) names [] folders → ZoneFolders base zone default outside folders
zones_told base zone default outside above names folders is listed adds = go (subst (λ (a : List ℕ). Lists a outside names) is listed) (subst (λ (a : List ℕ). AddsFolders a (NamesZone base zone default) names [] folders) is adds)
  where
    go : Lists (folder_above base) outside names → AddsFolders (folder_above base) (NamesZone base zone default) names [] folders → ZoneFolders base zone default outside folders
    go l x = record {
      all = λ name entry used named. x.all name (l.all name entry used) named;
      beside = λ folder there. ⊎_elim (λ (none : Member folder []). absurd none)
          (λ (one : (n : List ℕ) × Member n names × NamesZone base zone default n × (folder ≡ path_in (folder_above base) n)). (one.0, l.only one.0 one.1, one.3))
          (x.only folder there);
    }

-- Folders of points.

pub points_none : (node : ℕ × ℕ) (outside : OutFiles) → PointFolders node outside [] []
points_none node outside = record { all = λ zone name none entry used named. absurd none; inside = λ folder none. absurd none }

pub points_more : (node : ℕ × ℕ) (outside : OutFiles) (zones : List (List ℕ)) (zone : List ℕ) (names a b : List (List ℕ)) → PointFolders node outside zones a → Lists zone outside names
    → AddsFolders zone (NamesPoints node) names a b → PointFolders node outside (zones ++ zone ∷ []) b
points_more node outside zones zone names a b x listed adds = record {
  all = λ one name there entry used named. ⊎_elim
      (λ (before : Member one zones). adds.kept (path_in one name) (x.all one name before entry used named))
      (λ (last : Member one (zone ∷ [])). ⊎_elim
      (λ (same : one ≡ zone). subst (λ (z : List ℕ). Member (path_in z name) b) (sym same) (adds.all name (listed.all name entry (subst (λ (z : List ℕ). IsInUse (path_in z name) outside) same used)) named))
      (λ none. absurd none) last)
      (Member-append_cases one zones (zone ∷ []) there);
  inside = λ folder there. ⊎_elim
      (λ (before : Member folder a). let old = x.inside folder before in (old.0, Member-append old.0 zones (zone ∷ []) old.1, old.2, old.3, old.4))
      (λ (new : (n : List ℕ) × Member n names × NamesPoints node n × (folder ≡ path_in zone n)). (zone, Member-append_right zone zones (zone ∷ []) (inl refl), new.0, listed.only new.0 new.1, new.3))
      (adds.only folder there);
}

-- All folders.

module _ (base : List ℕ) (default : ℕ) (domain : List ℕ) (dest : Address) (within : IsAddress dest) (outside : OutFiles) where
  is_place : IsPlace (place_at dest)
  is_place = record { zone = within.zone; net = within.net; node = within.node; point = within.point }

  -- where it stands in the folder of its zone
  zone_file : (path : List ℕ) (kind : Kind) → (f : IsFileFor base default domain dest kind path) → IsZoneFile base f.in_zones.0 f.in_zones.2.0 default (place_at dest) kind
  zone_file path kind f =
      let at : path ≡ path_in (folder_above base) f.in_zones.0 ++ 47 ∷ f.in_zones.2.0 = f.in_zones.2.1 in
      in_zone base f.in_zones.0 f.in_zones.2.0 default (place_at dest) f.in_zones.1 (record { within = is_place; kind = kind; named = subst (λ (p : List ℕ). as_compared base p ≡ as_compared base (outbound_name dest kind base default)) at f.names.named })

  pub node_folders : (folders : List (List ℕ)) → dest.point ≡ 0 → ZoneFolders base dest.zone default outside folders → FoldersFor base default domain dest outside folders
  node_folders folders zero z = record {
    all = λ path kind f file stands.
        let at = zone_file path kind f in (
          path_in (folder_above base) f.in_zones.0,
          z.all f.in_zones.0 f.in_zones.1 (record { at = path; file = file; stands = stands; under = inr f.in_zones.2 }) at.0,
          (f.in_zones.2.0, alone f.in_zones.2.0 (dest.net, dest.node) kind (at.1 ∙ ap lower_case (node_name (dest.net, dest.node) dest.point (ending kind) zero)), f.in_zones.2.1),
        );
    named = λ folder there. beside_named base folder (z.beside folder there);
  }

  pub point_folders : (zones folders : List (List ℕ)) → 0 < dest.point → ZoneFolders base dest.zone default outside zones → PointFolders (dest.net, dest.node) outside zones folders → FoldersFor base default domain dest outside folders
  point_folders zones folders some z p = record {
    all = λ path kind f file stands. in_them path kind f file stands (zone_file path kind f);
    named = λ folder there.
        let one = p.inside folder there in
        subst IsNamed (sym (one.4 ∙ in_it one.0 one.2 (z.beside one.0 one.1))) (below_named one.0 one.2 one.3);
  }
    where
      in_it : (zone name : List ℕ) → IsBeside base zone → path_in zone name ≡ zone ++ 47 ∷ name
      in_it zone name beside = ap (λ (l : List ℕ). l ++ name) (beside_named base zone beside) ∙ append_assoc zone (47 ∷ []) name

      in_them : (path : List ℕ) (kind : Kind) (f : IsFileFor base default domain dest kind path) (file : OutFile) → outside path ≡ Some file
          → IsZoneFile base f.in_zones.0 f.in_zones.2.0 default (place_at dest) kind → IsInOne folders path
      in_them path kind f file stands at =
          let zone = path_in (folder_above base) f.in_zones.0 in
          let there = z.all f.in_zones.0 f.in_zones.1 (record { at = path; file = file; stands = stands; under = inr f.in_zones.2 }) at.0 in
          let points = in_points f.in_zones.2.0 (dest.net, dest.node) dest.point kind (at.1 ∙ ap lower_case (point_name (dest.net, dest.node) dest.point (ending kind) some)) in
          let is : path ≡ path_in zone points.folder ++ 47 ∷ points.name =
          f.in_zones.2.1 ∙ ap (λ (l : List ℕ). zone ++ 47 ∷ l) points.is ∙ sym (append_assoc zone (47 ∷ points.folder) (47 ∷ points.name))
          ∙ ap (λ (l : List ℕ). l ++ 47 ∷ points.name) (sym (in_it zone points.folder (z.beside zone there))) in (
            path_in zone points.folder,
            p.all zone points.folder there points.folder_entry (record { at = path; file = file; stands = stands; under = inr (points.name, is) }) points.points,
            (points.name, points.name_entry, is),
          )
