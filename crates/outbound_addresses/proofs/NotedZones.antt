-- What is noted of the folders of zones and of points, where that is told.
use Rattle.std.proofs.Common.{◌≡◌, inl, inr, ⊎_elim, ℕ, suc, zero, ◌<◌, false, List, [], ◌∷◌, ◌++◌, length, map, get_or, Option, Some, None, Ok, sym, ap, subst, ◌∙◌, arith, append_assoc}
use Rattle.std.specs.Prelude.{is_some}
use Rattle.node_model.specs.Lists.{Member}
use Rattle.node_model.specs.Outside.{OutFiles, path_in}
use Rattle.node_model.specs.StoreStates.{IfTold, Stored, StoreStand}
use Rattle.node_model.proofs.Lists.{off}
use Rattle.node_store.specs.declared.takes.TakeName.{TakeName}
use Rattle.ledger_rec.specs.Items.{Entry}
use Rattle.bso_outbound.specs.Names.{point_folder, zone_folder}
use Rattle.bso_outbound.specs.Paths.{folder_above, last_part}
use Rattle.bso_outbound.specs.Reading.{IsNode, IsNumber, Reads}
use Rattle.outbound_places.specs.declared.set.PlaceSet.{PlaceSet}
use Rattle.outbound_places.specs.Outbound.{Adds, Finds, Grows, IsAmong, IsBelow, IsBelowOne, IsBeside, IsEntry, IsFile, IsIn, IsInOne, IsInZones, IsNamed, Lists}
use Rattle.outbound_places.specs.Places.{IsPlace}
use Rattle.outbound_places.proofs.Folders.{below_named, beside_named}
use Rattle.outbound_places.proofs.Search.{in_zone_of, in_zones, no_points, no_zone}
use Rattle.outbound_addresses.specs.Asking.{AsksLater}
use Rattle.outbound_addresses.specs.Own.{HasFile, IsNeeded, IsOwnFor}
use Rattle.outbound_addresses.proofs.Walk.{always_told, told_both, told_map, told_there}

-- the item at a place is one of them
pub there_at : {A B : Type 0} (view : A → B) (xs : List A) (i : ℕ) (x : A) → i < length xs → x ≡ get_or xs i x → Member (view x) (map view xs)
there_at view [] i x lt is = absurd (omega (arith, lt))
there_at view (y ∷ xs) zero x lt is = inl (ap view is)
there_at view (y ∷ xs) (suc i) x lt is = inr (there_at view xs i x (omega (arith, lt)) is)

-- nothing was read
pub none_read : {A : Type 0} (o : Option A) (P : Option A → Type 0) → is_some o ≡ false → P o → P None
none_read None P none is = is
none_read (Some x) P none is = off none

module _ (base : List ℕ) (default : ℕ) where
  -- a folder of points, or another one
  pub points_passed : (o : Option Stored) (folder name : List ℕ) (set : PlaceSet) → Reads IsNode point_folder name None → IfTold o (λ s. IsBeside base folder → IsEntry name → Finds base default s.outside (IsIn (folder ++ 47 ∷ name)) set set)
  points_passed o folder name set none = always_told o _ (λ s beside entry. no_points base default s.outside set folder name beside entry none)

  pub points_noted : (o : Option Stored) (folder name path : List ℕ) (old new : PlaceSet) → path ≡ path_in folder name → IfTold o (λ s. IsNamed path → Finds base default s.outside (IsIn path) old new)
      → IfTold o (λ s. IsBeside base folder → IsEntry name → Finds base default s.outside (IsIn (folder ++ 47 ∷ name)) old new)
  points_noted o folder name path old new is told =
      told_map o _ _
      (λ s found beside entry.
      let there : path ≡ folder ++ 47 ∷ name = is ∙ ap (λ (l : List ℕ). l ++ name) (beside_named base folder beside) ∙ append_assoc folder (47 ∷ []) name in
      subst (λ (l : List ℕ). Finds base default s.outside (IsIn l) old new) there (found (subst IsNamed (sym there) (below_named folder name entry)))) told

  -- the folder of a zone by its names
  pub listed_noted : (a b : StoreStand) (folder : List ℕ) (names : List (List ℕ)) (old mid new : PlaceSet) → AsksLater {T = Unit {0}} (Ok tt) a b → Grows mid new
      → IfTold a.state.content (λ s. Finds base default s.outside (IsAmong folder names) old mid)
      → IfTold b.state.content (λ s. IsBeside base folder → ((n : List ℕ) → Member n names → IsEntry n) → Finds base default s.outside (IsBelowOne folder names) mid new)
      → IfTold a.state.content (λ s. IsBeside base folder → Lists folder s.outside names → Finds base default s.outside (IsBelow folder) old new)
  listed_noted a b folder names old mid new asked grows among below =
      told_both a.state.content _ _ _ (λ s x y beside lists. in_zone_of base default s.outside old mid new folder names beside lists x (y beside lists.only) grows) among
      (told_there a.state b.state (λ s. IsBeside base folder → ((n : List ℕ) → Member n names → IsEntry n) → Finds base default s.outside (IsBelowOne folder names) mid new) asked.made below)

  pub zone_noted : (a b : StoreStand) (folder : List ℕ) (names : List (List ℕ)) (old new : PlaceSet) → AsksLater {T = Unit {0}} (Ok tt) a b
      → IfTold a.state.content (λ s. Lists folder s.outside names)
      → IfTold b.state.content (λ s. IsBeside base folder → Lists folder s.outside names → Finds base default s.outside (IsBelow folder) old new)
      → IfTold a.state.content (λ s. IsBeside base folder → Finds base default s.outside (IsBelow folder) old new)
  zone_noted a b folder names old new asked lists found =
      told_both a.state.content _ _ _ (λ s l f beside. f beside l) lists
      (told_there a.state b.state (λ s. IsBeside base folder → Lists folder s.outside names → Finds base default s.outside (IsBelow folder) old new) asked.made found)

  -- a folder of another name than those of zones, or one of them
  pub zone_passed : (o : Option Stored) (name : List ℕ) (set : PlaceSet) → Reads IsNumber (λ zone. zone_folder (last_part base) zone default) name None → IfTold o (λ s. IsEntry name → Finds base default s.outside (IsBelow (path_in (folder_above base) name)) set set)
  zone_passed o name set none = always_told o _ (λ s entry. no_zone base default s.outside set name entry none)

  pub zone_of_noted : (o : Option Stored) (name path : List ℕ) (old new : PlaceSet) → path ≡ path_in (folder_above base) name → IfTold o (λ s. IsBeside base path → Finds base default s.outside (IsBelow path) old new)
      → IfTold o (λ s. IsEntry name → Finds base default s.outside (IsBelow (path_in (folder_above base) name)) old new)
  zone_of_noted o name path old new is told = told_map o _ _ (λ s found entry. subst (λ (l : List ℕ). Finds base default s.outside (IsBelow l) old new) is (found (name, entry, is))) told

  -- the folder above the base by its names
  pub above_noted : (a b : StoreStand) (above : List ℕ) (names : List (List ℕ)) (old new : PlaceSet) → AsksLater {T = Unit {0}} (Ok tt) a b
      → IfTold a.state.content (λ s. Lists above s.outside names)
      → IfTold b.state.content (λ s. ((n : List ℕ) → Member n names → IsEntry n) → Finds base default s.outside (IsInOne (folder_above base) names) old new)
      → IfTold a.state.content (λ s. above ≡ folder_above base → Finds base default s.outside (IsInZones base) old new)
  above_noted a b above names old new asked lists found =
      told_both a.state.content _ _ _ (λ s l f is. in_zones base default s.outside old new names (subst (λ (k : List ℕ). Lists k s.outside names) is l) (f l.only)) lists
      (told_there a.state b.state (λ s. ((n : List ℕ) → Member n names → IsEntry n) → Finds base default s.outside (IsInOne (folder_above base) names) old new) asked.made found)

  pub zones_noted : (o : Option Stored) (above : List ℕ) (old new : PlaceSet) → above ≡ folder_above base → IfTold o (λ s. above ≡ folder_above base → Finds base default s.outside (IsInZones base) old new) → IfTold o (λ s. Finds base default s.outside (IsInZones base) old new)
  zones_noted o above old new is told = told_map o _ _ (λ s found. found is) told

  -- what the store keeps itself, and then the files of the outbound
  pub needed_added : (o : Option Stored) (domain : List ℕ) (left : List TakeName) (queue : List Entry) (a b c : PlaceSet) → Adds (IsOwnFor domain left queue) a b → Grows b c
      → IfTold o (λ s. Finds base default s.outside (IsInZones base) b c) → IfTold o (λ s. Adds (IsNeeded base default s.outside domain left queue) a c)
  needed_added o domain left queue a b c own grows told =
      told_map o _ _ (λ s found. added s.outside found) told
    where
      added : (outside : OutFiles) → Finds base default outside (IsInZones base) b c → Adds (IsNeeded base default outside domain left queue) a c
      added outside found = record {
        all = λ p fits needs. ⊎_elim (λ (file : HasFile base default outside p). found.all file.path p file.in_zones file.file) (λ (is : IsOwnFor domain left queue p). grows.kept p (own.all p fits is)) needs;
        only = λ p there. ⊎_elim
            (λ before. ⊎_elim (λ old. inl old) (λ (is : IsPlace p × IsOwnFor domain left queue p). inr (is.0, inr is.1)) (own.only p before))
            (λ (is : (path : List ℕ) × IsInZones base path × IsFile base default outside path p). inr (is.2.is_for.within, inl (record { path = is.0; in_zones = is.1; file = is.2 })))
            (found.only p there);
      }
