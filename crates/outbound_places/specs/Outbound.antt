-- The files of an outbound among all outside files, and which of them a search has found (own).
use Rattle.std.specs.Prelude.{◌≡◌, ◌≢◌, ◌⊎◌, ℕ, true, List, [], ◌∷◌, ◌++◌, Some}
use Rattle.node_model.specs.Lists.{Member}
use Rattle.node_model.specs.Outside.{IsInUse, OutFile, OutFiles, front_of, path_in}
use Rattle.bso_outbound.specs.Paths.{folder_above}
use Rattle.bso_outbound.specs.Reading.{no_slash}
use Rattle.outbound_places.specs.declared.place.Place.{Place}
use Rattle.outbound_places.specs.declared.set.PlaceSet.{PlaceSet}
use Rattle.outbound_places.specs.Files.{IsFor}
use Rattle.outbound_places.specs.Places.{IsPlace, has_place}

-- a name in a folder: not empty, and without `/`
pub record IsEntry (name : List ℕ) : Type 0 where
  pub some : name ≢ []
  pub one : no_slash name ≡ true

-- these are the names of the files and folders that stand directly in a folder
pub record Lists (folder : List ℕ) (outside : OutFiles) (names : List (List ℕ)) : Type 0 where
  pub all : (name : List ℕ) → IsEntry name → IsInUse (path_in folder name) outside → Member name names
  pub only : (name : List ℕ) → Member name names → IsEntry name

-- under that path stands a file of the outbound for that node or point
pub record IsFile (base : List ℕ) (default : ℕ) (outside : OutFiles) (path : List ℕ) (p : Place) : Type 0 where
  pub file : OutFile
  pub stands : outside path ≡ Some file
  pub is_for : IsFor base default path p

-- Which paths are in a folder.

abbrev pub IsAt : (folder name path : List ℕ) → Type 0
IsAt folder name path = path ≡ folder ++ 47 ∷ name

-- directly in it, under one of these names
abbrev pub IsAmong : (folder : List ℕ) (names : List (List ℕ)) (path : List ℕ) → Type 0
IsAmong folder names path = (name : List ℕ) × Member name names × IsAt folder name path

-- directly in it
abbrev pub IsIn : (folder path : List ℕ) → Type 0
IsIn folder path = (name : List ℕ) × IsEntry name × IsAt folder name path

-- in it or in a folder below
abbrev pub IsBelow : (folder path : List ℕ) → Type 0
IsBelow folder path = (rest : List ℕ) × IsAt folder rest path

-- directly in a folder in it of one of these names
abbrev pub IsBelowOne : (folder : List ℕ) (names : List (List ℕ)) (path : List ℕ) → Type 0
IsBelowOne folder names path = (name : List ℕ) × Member name names × IsIn (folder ++ 47 ∷ name) path

-- in a folder of one of these names in that one, or below
abbrev pub IsInOne : (folder : List ℕ) (names : List (List ℕ)) (path : List ℕ) → Type 0
IsInOne folder names path = (name : List ℕ) × Member name names × IsBelow (path_in folder name) path

-- in a folder that stands in the folder above the base, or below
abbrev pub IsInZones : (base path : List ℕ) → Type 0
IsInZones base path = (name : List ℕ) × IsEntry name × IsBelow (path_in (folder_above base) name) path

-- The folder stands in the folder above the base.
abbrev pub IsBeside : (base folder : List ℕ) → Type 0
IsBeside base folder = (name : List ℕ) × IsEntry name × (folder ≡ path_in (folder_above base) name)

-- Paths in the folder begin with its name and `/`.
abbrev pub IsNamed : List ℕ → Type 0
IsNamed folder = front_of folder ≡ folder ++ 47 ∷ []

-- What a search found.

-- nothing that was found is lost, and what was added is within the limits
pub record Grows (old new : PlaceSet) : Type 0 where
  pub kept : (p : Place) → has_place old p ≡ true → has_place new p ≡ true
  pub within : (p : Place) → has_place new p ≡ true → (has_place old p ≡ true) ⊎ IsPlace p

-- the places of which P is true were added, and nothing else
pub record Adds (P : Place → Type 0) (old new : PlaceSet) : Type 0 where
  pub all : (p : Place) → IsPlace p → P p → has_place new p ≡ true
  pub only : (p : Place) → has_place new p ≡ true → (has_place old p ≡ true) ⊎ (IsPlace p × P p)

-- it is true of one of these
abbrev pub OneOf : {A : Type 0} → (A → Place → Type 0) → List A → Place → Type 0
OneOf {A} Of xs p = (x : A) × Member x xs × Of x p

-- Of the paths of which Of is true, for whom a file of the outbound stands is found; and nothing else was added.
pub record Finds (base : List ℕ) (default : ℕ) (outside : OutFiles) (Of : List ℕ → Type 0) (old new : PlaceSet) : Type 0 where
  pub all : (path : List ℕ) (p : Place) → Of path → IsFile base default outside path p → has_place new p ≡ true
  pub only : (p : Place) → has_place new p ≡ true → (has_place old p ≡ true) ⊎ ((path : List ℕ) × Of path × IsFile base default outside path p)
