-- The names that stand in a folder of outside files (own).
use Rattle.std.specs.Prelude.{◌≡◌, ◌≢◌, ◌⊎◌, ℕ, List, [], ◌∷◌, ◌++◌, Option, Some, Contains, if◌then◌else◌, ◌||◌, ◌&&◌, length, take, drop, not, nat_eq, Bool, true, false}
use Rattle.std.specs.List.{before_first, list_any}
use Rattle.std.specs.Str.{bytes_eq}
use Rattle.std.specs.Ordering.{nat_cmp}
use Rattle.std.specs.Cmp.Lexicographic.{slice_cmp}
use Rattle.std.specs.List.Sorted.{IsStrictlySortedBy}
use Rattle.disk_model.specs.World.{Files, OutFile}

-- The paths in a folder begin so. The empty folder is where paths without '/' stand, and `/` is the root.
abbrev pub front_of : List ℕ → List ℕ
front_of folder = if bytes_eq folder [] || bytes_eq folder (47 ∷ []) then folder else folder ++ 47 ∷ []

-- the path of a name in a folder
abbrev pub path_in : List ℕ → List ℕ → List ℕ
path_in folder name = front_of folder ++ name

-- nothing, or what begins with '/'
abbrev pub begins_below : List ℕ → Bool
begins_below [] = true
begins_below (b ∷ bs) = nat_eq b 47

-- whether a path is that of a file or folder, or lies below it
abbrev pub is_at_or_below : List ℕ → List ℕ → Bool
is_at_or_below path at = if bytes_eq (take (length path) at) path then begins_below (drop (length path) at) else false

-- The name in a folder through which a path leads: what stands behind the folder's front, up to the next '/'. None is
-- empty.
abbrev pub entry_of : List ℕ → List ℕ → List ℕ
entry_of front path = if bytes_eq (take (length front) path) front then before_first (λ b. nat_eq b 47) (drop (length front) path) else []

-- whether a path leads through that name
abbrev pub leads_to : List ℕ → List ℕ → List ℕ → Bool
leads_to front name path = not (bytes_eq (entry_of front path) []) && bytes_eq name (entry_of front path)

-- a file stands under the path, or below it
pub record IsInUse (path : List ℕ) (outside : List ℕ → Option OutFile) : Type 0 where
  pub at : List ℕ
  pub file : OutFile
  pub stands : outside at ≡ Some file
  pub under : (at ≡ path) ⊎ ((rest : List ℕ) × (at ≡ path ++ 47 ∷ rest))

-- the name of a file or folder: not empty, and without '/'
pub record IsEntryName (name : List ℕ) : Type 0 where
  pub some : name ≢ []
  pub one : list_any (λ b. nat_eq b 47) name ≡ false

-- names that ascend by their bytes, each once
abbrev pub Ascend : List (List ℕ) → Type 0
Ascend names = IsStrictlySortedBy (slice_cmp nat_cmp) names

-- the names of the own files
pub record ListsFiles (files : Files) (names : List (List ℕ)) : Type 0 where
  pub ascend : Ascend names
  pub all : (name bytes : List ℕ) → files name ≡ Some bytes → Contains names name
  pub only : (name : List ℕ) → Contains names name → (bytes : List ℕ) × (files name ≡ Some bytes)

-- the names of the files and folders that stand directly in a folder
pub record ListsFolder (folder : List ℕ) (outside : List ℕ → Option OutFile) (names : List (List ℕ)) : Type 0 where
  pub ascend : Ascend names
  pub all : (name : List ℕ) → IsEntryName name → IsInUse (path_in folder name) outside → Contains names name
  pub only : (name : List ℕ) → Contains names name → IsEntryName name × IsInUse (path_in folder name) outside
