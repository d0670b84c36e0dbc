-- Which files of an outbound are for an address, and which of them a search found (FTS-5005; own).
use Rattle.std.specs.Prelude.{◌≡◌, ◌⊎◌, ℕ, List, map, Option, Some, None}
use Rattle.ftn_addr.specs.Address.{Address}
use Rattle.bso_outbound.specs.declared.kind.Kind.{Kind}
use Rattle.bso_outbound.specs.Names.{outbound_name, point_folder, zone_folder}
use Rattle.bso_outbound.specs.Paths.{as_compared, folder_above, last_part, lower_case}
use Rattle.node_model.specs.Lists.{Member}
use Rattle.node_model.specs.Outside.{IsInUse, OutFile, OutFiles, path_in}
use Rattle.outbound_model.specs.Outbound.{Outbound}
use Rattle.outbound_places.specs.Outbound.{IsBeside, IsEntry, IsIn, IsInZones, IsNamed}
use Rattle.outbound_take.specs.Ends.{IsDone}
use Rattle.outbound_intake.specs.declared.words.Found.{Found}

-- A path is the name of a file of that kind for an address of the domain, as paths are compared.
pub record NamesFile (base : List ℕ) (default : ℕ) (domain : List ℕ) (dest : Address) (kind : Kind) (path : List ℕ) : Type 0 where
  pub of_domain : dest.domain ≡ domain
  pub named : as_compared base path ≡ as_compared base (outbound_name dest kind base default)

-- so, in a folder that stands in the folder above the base, or below
pub record IsFileFor (base : List ℕ) (default : ℕ) (domain : List ℕ) (dest : Address) (kind : Kind) (path : List ℕ) : Type 0 where
  pub in_zones : IsInZones base path
  pub names : NamesFile base default domain dest kind path

-- Of each such file that stands nothing more is to be taken in.
abbrev pub AllDone : (base : List ℕ) → ℕ → (domain : List ℕ) → Address → Option Outbound → Type 0
AllDone base default domain dest told = (path : List ℕ) (kind : Kind) → IsFileFor base default domain dest kind path → IsDone path kind told

-- What a search found.

abbrev pub file_of : Found → List ℕ × Kind
file_of f = (f.path.list, f.kind)

abbrev pub files_of : List Found → List (List ℕ × Kind)
files_of found = map file_of found

-- the file of that path; none where it is not for the address
abbrev pub FileAt : (base : List ℕ) → ℕ → (domain : List ℕ) → Address → List ℕ → Option Found → Type 0
FileAt base default domain dest path (Some f) = (f.path.list ≡ path) × NamesFile base default domain dest f.kind path
FileAt base default domain dest path None = (kind : Kind) → NamesFile base default domain dest kind path → ⊥

-- each is named as a file for the address
abbrev pub AreFor : (base : List ℕ) → ℕ → (domain : List ℕ) → Address → List (List ℕ × Kind) → Type 0
AreFor base default domain dest files = (file : List ℕ × Kind) → Member file files → NamesFile base default domain dest file.1 file.0

-- and so is what was added
abbrev pub AddsFor : (base : List ℕ) → ℕ → (domain : List ℕ) → Address → (old new : List (List ℕ × Kind)) → Type 0
AddsFor base default domain dest old new = (file : List ℕ × Kind) → Member file new → Member file old ⊎ NamesFile base default domain dest file.1 file.0

-- Of the paths of which Of is true those were added that are named so, and nothing that was found is lost.
pub record FindsFor (base : List ℕ) (default : ℕ) (domain : List ℕ) (dest : Address) (Of : List ℕ → Type 0) (old new : List (List ℕ × Kind)) : Type 0 where
  pub kept : (file : List ℕ × Kind) → Member file old → Member file new
  pub all : (path : List ℕ) (kind : Kind) → Of path → NamesFile base default domain dest kind path → Member (path, kind) new

-- a file stands there, and it is so
abbrev pub StandsSo : OutFiles → (List ℕ → Type 0) → List ℕ → Type 0
StandsSo outside Of path = Of path × ((file : OutFile) × (outside path ≡ Some file))

-- each file for the address that stands is among them
abbrev pub HasFiles : (base : List ℕ) → ℕ → (domain : List ℕ) → Address → OutFiles → List (List ℕ × Kind) → Type 0
HasFiles base default domain dest outside files =
    (path : List ℕ) (kind : Kind) → IsFileFor base default domain dest kind path → (file : OutFile) → outside path ≡ Some file → Member (path, kind) files

-- Folders.

-- that name, with ASCII case ignored
abbrev pub NamesSo : (whole name : List ℕ) → Type 0
NamesSo whole name = lower_case name ≡ lower_case whole

-- the name of the folder of a zone, and of that of a node's points
abbrev pub NamesZone : (base : List ℕ) → (zone default : ℕ) → List ℕ → Type 0
NamesZone base zone default name = NamesSo (zone_folder (last_part base) zone default) name

abbrev pub NamesPoints : ℕ × ℕ → List ℕ → Type 0
NamesPoints node name = NamesSo (point_folder node) name

-- Of these names in a folder the folders of those of which Is is true were added, and nothing else.
pub record AddsFolders (above : List ℕ) (Is : List ℕ → Type 0) (names old new : List (List ℕ)) : Type 0 where
  pub kept : (folder : List ℕ) → Member folder old → Member folder new
  pub all : (name : List ℕ) → Member name names → Is name → Member (path_in above name) new
  pub only : (folder : List ℕ) → Member folder new → Member folder old ⊎ ((name : List ℕ) × Member name names × Is name × (folder ≡ path_in above name))

-- the folders of a zone that stand beside the base
pub record ZoneFolders (base : List ℕ) (zone default : ℕ) (outside : OutFiles) (folders : List (List ℕ)) : Type 0 where
  pub all : (name : List ℕ) → IsEntry name → IsInUse (path_in (folder_above base) name) outside → NamesZone base zone default name → Member (path_in (folder_above base) name) folders
  pub beside : (folder : List ℕ) → Member folder folders → IsBeside base folder

-- the folders of a node's points that stand in these folders
pub record PointFolders (node : ℕ × ℕ) (outside : OutFiles) (zones folders : List (List ℕ)) : Type 0 where
  pub all : (zone name : List ℕ) → Member zone zones → IsEntry name → IsInUse (path_in zone name) outside → NamesPoints node name → Member (path_in zone name) folders
  pub inside : (folder : List ℕ) → Member folder folders → (zone : List ℕ) × Member zone zones × (name : List ℕ) × IsEntry name × (folder ≡ path_in zone name)

-- directly in one of these folders
abbrev pub IsInOne : (folders : List (List ℕ)) (path : List ℕ) → Type 0
IsInOne folders path = (folder : List ℕ) × Member folder folders × IsIn folder path

-- each file for the address that stands is so
pub record FoldersFor (base : List ℕ) (default : ℕ) (domain : List ℕ) (dest : Address) (outside : OutFiles) (folders : List (List ℕ)) : Type 0 where
  pub all : (path : List ℕ) (kind : Kind) → IsFileFor base default domain dest kind path → (file : OutFile) → outside path ≡ Some file → IsInOne folders path
  pub named : (folder : List ℕ) → Member folder folders → IsNamed folder
