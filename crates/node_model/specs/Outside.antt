-- Files of other programs: what is done with the sources of queued files, and where received files go among them (own).
use Rattle.std.specs.Prelude.{◌≡◌, ◌⊎◌, ℕ, Bool, false, ◌==◌, ◌||◌, ◌&&◌, ◌/◌, ◌%◌, List, [], ◌∷◌, ◌++◌, Option, Some, None, length, map, if◌then◌else◌}
use Rattle.std.specs.Char.{is_ascii_alphanumeric}
use Rattle.std.specs.Fmt.{digit_glyph}
use Rattle.std.specs.Str.{bytes_eq}
use Rattle.ftn_addr.specs.Key.{Key}
use Rattle.ftn_addr.specs.declared.source_file.Action.{Action}
use Rattle.ftn_addr.specs.declared.source_file.Action.TheVariants.{Leave, Delete, Cut}
use Rattle.node_model.specs.Items.{EntryOf}

-- a file of another program
pub record OutFile : Type 0 where
  pub bytes : List ℕ
  pub time : ℕ

-- the files of other programs by their paths
abbrev pub OutFiles : Type 0
OutFiles = List ℕ → Option OutFile

-- a received file that was given away: its receipt, and the folder and name under which
pub record Gift : Type 0 where
  pub receipt : ℕ
  pub folder : List ℕ
  pub name : List ℕ
  pub bytes : List ℕ

-- under one path this stands now, and the same under every other
abbrev pub put_at : List ℕ → Option OutFile → OutFiles → OutFiles
put_at path file outside at = if bytes_eq at path then file else outside at

-- Paths.

-- What the paths in a folder begin with. The empty folder is where paths without '/' stand, and `/` is the root.
abbrev pub front_of : List ℕ → List ℕ
front_of folder = if bytes_eq folder [] || bytes_eq folder (47 ∷ []) then folder else folder ++ 47 ∷ []

-- the path of a name in a folder
abbrev pub path_in : List ℕ → List ℕ → List ℕ
path_in folder name = front_of folder ++ name

-- a file stands under the path, or below it
pub record IsInUse (path : List ℕ) (outside : OutFiles) : Type 0 where
  pub at : List ℕ
  pub file : OutFile
  pub stands : outside at ≡ Some file
  pub under : (at ≡ path) ⊎ ((rest : List ℕ) × (at ≡ path ++ 47 ∷ rest))

-- Sources.

-- a file has the size and time of a key
abbrev pub has_key : Key → Option OutFile → Bool
has_key key None = false
has_key key (Some f) = (length f.bytes == key.size) && (f.time == key.time)

-- what an action leaves of a file: nothing, or an empty one of some time
abbrev pub acted_on : Action → ℕ → Option OutFile → Option OutFile
acted_on Leave time file = file
acted_on Delete time file = None
acted_on Cut time file = Some (record { bytes = []; time = time })

-- an entry's action is done to its source, unless that changed since it was taken
abbrev pub source_acted : {B : Type 0} → EntryOf B → ℕ → OutFiles → OutFiles
source_acted e time outside =
    if has_key e.key (outside e.source) then put_at e.source (acted_on e.action time (outside e.source)) outside else outside

-- Names of received files.

-- a letter, a digit, or one of `-_.!@#$%&()+=~`
abbrev pub is_plain : ℕ → Bool
is_plain byte = is_ascii_alphanumeric byte || byte == 45 || byte == 95 || byte == 46 || byte == 33 || byte == 64 || byte == 35 || byte == 36 || byte == 37 || byte == 38 || byte == 40 || byte == 41 || byte == 43 || byte == 61 || byte == 126

abbrev pub plain_byte : ℕ → ℕ
plain_byte byte = if is_plain byte then byte else 95

abbrev pub without_front_dot : List ℕ → List ℕ
without_front_dot [] = []
without_front_dot (byte ∷ name) = (if byte == 46 then 95 else byte) ∷ name

-- the name made plain: every other byte, and a `.` at the front, is `_`
abbrev pub plain_name : List ℕ → List ℕ
plain_name name = without_front_dot (map plain_byte name)

-- eight hexadecimal digits
abbrev pub eight_digits : ℕ → List ℕ
eight_digits number =
    map (λ place. digit_glyph false (number / place % 16)) (268435456 ∷ 16777216 ∷ 1048576 ∷ 65536 ∷ 4096 ∷ 256 ∷ 16 ∷ 1 ∷ [])

-- the plain name behind the receipt's number
abbrev pub numbered_name : ℕ → List ℕ → List ℕ
numbered_name receipt name = eight_digits receipt ++ 45 ∷ plain_name name

-- Received files go to one folder where their session was secure, else to another.
abbrev pub inbound_for : Bool → List ℕ → List ℕ → List ℕ
inbound_for secure inbound nonsecure = if secure then inbound else nonsecure

-- both names of a received file are in use in a folder
pub record BothInUse (folder : List ℕ) (receipt : ℕ) (name : List ℕ) (outside : OutFiles) : Type 0 where
  pub plain : IsInUse (path_in folder (plain_name name)) outside
  pub numbered : IsInUse (path_in folder (numbered_name receipt name)) outside

-- under which name a received file is given: the plain one, or where that is in use the one behind its number
pub data GivenAs (folder : List ℕ) (receipt : ℕ) (name : List ℕ) (outside : OutFiles) (as_name : List ℕ) : Type 0 where
  Plainly : as_name ≡ plain_name name → (IsInUse (path_in folder (plain_name name)) outside → ⊥) → GivenAs folder receipt name outside as_name
  By_number : as_name ≡ numbered_name receipt name → IsInUse (path_in folder (plain_name name)) outside → (IsInUse (path_in folder (numbered_name receipt name)) outside → ⊥) → GivenAs folder receipt name outside as_name
