-- The files of other programs that a store in memory knows, as they lie (own).
use Rattle.std.specs.Prelude.{◌≡◌, ℕ, Bool, true, false, nat_eq, List, [], ◌∷◌, ◌++◌, Some, None, length, take, drop, if◌then◌else◌}
use Rattle.std.specs.Str.{bytes_eq}
use Rattle.node_model.specs.Items.{Receipt}
use Rattle.node_model.specs.Lists.{without}
use Rattle.node_model.specs.Outside.{OutFile, OutFiles, Gift, GivenAs, path_in}

-- a file under its path
pub record Placed : Type 0 where
  pub path : List ℕ
  pub file : OutFile

-- the first file under each path
abbrev pub outside_of : List Placed → OutFiles
outside_of [] path = None
outside_of (f ∷ files) path = if bytes_eq path f.path then Some f.file else outside_of files path

abbrev pub without_path : List ℕ → List Placed → List Placed
without_path path files = without (λ (f : Placed). bytes_eq path f.path) files

-- a file in place of those under its path
abbrev pub with_file : Placed → List Placed → List Placed
with_file f files = without_path f.path files ++ f ∷ []

-- nothing, or what begins with '/'
abbrev pub begins_below : List ℕ → Bool
begins_below [] = true
begins_below (b ∷ bs) = nat_eq b 47

-- a path is that of a file or folder, or lies below it
abbrev pub is_at_or_below : List ℕ → List ℕ → Bool
is_at_or_below path at = if bytes_eq (take (length path) at) path then begins_below (drop (length path) at) else false

-- how a received file is given: the gift, and the file of another program that it becomes
pub record IsPlanned (r : Receipt) (folder : List ℕ) (outside : OutFiles) (file : Placed) (gift : Gift) : Type 0 where
  pub receipt : gift.receipt ≡ r.number
  pub folder_is : gift.folder ≡ folder
  pub content : r.bytes ≡ Some gift.bytes
  pub name_is : GivenAs folder r.number r.key.name outside gift.name
  pub path : file.path ≡ path_in gift.folder gift.name
  pub bytes_are : file.file.bytes ≡ gift.bytes
