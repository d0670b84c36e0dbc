-- The files of shares by their names, as the code keeps them.
use Rattle.std.specs.Prelude.{ℕ, List, map, Option, Some, None, option_map, if◌then◌else◌}
use Rattle.std.specs.BTreeMap.{BTreeMap, get}
use Rattle.std.specs.Char.{to_ascii_lowercase}
use Rattle.std.specs.Cmp.Lexicographic.{slice_cmp}
use Rattle.std.specs.Ordering.{nat_cmp, on}
use Rattle.ftn_addr.specs.Content.{Content}
use Rattle.file_request.specs.Share.{is_asked, path_of}
use Rattle.file_request.specs.declared.files.Offered.{Offered}

abbrev pub path_at : Offered → List ℕ
path_at file = path_of file.folder.now.list file.name.now.list

-- a word in lower case
abbrev pub key_of : List ℕ → Content
key_of word = record { list = map to_ascii_lowercase word; spare = 0 }

-- the path of the file under a word
abbrev pub found : BTreeMap Content Offered → List ℕ → Option (List ℕ)
found files word = option_map path_at (get (on (λ b. b.list) (slice_cmp nat_cmp)) files (key_of word))

-- the path of the file, where the word asks for it
abbrev pub given_by : Offered → List ℕ → Option (List ℕ)
given_by file word = if is_asked word file.name.now.list then Some (path_at file) else None
