-- The base of an outbound, and how paths in it are compared (own).
use Rattle.std.specs.Prelude.{ℕ, ◌-◌, ◌==◌, nat_le, List, [], ◌∷◌, ◌++◌, length, take, drop, map, reverse, if◌then◌else◌}
use Rattle.std.specs.Char.{to_ascii_lowercase}

-- a name in lower case
abbrev pub lower_case : List ℕ → List ℕ
lower_case name = map to_ascii_lowercase name

-- the bytes from the first `/` on
abbrev pub from_slash : List ℕ → List ℕ
from_slash [] = []
from_slash (byte ∷ bytes) = if byte == 47 then byte ∷ bytes else from_slash bytes

-- the bytes up to and with the last `/`
abbrev pub up_to_slash : List ℕ → List ℕ
up_to_slash path = reverse (from_slash (reverse path))

-- the last part of a path
abbrev pub last_part : List ℕ → List ℕ
last_part path = drop (length (up_to_slash path)) path

-- the folder above a path, without its last `/` unless that is all
abbrev pub folder_above : List ℕ → List ℕ
folder_above path = if nat_le (length (up_to_slash path)) 1 then up_to_slash path else take (length (up_to_slash path) - 1) path

-- A path as it is compared: the folder above the base byte for byte, and the names from there on with ASCII case ignored.
abbrev pub as_compared : (base path : List ℕ) → List ℕ
as_compared base path = take (length (up_to_slash base)) path ++ lower_case (drop (length (up_to_slash base)) path)
