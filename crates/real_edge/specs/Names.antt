-- Names that a folder of the file system can have (own).
use Rattle.std.specs.Prelude.{ℕ, List, [], ◌∷◌, Bool, not, nat_eq, ◌&&◌}
use Rattle.std.specs.List.{list_any}
use Rattle.std.specs.Str.{bytes_eq}

-- not empty, neither `.` nor `..`, and without '/'
abbrev pub is_entry_name : List ℕ → Bool
is_entry_name name = not (bytes_eq name []) && not (bytes_eq name (46 ∷ [])) && not (bytes_eq name (46 ∷ 46 ∷ [])) && not (list_any (λ b. nat_eq b 47) name)
