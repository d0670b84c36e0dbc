-- The canonical text of an address.
use Rattle.std.specs.Prelude.{ℕ, ◌==◌, List, [], ◌∷◌, ◌++◌, map, if◌then◌else◌}
use Rattle.std.specs.Char.{to_ascii_lowercase}
use Rattle.std.specs.Fmt.{decimal}
use Rattle.ftn_addr.specs.Address.{Address}

-- `.point`, which is left out where it is 0
abbrev pub point_text : ℕ → List ℕ
point_text point = if point == 0 then [] else 46 ∷ decimal point

-- `zone:net/node.point@domain`
abbrev pub canonical : Address → List ℕ
canonical a =
    decimal a.zone ++ 58 ∷ decimal a.net ++ 47 ∷ decimal a.node ++ point_text a.point ++ 64 ∷ map to_ascii_lowercase a.domain
