-- The names of outbound files (FTS-5005).
use Rattle.std.specs.Prelude.{ℕ, ◌==◌, List, [], ◌∷◌, ◌++◌, codes, if◌then◌else◌}
use Rattle.ftn_addr.specs.Address.{Address}
use Rattle.bso_outbound.specs.declared.kind.Kind.{Kind}
use Rattle.bso_outbound.specs.Digits.{four_digits, eight_digits, three_digits_or_more}
use Rattle.bso_outbound.specs.Kinds.{ending}

-- the default zone's folder is the base; another zone's is the base, `.` and the zone
abbrev pub zone_ending : (zone default : ℕ) → List ℕ
zone_ending zone default = if zone == default then [] else 46 ∷ three_digits_or_more zone

abbrev pub zone_folder : List ℕ → (zone default : ℕ) → List ℕ
zone_folder base zone default = base ++ zone_ending zone default

-- a net and a node, four digits each
abbrev pub node_digits : ℕ × ℕ → List ℕ
node_digits node = four_digits node.0 ++ four_digits node.1

-- the folder of a node's points, in the folder of its zone
abbrev pub point_folder : ℕ × ℕ → List ℕ
point_folder node = node_digits node ++ codes ".pnt"

-- in the folder of its zone, a file of a node, or of a point, that ends so
abbrev pub name_in_zone : ℕ × ℕ → ℕ → List ℕ → List ℕ
name_in_zone node point end =
    if point == 0 then node_digits node ++ end else point_folder node ++ 47 ∷ (eight_digits point ++ end)

-- the path of what belongs to an address and ends so
abbrev pub path_ending : Address → List ℕ → List ℕ → ℕ → List ℕ
path_ending a end base default =
    zone_folder base a.zone default ++ 47 ∷ name_in_zone (a.net, a.node) a.point end

-- the path of an outbound file
abbrev pub outbound_name : Address → Kind → List ℕ → ℕ → List ℕ
outbound_name a kind base default = path_ending a (ending kind) base default
