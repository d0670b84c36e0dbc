-- The node of a line (FTS-5000).
use Rattle.std.specs.Prelude.{ℕ, ◌==◌, nat_lt, List, [], length, drop, slice_get, codes, Option, Some, None, Result, Ok, Err, if◌then◌else◌}
use Rattle.std.specs.List.{slice_split}
use Rattle.ftn_addr.specs.Digits.{saturated_number}
use Rattle.ftn_addr.specs.Outcomes.{◌>>=◌}
use Rattle.ftn_addr.specs.Case.{same_word}
use Rattle.ftn_addr.specs.declared.limits.TheConstants.{MAX_ADDRESS_NUMBER}
use Rattle.nodelist_comp.specs.Flags.{endpoint}
use Rattle.nodelist_comp.specs.Node.{ListedNode}
use Rattle.nodelist_comp.specs.declared.fault.ListCause.{ListCause}
use Rattle.nodelist_comp.specs.declared.fault.ListCause.TheVariants.{NoZone, BadNumber, UnknownKeyword, TooMany}
use Rattle.nodelist_comp.specs.declared.fields.Area.{Area as AreaCode}
use Rattle.nodelist_comp.specs.declared.node.NodeKind.{NodeKind}
use Rattle.nodelist_comp.specs.declared.node.NodeKind.TheVariants.{Zone, Region, Host, Hub, Pvt, Hold, Down, Plain}

-- the zone and the net that hold for a line
pub record Area : Type 0 where
  pub zone : ℕ
  pub net : ℕ

abbrev pub area : AreaCode → Area
area a = record { zone = a.zone; net = a.net }

-- the kind that a keyword names, with the case of letters ignored
abbrev pub kind_of : List ℕ → Option NodeKind
kind_of word =
    if length word == 0 then Some Plain
    else if same_word word (codes "Zone") then Some Zone
    else if same_word word (codes "Region") then Some Region
    else if same_word word (codes "Host") then Some Host
    else if same_word word (codes "Hub") then Some Hub
    else if same_word word (codes "Pvt") then Some Pvt
    else if same_word word (codes "Hold") then Some Hold
    else if same_word word (codes "Down") then Some Down
    else None

abbrev pub known : Option NodeKind → Result NodeKind ListCause
known None = Err UnknownKeyword
known (Some kind) = Ok kind

abbrev pub kind_or : Option (List ℕ) → Result NodeKind ListCause
kind_or None = Err UnknownKeyword
kind_or (Some word) = known (kind_of word)

-- the fields of what is left of a line
abbrev pub fields_left : Option (List ℕ) → List (List ℕ)
fields_left None = []
fields_left (Some rest) = slice_split (λ byte. byte == 44) rest

-- the first field is the keyword
unfoldable pub kind_at : List (List ℕ) → Result NodeKind ListCause
kind_at fields = kind_or (slice_get fields 0)

abbrev pub number_or : Option ℕ → Result ℕ ListCause
number_or None = Err BadNumber
number_or (Some number) = if nat_lt MAX_ADDRESS_NUMBER number then Err BadNumber else Ok number

abbrev pub number_of : Option (List ℕ) → Result ℕ ListCause
number_of None = Err BadNumber
number_of (Some digits) = number_or (saturated_number digits)

-- the second field is the number
unfoldable pub number_at : List (List ℕ) → Result ℕ ListCause
number_at fields = number_of (slice_get fields 1)

-- a line other than a zone's needs a zone above
abbrev pub area_for : NodeKind → Option Area → Result Area ListCause
area_for Zone above = Ok (record { zone = 0; net = 0 })
area_for kind (Some above) = Ok above
area_for kind None = Err NoZone

-- Zone n is n:n/0, Region n and Host n are net n's /0, and the others are node n of the net above.
abbrev pub placed : NodeKind → Area → ℕ → ℕ × ℕ × ℕ
placed Zone above number = (number, number, 0)
placed Region above number = (above.zone, number, 0)
placed Host above number = (above.zone, number, 0)
placed kind above number = (above.zone, above.net, number)

abbrev pub node_at : NodeKind → ℕ × ℕ × ℕ → List ℕ × ℕ → ListedNode
node_at kind at answers =
    record { zone = at.0; net = at.1; node = at.2; kind = kind; host = answers.0; port = answers.1 }

-- The keyword is judged first, then the zone above, then the number; the flags stand from the eighth field on.
unfoldable pub node_of : Option Area → List (List ℕ) → Result ListedNode ListCause
node_of above fields = do
  kind ← kind_at fields
  base ← area_for kind above
  number ← number_at fields
  Ok (node_at kind (placed kind base number) (endpoint (drop 7 fields)))
