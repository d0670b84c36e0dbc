-- Why equal keys must mean equal bytes: two files of one key and other bytes are queued for two addresses of one node; one
-- of them goes across in part, and the other is taken on from its mark (own).
use Rattle.std.specs.Prelude.{◌≡◌, [], ◌∷◌, Some, map}
use Rattle.ftn_addr.specs.Address.{Address}
use Rattle.ftn_addr.specs.declared.source_file.Action.TheVariants.{Leave}
use Rattle.node_model.specs.declared.words.Flavour.TheVariants.{Normal}
use Rattle.node_model.specs.Items.{Receipt}
use Rattle.node_model.specs.SendRows.{NewFile}
use Rattle.world_pair.specs.World.{World, new_place}
use Rattle.world_pair.specs.WorkedRun.{sender, receiver, file, opened_empty}

-- 2:5020/7.1@f, another address of the receiver
abbrev pub point : Address
point = record { zone = 2; net = 5020; node = 7; point = 1; domain = 102 ∷ [] }

abbrev pub for_point : NewFile
for_point = record { dest = point; key = file; flavour = Normal; source = []; action = Leave; bytes = 0 ∷ 0 ∷ [] }

abbrev pub for_node : NewFile
for_node = record { dest = receiver; key = file; flavour = Normal; source = []; action = Leave; bytes = 1 ∷ 1 ∷ [] }

abbrev pub mixed_beginning : World
mixed_beginning = record { x = new_place sender [] opened_empty; y = new_place receiver (point ∷ []) opened_empty }

-- what was received begins as the one file and ends as the other
abbrev pub ReceivesMixed : World → Type 0
ReceivesMixed v = map (λ (r : Receipt). r.bytes) v.y.node.state.inbox ≡ Some (0 ∷ 1 ∷ []) ∷ []
