-- A worked run: a file of two bytes is offered; one of them goes across before the line drops and the receiver stops; on
-- another line, which the receiver calls, it is taken on to its end (own).
use Rattle.std.specs.Prelude.{◌≡◌, true, false, [], ◌∷◌, Some, map}
use Rattle.ftn_addr.specs.Address.{Address}
use Rattle.ftn_addr.specs.Key.{Key}
use Rattle.ftn_addr.specs.declared.source_file.Action.TheVariants.{Leave}
use Rattle.node_model.specs.declared.words.Flavour.TheVariants.{Normal}
use Rattle.node_model.specs.Items.{Entry, Receipt, Done}
use Rattle.node_model.specs.Node.{Opening, plain_settings}
use Rattle.node_model.specs.SendRows.{NewFile}
use Rattle.world_pair.specs.World.{World, new_place}

-- 2:5020/1042@f
abbrev pub sender : Address
sender = record { zone = 2; net = 5020; node = 1042; point = 0; domain = 102 ∷ [] }

-- 2:5020/7@f
abbrev pub receiver : Address
receiver = record { zone = 2; net = 5020; node = 7; point = 0; domain = 102 ∷ [] }

-- a, two bytes
abbrev pub file : Key
file = record { name = 97 ∷ []; size = 2; time = 9 }

abbrev pub new_file : NewFile
new_file = record { dest = receiver; key = file; flavour = Normal; source = []; action = Leave; bytes = 7 ∷ 8 ∷ [] }

abbrev pub opened_empty : Opening
opened_empty = record { settings = plain_settings; faults = 0; fulls = 0; records = 0; staged = 0; drawn = 0 }

-- the ledger holds one record, that of the mark
abbrev pub opened_again : Opening
opened_again = record { settings = plain_settings; faults = 0; fulls = 0; records = 1; staged = 0; drawn = 1 }

abbrev pub worked_beginning : World
worked_beginning = record { x = new_place sender [] opened_empty; y = new_place receiver [] opened_empty }

-- the file stands at the receiver once, with its bytes, and its entry is settled
pub record WentAcross (v : World) : Type 0 where
  pub settled : map (λ (e : Entry). e.body) v.x.node.state.queue ≡ Done ∷ []
  pub received : map (λ (r : Receipt). r.bytes) v.y.node.state.inbox ≡ Some (7 ∷ 8 ∷ []) ∷ []
  -- the first line dropped, and the receiver stopped: it has begun one session since, and the sender two
  pub dropped : (v.x.ends 0).dropped ≡ true
  pub stopped : v.y.node.begun ≡ 1
  pub went_on : v.x.node.begun ≡ 2
  -- both ends of the second line finished, and no Skip was taken
  pub sender_finished : (v.x.ends 1).finish ≡ Some (record { offered = file ∷ []; met_skip = false })
  pub receiver_finished : (v.y.ends 1).finish ≡ Some (record { offered = []; met_skip = false })
