-- A worked run of two sessions that cross: one file is queued for two addresses of one node, and both sessions offer it. The
-- second is told to skip it, and finishes; the first drops; a third session brings it across (own).
use Rattle.std.specs.Prelude.{◌≡◌, true, false, [], ◌∷◌, Some, map}
use Rattle.ftn_addr.specs.declared.source_file.Action.TheVariants.{Leave}
use Rattle.node_model.specs.declared.words.Flavour.TheVariants.{Normal}
use Rattle.node_model.specs.Items.{Entry, Receipt, Done}
use Rattle.node_model.specs.SendRows.{NewFile}
use Rattle.world_pair.specs.World.{World, new_place}
use Rattle.world_pair.specs.WorkedRun.{sender, receiver, file, opened_empty}
use Rattle.world_pair.specs.MixedRun.{point}

abbrev pub to_node : NewFile
to_node = record { dest = receiver; key = file; flavour = Normal; source = []; action = Leave; bytes = 7 ∷ 8 ∷ [] }

abbrev pub to_point : NewFile
to_point = record { dest = point; key = file; flavour = Normal; source = []; action = Leave; bytes = 7 ∷ 8 ∷ [] }

abbrev pub crossing_beginning : World
crossing_beginning = record { x = new_place sender [] opened_empty; y = new_place receiver (point ∷ []) opened_empty }

-- the file stands at the receiver once, with its bytes, and both entries are settled
pub record CrossedOnce (v : World) : Type 0 where
  pub received : map (λ (r : Receipt). r.bytes) v.y.node.state.inbox ≡ Some (7 ∷ 8 ∷ []) ∷ []
  pub settled : map (λ (e : Entry). e.body) v.x.node.state.queue ≡ Done ∷ Done ∷ []
  -- the first line dropped, the second session took a skip and finished, and the third offered both and finished
  pub dropped : (v.x.ends 0).dropped ≡ true
  pub skipped : (v.x.ends 1).finish ≡ Some (record { offered = file ∷ []; met_skip = true })
  pub finished : (v.x.ends 2).finish ≡ Some (record { offered = file ∷ file ∷ []; met_skip = false })
