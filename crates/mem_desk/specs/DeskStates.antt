-- What a scripted desk tells: its counts alone, and no image of what a stop leaves, and the part of its session (own).
use Rattle.std.specs.Prelude.{Bool, ℕ, Option, Some, None, option_map}
use Rattle.ftn_addr.specs.Key.{key_of}
use Rattle.ftn_addr.specs.declared.addr.FileKey.{FileKey}
use Rattle.node_model.specs.Calls.{Counts_alone}
use Rattle.node_model.specs.Desks.{Claim, DeskPart}
use Rattle.node_model.specs.Images.{Stand}
use Rattle.node_model.specs.Talk.{Part}
use Rattle.mem_desk.specs.declared.coming.Coming.{Coming}
use Rattle.mem_desk.specs.declared.scripted_desk.ScriptedDesk.{ScriptedDesk}

-- the stand of such a desk, with its counts of faults and of Full, whether it is broken, and its count of refused reads
abbrev pub counted : ℕ → ℕ → Option ℕ → ℕ → Stand
counted faults fulls broken reads = record {
  state = record { seat = 0; knows = Counts_alone (record { store = record { faults = faults; fulls = fulls; broken = broken }; busy = 0; reads = reads }) };
  moment = 0;
  images = λ k d. ⊥;
}

-- an entry's number and key, as a claim
abbrev pub claimed : Option (ℕ × FileKey) → Option Claim
claimed entry = option_map (λ e. record { number = e.0; key = key_of e.1 }) entry

-- a file that comes, as what is held
abbrev pub held_as : Option Coming → Option Part
held_as file = option_map (λ (f : Coming). record { key = key_of f.key; left = f.left; taking = f.taking }) file

-- the part of its session
abbrev pub part_of : ScriptedDesk → DeskPart
part_of d = record { open_now = d.in_session; claim = claimed d.claim; held = held_as d.coming }

-- nothing is claimed or held
abbrev pub idle : Bool → DeskPart
idle is_open = record { open_now = is_open; claim = None; held = None }
