-- Why a node keeps its first address: a file that comes again under another first address is another file (own).
use Rattle.std.specs.Prelude.{◌≡◌, false, List, [], ◌∷◌, map}
use Rattle.node_model.specs.declared.words.Role.TheVariants.{Answers}
use Rattle.node_model.specs.Items.{Receipt}
use Rattle.node_model.specs.Node.{Node}
use Rattle.node_model.specs.Rows.{Go}
use Rattle.node_model.specs.Calls.{Open_call, File_call, Data_call, Leave_call, Begun, Filed, Whole_now, Settled}
use Rattle.node_model.specs.Lives.{Happening, Steps}
use Rattle.world_pair.specs.WorkedRun.{sender, file}
use Rattle.world_pair.specs.MixedRun.{point}

-- one caller calls twice, under two names, and sends the same file
abbrev pub called_twice : List Happening
called_twice =
    Steps 0 (Open_call Answers (sender ∷ []) false 0) (Begun 1)
    ∷ Steps 0 (File_call file 0) (Filed Go)
    ∷ Steps 0 (Data_call (7 ∷ 8 ∷ [])) Whole_now
    ∷ Steps 0 Leave_call Settled
    ∷ Steps 0 (Open_call Answers (point ∷ []) false 0) (Begun 2)
    ∷ Steps 0 (File_call file 0) (Filed Go)
    ∷ Steps 0 (Data_call (7 ∷ 8 ∷ [])) Whole_now
    ∷ Steps 0 Leave_call Settled
    ∷ []

abbrev pub ReceivesTwice : Node → Type 0
ReceivesTwice n = map (λ (r : Receipt). r.key) n.state.inbox ≡ file ∷ file ∷ []
