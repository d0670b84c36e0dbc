-- A worked take-in: a flow file of four lines, `^/a/x.zip`, `~/a/old`, `#/a/b.mo0` and `/a/gone` (own).
use Rattle.std.specs.Prelude.{◌≡◌, ℕ, List, [], ◌∷◌, ◌++◌, map, codes, Some, None, option_map}
use Rattle.ftn_addr.specs.Address.{Address}
use Rattle.node_model.specs.Items.{Entry}
use Rattle.node_model.specs.Outside.{OutFile, OutFiles, put_at}
use Rattle.outbound_model.specs.declared.fate.Fate.TheVariants as F
use Rattle.outbound_model.specs.Outbound.{Outbound}
use Rattle.outbound_model.specs.Steps.{Step, Moved, Queued, Dropped, Hit, Acted}

-- it is for 2:5020/1042
abbrev pub peer : Address
peer = record { zone = 2; net = 5020; node = 1042; point = 0; domain = codes "fidonet" }

abbrev pub flow_path : List ℕ
flow_path = codes "/o/139c0412.flo"

abbrev pub flow_text : List ℕ
flow_text = codes "^/a/x.zip" ++ 13 ∷ 10 ∷ codes "~/a/old" ++ 13 ∷ 10 ∷ codes "#/a/b.mo0" ++ 13 ∷ 10 ∷ codes "/a/gone" ++ 13 ∷ 10 ∷ []

abbrev pub own_name : List ℕ
own_name = codes "t00000001-0002139c04120000.flo"

abbrev pub nothing : OutFiles
nothing = λ path. None

-- the flow file and two of the files that it names stand
abbrev pub worked_outside : OutFiles
worked_outside =
    put_at flow_path (Some (record { bytes = flow_text; time = 9 }))
    (put_at (codes "/a/x.zip") (Some (record { bytes = 1 ∷ 2 ∷ 3 ∷ []; time = 5 }))
    (put_at (codes "/a/b.mo0") (Some (record { bytes = 4 ∷ []; time = 6 })) nothing))

abbrev pub worked_beginning : Outbound
worked_beginning = record { queue = []; recorded = []; takes = λ own. None; outside = worked_outside }

-- the newest first
abbrev pub worked_take : List Step
worked_take =
    Dropped own_name
    ∷ Acted 2
    ∷ Hit 2
    ∷ Acted 1
    ∷ Hit 1
    ∷ Queued own_name flow_text peer 10 (F.Queued 1 ∷ F.Passed ∷ F.Queued 2 ∷ F.Missing ∷ [])
    ∷ Moved flow_path own_name flow_text
    ∷ []

pub record EndsWorked (s : Outbound) : Type 0 where
  pub queue : map (λ (e : Entry). e.number) s.queue ≡ 1 ∷ 2 ∷ []
  pub deleted : s.outside (codes "/a/x.zip") ≡ None
  pub cut : option_map (λ (f : OutFile). f.bytes) (s.outside (codes "/a/b.mo0")) ≡ Some []
  pub moved : s.outside flow_path ≡ None
  pub dropped : s.takes own_name ≡ None
