-- What is planned for the lines of a take before they are queued (own).
use Rattle.std.specs.Prelude.{◌≡◌, ◌⊎◌, ℕ, ◌<◌, Bool, true, false, List, [], ◌∷◌, length, Option, Some, None}
use Rattle.ftn_addr.specs.Address.{Address}
use Rattle.ftn_addr.specs.declared.limits.TheConstants.{MAX_SIZE}
use Rattle.ftn_addr.specs.declared.source_file.Action.{Action}
use Rattle.bso_outbound.specs.declared.kind.Kind.{Kind}
use Rattle.bso_outbound.specs.declared.kind.Kind.TheVariants as K
use Rattle.bso_outbound.specs.Paths.{last_part}
use Rattle.flow_file.specs.Item.{FlowItem, Send, Passed}
use Rattle.node_model.specs.declared.store.OutStat.{OutStat}
use Rattle.node_model.specs.declared.words.Flavour.{Flavour}
use Rattle.node_model.specs.Items.{Entry}
use Rattle.node_model.specs.Outside.{OutFile, OutFiles}
use Rattle.node_model.specs.SendRows.{Slot, New, Again}
use Rattle.node_model.specs.Stocks.{NewEntry}
use Rattle.node_model.specs.StoreWords.{FitsQueue, entry_of}
use Rattle.outbound_model.specs.declared.fate.Fate.{Fate}
use Rattle.outbound_model.specs.declared.fate.Fate.TheVariants as F
use Rattle.outbound_model.specs.Fates.{Brings, CanQueue, sent_entry}
use Rattle.outbound_model.specs.Outbound.{Outbound}
use Rattle.outbound_take.specs.declared.words.Line.{Line}
use Rattle.outbound_take.specs.declared.words.Line.TheVariants as L
use Rattle.outbound_take.specs.declared.lines.Plan.{Plan}
use Rattle.outbound_take.specs.declared.lines.Plan.TheVariants as P
use Rattle.outbound_take.specs.Calls.{bodies_of, Enqueued, StagesMore}
use Rattle.outbound_take.specs.Stand.{Content, Memory}

-- a file with these bytes was staged and is to be queued so
pub record IsFiled (dest : Address) (flavour : Flavour) (item : FlowItem) (outside : OutFiles) (bodies : ℕ → Option (List ℕ)) (f : NewEntry) : Type 0 where
  pub file : OutFile
  pub item_is : item ≡ Send f.action f.source
  pub can : CanQueue f.source
  pub stands : outside f.source ≡ Some file
  pub is : f ≡ sent_entry dest flavour f.action f.source file f.number
  pub body : bodies f.number ≡ Some file.bytes

-- one line: its fate, or that it is filed
abbrev pub PlansFate : OutFiles → FlowItem → Fate → Type 0
PlansFate outside Passed F.Passed = Unit {0}
PlansFate outside (Send action path) F.Missing = (CanQueue path → ⊥) ⊎ (outside path ≡ None)
PlansFate outside (Send action path) F.Over = CanQueue path × ((f : OutFile) × (outside path ≡ Some f) × (MAX_SIZE < length f.bytes))
PlansFate outside item fate = ⊥

abbrev pub Planned : Address → Flavour → OutFiles → (ℕ → Option (List ℕ)) → List FlowItem → List Line → List NewEntry → Type 0
Planned dest flavour outside bodies [] [] [] = Unit {0}
Planned dest flavour outside bodies (i ∷ is) (L.Is fate ∷ ls) fs = PlansFate outside i fate × Planned dest flavour outside bodies is ls fs
Planned dest flavour outside bodies (i ∷ is) (L.File ∷ ls) (f ∷ fs) = IsFiled dest flavour i outside bodies f × Planned dest flavour outside bodies is ls fs
Planned dest flavour outside bodies _ _ _ = ⊥

-- the fates of lines once the files were queued
abbrev pub fates_in : List Line → List Slot → List Fate
fates_in [] slots = []
fates_in (L.Is fate ∷ ls) slots = fate ∷ fates_in ls slots
fates_in (L.File ∷ ls) (New n ∷ slots) = F.Queued n ∷ fates_in ls slots
fates_in (L.File ∷ ls) (Again n ∷ slots) = F.Again n ∷ fates_in ls slots
fates_in (L.File ∷ ls) [] = []

abbrev pub PlanIs : Address → Flavour → OutFiles → FlowItem → Plan → Option Content → Option Content → Type 0
PlanIs dest flavour outside item (P.Is fate) old new = PlansFate outside item fate × (new ≡ old)
PlanIs dest flavour outside item (P.File f) old new = IsFiled dest flavour item outside (bodies_of new) (entry_of f)
    × ((m : ℕ) → (m ≡ f.number → ⊥) → bodies_of new m ≡ bodies_of old m)

-- what it leaves in memory
abbrev pub PlanStages : Plan → Memory → Memory → Type 0
PlanStages (P.Is fate) old new = new ≡ old
PlanStages (P.File f) old new = FitsQueue (entry_of f) × StagesMore f.number (entry_of f).key.size old new

-- the answer says whether it is so
abbrev pub Answers : Type 0 → Bool → Type 0
Answers P true = P
Answers P false = P → ⊥

-- the file that is to be queued for a copy of that size and time
abbrev pub file_for : ℕ → Address → List ℕ → OutStat → Action → Flavour → NewEntry
file_for number dest path stat action flavour =
    record { number = number; dest = dest; key = record { name = last_part path; size = stat.size; time = stat.time }; flavour = flavour; source = path; action = action }

-- a packet or a request, which is one file
abbrev pub IsWhole : Kind → Type 0
IsWhole (K.Flow flavour) = ⊥
IsWhole kind = Unit {0}

-- a take stands with more bytes than a file may have
pub record IsOver (own : List ℕ) (s : Outbound) : Type 0 where
  pub bytes : List ℕ
  pub stands : s.takes own ≡ Some bytes
  pub over : MAX_SIZE < length bytes

-- so does a packet or a request, where that is told
pub record WaitsOver (kind : Kind) (own : List ℕ) (told : Option Outbound) : Type 0 where
  pub whole : IsWhole kind
  pub over : (s : Outbound) → told ≡ Some s → IsOver own s

-- The plan of a take: however its files are queued, that is what its bytes bring.
pub record PlansTake (kind : Kind) (dest : Address) (moment : ℕ) (own : List ℕ) (s : Outbound) (bodies : ℕ → Option (List ℕ)) (lines : List Line) (files : List NewEntry) : Type 0 where
  pub bytes : List ℕ
  pub stands : s.takes own ≡ Some bytes
  pub brings : (slots : List Slot) (after : List Entry) → Enqueued bodies s.queue files slots after → Brings kind dest moment s.outside bytes s.queue (fates_in lines slots) after
