-- How a take-in of one address answers (own).
use Rattle.std.specs.Prelude.{◌≡◌, ◌≢◌, ◌⊎◌, ℕ, List, [], Option, Some, None, Result, Ok, Err}
use Rattle.ftn_addr.specs.Address.{Address}
use Rattle.bso_outbound.specs.declared.kind.Kind.{Kind}
use Rattle.bso_outbound.specs.Paths.{last_part}
use Rattle.node_model.specs.Lists.{Member}
use Rattle.node_model.specs.Outside.{OutFile}
use Rattle.outbound_model.specs.declared.fate.Fate.{Fate}
use Rattle.outbound_model.specs.Outbound.{Outbound}
use Rattle.outbound_model.specs.OwnNames.{number_of}
use Rattle.outbound_take.specs.declared.words.TakeFault.{TakeFault}
use Rattle.outbound_take.specs.declared.words.TakeFault.TheVariants as TF
use Rattle.outbound_take.specs.declared.words.Taken.{Taken}
use Rattle.outbound_take.specs.Calls.{IsTakeFor}
use Rattle.outbound_take.specs.Ours.{FaultSettles, IsOurs, all_took}
use Rattle.outbound_take.specs.Stand.{TakeStand, Works}

-- with marks of that text: at Ok what was queued is what is answered
abbrev pub Answered : Address → ℕ → List ℕ → Result Taken TakeFault → TakeStand → TakeStand → Type 0
Answered dest moment text (Ok taken) old new = Works (IsOurs dest moment (Some text)) (Unit {0}) (all_took taken.files.items) old new
Answered dest moment text (Err fault) old new = (some : List (Option Kind × List Fate)) × Works (IsOurs dest moment (Some text)) (FaultSettles fault) some old new

-- each take for the address that stands has one of these numbers
abbrev pub OnlyTakes : Address → List ℕ → Option Outbound → Type 0
OnlyTakes dest over told = (t : Outbound) → told ≡ Some t → (own : List ℕ) (kind : Kind) → IsTakeFor dest kind own → t.takes own ≢ None → Member (number_of own) over

-- a failing disk leaves a broken store
abbrev pub FaultBreaks : TakeFault → TakeStand → Type 0
FaultBreaks TF.Disk s = s.memory.broken ≢ None
FaultBreaks fault s = Unit {0}

-- The mark.

-- every fault but Marked
abbrev pub IsOwnFault : TakeFault → Type 0
IsOwnFault (TF.Marked name) = ⊥
IsOwnFault fault = Unit {0}

-- at Marked a file stood at the mark's path, of which its name is told, and nothing changed
abbrev pub WasMarked : List ℕ → Option Outbound → Option Outbound → TakeFault → Type 0
WasMarked path old new (TF.Marked name) = (name.list ≡ last_part path) × ((s : Outbound) → old ≡ Some s → (s.outside path ≢ None) × (new ≡ Some s))
WasMarked path old new fault = Unit {0}

-- the mark stands, or an action cut or removed it
abbrev pub IsMark : List ℕ → Option OutFile → Type 0
IsMark text None = Unit {0}
IsMark text (Some f) = (f.bytes ≡ text) ⊎ (f.bytes ≡ [])

-- no file stands at the path, or one that an action cut
abbrev pub IsFree : Option OutFile → Type 0
IsFree None = Unit {0}
IsFree (Some f) = f.bytes ≡ []

abbrev pub Freed : List ℕ → Option Outbound → Type 0
Freed path told = (t : Outbound) → told ≡ Some t → IsFree (t.outside path)

-- where the mark stood its path is free
abbrev pub Frees : (path text : List ℕ) → TakeFault → Option Outbound → Option Outbound → Type 0
Frees path text fault old new = FaultSettles fault → ((s : Outbound) → old ≡ Some s → IsMark text (s.outside path)) → Freed path new

-- behind the mark its path is free; without memory for its words there was no mark, and nothing changed
abbrev pub EndsMark : List ℕ → Result Taken TakeFault → Option Outbound → Option Outbound → Type 0
EndsMark path (Ok taken) old new = Freed path new
EndsMark path (Err TF.Full) old new = Freed path new
EndsMark path (Err TF.NoMemory) old new = Freed path new ⊎ (new ≡ old)
EndsMark path (Err fault) old new = Unit {0}
