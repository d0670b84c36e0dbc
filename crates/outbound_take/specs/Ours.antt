-- The steps of a take-in of one address, and how its functions answer (own).
use Rattle.std.specs.Prelude.{◌≡◌, ℕ, List, [], ◌∷◌, Option, Some, None, Result, Ok, Err, map}
use Rattle.std.specs.Global.{Vec}
use Rattle.ftn_addr.specs.Address.{Address}
use Rattle.bso_outbound.specs.declared.kind.Kind.{Kind}
use Rattle.node_model.specs.declared.store.StoreFault.{StoreFault}
use Rattle.node_model.specs.Lists.{Member, Each}
use Rattle.outbound_model.specs.declared.fate.Fate.{Fate}
use Rattle.outbound_model.specs.Outbound.{Outbound}
use Rattle.outbound_model.specs.OwnNames.{IsFor, number_of}
use Rattle.outbound_model.specs.Steps.{Step, Moved, Queued, Dropped, Hit, Acted, Marked, Unmarked, Changed}
use Rattle.outbound_take.specs.declared.words.TakeFault.{TakeFault}
use Rattle.outbound_take.specs.declared.words.TakeFault.TheVariants as TF
use Rattle.outbound_take.specs.declared.words.TookFile.{TookFile}
use Rattle.outbound_take.specs.Stand.{Left, TakeStand, Works, SettledBy}
use Rattle.outbound_take.specs.Calls.{IfFor, IsTakeFor, names_without, noted, owns}
use Rattle.outbound_take.specs.Plans.{IsOver, IsWhole}

-- a mark has that text; with none there are no marks
abbrev pub IsText : Option (List ℕ) → List ℕ → Type 0
IsText None text = ⊥
IsText (Some own) text = text ≡ own

-- No other program's change; takes are for that address and queued at that moment, and marks have that text.
abbrev pub IsOurs : Address → ℕ → Option (List ℕ) → Step → Type 0
IsOurs dest moment marks (Moved path own bytes) = IsFor dest own
IsOurs dest moment marks (Queued own bytes to at fates) = (to ≡ dest) × (at ≡ moment)
IsOurs dest moment marks (Dropped own) = IsFor dest own
IsOurs dest moment marks (Hit number) = Unit {0}
IsOurs dest moment marks (Acted number) = Unit {0}
IsOurs dest moment marks (Marked path text) = IsText marks text
IsOurs dest moment marks (Unmarked path text) = IsText marks text
IsOurs dest moment marks Changed = ⊥

-- between a mark and its end
abbrev pub OurWorks : Address → ℕ → Type 0 → List (Option Kind × List Fate) → TakeStand → TakeStand → Type 0
OurWorks dest moment settles files old new = Works (IsOurs dest moment None) settles files old new

-- At Ok what was queued is what is answered.
abbrev pub Ours : {T : Type 0} → Address → ℕ → (T → List (Option Kind × List Fate)) → Result T StoreFault → TakeStand → TakeStand → Type 0
Ours dest moment files (Ok answer) old new = OurWorks dest moment (Unit {0}) (files answer) old new
Ours dest moment files (Err fault) old new = (some : List (Option Kind × List Fate)) × OurWorks dest moment (SettledBy fault) some old new

abbrev pub took : TookFile → Option Kind × List Fate
took f = (Some f.kind, f.fates.items)

abbrev pub all_took : List TookFile → List (Option Kind × List Fate)
all_took files = map took files

-- Every answer of a take-in but Disk settles.
abbrev pub FaultSettles : TakeFault → Type 0
FaultSettles TF.Disk = ⊥
FaultSettles fault = Unit {0}

abbrev pub SettlesTake : {T : Type 0} → Result T TakeFault → Type 0
SettlesTake (Ok answer) = Unit {0}
SettlesTake (Err fault) = FaultSettles fault

-- what was queued of a take with these fates, or without
abbrev pub queued_as : Kind → Option (Vec Fate) → List (Option Kind × List Fate)
queued_as kind None = []
queued_as kind (Some fates) = (Some kind, fates.items) ∷ []

-- and what is left of it
abbrev pub left_noted : List ℕ → Option (Vec Fate) → List Left → List Left
left_noted own None left = left
left_noted own (Some fates) left = map (noted (number_of own)) left

abbrev pub names_behind : List ℕ → Option (Vec Fate) → List (List ℕ) → List (List ℕ)
names_behind own None names = names
names_behind own (Some fates) names = names_without own names

-- Takes that wait, since they are over the limit of files.

-- each take for that address has one of these numbers
abbrev pub OnlyFor : Address → List ℕ → List Left → Type 0
OnlyFor dest over left = Each (IfFor dest (λ n. Member n over)) (owns left)

-- a take of that number for that address is a packet or a request that is over
pub record IsOverTake (dest : Address) (s : Outbound) (number : ℕ) : Type 0 where
  pub own : List ℕ
  pub kind : Kind
  pub named : IsTakeFor dest kind own
  pub numbered : number_of own ≡ number
  pub whole : IsWhole kind
  pub over : IsOver own s

abbrev pub AreOver : Address → List ℕ → Option Outbound → Type 0
AreOver dest over told = (s : Outbound) → told ≡ Some s → Each (IsOverTake dest s) over
