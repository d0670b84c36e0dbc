-- What a take-in leaves of takes and of the files of other programs (own).
use Rattle.std.specs.Prelude.{◌≡◌, ◌≢◌, ◌⊎◌, ℕ, List, [], Option, Some, None}
use Rattle.node_model.specs.Outside.{OutFile}
use Rattle.outbound_model.specs.Outbound.{Outbound}
use Rattle.outbound_take.specs.Stand.{TakeStand, told}

-- an outside file is as it was, or gone, or empty
abbrev pub IsSpared : Option OutFile → Option OutFile → Type 0
IsSpared before after = (after ≡ before) ⊎ ((after ≡ None) ⊎ ((f : OutFile) × (after ≡ Some f) × (f.bytes ≡ [])))

-- outside files are removed or cut at most
abbrev pub SparesFiles : Outbound → Outbound → Type 0
SparesFiles s t = (path : List ℕ) → IsSpared (s.outside path) (t.outside path)

-- the takes are the same, or those but one
abbrev pub SparesTakes : Outbound → Outbound → Type 0
SparesTakes s t = t.takes ≡ s.takes

abbrev pub SparesOthers : List ℕ → Outbound → Outbound → Type 0
SparesOthers own s t = (name : List ℕ) → name ≢ own → t.takes name ≡ s.takes name

-- what is told changed so
pub record TellsSo (R : Outbound → Outbound → Type 0) (old new : TakeStand) : Type 0 where
  pub so : (s t : Outbound) → told old ≡ Some s → told new ≡ Some t → R s t
