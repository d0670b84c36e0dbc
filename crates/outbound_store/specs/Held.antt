-- A store on a disk as a take-in sees it (own).
use Rattle.std.specs.Prelude.{ℕ, ◌+◌, Bool, true, false, List, [], map, Option, Some, None}
use Rattle.disk_model.specs.World.{World}
use Rattle.node_model.specs.StoreStates.{StoreStand}
use Rattle.node_store.specs.Stored.{Holding, stand_of}
use Rattle.node_store.specs.Takes.{Takes}
use Rattle.node_store.specs.declared.takes.TakeName.{TakeName}
use Rattle.outbound_take.specs.Stand.{Left, TakeStand}
use Rattle.outbound_store.specs.Seen.{seen}

abbrev pub left_of : TakeName → Left
left_of t = record { own = t.own; recorded = t.recorded }

-- A broken store, which has to be opened again, shows no takes.
abbrev pub left_in : Option ℕ → List TakeName → List Left
left_in None takes = map left_of takes
left_in (Some count) takes = []

-- the number that was drawn and not used
abbrev pub drawn_as : Bool → ℕ → Option ℕ
drawn_as true last = Some (last + 1)
drawn_as false last = None

abbrev pub seen_with : StoreStand → Takes → TakeStand
seen_with s t = seen s (left_in s.state.counts.broken t.left) (drawn_as t.drawn t.last)

-- where a store on a disk stands, over a disk of such a type
abbrev pub seen_on : {D : Type 0} → Bool → (D → World) → (D → ℕ) → (D → ℕ) → (D → ℕ → World → Type 0) → Holding D → TakeStand
seen_on tells content faults moment images s = seen_with (stand_of tells content faults moment images s) s.takes
