-- What a store keeps for an address, as the code reads it.
use Rattle.std.specs.Prelude.{◌≡◌, ◌⊎◌, ℕ, true, List, drop, take}
use Rattle.ledger_rec.specs.Acting.{has_action}
use Rattle.ledger_rec.specs.Items.{Entry}
use Rattle.node_model.specs.Outside.{OutFiles}
use Rattle.node_store.specs.declared.takes.TakeName.{TakeName}
use Rattle.bso_outbound.specs.Paths.{lower_case}
use Rattle.outbound_places.specs.declared.place.Place.{Place}
use Rattle.outbound_places.specs.declared.set.PlaceSet.{PlaceSet}
use Rattle.outbound_places.specs.Outbound.{IsFile, IsInZones, OneOf}
use Rattle.outbound_places.specs.Places.{IsPlace, address_at, digits_of, has_place}

-- a flow file, netmail or a file request stands for it, in a folder that stands in the folder above the base
pub record HasFile (base : List ℕ) (default : ℕ) (outside : OutFiles) (p : Place) : Type 0 where
  pub path : List ℕ
  pub in_zones : IsInZones base path
  pub file : IsFile base default outside path p

-- A take's own name spells a node or point: behind `t`, eight digits and `-` stand the sixteen of its zone, net, node and point.
abbrev pub IsTakeOf : TakeName → Place → Type 0
IsTakeOf t p = lower_case (take 16 (drop 10 t.own)) ≡ lower_case (digits_of p)

-- a queued file is for it, and an action on its source is still to be done
abbrev pub IsActionFor : List ℕ → Entry → Place → Type 0
IsActionFor domain e p = (has_action e ≡ true) × (e.dest ≡ address_at domain p)

-- a take of it is left, or an action on the source of a file for it is still to be done
abbrev pub IsOwnFor : List ℕ → List TakeName → List Entry → Place → Type 0
IsOwnFor domain left queue p = OneOf IsTakeOf left p ⊎ OneOf (IsActionFor domain) queue p

-- so, or a file of the outbound stands for it
abbrev pub IsNeeded : (base : List ℕ) → ℕ → OutFiles → (domain : List ℕ) → List TakeName → List Entry → Place → Type 0
IsNeeded base default outside domain left queue p = HasFile base default outside p ⊎ IsOwnFor domain left queue p

-- each place of which P is true was found
abbrev pub HasAll : (Place → Type 0) → PlaceSet → Type 0
HasAll P found = (p : Place) → IsPlace p → P p → has_place found p ≡ true
