-- The addresses for which something is to be taken in (FTS-5005).
use Rattle.std.specs.Prelude.{◌≡◌, ◌⊎◌, ℕ, true, List}
use Rattle.ftn_addr.specs.Address.{Address}
use Rattle.ftn_addr.specs.Limits.{IsAddress}
use Rattle.node_model.specs.Items.{EntryOf}
use Rattle.node_model.specs.Lists.{Member}
use Rattle.node_model.specs.Outside.{OutFiles}
use Rattle.node_model.specs.SendRows.{waits_for_action}
use Rattle.node_store.specs.declared.takes.TakeName.{TakeName}
use Rattle.outbound_places.specs.declared.place.Place.{Place}
use Rattle.outbound_places.specs.Places.{place_at}
use Rattle.outbound_addresses.specs.Own.{HasFile, IsTakeOf}

-- an address of a domain, within the limits of addresses
pub record IsOfDomain (domain : List ℕ) (a : Address) : Type 0 where
  pub within : IsAddress a
  pub domain_is : a.domain ≡ domain

-- a take of it is left
pub record HasTake (left : List TakeName) (p : Place) : Type 0 where
  pub taken : TakeName
  pub there : Member taken left
  pub is_for : IsTakeOf taken p

-- an action on the source of a file for it is still to be done
pub record HasAction (queue : List (EntryOf ℕ)) (a : Address) : Type 0 where
  pub entry : EntryOf ℕ
  pub there : Member entry queue
  pub is_for : entry.dest ≡ a
  pub waits : waits_for_action entry ≡ true

-- what the store itself has for it
abbrev pub HasOwn : List TakeName → List (EntryOf ℕ) → Address → Type 0
HasOwn left queue a = HasTake left (place_at a) ⊎ HasAction queue a

-- something is to be taken in for it
abbrev pub Needs : (base : List ℕ) → ℕ → OutFiles → List TakeName → List (EntryOf ℕ) → Address → Type 0
Needs base default outside left queue a = HasFile base default outside (place_at a) ⊎ HasOwn left queue a
