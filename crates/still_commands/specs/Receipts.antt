-- What was received stays while a command without a session runs (own).
use Rattle.std.specs.Prelude.{ℕ, ◌≤◌, Option}
use Rattle.disk_model.specs.Changes.{Every}
use Rattle.disk_model.specs.Moments.{Now}
use Rattle.disk_model.specs.World.{World}
use Rattle.node_model.specs.StoreStates.{Shelf}
use Rattle.node_model.specs.Stores.{OpensShelf}
use Rattle.node_store.specs.Worlds.{Opens, OpensAs}
use Rattle.outbound_store.specs.GoesOn.{SameReceived}

-- an opening of this world finds the same received, refused and given, and the same marks of parts
abbrev pub OpensSo : Shelf → World → Type 0
OpensSo s w = (x : Shelf) × OpensAs w x × SameReceived s x

-- Where what is read and each image now opens so, each image at each moment since does.
abbrev pub KeepsReceived : {D : Type 0} → (D → World) → (D → ℕ) → (D → ℕ → World → Type 0) → D → D → Type 0
KeepsReceived content moment images disk disk' =
    (s : Shelf) → OpensSo s (content disk) → Every (Now moment images disk) (OpensSo s)
    → (k : ℕ) (w : World) (e : Option Shelf) → moment disk ≤ k → k ≤ moment disk' → images disk' k w → Opens w e → OpensShelf (SameReceived s) e
