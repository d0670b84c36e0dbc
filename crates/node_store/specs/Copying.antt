-- An own file is copied to another (own).
use Rattle.std.specs.Prelude.{◌≡◌, ℕ, List, take, Some}
use Rattle.disk_model.specs.World.{World}
use Rattle.node_store.specs.Worlds.{HasLength}

-- the second file has so many bytes of the first one, from its start on
abbrev pub HasFront : List ℕ → List ℕ → ℕ → World → Type 0
HasFront from to at w = (bytes : List ℕ) → w.own from ≡ Some bytes → w.own to ≡ Some (take at bytes)

-- the second file has the bytes that the first had
abbrev pub IsCopy : List ℕ → List ℕ → World → World → Type 0
IsCopy from to d c = c.own to ≡ d.own from

-- it had so many
abbrev pub IsCopyOf : List ℕ → List ℕ → ℕ → World → World → Type 0
IsCopyOf from to size d c = IsCopy from to d c × HasLength from size d
