-- A file with a gate: what stands behind the gate's byte counts only where that is 1, open (own).
use Rattle.std.specs.Prelude.{◌≡◌, ◌≢◌, ℕ, List, ◌∷◌, ◌++◌, length, take, Some}
use Rattle.disk_model.specs.World.{World}

-- the file has a byte at the gate's place, and it isn't open
pub record IsShut (gate : ℕ) (b : List ℕ) : Type 0 where
  pub front : List ℕ
  pub byte : ℕ
  pub rest : List ℕ
  pub is : b ≡ front ++ byte ∷ rest
  pub place : length front ≡ gate
  pub shut : byte ≢ 1

-- the front is as it was, and an open gate has the block behind it
pub record Published (gate : ℕ) (block b c : List ℕ) : Type 0 where
  pub byte : ℕ
  pub rest : List ℕ
  pub is : c ≡ take gate b ++ byte ∷ rest
  pub whole : byte ≡ 1 → (more : List ℕ) × (rest ≡ block ++ more)

-- the front is as it was, and the gate is open
pub record Opened (gate : ℕ) (block b c : List ℕ) : Type 0 where
  pub more : List ℕ
  pub is : c ≡ take gate b ++ (1 ∷ block ++ more)

-- the own file of that name is shut at that place
abbrev pub ShutAt : List ℕ → ℕ → World → Type 0
ShutAt name gate w = (b : List ℕ) × (w.own name ≡ Some b) × IsShut gate b
