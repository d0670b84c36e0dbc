-- What contracts see of bytes that pass by (own).
use Rattle.std.specs.Prelude.{ℕ, List}

-- the bytes that have passed, and those that haven't yet
pub record Passing : Type 0 where
  pub past : List ℕ
  pub ahead : List ℕ
