-- What a copy did to the bytes that its source had left and to those that its file holds, where they are known (own).
use Rattle.std.specs.Prelude.{◌≡◌, ℕ, List, length, Option}
use Rattle.std.specs.Io.KnownBytes.{Consumes, IsAtEnd, Appends}

-- so many bytes were read from the source, and they are what the file holds more
pub record Copied (left rest held holds : Option (List ℕ)) (size : ℕ) : Type 0 where
  pub bytes : List ℕ
  pub read : Consumes left rest bytes
  pub written : Appends held holds bytes
  pub counted : size ≡ length bytes

-- and these are all that the source had
pub record CopiesAll (left rest held holds : Option (List ℕ)) (size : ℕ) : Type 0 where
  pub copied : Copied left rest held holds size
  pub ended : IsAtEnd rest
