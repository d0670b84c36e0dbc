-- What a disk holds, with the folders that it shares with other programs (own).
use Rattle.std.specs.Prelude.{ℕ, List, [], Option, None}

-- the bytes of each name that stands
abbrev pub Files : Type 0
Files = List ℕ → Option (List ℕ)

-- a file of another program: its bytes, and when it last changed
pub record OutFile : Type 0 where
  pub bytes : List ℕ
  pub time : ℕ

-- a file that was given away: which own file, where to, and what it had
pub record Gift : Type 0 where
  pub own : List ℕ
  pub folder : List ℕ
  pub name : List ℕ
  pub bytes : List ℕ

-- the own files, the outside files by their paths, and the gifts in the order in which they were given
pub record World : Type 0 where
  pub own : List ℕ → Option (List ℕ)
  pub outside : List ℕ → Option OutFile
  pub gifts : List Gift

-- no own files, no outside files, no gifts
abbrev pub nothing_there : World
nothing_there = record { own = λ name. None; outside = λ path. None; gifts = [] }
