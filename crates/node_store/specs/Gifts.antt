-- How a disk gives an own file into a folder, under one of two names (own).
use Rattle.std.specs.Prelude.{◌≡◌, ◌⊎◌, ℕ, List, Option, Some, None, Result, IfOk, IfSome, IsSome}
use Rattle.ftn_addr.specs.declared.refusals.Failed.{Failed}
use Rattle.disk_model.specs.Changes.{Every, Follows, Gives}
use Rattle.disk_model.specs.Folders.{IsInUse, path_in}
use Rattle.disk_model.specs.Moments.{Now, Leaves}
use Rattle.disk_model.specs.World.{World}
use Rattle.disk_model.specs.declared.answers.Giving.{Giving}
use Rattle.disk_model.specs.declared.answers.Giving.TheVariants.{Given, Taken}

-- the name is in use in the folder
abbrev pub IsTaken : List ℕ → List ℕ → World → Type 0
IsTaken folder name w = IsInUse (path_in folder name) w.outside

-- it is the first of two names that is free
abbrev pub IsFirstFree : (folder first second name : List ℕ) → World → Type 0
IsFirstFree folder first second name w =
    ((name ≡ first) × (IsTaken folder first w → ⊥)) ⊎ ((name ≡ second) × IsTaken folder first w × (IsTaken folder second w → ⊥))

-- the own file was given under that name, or nothing changed
abbrev pub GivesUnder : (own folder : List ℕ) → ℕ → Option (List ℕ) → World → World → Type 0
GivesUnder own folder time None old new = new ≡ old
GivesUnder own folder time (Some name) old new = Gives own folder name (path_in folder name) time old new

-- the same, or nothing yet
abbrev pub MayGive : (own folder : List ℕ) → ℕ → Option (List ℕ) → World → World → Type 0
MayGive own folder time under old new = (new ≡ old) ⊎ GivesUnder own folder time under old new

-- It was given under some name; or it wasn't, since both names are in use.
abbrev pub AnswerSays : (World → Type 0) → (folder first second : List ℕ) → Giving → Option (List ℕ) → Type 0
AnswerSays worlds folder first second Given under = IsSome under
AnswerSays worlds folder first second Taken under = (under ≡ None) × Every worlds (λ w. IsTaken folder first w × IsTaken folder second w)

-- A file is given under the first of two names that is free. A read and a stop agree on what was made, also where the disk
-- failed, and what was made lasts.
pub record GivesAs {D : Type 0} (files : D → World → Type 0) (moment : D → ℕ) (images : D → ℕ → World → Type 0) (result : Result Giving Failed) (own folder first second : List ℕ) (old new : D) : Type 0 where
  pub under : Option (List ℕ)
  pub time : ℕ
  pub answered : IfOk result (λ giving. AnswerSays (files old) folder first second giving under)
  pub free : IfSome under (λ name. Every (files old) (IsFirstFree folder first second name))
  pub read : Follows (GivesUnder own folder time under) (files old) (files new)
  pub stop : Leaves moment images (MayGive own folder time under) old new
  pub lasts : Follows (GivesUnder own folder time under) (Now moment images old) (Now moment images new)
