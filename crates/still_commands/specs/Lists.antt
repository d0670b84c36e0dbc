-- What stays of a disk while a command without a session runs: its list and index, and what it opens to (own).
use Rattle.std.specs.Prelude.{◌≡◌, ◌⊎◌, ℕ, List}
use Rattle.disk_model.specs.Moments.{Leaves}
use Rattle.disk_model.specs.World.{World}
use Rattle.nodelist_comp.specs.declared.fault.ListTextFault.{ListTextFault}
use Rattle.nodelist_files.specs.Compiling.{NewList, OldPair}
use Rattle.command_base.specs.Statuses as S
use Rattle.command_base.specs.Statuses.{Status}
use Rattle.command_words.specs.Forms.{Command, Compile}

-- At each moment since the first disk, whatever a stop leaves is one of its images after that step, and so is what is read now.
pub record Throughout {D : Type 0} (content : D → World) (moment : D → ℕ) (images : D → ℕ → World → Type 0) (step : World → World → Type 0) (disk disk' : D) : Type 0 where
  pub stop : Leaves moment images step disk disk'
  pub read : step (content disk) (content disk')

-- List and index are as before; or a file is compiled, and its list stands with the old or the new index.
abbrev pub ListsSo : (World → Type 0) → Command → World → World → Type 0
ListsSo old command d c = OldPair d c ⊎ ((path : List ℕ) × (command ≡ Compile path) × NewList old path d c)

-- the file that was to be compiled is refused
abbrev pub IsListRefused : Status → Type 0
IsListRefused had = (had ≡ S.NoFile) ⊎ ((fault : ListTextFault) × (had ≡ S.ListBad fault))
