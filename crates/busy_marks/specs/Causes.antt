-- Why a note isn't cleared (own).
use Rattle.std.specs.Prelude.{◌≡◌, ℕ, ◌≤◌, Result, OnOk, IfErr}
use Rattle.ftn_addr.specs.Counts.{Increased}
use Rattle.busy_marks.specs.declared.fault.ClearFault.{ClearFault}
use Rattle.busy_marks.specs.declared.fault.ClearFault.TheVariants.{Failed, NoMemory}

-- The count of faults rose where the disk failed, and is as before at Ok and where no memory was found.
pub record ClearsWithCause {T : Type 0} (before now : ℕ) (result : Result T ClearFault) : Type 0 where
  pub later : before ≤ now
  pub calm : OnOk result (now ≡ before)
  pub failed : IfErr result (λ fault. fault ≡ Failed → Increased before now)
  pub no_memory : IfErr result (λ fault. fault ≡ NoMemory → now ≡ before)
