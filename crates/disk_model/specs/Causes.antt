-- Why a call failed (own).
use Rattle.std.specs.Prelude.{◌≡◌, ℕ, ◌≤◌, Result, Ok, Err, OnOk, OnErr, IfErr}
use Rattle.ftn_addr.specs.Counts.{Increased}
use Rattle.disk_model.specs.declared.answers.ListFault.{ListFault}
use Rattle.disk_model.specs.declared.answers.ListFault.TheVariants.{Failed, NoMemory}

-- the count of faults never falls; where the call failed it rose, and where it was made it is as before
pub record HasCause {T E : Type 0} (before now : ℕ) (result : Result T E) : Type 0 where
  pub later : before ≤ now
  pub calm : OnOk result (now ≡ before)
  pub failed : OnErr result (Increased before now)

-- the same of a call that lists: where it found no memory, nothing failed outside
pub record ListsWithCause {T : Type 0} (before now : ℕ) (result : Result T ListFault) : Type 0 where
  pub later : before ≤ now
  pub calm : OnOk result (now ≡ before)
  pub failed : IfErr result (λ fault. fault ≡ Failed → Increased before now)
  pub no_memory : IfErr result (λ fault. fault ≡ NoMemory → now ≡ before)

-- how a call ended
pub data Outcome : Type 0 where
  Succeeds : Outcome
  Fails : Outcome
  HasNoMemory : Outcome

abbrev pub outcome : {T E : Type 0} → Result T E → Outcome
outcome (Ok answer) = Succeeds
outcome (Err e) = Fails

abbrev pub list_outcome : {T : Type 0} → Result T ListFault → Outcome
list_outcome (Ok names) = Succeeds
list_outcome (Err Failed) = Fails
list_outcome (Err NoMemory) = HasNoMemory
