-- What a command prints (own).
use Rattle.std.specs.Prelude.{◌≡◌, ℕ, List, ◌∷◌, [], ◌++◌, codes}
use Rattle.ftn_addr.specs.Counts.{next_count}
use Rattle.binkp_link.specs.Lines.{SinkState, PutsAll, PutsFront}
use Rattle.command_base.specs.Statuses as S
use Rattle.command_base.specs.Statuses.{Status, OutFault, NoMemory, status_line}

-- These lines were put and that status is answered, or the put failed after a front of them, and the answer is OutFault.
pub data Puts_lines (lines : List ℕ) (status result : Status) (old new : SinkState) : Type 0 where
  all_put : result ≡ status → PutsAll lines old new → Puts_lines lines status result old new
  put_failed : result ≡ OutFault → PutsFront lines old new → Puts_lines lines status result old new

-- A command that is to answer that status puts its lines and that of the status, and where no memory is left for them, that of
-- NoMemory, which it answers then.
pub data PrintsLines (lines : List ℕ) (status result : Status) (old new : SinkState) : Type 0 where
  lines_put : Puts_lines (lines ++ status_line status) status result old new → PrintsLines lines status result old new
  no_room : Puts_lines (codes "status 17 NoMemory" ++ 10 ∷ []) NoMemory result old new → PrintsLines lines status result old new

-- A put failed exactly at OutFault.
abbrev pub OutCause : Status → SinkState → SinkState → Type 0
OutCause S.OutFault out out' = out'.faults ≡ next_count out.faults
OutCause status out out' = out'.faults ≡ out.faults
