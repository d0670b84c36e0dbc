-- The whole program (own).
use Rattle.std.specs.Prelude.{◌≡◌, ◌↔◌, ℕ, Bool, true, List, None, IsSome}
use Rattle.disk_model.specs.World.{World}
use Rattle.binkp_link.specs.Lines.{SinkState}
use Rattle.binkp_link.specs.LineSources.{LinesState}
use Rattle.binkp_mailer.specs.declared.program.Ended.{Ended}
use Rattle.command_base.specs.Causes.{DiskCause}
use Rattle.command_base.specs.Printing.{OutCause}
use Rattle.command_words.specs.Forms as W
use Rattle.command_words.specs.Forms.{Command, HasForm}
use Rattle.still_commands.specs.Receipts.{KeepsReceived}
use Rattle.still_commands.specs.Still.{IsStill, StillCall}
use Rattle.trial_command.specs.Trial.{TrialCall}
use Rattle.binkp_mailer.specs.DiskCall.{DiskCall, KeepsReceipts}
use Rattle.binkp_mailer.specs.Reports.{Prints}
use Rattle.binkp_mailer.specs.ServeCall.{ServeCall}
use Rattle.binkp_mailer.specs.Words.{HoldsOne}
use Rattle.command_base.specs.Statuses.{Status, Usage, NoMemory, number_of_status}

module _ {D : Type 0} (files : D → World → Type 0) (tells : Bool) (content : D → World) (faults : D → ℕ) (moment : D → ℕ) (images : D → ℕ → World → Type 0) where
  -- one call over a disk: what it did and printed, the causes of its status in the disk and in the sink, and that what was
  -- received stays so
  pub record CallsOver (command : Command) (challenge : List ℕ) (now : ℕ) (lines : LinesState) (disk : D) (out : SinkState) (status : Status) (lines' : LinesState) (disk' : D) (out' : SinkState) : Type 0 where
    pub call : DiskCall tells content faults moment images command challenge now lines disk out status lines' disk' out'
    pub cause : DiskCause tells content faults status disk disk'
    pub out_cause : OutCause status out out'
    pub stays : tells ≡ true → KeepsReceipts content moment images disk disk'

  -- a command without a session in the same way
  pub record StillOver (command : Command) (now : ℕ) (disk : D) (out : SinkState) (status : Status) (disk' : D) (out' : SinkState) : Type 0 where
    pub call : StillCall files tells content faults moment images command now disk out status disk' out'
    pub cause : DiskCause tells content faults status disk disk'
    pub out_cause : OutCause status out out'
    pub stays : tells ≡ true → KeepsReceived content moment images disk disk'

  -- a node that serves in the same way
  pub record ServesOver (lines : LinesState) (disk : D) (out : SinkState) (status : Status) (lines' : LinesState) (disk' : D) (out' : SinkState) : Type 0 where
    pub call : ServeCall tells content faults moment images lines disk out status lines' disk' out'
    pub cause : DiskCause tells content faults status disk disk'
    pub stays : tells ≡ true → KeepsReceipts content moment images disk disk'

  -- Words of a command without a session run that, and no line is asked for; `trial` holds a trial, and touches neither lines nor disk;
  -- `serve` serves; words of a call run it, with one challenge. Words of no form are told as such, and so is want of memory for them: then
  -- nothing was done.
  pub data Runs_over (words : List (List ℕ)) (lines : LinesState) (disk : D) (out : SinkState) (status : Status) (lines' : LinesState) (disk' : D) (out' : SinkState) : Type 0 where
    A_still : (command : Command) → HasForm words command → IsStill command → (now : ℕ) → StillOver command now disk out status disk' out' → lines' ≡ lines → Runs_over words lines disk out status lines' disk' out'
    A_trial : (count start : ℕ) → HasForm words (W.Trying count start) → TrialCall count start out status out' → OutCause status out out' → lines' ≡ lines → disk' ≡ disk → Runs_over words lines disk out status lines' disk' out'
    A_serve : HasForm words W.Serving → ServesOver lines disk out status lines' disk' out' → Runs_over words lines disk out status lines' disk' out'
    A_call : (command : Command) → HasForm words command → HoldsOne command → (challenge : List ℕ) (now : ℕ) → CallsOver command challenge now lines disk out status lines' disk' out' → Runs_over words lines disk out status lines' disk' out'
    No_form : ((command : Command) → HasForm words command → ⊥) → Prints None Usage status out out' → lines' ≡ lines → disk' ≡ disk → Runs_over words lines disk out status lines' disk' out'
    No_words : Prints None NoMemory status out out' → lines' ≡ lines → disk' ≡ disk → Runs_over words lines disk out status lines' disk' out'

  -- the same, told by the exit status
  abbrev pub IsProgramCall : List (List ℕ) → LinesState → D → SinkState → (exit : ℕ) → LinesState → D → SinkState → Type 0
  IsProgramCall words lines disk out exit lines' disk' out' =
      (status : Status) × Runs_over words lines disk out status lines' disk' out' × (exit ≡ number_of_status status)

-- no memory was left for the words, and that is told
abbrev pub HadNoWords : SinkState → (exit : ℕ) → SinkState → Type 0
HadNoWords out exit out' = (status : Status) × Prints None NoMemory status out out' × (exit ≡ number_of_status status)

-- a line is told exactly at Usage, and the exit status is the status's number
abbrev pub EndsByStatus : Ended → Type 0
EndsByStatus ended = (status : Status) × (ended.exit ≡ number_of_status status) × (IsSome ended.told ↔ (status ≡ Usage))
