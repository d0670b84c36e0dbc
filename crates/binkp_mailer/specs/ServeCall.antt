-- What `serve` does over a disk (own).
use Rattle.std.specs.Prelude.{◌≡◌, ℕ, ◌==◌, Bool, true, List, [], Option, if◌then◌else◌}
use Rattle.disk_model.specs.World.{World}
use Rattle.ftn_addr.specs.Counts.{next_count}
use Rattle.binkp_link.specs.Lines.{SinkState}
use Rattle.binkp_link.specs.LineSources.{LinesState, listening}
use Rattle.binkp_serve.specs.Rests.{Rest}
use Rattle.binkp_serve.specs.Serving.{Serves, at_start}
use Rattle.binkp_serve.specs.declared.words.ServeEnd.{ServeEnd}
use Rattle.binkp_serve.specs.declared.words.ServeEnd.TheVariants as E
use Rattle.mail_conf.specs.Conf.{ConfText}
use Rattle.node_store.specs.Stored.{Holding}
use Rattle.node_store.specs.declared.opening.fault.StoreOpenFault.{StoreOpenFault}
use Rattle.nodelist_comp.specs.Node.{ListedNode}
use Rattle.nodelist_files.specs.Files.{index_name}
use Rattle.command_base.specs.Causes.{IsBadIndex, NoIndex}
use Rattle.command_base.specs.Opening.{HasOpened, HasRefused}
use Rattle.command_base.specs.Printing.{PrintsLines}
use Rattle.command_base.specs.Settings.{HasSettings, NoSettings, OnlyRead}
use Rattle.command_base.specs.Statuses as S
use Rattle.command_base.specs.Statuses.{Status, status_unopened}
use Rattle.binkp_mailer.specs.DiskCall.{ReadsIndex}
use Rattle.binkp_mailer.specs.TopCall.{new_hub}

-- the status of a node that served, by its end, and by whether memory was short meanwhile
abbrev pub status_served : ServeEnd → (short : Bool) → Status
status_served (E.Disk count) short = S.DiskFault count
status_served E.Lines short = S.LineFault
status_served E.Stop short = if short then S.NoMemory else S.Done
status_served E.Count short = if short then S.NoMemory else S.Done

-- Where a put failed meanwhile, by the sink's counts, that is its status.
abbrev pub status_told : (before behind : ℕ) → Status → Status
status_told before behind had = if before == behind then had else S.OutFault

-- listening failed
abbrev pub unheard : LinesState → LinesState
unheard lines = record lines { counts = record lines.counts { faults = next_count lines.counts.faults } }

module _ {D : Type 0} (tells : Bool) (content : D → World) (faults : D → ℕ) (moment : D → ℕ) (images : D → ℕ → World → Type 0) where
  -- A port couldn't be listened on, and nothing else was done; or it was, once, and the node served.
  pub data ServesAt (conf : ConfText) (index : Option (List ListedNode)) (rest : Rest D) (lines : LinesState) (out : SinkState) (had : Status) (left : Rest D) (lines' : LinesState) (out' : SinkState) : Type 0 where
    Is_unheard : had ≡ S.LineFault → lines' ≡ unheard lines → out' ≡ out → left ≡ rest → ServesAt conf index rest lines out had left lines' out'
    Is_served : (end : ServeEnd) (short : Bool) → Serves tells content faults moment images conf index (at_start rest (listening conf.port lines) out) end short left lines' out'
        → had ≡ status_told out.faults out'.faults (status_served end short) → ServesAt conf index rest lines out had left lines' out'

  -- The settings weren't read, or the index couldn't be read, and the disk was read only; or no store was opened; or one was, and the index is
  -- bad, or there was no memory for its hub; or the node served over it, at a new hub of the settings.
  pub data Over_serve (lines : LinesState) (disk : D) (out : SinkState) (had : Status) (lines' : LinesState) (disk' : D) (out' : SinkState) : Type 0 where
    Not_set : NoSettings tells content faults moment images disk disk' had → OnlyRead tells content faults moment images disk disk' → lines' ≡ lines → out' ≡ out → Over_serve lines disk out had lines' disk' out'
    No_index : (conf : ConfText) → HasSettings tells content faults moment images disk conf → NoIndex faults disk disk' had → OnlyRead tells content faults moment images disk disk' → lines' ≡ lines → out' ≡ out → Over_serve lines disk out had lines' disk' out'
    Not_opened : (conf : ConfText) → HasSettings tells content faults moment images disk conf → (fault : StoreOpenFault) → had ≡ status_unopened fault (faults disk') → HasRefused tells content faults moment images fault disk disk'
        → lines' ≡ lines → out' ≡ out → Over_serve lines disk out had lines' disk' out'
    Bad_index : (conf : ConfText) → HasSettings tells content faults moment images disk conf → (tells ≡ true → IsBadIndex (content disk)) → (opened : Holding D) → HasOpened tells content faults moment images disk opened
        → had ≡ S.FileBad index_name → lines' ≡ lines → out' ≡ out → disk' ≡ opened.disk → Over_serve lines disk out had lines' disk' out'
    No_room : (conf : ConfText) → HasSettings tells content faults moment images disk conf → (opened : Holding D) → HasOpened tells content faults moment images disk opened
        → had ≡ S.NoMemory → lines' ≡ lines → out' ≡ out → disk' ≡ opened.disk → Over_serve lines disk out had lines' disk' out'
    Served_so : (conf : ConfText) → HasSettings tells content faults moment images disk conf → (index : Option (List ListedNode)) → ReadsIndex tells content faults moment images disk index
        → (opened : Holding D) → HasOpened tells content faults moment images disk opened → (left : Rest D) → ServesAt conf index (record { store = opened; hub = new_hub conf; seat = 0 }) lines out had left lines' out'
        → disk' ≡ left.store.disk → Over_serve lines disk out had lines' disk' out'

  -- the whole command, and then what was printed of its status
  pub record ServeCall (lines : LinesState) (disk : D) (out : SinkState) (status : Status) (lines' : LinesState) (disk' : D) (out' : SinkState) : Type 0 where
    pub had : Status
    pub behind : SinkState
    pub does : Over_serve lines disk out had lines' disk' behind
    pub prints : PrintsLines [] had status behind out'
