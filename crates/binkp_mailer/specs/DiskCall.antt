-- What the program's call does over a disk (own).
use Rattle.std.specs.Prelude.{◌≡◌, ◌⊎◌, ℕ, ◌≤◌, Bool, true, List, Option, Some, None, Ok}
use Rattle.ftn_addr.specs.Address.{Address}
use Rattle.disk_model.specs.Changes.{Every}
use Rattle.disk_model.specs.Moments.{Now}
use Rattle.disk_model.specs.World.{World}
use Rattle.inbound_files.specs.Giving.{StillHas}
use Rattle.node_model.specs.Durable.{Durable}
use Rattle.node_model.specs.Stores.{Shelf, OpensShelf}
use Rattle.binkp_link.specs.Lines.{SinkState}
use Rattle.binkp_link.specs.LineSources.{Dialling, LinesState}
use Rattle.node_store.specs.Stored.{Holding}
use Rattle.node_store.specs.Worlds.{OpensAs, Opens}
use Rattle.node_store.specs.declared.opening.fault.StoreOpenFault.{StoreOpenFault}
use Rattle.nodelist_comp.specs.Node.{ListedNode}
use Rattle.nodelist_files.specs.Files.{index_name}
use Rattle.nodelist_files.specs.IndexFile.{index_at}
use Rattle.mail_conf.specs.Conf.{ConfText}
use Rattle.session_auth.specs.Sides.{Side, Answers, Calls}
use Rattle.session_core.specs.Stages.{home_of}
use Rattle.session_run.specs.Reports.{ReportText}
use Rattle.command_words.specs.Forms.{Command}
use Rattle.command_base.specs.Causes.{IsBadIndex, NoIndex}
use Rattle.command_base.specs.Opening.{HasOpened, HasRefused}
use Rattle.command_base.specs.Settings.{HasSettings, NoSettings, OnlyRead}
use Rattle.command_base.specs.Statuses as S
use Rattle.command_base.specs.Statuses.{Status, status_unopened}
use Rattle.binkp_mailer.specs.Completeness.{IsDoneBehind}
use Rattle.call_hosts.specs.Hosts.{listed_host, set_host}
use Rattle.binkp_mailer.specs.Inbound.{Gives_behind}
use Rattle.binkp_mailer.specs.OverLines.{Answers_next, Calls_node}
use Rattle.binkp_mailer.specs.Reports.{Prints}
use Rattle.binkp_mailer.specs.Words.{AsksFor}

-- the command asks for nothing at that home, or there was no memory to read its address
abbrev pub IsNoCall : Command → ConfText → Status → Type 0
IsNoCall command conf had = ((had ≡ S.Usage) × ((side : Side) → AsksFor command (home_of conf.addresses) side → ⊥)) ⊎ (had ≡ S.NoMemory)

-- an opening of this world finds that durable state
abbrev pub OpensTo : Durable → World → Type 0
OpensTo d w = (shelf : Shelf) × OpensAs w shelf × (shelf.state ≡ d)

module _ {D : Type 0} (content : D → World) (moment : D → ℕ) (images : D → ℕ → World → Type 0) where
  -- where what is read and each image now opens to one durable state, each image at each moment since opens to one that has
  -- all its receipts and refusals, and two receipts of a sender and key only where that has
  abbrev pub KeepsReceipts : D → D → Type 0
  KeepsReceipts disk disk' =
      (d : Durable) → OpensTo d (content disk) → Every (Now moment images disk) (OpensTo d)
      → (k : ℕ) (w : World) (e : Option Shelf) → moment disk ≤ k → k ≤ moment disk' → images disk' k w → Opens w e
      → OpensShelf (λ s. StillHas d s.state) e

module _ {D : Type 0} (tells : Bool) (content : D → World) (faults : D → ℕ) (moment : D → ℕ) (images : D → ℕ → World → Type 0) where
  -- this is what the disk has of an index
  abbrev pub ReadsIndex : D → Option (List ListedNode) → Type 0
  ReadsIndex disk index = tells ≡ true → index_at ((content disk).own index_name) ≡ Ok index

  -- the host and port of a node that is called: those of the settings, else those of the index
  pub data HasHost (disk : D) (conf : ConfText) (peer : Address) (host : Dialling) : Type 0 where
    Is_set : set_host conf peer ≡ Some host → HasHost disk conf peer host
    Is_listed : set_host conf peer ≡ None → (index : Option (List ListedNode)) → ReadsIndex disk index → listed_host index peer ≡ Some host → HasHost disk conf peer host

  -- The settings weren't read, or the command asks for no session by them, or they have no host for the node that is called and the index
  -- couldn't be read, and the disk was read only; or no store was opened; or one was, and the index is bad, or has no host for that node
  -- either; or who called next was answered, or the node was called, over the store of the disk, and then received files were given. But
  -- for these two no line was asked for.
  pub data Over_disk (command : Command) (challenge : List ℕ) (now : ℕ) (lines : LinesState) (disk : D) (told : Option ReportText) (had : Status) (lines' : LinesState) (disk' : D) : Type 0 where
    Not_set : told ≡ None → NoSettings tells content faults moment images disk disk' had → OnlyRead tells content faults moment images disk disk' → lines' ≡ lines → Over_disk command challenge now lines disk told had lines' disk'
    No_call : (conf : ConfText) → HasSettings tells content faults moment images disk conf → told ≡ None → IsNoCall command conf had → OnlyRead tells content faults moment images disk disk' → lines' ≡ lines → Over_disk command challenge now lines disk told had lines' disk'
    Not_opened : (conf : ConfText) → HasSettings tells content faults moment images disk conf → (side : Side) → AsksFor command (home_of conf.addresses) side → (fault : StoreOpenFault) → told ≡ None → had ≡ status_unopened fault (faults disk') → lines' ≡ lines → HasRefused tells content faults moment images fault disk disk' → Over_disk command challenge now lines disk told had lines' disk'
    No_index : (conf : ConfText) → HasSettings tells content faults moment images disk conf → (peer : Address) → AsksFor command (home_of conf.addresses) (Calls peer) → set_host conf peer ≡ None
        → told ≡ None → NoIndex faults disk disk' had → OnlyRead tells content faults moment images disk disk' → lines' ≡ lines → Over_disk command challenge now lines disk told had lines' disk'
    Bad_index : (conf : ConfText) → HasSettings tells content faults moment images disk conf → (peer : Address) → AsksFor command (home_of conf.addresses) (Calls peer) → set_host conf peer ≡ None
        → (tells ≡ true → IsBadIndex (content disk)) → (opened : Holding D) → HasOpened tells content faults moment images disk opened
        → told ≡ None → had ≡ S.FileBad index_name → lines' ≡ lines → disk' ≡ opened.disk → Over_disk command challenge now lines disk told had lines' disk'
    No_host : (conf : ConfText) → HasSettings tells content faults moment images disk conf → (peer : Address) → AsksFor command (home_of conf.addresses) (Calls peer) → set_host conf peer ≡ None
        → (index : Option (List ListedNode)) → ReadsIndex disk index → listed_host index peer ≡ None → (opened : Holding D) → HasOpened tells content faults moment images disk opened
        → told ≡ None → had ≡ S.NotFound → lines' ≡ lines → disk' ≡ opened.disk → Over_disk command challenge now lines disk told had lines' disk'
    Answered : (conf : ConfText) → HasSettings tells content faults moment images disk conf → AsksFor command (home_of conf.addresses) Answers
        → (opened held left : Holding D) → HasOpened tells content faults moment images disk opened
        → (was : Status) → Answers_next tells content faults moment images (record { conf = conf; challenge = challenge; moment = now }) lines opened told was lines' held
        → Gives_behind tells content faults moment images conf told was had held left → disk' ≡ left.disk → Over_disk command challenge now lines disk told had lines' disk'
    Called : (conf : ConfText) → HasSettings tells content faults moment images disk conf → (peer : Address) → AsksFor command (home_of conf.addresses) (Calls peer) → (host : Dialling) → HasHost disk conf peer host
        → (opened held left : Holding D) → HasOpened tells content faults moment images disk opened
        → (was : Status) → Calls_node tells content faults moment images peer (record { conf = conf; challenge = challenge; moment = now }) host lines opened told was lines' held
        → Gives_behind tells content faults moment images conf told was had held left → disk' ≡ left.disk → Over_disk command challenge now lines disk told had lines' disk'

  -- The whole call, and then what was printed of it: the session's report where one was held, and the status that it had.
  -- It is Done where that session finished and no disk failed behind it, and nowhere else.
  pub record DiskCall (command : Command) (challenge : List ℕ) (now : ℕ) (lines : LinesState) (disk : D) (out : SinkState) (status : Status) (lines' : LinesState) (disk' : D) (out' : SinkState) : Type 0 where
    pub told : Option ReportText
    pub had : Status
    pub call : Over_disk command challenge now lines disk told had lines' disk'
    pub prints : Prints told had status out out'
    pub done : IsDoneBehind told status out out'
