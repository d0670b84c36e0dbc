-- What a command without a session does over a disk (own).
use Rattle.std.specs.Prelude.{◌≡◌, ◌⊎◌, ℕ, Bool, true, List, ◌≢◌, Option, Some, None, Result, Ok, OnOk, IfErr, IsErrOf}
use Rattle.disk_model.specs.Changes.{Every, Follows, Only}
use Rattle.disk_model.specs.Moments.{Now, Leaves}
use Rattle.disk_model.specs.World.{World}
use Rattle.ftn_addr.specs.Address.{Address}
use Rattle.ftn_addr.specs.Counts.{Increased}
use Rattle.ftn_addr.specs.Outcomes.{GivesUnless}
use Rattle.ftn_addr.specs.Reading.{reading}
use Rattle.binkp_link.specs.Lines.{SinkState}
use Rattle.mail_conf.specs.Conf.{ConfText}
use Rattle.session_core.specs.Stages.{home_of}
use Rattle.nodelist_comp.specs.Node.{ListedNode}
use Rattle.nodelist_files.specs.Compiling.{Clears, Compiles, IsCompiled, MayCome, judged, text_at}
use Rattle.nodelist_files.specs.Files.{index_name, new_name}
use Rattle.nodelist_files.specs.IndexFile.{index_at}
use Rattle.nodelist_files.specs.declared.fault.CompileFault.{CompileFault}
use Rattle.nodelist_files.specs.declared.fault.CompileFault.TheVariants as M
use Rattle.node_store.specs.Stored.{Holding, stand_of}
use Rattle.node_store.specs.declared.opening.fault.StoreOpenFault.{StoreOpenFault}
use Rattle.command_base.specs.Causes.{IsBadIndex, NoIndex}
use Rattle.command_base.specs.Opening.{HasOpened, HasRefused}
use Rattle.command_base.specs.Printing.{PrintsLines}
use Rattle.command_base.specs.Settings.{HasSettings, NoSettings, OnlyRead}
use Rattle.command_base.specs.Statuses as S
use Rattle.command_base.specs.Statuses.{Status, status_unopened}
use Rattle.command_words.specs.Forms as W
use Rattle.command_words.specs.Forms.{Command}
use Rattle.outbound_round.specs.Round.{RoundTold, TakesRound}
use Rattle.outbound_round.specs.declared.words.RoundFault.TheVariants as RF
use Rattle.outbound_round.specs.declared.words.Telling.TheVariants as RT
use Rattle.outbound_store.specs.GoesOn.{GoesOn}
use Rattle.still_commands.specs.Came.{Told, IsTold, looked, only, told_compiled, told_listed, told_taken}

-- a command without a session
pub data IsStill (command : Command) : Type 0 where
  a_lookup : (text : List ℕ) → command ≡ W.Lookup text → IsStill command
  a_compile : (path : List ℕ) → command ≡ W.Compile path → IsStill command
  a_list : command ≡ W.Listing → IsStill command
  a_take : command ≡ W.Taking → IsStill command

-- what it asks for by settings: to look up the node of an address, read with the home's parts, to compile a file, to list what the
-- store keeps, or to take in the outbound
pub data Asks (command : Command) (conf : ConfText) : Type 0 where
  To_look_up : (text : List ℕ) (a : Address) → command ≡ W.Lookup text → reading text (home_of conf.addresses) ≡ Ok a → Asks command conf
  To_compile : (path : List ℕ) → command ≡ W.Compile path → Asks command conf
  To_list : command ≡ W.Listing → Asks command conf
  To_take : command ≡ W.Taking → Asks command conf

-- the word behind `lookup` spells no address, or there was no memory to read it
abbrev pub IsNoAddress : List ℕ → ConfText → Told → Type 0
IsNoAddress text conf told = ((told ≡ only S.Usage) × ((a : Address) → reading text (home_of conf.addresses) ≡ Ok a → ⊥)) ⊎ (told ≡ only S.NoMemory)

-- A file was compiled into the own folder, or wasn't: what that comes to is judged by the file; at every moment list and index are as
-- before, or the new list stands with the old or the new index; compiled, both are the file's and last; refused, both are as before.
pub record CompilesFile {D : Type 0} (files : D → World → Type 0) (faults : D → ℕ) (moment : D → ℕ) (images : D → ℕ → World → Type 0) (path : List ℕ) (result : Result ℕ CompileFault) (old new : D) : Type 0 where
  pub answer : Every (files old) (λ w. GivesUnless MayCome (λ count. count) result (judged (text_at path w)))
  pub disk : IsErrOf result M.Disk → Increased (faults old) (faults new)
  pub calm : OnOk result (faults new ≡ faults old)
  pub stop : Leaves moment images (Compiles (files old) path) old new
  pub read : Follows (Compiles (files old) path) (files old) (files new)
  pub compiled : OnOk result (Every (files new) (IsCompiled (files old) path))
  pub durable : OnOk result (Every (Now moment images new) (IsCompiled (files old) path))
  pub kept : IfErr result (λ fault. (fault ≡ M.Disk) ⊎ Leaves moment images (Only new_name) old new)
  pub cleared : IfErr result (λ fault. (fault ≡ M.Disk) ⊎ Follows Clears (files old) (files new))

module _ {D : Type 0} (files : D → World → Type 0) (tells : Bool) (content : D → World) (faults : D → ℕ) (moment : D → ℕ) (images : D → ℕ → World → Type 0) where
  -- The settings weren't read, or by them the word behind `lookup` is no address, or the index couldn't be read, and the disk was read
  -- only; or no store was opened; or one was, and over its disk the index is bad, or the node was looked up in it, or the file was
  -- compiled, or what the store keeps was listed.
  pub data Over_still (command : Command) (disk : D) (told : Told) (disk' : D) : Type 0 where
    Not_set : IsStill command → (had : Status) → told ≡ only had → NoSettings tells content faults moment images disk disk' had → OnlyRead tells content faults moment images disk disk' → Over_still command disk told disk'
    No_address : (conf : ConfText) → HasSettings tells content faults moment images disk conf → (text : List ℕ) → command ≡ W.Lookup text → IsNoAddress text conf told
        → OnlyRead tells content faults moment images disk disk' → Over_still command disk told disk'
    No_index : (conf : ConfText) → HasSettings tells content faults moment images disk conf → Asks command conf → (had : Status) → told ≡ only had → NoIndex faults disk disk' had → OnlyRead tells content faults moment images disk disk' → Over_still command disk told disk'
    Not_opened : (conf : ConfText) → HasSettings tells content faults moment images disk conf → Asks command conf → (fault : StoreOpenFault) → told ≡ only (status_unopened fault (faults disk'))
        → HasRefused tells content faults moment images fault disk disk' → Over_still command disk told disk'
    Bad_index : (conf : ConfText) → HasSettings tells content faults moment images disk conf → (text : List ℕ) (a : Address) → command ≡ W.Lookup text → reading text (home_of conf.addresses) ≡ Ok a
        → (opened : Holding D) → HasOpened tells content faults moment images disk opened → disk' ≡ opened.disk
        → (tells ≡ true → IsBadIndex (content disk)) → told ≡ only (S.FileBad index_name) → Over_still command disk told disk'
    Looked_up : (conf : ConfText) → HasSettings tells content faults moment images disk conf → (text : List ℕ) (a : Address) → command ≡ W.Lookup text → reading text (home_of conf.addresses) ≡ Ok a
        → (opened : Holding D) → HasOpened tells content faults moment images disk opened → disk' ≡ opened.disk
        → (index : Option (List ListedNode)) → (tells ≡ true → index_at ((content disk).own index_name) ≡ Ok index) → IsTold (looked index a) told → Over_still command disk told disk'
    Compiled : (conf : ConfText) → HasSettings tells content faults moment images disk conf → (path : List ℕ) → command ≡ W.Compile path
        → (opened : Holding D) → HasOpened tells content faults moment images disk opened
        → (result : Result ℕ CompileFault) → CompilesFile files faults moment images path result opened.disk disk' → IsTold (told_compiled result (faults disk')) told → Over_still command disk told disk'
    Listed : (conf : ConfText) → HasSettings tells content faults moment images disk conf → command ≡ W.Listing
        → (opened : Holding D) → HasOpened tells content faults moment images disk opened → disk' ≡ opened.disk → IsTold (told_listed opened.memory.books.folding.state) told → Over_still command disk told disk'

  -- The outbound of the settings was taken in, address by address, over a store that was opened; what it received stays so at each
  -- moment, and where the disk failed it is broken.
  pub record TakesIn (conf : ConfText) (now : ℕ) (opened : Holding D) (told : Told) (disk' : D) : Type 0 where
    pub round : RoundTold
    pub left : Holding D
    pub takes : TakesRound tells content faults moment images RT.All conf.base conf.zone (home_of conf.addresses) now round opened left
    pub goes_on : GoesOn (stand_of tells content faults moment images opened) (stand_of tells content faults moment images left)
    pub broke : round.fault ≡ Some RF.Disk → left.memory.broken ≢ None
    pub disk_is : disk' ≡ left.disk
    pub told_is : told ≡ told_taken round (faults disk')

  -- One of these; or a store was opened, and the outbound taken in at that moment.
  pub data Runs_still (command : Command) (now : ℕ) (disk : D) (told : Told) (disk' : D) : Type 0 where
    Before_takes : Over_still command disk told disk' → Runs_still command now disk told disk'
    Taken_in : (conf : ConfText) → HasSettings tells content faults moment images disk conf → command ≡ W.Taking
        → (opened : Holding D) → HasOpened tells content faults moment images disk opened → TakesIn conf now opened told disk' → Runs_still command now disk told disk'

  -- the whole command, and then what was printed of it
  pub record StillCall (command : Command) (now : ℕ) (disk : D) (out : SinkState) (status : Status) (disk' : D) (out' : SinkState) : Type 0 where
    pub told : Told
    pub does : Runs_still command now disk told disk'
    pub prints : PrintsLines told.lines told.status status out out'
