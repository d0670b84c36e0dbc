-- What the status of a command without a session tells of the disk and of the sink.
use Rattle.std.proofs.Common.{◌≡◌, ◌⊎◌, ◌∙◌, ℕ, Bool, List, Option, Some, None, Result, Ok, Err, refl, sym, ap, subst, inl, inr}
use Rattle.mail_conf.specs.Conf.{ConfText}
use Rattle.command_base.specs.Opening.{HasOpened}
use Rattle.ftn_addr.specs.Address.{Address}
use Rattle.ftn_addr.specs.Counts.{Increased}
use Rattle.ftn_addr.proofs.CountsGrow.{count_grew-refl}
use Rattle.disk_model.specs.World.{World}
use Rattle.nodelist_comp.specs.Node.{ListedNode}
use Rattle.nodelist_files.specs.Files.{index_name}
use Rattle.nodelist_files.specs.declared.fault.CompileFault.{CompileFault}
use Rattle.nodelist_files.specs.declared.fault.CompileFault.TheVariants as M
use Rattle.still_lines.specs.Lists.{lookup_text}
use Rattle.command_base.specs.Causes.{DiskCause, NoIndex}
use Rattle.command_base.specs.Settings.{NoSettings, Is_refused, Has_failed, Had_no_memory}
use Rattle.command_base.specs.Statuses as S
use Rattle.command_base.specs.Statuses.{Status, status_unopened}
use Rattle.command_base.proofs.Causes.{refused_so, unindexed_so, unset_so}
use Rattle.command_base.proofs.Printed.{NotOut}
use Rattle.command_words.specs.Forms.{Command}
use Rattle.node_store.specs.declared.opening.fault.StoreOpenFault.{StoreOpenFault}
use Rattle.node_store.specs.declared.opening.fault.StoreOpenFault.TheVariants as F
use Rattle.node_store.specs.Finding.{IsNewMemory}
use Rattle.node_store.specs.Stored.{Holding, Memory}
use Rattle.outbound_round.specs.declared.words.RoundFault.{RoundFault}
use Rattle.outbound_round.specs.declared.words.RoundFault.TheVariants as RF
use Rattle.outbound_store.specs.GoesOn.{BrokeSince}
use Rattle.still_commands.specs.Came.{Told, IsTold, looked, only, round_status, told_compiled, told_line, told_listed, told_taken}
use Rattle.still_commands.specs.Still.{CompilesFile, Over_still, Not_set, No_address, No_index, Not_opened, Bad_index, Looked_up, Compiled, Listed, Runs_still, Before_takes, Taken_in, TakesIn}

-- No put failed yet.

unopened_not_out : (fault : StoreOpenFault) (faults : ℕ) → NotOut (status_unopened fault faults)
unopened_not_out F.Disk faults = tt
unopened_not_out (F.LedgerBad place) faults = tt
unopened_not_out (F.FileBad name) faults = tt
unopened_not_out F.NoMemory faults = tt

line_not_out : (line : Option (List ℕ)) → NotOut (told_line line).status
line_not_out None = tt
line_not_out (Some line) = tt

looked_not_out : (index : Option (List ListedNode)) (a : Address) → NotOut (looked index a).status
looked_not_out None a = tt
looked_not_out (Some nodes) a = line_not_out (lookup_text nodes a)

compiled_not_out : (result : Result ℕ CompileFault) (faults : ℕ) → NotOut (told_compiled result faults).status
compiled_not_out (Ok count) faults = tt
compiled_not_out (Err M.Disk) faults = tt
compiled_not_out (Err M.NoFile) faults = tt
compiled_not_out (Err (M.ListBad fault)) faults = tt
compiled_not_out (Err M.NoMemory) faults = tt

round_not_out : (marked : Option (List ℕ)) (fault : Option RoundFault) (faults : ℕ) → NotOut (round_status marked fault faults)
round_not_out marked (Some RF.Disk) faults = tt
round_not_out marked (Some RF.Full) faults = tt
round_not_out marked (Some RF.NoMemory) faults = tt
round_not_out (Some name) None faults = tt
round_not_out None None faults = tt

is_so : (told wanted : Told) → told ≡ wanted → NotOut wanted.status → NotOut told.status
is_so told wanted is own = subst (λ (t : Told). NotOut t.status) (sym is) own

told_so : (wanted told : Told) → IsTold wanted told → NotOut wanted.status → NotOut told.status
told_so wanted told (inl is) own = is_so told wanted is own
told_so wanted told (inr is) own = is_so told (only S.NoMemory) is tt

module _ {D : Type 0} (files : D → World → Type 0) (tells : Bool) (content : D → World) (faults : D → ℕ) (moment : D → ℕ) (images : D → ℕ → World → Type 0) where
  unset_not_out : (disk disk' : D) (had : Status) → NoSettings tells content faults moment images disk disk' had → NotOut had
  unset_not_out disk disk' had (Is_refused fault is own why) = subst NotOut (sym is) tt
  unset_not_out disk disk' had (Has_failed is rose) = subst NotOut (sym is) tt
  unset_not_out disk disk' had (Had_no_memory is) = subst NotOut (sym is) tt

  unindexed_not_out : (disk disk' : D) (had : Status) → NoIndex faults disk disk' had → NotOut had
  unindexed_not_out disk disk' had (inl failed) = subst NotOut (sym failed.0) tt
  unindexed_not_out disk disk' had (inr is) = subst NotOut (sym is) tt

  pub still_not_out : (command : Command) (disk : D) (told : Told) (disk' : D) → Over_still files tells content faults moment images command disk told disk' → NotOut told.status
  still_not_out command disk told disk' (Not_set are had is why more) = is_so told (only had) is (unset_not_out disk disk' had why)
  still_not_out command disk told disk' (No_address conf settings text form (inl none) more) = is_so told (only S.Usage) none.0 tt
  still_not_out command disk told disk' (No_address conf settings text form (inr is) more) = is_so told (only S.NoMemory) is tt
  still_not_out command disk told disk' (No_index conf settings asks had is why more) = is_so told (only had) is (unindexed_not_out disk disk' had why)
  still_not_out command disk told disk' (Not_opened conf settings asks fault is refused) = is_so told (only (status_unopened fault (faults disk'))) is (unopened_not_out fault (faults disk'))
  still_not_out command disk told disk' (Bad_index conf settings text a form reads opened h disk_is bad is) = is_so told (only (S.FileBad index_name)) is tt
  still_not_out command disk told disk' (Looked_up conf settings text a form reads opened h disk_is index at is) = told_so (looked index a) told is (looked_not_out index a)
  still_not_out command disk told disk' (Compiled conf settings path form opened h result does is) = told_so (told_compiled result (faults disk')) told is (compiled_not_out result (faults disk'))
  still_not_out command disk told disk' (Listed conf settings form opened h disk_is is) = told_so (told_listed opened.memory.books.folding.state) told is tt

  -- What is told of the disk.

  abbrev Cause : D → D → Told → Type 0
  Cause disk disk' told = DiskCause tells content faults told.status disk disk'

  cause_of : (disk disk' : D) (told wanted : Told) → told ≡ wanted → Cause disk disk' wanted → Cause disk disk' told
  cause_of disk disk' told wanted is cause = subst (λ (t : Told). Cause disk disk' t) (sym is) cause

  told_cause : (disk disk' : D) (wanted told : Told) → IsTold wanted told → Cause disk disk' wanted → Cause disk disk' told
  told_cause disk disk' wanted told (inl is) cause = cause_of disk disk' told wanted is cause
  told_cause disk disk' wanted told (inr is) cause = cause_of disk disk' told (only S.NoMemory) is tt

  line_cause : (disk disk' : D) (line : Option (List ℕ)) → Cause disk disk' (told_line line)
  line_cause disk disk' None = tt
  line_cause disk disk' (Some line) = tt

  looked_cause : (disk disk' : D) (index : Option (List ListedNode)) (a : Address) → Cause disk disk' (looked index a)
  looked_cause disk disk' None a = tt
  looked_cause disk disk' (Some nodes) a = line_cause disk disk' (lookup_text nodes a)

  compiled_cause : (disk mid disk' : D) (path : List ℕ) (result : Result ℕ CompileFault) → faults mid ≡ faults disk → CompilesFile files faults moment images path result mid disk' → Cause disk disk' (told_compiled result (faults disk'))
  compiled_cause disk mid disk' path (Ok count) calm does = tt
  compiled_cause disk mid disk' path (Err M.Disk) calm does = (subst (λ (n : ℕ). Increased n (faults disk')) calm (does.disk refl), count_grew-refl (faults disk'))
  compiled_cause disk mid disk' path (Err M.NoFile) calm does = tt
  compiled_cause disk mid disk' path (Err (M.ListBad fault)) calm does = tt
  compiled_cause disk mid disk' path (Err M.NoMemory) calm does = tt

  pub still_cause : (command : Command) (disk : D) (told : Told) (disk' : D) → Over_still files tells content faults moment images command disk told disk' → DiskCause tells content faults told.status disk disk'
  still_cause command disk told disk' (Not_set are had is why more) = cause_of disk disk' told (only had) is (unset_so tells content faults moment images disk disk' had why)
  still_cause command disk told disk' (No_address conf settings text form (inl none) more) = cause_of disk disk' told (only S.Usage) none.0 tt
  still_cause command disk told disk' (No_address conf settings text form (inr is) more) = cause_of disk disk' told (only S.NoMemory) is tt
  still_cause command disk told disk' (No_index conf settings asks had is why more) = cause_of disk disk' told (only had) is (unindexed_so tells content faults moment images disk disk' had why)
  still_cause command disk told disk' (Not_opened conf settings asks fault is refused) = cause_of disk disk' told (only (status_unopened fault (faults disk'))) is (refused_so tells content faults moment images fault disk disk' refused)
  still_cause command disk told disk' (Bad_index conf settings text a form reads opened h disk_is bad is) = cause_of disk disk' told (only (S.FileBad index_name)) is (λ telling. inr (refl, bad telling))
  still_cause command disk told disk' (Looked_up conf settings text a form reads opened h disk_is index at is) = told_cause disk disk' (looked index a) told is (looked_cause disk disk' index a)
  still_cause command disk told disk' (Compiled conf settings path form opened h result does is) = told_cause disk disk' (told_compiled result (faults disk')) told is (compiled_cause disk opened.disk disk' path result h.calm does)
  still_cause command disk told disk' (Listed conf settings form opened h disk_is is) = told_cause disk disk' (told_listed opened.memory.books.folding.state) told is tt

  -- Taking in.

  pub runs_not_out : (command : Command) (now : ℕ) (disk : D) (told : Told) (disk' : D) → Runs_still files tells content faults moment images command now disk told disk' → NotOut told.status
  runs_not_out command now disk told disk' (Before_takes over) = still_not_out command disk told disk' over
  runs_not_out command now disk told disk' (Taken_in conf settings form opened h takes) =
      is_so told (told_taken takes.round (faults disk')) takes.told_is (round_not_out takes.round.marked takes.round.fault (faults disk'))

  -- a store that was just opened isn't broken
  pub new_whole : (m : Memory) → IsNewMemory m → m.broken ≡ None
  new_whole m new = ap (λ (x : Memory). x.broken) new.3

  -- it broke, so the disk failed since
  failed_since : (conf : ConfText) (now : ℕ) (disk : D) (opened : Holding D) (told : Told) (disk' : D) → HasOpened tells content faults moment images disk opened
      → (takes : TakesIn files tells content faults moment images conf now opened told disk') → takes.round.fault ≡ Some RF.Disk → Increased (faults disk) (faults disk')
  failed_since conf now disk opened told disk' h takes fault = go takes.goes_on.counts.broken
    where
      go : (takes.left.memory.broken ≡ opened.memory.broken) ⊎ BrokeSince (record { faults = faults opened.disk; fulls = opened.memory.fulls; broken = opened.memory.broken }) (record { faults = faults takes.left.disk; fulls = takes.left.memory.fulls; broken = takes.left.memory.broken })
          → Increased (faults disk) (faults disk')
      go (inl same) = absurd (takes.broke fault (same ∙ new_whole opened.memory h.memory))
      go (inr broke) = subst (λ (x : D). Increased (faults disk) (faults x)) (sym takes.disk_is) (subst (λ (n : ℕ). Increased n (faults takes.left.disk)) h.calm broke.rose)

  round_cause : (disk disk' : D) (marked : Option (List ℕ)) (fault : Option RoundFault) → (fault ≡ Some RF.Disk → Increased (faults disk) (faults disk')) → DiskCause tells content faults (round_status marked fault (faults disk')) disk disk'
  round_cause disk disk' marked (Some RF.Disk) rose = (rose refl, count_grew-refl (faults disk'))
  round_cause disk disk' marked (Some RF.Full) rose = tt
  round_cause disk disk' marked (Some RF.NoMemory) rose = tt
  round_cause disk disk' (Some name) None rose = tt
  round_cause disk disk' None None rose = tt

  pub runs_cause : (command : Command) (now : ℕ) (disk : D) (told : Told) (disk' : D) → Runs_still files tells content faults moment images command now disk told disk' → DiskCause tells content faults told.status disk disk'
  runs_cause command now disk told disk' (Before_takes over) = still_cause command disk told disk' over
  runs_cause command now disk told disk' (Taken_in conf settings form opened h takes) =
      cause_of disk disk' told (told_taken takes.round (faults disk')) takes.told_is (round_cause disk disk' takes.round.marked takes.round.fault (failed_since conf now disk opened told disk' h takes))
