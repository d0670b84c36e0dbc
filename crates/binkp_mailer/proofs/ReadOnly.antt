-- A call over a disk that was read before.
use Rattle.std.proofs.Common.{◌≡◌, ℕ, Bool, List, Option, Ok, sym, subst}
use Rattle.ftn_addr.specs.Address.{Address}
use Rattle.disk_model.specs.World.{World}
use Rattle.binkp_link.specs.LineSources.{Dialling, LinesState}
use Rattle.mail_conf.specs.Conf.{ConfText}
use Rattle.command_base.specs.Settings.{OnlyRead}
use Rattle.command_base.specs.Statuses.{Status}
use Rattle.command_base.proofs.ReadOnly.{no_index_before, opened_before, refused_before, settings_before, then_read, unset_before}
use Rattle.session_run.specs.Reports.{ReportText}
use Rattle.nodelist_comp.specs.Node.{ListedNode}
use Rattle.nodelist_files.specs.Files.{index_name}
use Rattle.nodelist_files.specs.IndexFile.{index_at}
use Rattle.command_base.specs.Causes.{IsBadIndex}
use Rattle.binkp_mailer.specs.DiskCall.{HasHost, Is_set, Is_listed, ReadsIndex, Over_disk, Not_set, No_call, Not_opened, No_index, Bad_index, No_host, Answered, Called}
use Rattle.command_words.specs.Forms.{Command}

module _ {D : Type 0} (tells : Bool) (content : D → World) (faults : D → ℕ) (moment : D → ℕ) (images : D → ℕ → World → Type 0) where
  -- what was read of the index was there before
  reads_before : (old mid : D) (index : Option (List ListedNode)) → OnlyRead tells content faults moment images old mid → ReadsIndex tells content faults moment images mid index → ReadsIndex tells content faults moment images old index
  reads_before old mid index only reads = λ telling. subst (λ (w : World). index_at (w.own index_name) ≡ Ok index) (only.same telling) (reads telling)

  host_before : (old mid : D) (conf : ConfText) (peer : Address) (host : Dialling) → OnlyRead tells content faults moment images old mid → HasHost tells content faults moment images mid conf peer host → HasHost tells content faults moment images old conf peer host
  host_before old mid conf peer host only (Is_set is) = Is_set is
  host_before old mid conf peer host only (Is_listed unset index reads is) = Is_listed unset index (reads_before old mid index only reads) is

  -- a call over a disk whose settings were read, with what was read before
  pub call_before : (command : Command) (challenge : List ℕ) (now : ℕ) (lines : LinesState) (old mid : D) (told : Option ReportText) (had : Status) (lines' : LinesState) (new : D)
      → OnlyRead tells content faults moment images old mid → faults mid ≡ faults old
      → Over_disk tells content faults moment images command challenge now lines mid told had lines' new → Over_disk tells content faults moment images command challenge now lines old told had lines' new
  call_before command challenge now lines old mid told had lines' new only calm (Not_set none why more lines_is) = Not_set none (unset_before tells content faults moment images old mid new had only calm why) (then_read tells content faults moment images old mid new only more) lines_is
  call_before command challenge now lines old mid told had lines' new only calm (No_call conf settings none why more lines_is) = No_call conf (settings_before tells content faults moment images old mid conf only settings) none why (then_read tells content faults moment images old mid new only more) lines_is
  call_before command challenge now lines old mid told had lines' new only calm (Not_opened conf settings side are fault none had_is lines_is refused) = Not_opened conf (settings_before tells content faults moment images old mid conf only settings) side are fault none had_is lines_is (refused_before tells content faults moment images old mid new fault only calm refused)
  call_before command challenge now lines old mid told had lines' new only calm (No_index conf settings peer are unset none why more lines_is) = No_index conf (settings_before tells content faults moment images old mid conf only settings) peer are unset none (no_index_before faults old mid new had calm why) (then_read tells content faults moment images old mid new only more) lines_is
  call_before command challenge now lines old mid told had lines' new only calm (Bad_index conf settings peer are unset bad opened h none had_is lines_is disk_is) =
      Bad_index conf (settings_before tells content faults moment images old mid conf only settings) peer are unset (λ telling. subst IsBadIndex (only.same telling) (bad telling)) opened (opened_before tells content faults moment images old mid opened only calm h) none had_is lines_is disk_is
  call_before command challenge now lines old mid told had lines' new only calm (No_host conf settings peer are unset index reads unlisted opened h none had_is lines_is disk_is) =
      No_host conf (settings_before tells content faults moment images old mid conf only settings) peer are unset index (reads_before old mid index only reads) unlisted opened (opened_before tells content faults moment images old mid opened only calm h) none had_is lines_is disk_is
  call_before command challenge now lines old mid told had lines' new only calm (Answered conf settings are opened held left h was answers gives disk_is) =
      Answered conf (settings_before tells content faults moment images old mid conf only settings) are opened held left (opened_before tells content faults moment images old mid opened only calm h) was answers gives disk_is
  call_before command challenge now lines old mid told had lines' new only calm (Called conf settings peer are host has opened held left h was calls gives disk_is) =
      Called conf (settings_before tells content faults moment images old mid conf only settings) peer are host (host_before old mid conf peer host only has) opened held left (opened_before tells content faults moment images old mid opened only calm h) was calls gives disk_is

  -- a call of which the same is told
  pub retold : (command : Command) (challenge : List ℕ) (now : ℕ) (lines : LinesState) (disk : D) (told told' : Option ReportText) (had : Status) (lines' : LinesState) (disk' : D)
      → told' ≡ told → Over_disk tells content faults moment images command challenge now lines disk told had lines' disk' → Over_disk tells content faults moment images command challenge now lines disk told' had lines' disk'
  retold command challenge now lines disk told told' had lines' disk' same over = subst (λ (t : Option ReportText). Over_disk tells content faults moment images command challenge now lines disk t had lines' disk') (sym same) over
