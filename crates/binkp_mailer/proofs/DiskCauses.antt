-- What the status of a call over a disk tells of the disk.
use Rattle.std.proofs.Common.{◌≡◌, ◌∙◌, ℕ, Bool, List, Option, Result, Ok, Err, refl, sym, ap, subst, inl, inr}
use Rattle.binkp_mailer.proofs.Marked.{takes_keep, took_failed}
use Rattle.binkp_mailer.proofs.TopCalls.{answers_grow}
use Rattle.ftn_addr.specs.Address.{Address}
use Rattle.ftn_addr.specs.Counts.{Increased, CountGrew}
use Rattle.ftn_addr.proofs.CountsGrow.{count_grew-increased, count_grew-refl, count_grew-then, then-increased}
use Rattle.bso_outbound.specs.Paths.{last_part}
use Rattle.inbound_files.specs.Giving.{GivesFiles}
use Rattle.inbound_files.proofs.Kept.{round_keeps, round_failed}
use Rattle.node_model.specs.declared.store.StoreFault.{StoreFault}
use Rattle.node_model.specs.declared.store.StoreFault.TheVariants.{Disk, Read, Full, NoMemory}
use Rattle.disk_model.specs.World.{World}
use Rattle.disk_model.specs.declared.answers.Marking.TheVariants.{Made, Exists}
use Rattle.mail_conf.specs.Conf.{ConfText}
use Rattle.node_model.specs.Stores.{StoreState, StoreStand}
use Rattle.node_store.specs.OutboundMarks.{mark_gone, marked_so}
use Rattle.node_store.specs.Stored.{Holding, stand_of}
use Rattle.node_store.specs.Taking.{Around, Takes, TookSo}
use Rattle.binkp_link.specs.Lines.{LineState, SinkState}
use Rattle.binkp_link.specs.LineSources.{Dialling, LinesState}
use Rattle.nodelist_files.specs.Files.{index_name}
use Rattle.session_auth.specs.Sides.{Side, Answers, Calls}
use Rattle.session_core.specs.Ends.{End}
use Rattle.session_core.specs.Ends as E
use Rattle.session_run.specs.Reports.{ReportText}
use Rattle.binkp_mailer.specs.DiskCall.{IsNoCall, Over_disk, Not_set, No_call, Not_opened, No_index, Bad_index, No_host, Answered, Called}
use Rattle.command_words.specs.Forms.{Command}
use Rattle.command_base.specs.Causes.{DiskCause}
use Rattle.command_base.proofs.Causes.{had_no_memory, printed_disk, refused_so, said_none, unindexed_so, unset_so}
use Rattle.binkp_mailer.specs.Inbound.{Gives_behind, Gives_none, Gives_round, status_behind, waiting}
use Rattle.binkp_mailer.specs.OverLines.{Serves, NoneCame, Nobody_yet, Nobody_more, Not_heard, Answers_next, None_came, One_came, Dials, No_line, A_line, Frees, Is_broken, Takes_away, Calls_node, No_room, Is_marked, Not_marked, Under_mark, call_mark, call_text}
use Rattle.binkp_mailer.specs.Reports.{Prints, lines_told}
use Rattle.command_base.specs.Statuses as S
use Rattle.command_base.specs.Statuses.{Status, status_after, status_unopened}
use Rattle.binkp_mailer.specs.TopCall.{Given, Answers_line, Turned_away, Held_one, StatusCause}

-- a status of a call over a store that is there
abbrev OfSession : Status → Type 0
OfSession (S.ConfBad fault) = ⊥
OfSession (S.LedgerBad place) = ⊥
OfSession (S.FileBad name) = ⊥
OfSession status = Unit {0}

ends_so : (end : End) → OfSession (status_after end)
ends_so E.Finished = tt
ends_so (E.PeerError text) = tt
ends_so E.PeerBusy = tt
ends_so (E.BadPassword wanted given) = tt
ends_so (E.Broke cause frame) = tt
ends_so E.Dropped = tt
ends_so E.LineFault = tt
ends_so (E.DiskFault count) = tt
ends_so E.LedgerFull = tt
ends_so E.Quiet = tt
ends_so E.Endless = tt
ends_so E.TurnedAway = tt
ends_so E.NoMemory = tt

answers_so : (side : Side) (given : Given) (line : LineState) (store : StoreState) (told : Option ReportText) (had : Status) (line' : LineState) (store' : StoreState) → Answers_line side given line store told had line' store' → OfSession had
answers_so side given line store told had line' store' (Turned_away none is line_is store_is) = subst OfSession (sym is) tt
answers_so side given line store told had line' store' (Held_one held) = subst OfSession (sym held.status_is) (ends_so held.report.end)

module _ {D : Type 0} (tells : Bool) (content : D → World) (faults : D → ℕ) (moment : D → ℕ) (images : D → ℕ → World → Type 0) where
  abbrev St : Holding D → StoreStand
  St = stand_of tells content faults moment images

  no_call_so : (command : Command) (conf : ConfText) (disk disk' : D) (had : Status) → IsNoCall command conf had → DiskCause tells content faults had disk disk'
  no_call_so command conf disk disk' had (inl none) = said_none tells content faults moment images disk disk' had none.0
  no_call_so command conf disk disk' had (inr is) = had_no_memory tells content faults moment images disk disk' had is

  served_so : (limit : ℕ) (had : Status) (line line' : LineState) (opened left : Holding D) (disk : D) → faults opened.disk ≡ faults disk → OfSession had
      → StatusCause limit had line line' (stand_of tells content faults moment images opened).state.counts (stand_of tells content faults moment images left).state.counts → DiskCause tells content faults had disk left.disk
  served_so limit (S.DiskFault count) line line' opened left disk calm of cause = (subst (λ (n : ℕ). Increased n count) calm cause.0, cause.1)
  served_so limit (S.ConfBad fault) line line' opened left disk calm of cause = absurd of
  served_so limit (S.LedgerBad place) line line' opened left disk calm of cause = absurd of
  served_so limit (S.FileBad name) line line' opened left disk calm of cause = absurd of
  served_so limit S.Done line line' opened left disk calm of cause = tt
  served_so limit S.Usage line line' opened left disk calm of cause = tt
  served_so limit S.LedgerFull line line' opened left disk calm of cause = tt
  served_so limit S.LineFault line line' opened left disk calm of cause = tt
  served_so limit S.Dropped line line' opened left disk calm of cause = tt
  served_so limit S.Quiet line line' opened left disk calm of cause = tt
  served_so limit (S.PeerError text) line line' opened left disk calm of cause = tt
  served_so limit S.PeerBusy line line' opened left disk calm of cause = tt
  served_so limit S.BadPassword line line' opened left disk calm of cause = tt
  served_so limit (S.Broke why n) line line' opened left disk calm of cause = tt
  served_so limit S.Endless line line' opened left disk calm of cause = tt
  served_so limit (S.Marked name) line line' opened left disk calm of cause = tt
  served_so limit S.OutFault line line' opened left disk calm of cause = tt
  served_so limit S.NoMemory line line' opened left disk calm of cause = tt
  served_so limit S.NotFound line line' opened left disk calm of cause = tt
  served_so limit S.TurnedAway line line' opened left disk calm of cause = tt
  served_so limit (S.ListBad fault) line line' opened left disk calm of cause = tt
  served_so limit S.NoFile line line' opened left disk calm of cause = tt

  -- behind a session

  still_so : (had : Status) (disk held left : D) → OfSession had → CountGrew (faults held) (faults left) → DiskCause tells content faults had disk held → DiskCause tells content faults had disk left
  still_so (S.DiskFault count) disk held left of grew cause = (cause.0, count_grew-then count (faults held) (faults left) cause.1 grew)
  still_so (S.ConfBad fault) disk held left of grew cause = absurd of
  still_so (S.LedgerBad place) disk held left of grew cause = absurd of
  still_so (S.FileBad name) disk held left of grew cause = absurd of
  still_so S.Done disk held left of grew cause = tt
  still_so S.Usage disk held left of grew cause = tt
  still_so S.LedgerFull disk held left of grew cause = tt
  still_so S.LineFault disk held left of grew cause = tt
  still_so S.Dropped disk held left of grew cause = tt
  still_so S.Quiet disk held left of grew cause = tt
  still_so (S.PeerError text) disk held left of grew cause = tt
  still_so S.PeerBusy disk held left of grew cause = tt
  still_so S.BadPassword disk held left of grew cause = tt
  still_so (S.Broke why n) disk held left of grew cause = tt
  still_so S.Endless disk held left of grew cause = tt
  still_so (S.Marked name) disk held left of grew cause = tt
  still_so S.OutFault disk held left of grew cause = tt
  still_so S.NoMemory disk held left of grew cause = tt
  still_so S.NotFound disk held left of grew cause = tt
  still_so S.TurnedAway disk held left of grew cause = tt
  still_so (S.ListBad fault) disk held left of grew cause = tt
  still_so S.NoFile disk held left of grew cause = tt

  failed_free : (path text : List ℕ) (result : Result (Unit {0}) StoreFault) (a b : Holding D) → result ≡ Err Disk → Takes (mark_gone path text) result (St a) (St b) → Increased (faults a.disk) (faults b.disk)
  failed_free path text result a b failed takes =
      took_failed (mark_gone path text) Disk (St a).state (St b).state (subst (λ (r : Result (Unit {0}) StoreFault). TookSo (mark_gone path text) r (St a).state (St b).state) failed takes.made)

  -- a mark that was made, or stood
  made_faults : {T : Type 0} (does : T → Around → Around) (answer : T) (a b : Holding D) → Takes does (Ok answer) (St a) (St b) → faults b.disk ≡ faults a.disk
  made_faults does answer a b takes = ap (λ (s : StoreState). s.counts.faults) takes.made

  -- what a status tells so far, and that no count of faults fell
  record SoFar (was : Status) (disk : D) (s : Holding D) : Type 0 where
    of : OfSession was
    cause : DiskCause tells content faults was disk s.disk
    grew : CountGrew (faults disk) (faults s.disk)

  on_so : (was : Status) (a b : Holding D) (disk : D) → SoFar was disk a → CountGrew (faults a.disk) (faults b.disk) → SoFar was disk b
  on_so was a b disk so grew = record { of = so.of; cause = still_so was disk a.disk b.disk so.of grew so.cause; grew = count_grew-then (faults disk) (faults a.disk) (faults b.disk) so.grew grew }

  -- of a status that tells nothing of the disk, behind an opening
  quiet_so : (was : Status) (disk : D) (s : Holding D) → OfSession was → DiskCause tells content faults was disk s.disk → faults s.disk ≡ faults disk → SoFar was disk s
  quiet_so was disk s of cause calm = record { of = of; cause = cause; grew = subst (λ (n : ℕ). CountGrew n (faults s.disk)) calm (count_grew-refl (faults s.disk)) }

  -- behind a session over a store whose disk has no more faults
  session_so : (side : Side) (given : Given) (line : LineState) (a b : Holding D) (told : Option ReportText) (had : Status) (line' : LineState) (disk : D) → faults a.disk ≡ faults disk
      → Serves side given line (St a) told had line' (St b) → SoFar had disk b
  session_so side given line a b told had line' disk calm serves = record {
    of = answers_so side given line (St a).state told had line' (St b).state serves.call.answers;
    cause = served_so given.conf.session_limit had line line' a b disk calm (answers_so side given line (St a).state told had line' (St b).state serves.call.answers) serves.cause;
    grew = subst (λ (n : ℕ). CountGrew n (faults b.disk)) calm (answers_grow side given line (St a).state told had line' (St b).state serves.call.answers);
  }

  is_so : (P : Status → Type 0) (was is : Status) → was ≡ is → P is → P was
  is_so P was is same p = subst P (sym same) p

  -- nobody came
  none_so : (had : Status) (lines lines' : LinesState) (disk : D) (a b : Holding D) → faults a.disk ≡ faults disk → b ≡ a → NoneCame had lines lines' → SoFar had disk b
  none_so had lines lines' disk a b calm is came = subst (λ (x : Holding D). SoFar had disk x) (sym is) (go came)
    where
      go : NoneCame had lines lines' → SoFar had disk a
      go (Nobody_yet had_is next) = is_so (λ (x : Status). SoFar x disk a) had S.Dropped had_is (quiet_so S.Dropped disk a tt tt calm)
      go (Nobody_more had_is next) = is_so (λ (x : Status). SoFar x disk a) had S.Dropped had_is (quiet_so S.Dropped disk a tt tt calm)
      go (Not_heard had_is next) = is_so (λ (x : Status). SoFar x disk a) had S.LineFault had_is (quiet_so S.LineFault disk a tt tt calm)

  answered_so : (given : Given) (lines : LinesState) (a b : Holding D) (told : Option ReportText) (had : Status) (lines' : LinesState) (disk : D) → faults a.disk ≡ faults disk
      → Answers_next tells content faults moment images given lines a told had lines' b → SoFar had disk b
  answered_so given lines a b told had lines' disk calm (None_came none came is) = none_so had lines lines' disk a b calm is came
  answered_so given lines a b told had lines' disk calm (One_came x) = session_so Answers given x.line a b told had x.holds.line' disk calm x.holds.serves

  dialled_so : (peer : Address) (given : Given) (host : Dialling) (lines : LinesState) (a b : Holding D) (told : Option ReportText) (had : Status) (lines' : LinesState) (disk : D) → faults a.disk ≡ faults disk
      → Dials tells content faults moment images peer given host lines a told had lines' b → SoFar had disk b
  dialled_so peer given host lines a b told had lines' disk calm (No_line none had_is missed is) =
      subst (λ (x : Holding D). SoFar had disk x) (sym is) (is_so (λ (x : Status). SoFar x disk a) had S.LineFault had_is (quiet_so S.LineFault disk a tt tt calm))
  dialled_so peer given host lines a b told had lines' disk calm (A_line x) = session_so (Calls peer) given x.line a b told had x.holds.line' disk calm x.holds.serves

  -- a call behind it, of which the disk's failing is told
  then_so : (was : Status) (a b : Holding D) (disk : D) (result : Result (Unit {0}) StoreFault) → SoFar was disk a → CountGrew (faults a.disk) (faults b.disk)
      → (result ≡ Err Disk → Increased (faults a.disk) (faults b.disk)) → SoFar (status_behind result was (faults b.disk)) disk b
  then_so was a b disk (Err Disk) so grew failed = record {
    of = tt;
    cause = (then-increased (faults disk) (faults a.disk) (faults b.disk) so.grew (failed refl), count_grew-refl (faults b.disk));
    grew = count_grew-then (faults disk) (faults a.disk) (faults b.disk) so.grew grew;
  }
  then_so was a b disk (Ok done) so grew failed = on_so was a b disk so grew
  then_so was a b disk (Err Read) so grew failed = on_so was a b disk so grew
  then_so was a b disk (Err Full) so grew failed = on_so was a b disk so grew
  then_so was a b disk (Err NoMemory) so grew failed = on_so was a b disk so grew

  freed_so : (path text : List ℕ) (was had : Status) (a b : Holding D) (disk : D) → Frees tells content faults moment images path text was had a b → SoFar was disk a → SoFar had disk b
  freed_so path text was had a b disk (Is_broken broken had_is is) so =
      subst (λ (x : Holding D). SoFar had disk x) (sym is) (is_so (λ (x : Status). SoFar x disk a) had was had_is so)
  freed_so path text was had a b disk (Takes_away result takes had_is) so =
      is_so (λ (x : Status). SoFar x disk b) had (status_behind result was (faults b.disk)) had_is
      (then_so was a b disk result so (takes_keep (mark_gone path text) result (St a) (St b) takes).faults (λ failed. failed_free path text result a b failed takes))

  called_so : (peer : Address) (given : Given) (host : Dialling) (lines : LinesState) (a b : Holding D) (told : Option ReportText) (had : Status) (lines' : LinesState) (disk : D) → faults a.disk ≡ faults disk
      → Calls_node tells content faults moment images peer given host lines a told had lines' b → SoFar had disk b
  called_so peer given host lines a b told had lines' disk calm (No_room none had_is lines_is is) =
      subst (λ (x : Holding D). SoFar had disk x) (sym is) (is_so (λ (x : Status). SoFar x disk a) had S.NoMemory had_is (quiet_so S.NoMemory disk a tt tt calm))
  called_so peer given host lines a b told had lines' disk calm (Is_marked none had_is lines_is time takes notes stood) =
      is_so (λ (x : Status). SoFar x disk b) had (S.Marked (last_part (call_mark given.conf peer))) had_is
      (quiet_so (S.Marked (last_part (call_mark given.conf peer))) disk b tt tt (made_faults (marked_so (call_mark given.conf peer) (call_text given.conf) time) Exists a b takes ∙ calm))
  called_so peer given host lines a b told had lines' disk calm (Not_marked none had_is lines_is time fault takes notes) =
      let rose : Increased (faults a.disk) (faults b.disk) = took_failed (marked_so (call_mark given.conf peer) (call_text given.conf) time) fault (St a).state (St b).state takes.made in
      is_so (λ (x : Status). SoFar x disk b) had (S.DiskFault (faults b.disk)) had_is
      (record {
        of = tt;
        cause = (subst (λ (n : ℕ). Increased n (faults b.disk)) calm rose, count_grew-refl (faults b.disk));
        grew = subst (λ (n : ℕ). CountGrew n (faults b.disk)) calm (count_grew-increased (faults a.disk) (faults b.disk) rose);
      })
  called_so peer given host lines a b told had lines' disk calm (Under_mark marked talked was time takes notes dials frees) =
      freed_so (call_mark given.conf peer) (call_text given.conf) was had talked b disk frees
      (dialled_so peer given host lines marked talked told was lines' disk (made_faults (marked_so (call_mark given.conf peer) (call_text given.conf) time) Made a marked takes ∙ calm) dials)

  behind_so : (conf : ConfText) (told : Option ReportText) (was had : Status) (held left : Holding D) (disk : D)
      → SoFar was disk held → Gives_behind tells content faults moment images conf told was had held left → DiskCause tells content faults had disk left.disk
  behind_so conf told was had held left disk so (Gives_none why had_is left_is) =
      subst (λ (x : Holding D). DiskCause tells content faults had disk x.disk) (sym left_is) (is_so (λ (x : Status). DiskCause tells content faults x disk held.disk) had was had_is so.cause)
  behind_so conf told was had held left disk so (Gives_round some result gives had_is) =
      is_so (λ (x : Status). DiskCause tells content faults x disk left.disk) had (status_behind result was (faults left.disk)) had_is
      (then_so was held left disk result so (round_keeps St conf.inbound conf.inbound_nonsecure _ held result left gives).faults
      (λ failed. round_failed St conf.inbound conf.inbound_nonsecure (waiting (St held)) held left (subst (λ (r : Result (Unit {0}) StoreFault). GivesFiles St conf.inbound conf.inbound_nonsecure (waiting (St held)) held r left) failed gives))).cause

  had_so : (command : Command) (challenge : List ℕ) (now : ℕ) (lines : LinesState) (disk : D) (told : Option ReportText) (had : Status) (lines' : LinesState) (disk' : D) → Over_disk tells content faults moment images command challenge now lines disk told had lines' disk' → DiskCause tells content faults had disk disk'
  had_so command challenge now lines disk told had lines' disk' (Not_set none why only lines_is) = unset_so tells content faults moment images disk disk' had why
  had_so command challenge now lines disk told had lines' disk' (No_call conf settings none why only lines_is) = no_call_so command conf disk disk' had why
  had_so command challenge now lines disk told had lines' disk' (Not_opened conf settings side are fault none had_is lines_is refused) = is_so (λ (x : Status). DiskCause tells content faults x disk disk') had (status_unopened fault (faults disk')) had_is (refused_so tells content faults moment images fault disk disk' refused)
  had_so command challenge now lines disk told had lines' disk' (No_index conf settings peer are unset none why only lines_is) = unindexed_so tells content faults moment images disk disk' had why
  had_so command challenge now lines disk told had lines' disk' (Bad_index conf settings peer are unset bad opened h none had_is lines_is disk_is) = is_so (λ (x : Status). DiskCause tells content faults x disk disk') had (S.FileBad index_name) had_is (λ telling. inr (refl, bad telling))
  had_so command challenge now lines disk told had lines' disk' (No_host conf settings peer are unset index reads unlisted opened h none had_is lines_is disk_is) = is_so (λ (x : Status). DiskCause tells content faults x disk disk') had S.NotFound had_is tt
  had_so command challenge now lines disk told had lines' disk' (Answered conf settings are opened held left h was answers gives disk_is) =
      subst (λ (x : D). DiskCause tells content faults had disk x) (sym disk_is)
      (behind_so conf told was had held left disk (answered_so (record { conf = conf; challenge = challenge; moment = now }) lines opened held told was lines' disk h.calm answers) gives)
  had_so command challenge now lines disk told had lines' disk' (Called conf settings peer are host has opened held left h was calls gives disk_is) =
      subst (λ (x : D). DiskCause tells content faults had disk x) (sym disk_is)
      (behind_so conf told was had held left disk (called_so peer (record { conf = conf; challenge = challenge; moment = now }) host lines opened held told was lines' disk h.calm calls) gives)

  -- a status that is told is the one that was had, or one that says nothing of the disk
  pub told_cause : (command : Command) (challenge : List ℕ) (now : ℕ) (lines : LinesState) (disk : D) (told : Option ReportText) (had status : Status) (lines' : LinesState) (disk' : D) (out out' : SinkState)
      → Over_disk tells content faults moment images command challenge now lines disk told had lines' disk' → Prints told had status out out' → DiskCause tells content faults status disk disk'
  told_cause command challenge now lines disk told had status lines' disk' out out' call prints = printed_disk tells content faults moment images (lines_told told) had status disk disk' out out' (had_so command challenge now lines disk told had lines' disk' call) prints
