-- What a call that is Done says of its session, and the other way round.
use Rattle.std.proofs.Common.{◌≡◌, ◌⊎◌, ◌∙◌, ℕ, Option, refl, sym, ap, inl, inr}
use Rattle.ftn_addr.specs.Counts.{next_count}
use Rattle.binkp_link.specs.Lines.{SinkState}
use Rattle.session_core.specs.Ends.{End}
use Rattle.session_core.specs.Ends as E
use Rattle.session_run.specs.Reports.{ReportText, report_text}
use Rattle.binkp_mailer.specs.declared.report.Outcome.{Outcome}
use Rattle.binkp_mailer.specs.declared.report.Outcome.TheVariants as O
use Rattle.command_base.specs.declared.settings.SettingsFault.{SettingsFault}
use Rattle.command_base.specs.declared.settings.SettingsFault.TheVariants as U
use Rattle.binkp_mailer.specs.Completeness.{HasFinished, IsDoneBehind}
use Rattle.command_base.specs.Printing.{lines_put, no_room, all_put, put_failed}
use Rattle.binkp_mailer.specs.Reports.{Prints, had_of, told_of}
use Rattle.command_base.specs.Statuses as S
use Rattle.nodelist_files.specs.Files.{index_name}
use Rattle.nodelist_files.specs.declared.fault.IndexFileFault.{IndexFileFault}
use Rattle.nodelist_files.specs.declared.fault.IndexFileFault.TheVariants as I
use Rattle.node_store.specs.declared.opening.fault.StoreOpenFault.{StoreOpenFault}
use Rattle.node_store.specs.declared.opening.fault.StoreOpenFault.TheVariants as F
use Rattle.command_base.specs.Statuses.{Status, status_after, status_unindexed, status_unopened, status_unset}

after_done : (end : End) → status_after end ≡ S.Done → end ≡ E.Finished
after_done E.Finished is = refl
after_done (E.PeerError text) is = absurd (let clash : (S.PeerError text) ≡ S.Done = is in cc)
after_done E.PeerBusy is = absurd (let clash : S.PeerBusy ≡ S.Done = is in cc)
after_done (E.BadPassword wanted given) is = absurd (let clash : S.BadPassword ≡ S.Done = is in cc)
after_done (E.Broke cause n) is = absurd (let clash : (S.Broke cause n) ≡ S.Done = is in cc)
after_done E.Dropped is = absurd (let clash : S.Dropped ≡ S.Done = is in cc)
after_done E.LineFault is = absurd (let clash : S.LineFault ≡ S.Done = is in cc)
after_done (E.DiskFault count) is = absurd (let clash : (S.DiskFault count) ≡ S.Done = is in cc)
after_done E.LedgerFull is = absurd (let clash : S.LedgerFull ≡ S.Done = is in cc)
after_done E.Quiet is = absurd (let clash : S.Quiet ≡ S.Done = is in cc)
after_done E.Endless is = absurd (let clash : S.Endless ≡ S.Done = is in cc)
after_done E.TurnedAway is = absurd (let clash : S.TurnedAway ≡ S.Done = is in cc)
after_done E.NoMemory is = absurd (let clash : S.NoMemory ≡ S.Done = is in cc)

-- a session that finished has Done, or the disk failed behind it
finished_had : (outcome : Outcome) → HasFinished (told_of outcome) → (had_of outcome ≡ S.Done) ⊎ ((count : ℕ) × (had_of outcome ≡ S.DiskFault count))
finished_had O.Usage h = absurd h
finished_had O.NoMemory h = absurd h
finished_had O.NotFound h = absurd h
finished_had (O.Unindexed fault faults) h = absurd h
finished_had (O.Unset fault faults) h = absurd h
finished_had (O.Unopened fault faults) h = absurd h
finished_had (O.Marked name) h = absurd h
finished_had O.NoCaller h = absurd h
finished_had O.NoLine h = absurd h
finished_had (O.Unmarked faults) h = absurd h
finished_had (O.Held report) h = inl (ap status_after h)
finished_had (O.Ungiven report faults) h = inr (faults, refl)

unopened_not_done : (fault : StoreOpenFault) (faults : ℕ) → status_unopened fault faults ≡ S.Done → ⊥
unopened_not_done F.Disk faults is = let clash : S.DiskFault faults ≡ S.Done = is in cc
unopened_not_done (F.LedgerBad place) faults is = let clash : S.LedgerBad place ≡ S.Done = is in cc
unopened_not_done (F.FileBad name) faults is = let clash : S.FileBad name ≡ S.Done = is in cc
unopened_not_done F.NoMemory faults is = let clash : S.NoMemory ≡ S.Done = is in cc

unset_not_done : (fault : SettingsFault) (faults : ℕ) → status_unset fault faults ≡ S.Done → ⊥
unset_not_done (U.Refused fault) faults is = let clash : S.ConfBad fault ≡ S.Done = is in cc
unset_not_done U.Disk faults is = let clash : S.DiskFault faults ≡ S.Done = is in cc
unset_not_done U.NoMemory faults is = let clash : S.NoMemory ≡ S.Done = is in cc

unindexed_not_done : (fault : IndexFileFault) (faults : ℕ) → status_unindexed fault faults ≡ S.Done → ⊥
unindexed_not_done I.Disk faults is = let clash : S.DiskFault faults ≡ S.Done = is in cc
unindexed_not_done I.Bad faults is = let clash : S.FileBad index_name ≡ S.Done = is in cc
unindexed_not_done I.NoMemory faults is = let clash : S.NoMemory ≡ S.Done = is in cc

had_finished : (outcome : Outcome) → had_of outcome ≡ S.Done → HasFinished (told_of outcome)
had_finished O.Usage is = absurd (let clash : S.Usage ≡ S.Done = is in cc)
had_finished O.NoMemory is = absurd (let clash : S.NoMemory ≡ S.Done = is in cc)
had_finished O.NotFound is = absurd (let clash : S.NotFound ≡ S.Done = is in cc)
had_finished (O.Unindexed fault faults) is = absurd (unindexed_not_done fault faults is)
had_finished (O.Unset fault faults) is = absurd (unset_not_done fault faults is)
had_finished (O.Unopened fault faults) is = absurd (unopened_not_done fault faults is)
had_finished (O.Marked name) is = absurd (let clash : S.Marked name.list ≡ S.Done = is in cc)
had_finished O.NoCaller is = absurd (let clash : S.Dropped ≡ S.Done = is in cc)
had_finished O.NoLine is = absurd (let clash : S.LineFault ≡ S.Done = is in cc)
had_finished (O.Unmarked faults) is = absurd (let clash : S.DiskFault faults ≡ S.Done = is in cc)
had_finished (O.Held report) is = after_done (report_text report).end is
had_finished (O.Ungiven report faults) is = absurd (let clash : S.DiskFault faults ≡ S.Done = is in cc)

-- Done is answered only where it was had.
printed_only : (told : Option ReportText) (had status : Status) (out out' : SinkState) → Prints told had status out out' → status ≡ S.Done → had ≡ S.Done
printed_only told had status out out' (lines_put (all_put is puts)) done = sym is ∙ done
printed_only told had status out out' (lines_put (put_failed is puts)) done = absurd (let clash : S.OutFault ≡ S.Done = sym is ∙ done in cc)
printed_only told had status out out' (no_room (all_put is puts)) done = absurd (let clash : S.NoMemory ≡ S.Done = sym is ∙ done in cc)
printed_only told had status out out' (no_room (put_failed is puts)) done = absurd (let clash : S.OutFault ≡ S.Done = sym is ∙ done in cc)

-- what was had is answered, but for want of memory and a put that fails
printed_always : (told : Option ReportText) (had status : Status) (out out' : SinkState) → Prints told had status out out' → (status ≡ had) ⊎ ((status ≡ S.NoMemory) ⊎ ((status ≡ S.OutFault) × (out'.faults ≡ next_count out.faults)))
printed_always told had status out out' (lines_put (all_put is puts)) = inl is
printed_always told had status out out' (lines_put (put_failed is puts)) = inr (inr (is, puts.faults))
printed_always told had status out out' (no_room (all_put is puts)) = inr (inl is)
printed_always told had status out out' (no_room (put_failed is puts)) = inr (inr (is, puts.faults))

-- what may be answered in place of a status
abbrev Turned : Status → SinkState → SinkState → Type 0
Turned status out out' = (status ≡ S.NoMemory) ⊎ ((status ≡ S.OutFault) × (out'.faults ≡ next_count out.faults))

pub printed_behind : (outcome : Outcome) (status : Status) (out out' : SinkState) → Prints (told_of outcome) (had_of outcome) status out out' → IsDoneBehind (told_of outcome) status out out'
printed_behind outcome status out out' p = record {
  only = λ done. had_finished outcome (printed_only (told_of outcome) (had_of outcome) status out out' p done);
  always = λ finished. go (finished_had outcome finished) (printed_always (told_of outcome) (had_of outcome) status out out' p);
}
  where
    go : (had_of outcome ≡ S.Done) ⊎ ((count : ℕ) × (had_of outcome ≡ S.DiskFault count)) → (status ≡ had_of outcome) ⊎ Turned status out out'
        → (status ≡ S.Done) ⊎ (((count : ℕ) × (status ≡ S.DiskFault count)) ⊎ Turned status out out')
    go (inl done) (inl is) = inl (is ∙ done)
    go (inr failed) (inl is) = inr (inl (failed.0, is ∙ failed.1))
    go either (inr other) = inr (inr other)
