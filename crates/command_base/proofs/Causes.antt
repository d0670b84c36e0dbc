-- What the status of a command tells of the disk.
use Rattle.std.proofs.Common.{◌≡◌, ◌⊎◌, ℕ, Bool, List, refl, sym, subst, inl, inr}
use Rattle.ftn_addr.proofs.CountsGrow.{count_grew-refl}
use Rattle.disk_model.specs.World.{World}
use Rattle.node_store.specs.declared.opening.fault.StoreOpenFault.{StoreOpenFault}
use Rattle.node_store.specs.declared.opening.fault.StoreOpenFault.TheVariants as F
use Rattle.binkp_link.specs.Lines.{SinkState}
use Rattle.command_base.specs.Causes.{DiskCause, NoIndex}
use Rattle.command_base.specs.Opening.{HasRefused}
use Rattle.command_base.specs.Printing.{PrintsLines, lines_put, no_room, all_put, put_failed}
use Rattle.command_base.specs.Settings.{NoSettings, Is_refused, Has_failed, Had_no_memory}
use Rattle.command_base.specs.Statuses as S
use Rattle.command_base.specs.Statuses.{Status, status_unopened}

module _ {D : Type 0} (tells : Bool) (content : D → World) (faults : D → ℕ) (moment : D → ℕ) (images : D → ℕ → World → Type 0) where
  pub said_none : (disk disk' : D) (had : Status) → had ≡ S.Usage → DiskCause tells content faults had disk disk'
  said_none disk disk' had is = subst (λ (x : Status). DiskCause tells content faults x disk disk') (sym is) tt

  pub had_no_memory : (disk disk' : D) (had : Status) → had ≡ S.NoMemory → DiskCause tells content faults had disk disk'
  had_no_memory disk disk' had is = subst (λ (x : Status). DiskCause tells content faults x disk disk') (sym is) tt

  pub unset_so : (disk disk' : D) (had : Status) → NoSettings tells content faults moment images disk disk' had → DiskCause tells content faults had disk disk'
  unset_so disk disk' had (Is_refused fault is own why) = subst (λ (x : Status). DiskCause tells content faults x disk disk') (sym is) why
  unset_so disk disk' had (Has_failed is rose) = subst (λ (x : Status). DiskCause tells content faults x disk disk') (sym is) (rose, count_grew-refl (faults disk'))
  unset_so disk disk' had (Had_no_memory is) = had_no_memory disk disk' had is

  why_not : {A : Type 0} (fault : StoreOpenFault) → (fault ≡ F.Disk → ⊥) → (fault ≡ F.NoMemory → ⊥) → (fault ≡ F.Disk) ⊎ ((fault ≡ F.NoMemory) ⊎ A) → A
  why_not fault disk memory (inl is) = absurd (disk is)
  why_not fault disk memory (inr (inl is)) = absurd (memory is)
  why_not fault disk memory (inr (inr why)) = why

  pub refused_so : (fault : StoreOpenFault) (disk disk' : D) → HasRefused tells content faults moment images fault disk disk' → DiskCause tells content faults (status_unopened fault (faults disk')) disk disk'
  refused_so F.Disk disk disk' r = (r.failed refl, count_grew-refl (faults disk'))
  refused_so (F.LedgerBad place) disk disk' r = why_not (F.LedgerBad place) (λ is. let clash : F.LedgerBad place ≡ F.Disk = is in cc) (λ is. let clash : F.LedgerBad place ≡ F.NoMemory = is in cc) r.why
  refused_so (F.FileBad name) disk disk' r = λ telling. inl (why_not (F.FileBad name) (λ is. let clash : F.FileBad name ≡ F.Disk = is in cc) (λ is. let clash : F.FileBad name ≡ F.NoMemory = is in cc) r.why telling)
  refused_so F.NoMemory disk disk' r = tt

  pub unindexed_so : (disk disk' : D) (had : Status) → NoIndex faults disk disk' had → DiskCause tells content faults had disk disk'
  unindexed_so disk disk' had (inl failed) = subst (λ (x : Status). DiskCause tells content faults x disk disk') (sym failed.0) (failed.1, count_grew-refl (faults disk'))
  unindexed_so disk disk' had (inr is) = had_no_memory disk disk' had is

  -- a status that is told is the one that was had, or one that says nothing of the disk
  pub printed_disk : (lines : List ℕ) (had status : Status) (disk disk' : D) (out out' : SinkState) → DiskCause tells content faults had disk disk' → PrintsLines lines had status out out' → DiskCause tells content faults status disk disk'
  printed_disk lines had status disk disk' out out' cause (lines_put (all_put is puts)) = subst (λ (x : Status). DiskCause tells content faults x disk disk') (sym is) cause
  printed_disk lines had status disk disk' out out' cause (lines_put (put_failed is puts)) = subst (λ (x : Status). DiskCause tells content faults x disk disk') (sym is) tt
  printed_disk lines had status disk disk' out out' cause (no_room (all_put is puts)) = subst (λ (x : Status). DiskCause tells content faults x disk disk') (sym is) tt
  printed_disk lines had status disk disk' out out' cause (no_room (put_failed is puts)) = subst (λ (x : Status). DiskCause tells content faults x disk disk') (sym is) tt
