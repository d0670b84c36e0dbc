use Rattle.std.proofs.Common.{◌≡◌, ◌≢◌, ◌∙◌, [], Err, List, None, Ok, Some, ℕ, ap, subst}
use Rattle.ftn_addr.specs.Address.{address}
use Rattle.bso_outbound.specs.Paths.{last_part}
use Rattle.disk_model.specs.declared.answers.Marking.{Marking}
use Rattle.outbound_take.specs.declared.words.Taken.{Taken}
use Rattle.outbound_take.specs.Stand.{told}
use Rattle.outbound_take.proofs.OurLemmas.{our_mark, our_marked, our_unmark}
use Rattle.outbound_take.proofs.SpareLemmas.{files_spared}
use Rattle.outbound_take.proofs.WorkLemmas.{works_none, works_on}
use Rattle.outbound_take.proofs.RuledLemmas.{ruled_call, ruled_on, ruled_one}
use Rattle.outbound_intake.specs.Answers.{EndsMark, Freed}
use Rattle.outbound_intake.proofs.FaultLemmas.{broke_at, never_read}
use Rattle.outbound_intake.proofs.MarkLemmas.{by_text, done_unmarked, ends_own, is_made, mark_stands, only_takes, overs_unmarked, settled_at, stood, unmark_frees, works_between, works_unsettled}
use Rattle.outbound_intake.proofs.intake.take_in.Goals as goal

pub returns-in-Err-clause-works : goal.returns-in-Err-clause-works
returns-in-Err-clause-works g c = ([], works_none _ _ _ c.requires.calm)

pub returns-in-Ok-Exists-clause-works : goal.returns-in-Ok-Exists-clause-works
returns-in-Ok-Exists-clause-works g c = ([], by_text _ _ _ _ _ _ _ _ c.in-Ok.ensures.text (our_mark _ _ c.in-Ok.mark.path.list c.in-Ok.mark.text.list (Ok c.in-Ok-Exists.field-0) _ _ c.in-Ok-Exists.ensures.kept))

pub returns-in-Ok-Exists-clause-marked : goal.returns-in-Ok-Exists-clause-marked
returns-in-Ok-Exists-clause-marked g c = (
  c.in-Ok.ensures.name ∙ ap last_part c.in-Ok.ensures.path,
  λ s tells. subst (λ (p : List ℕ). (s.outside p ≢ None) × (told (g.S.Outgoing.stand c.mark.new.self) ≡ Some s)) c.in-Ok.ensures.path (stood c.in-Ok.mark.path.list c.in-Ok.mark.text.list _ _ _ c.in-Ok-Exists.field-0-is c.in-Ok-Exists.ensures.kept s tells),
)

pub returns-in-Err-mark-clause-works : goal.returns-in-Err-mark-clause-works
returns-in-Err-mark-clause-works g c = ([], by_text _ _ _ _ _ _ _ _ c.in-Ok.ensures.text (works_unsettled _ _ _ _ _ _ (λ no. absurd no) (our_mark _ _ c.in-Ok.mark.path.list c.in-Ok.mark.text.list (Err c.in-Err-mark.field-0) _ _ c.in-Err-mark.ensures.kept)))

pub returns-in-Ok-unmark-clause-works : goal.returns-in-Ok-unmark-clause-works
returns-in-Ok-unmark-clause-works g c = by_text _ _ _ _ _ _ _ _ c.in-Ok.ensures.text
    (works_between _ _ c.in-Ok.mark.text.list _ _ _ _ _ _ (our_mark _ _ c.in-Ok.mark.path.list c.in-Ok.mark.text.list (Ok c.in-Ok-Made.field-0) _ _ c.in-Ok-Made.ensures.kept) (our_marked _ _ c.in-Ok.mark.text.list _ _ _ _ c.in-Ok-take_all.ensures.works) (our_unmark _ _ c.in-Ok.mark.path.list c.in-Ok.mark.text.list (Ok tt) _ _ c.in-Ok-unmark.ensures.kept))

pub returns-in-Ok-unmark-clause-left : goal.returns-in-Ok-unmark-clause-left
returns-in-Ok-unmark-clause-left g c = only_takes _ _ _ _ _ c.tied.ensures (c.in-Ok-unmark.ensures.memory tt).left c.in-Ok-take_all.ensures.left

pub returns-in-Ok-unmark-clause-over : goal.returns-in-Ok-unmark-clause-over
returns-in-Ok-unmark-clause-over g c = overs_unmarked _ _ c.in-Ok.mark.path.list c.in-Ok.mark.text.list _ _ c.in-Ok-unmark.ensures.kept c.in-Ok-take_all.ensures.over

pub returns-in-Ok-unmark-clause-done : goal.returns-in-Ok-unmark-clause-done
returns-in-Ok-unmark-clause-done g c = done_unmarked c.args.outbound.now.base.now.list c.args.outbound.now.zone c.args.outbound.now.home.now.domain.list (address c.args.dest.now) c.in-Ok.mark.path.list c.in-Ok.mark.text.list _ _ c.in-Ok-unmark.ensures.kept c.in-Ok-take_all.ensures.done

pub returns-in-Ok-unmark-clause-mark : goal.returns-in-Ok-unmark-clause-mark
returns-in-Ok-unmark-clause-mark g c =
    subst (λ (p : List ℕ). Freed p (told (g.S.Outgoing.stand c.unmark.new.self))) c.in-Ok.ensures.path
    (unmark_frees c.in-Ok.mark.path.list c.in-Ok.mark.text.list _ _ c.in-Ok-unmark.ensures.kept
    (mark_stands c.in-Ok.mark.path.list c.in-Ok.mark.text.list _ _ _ (is_made c.in-Ok.mark.path.list c.in-Ok.mark.text.list _ _ _ c.in-Ok-Made.field-0-is c.in-Ok-Made.ensures.kept) c.in-Ok-take_all.ensures.works.silent (files_spared _ _ _ _ _ _ c.in-Ok-take_all.ensures.works tt)))

pub returns-in-Ok-take_all-clause-works : goal.returns-in-Ok-take_all-clause-works
returns-in-Ok-take_all-clause-works g c = (
  _,
  by_text _ _ _ _ _ _ _ _ c.in-Ok.ensures.text
      (works_unsettled _ _ _ _ _ _ (λ no. absurd no)
      (works_between _ _ c.in-Ok.mark.text.list _ _ _ _ _ _ (our_mark _ _ c.in-Ok.mark.path.list c.in-Ok.mark.text.list (Ok c.in-Ok-Made.field-0) _ _ c.in-Ok-Made.ensures.kept) (our_marked _ _ c.in-Ok.mark.text.list _ _ _ _ c.in-Ok-take_all.ensures.works) (our_unmark _ _ c.in-Ok.mark.path.list c.in-Ok.mark.text.list (Err c.in-Err-unmark.field-0) _ _ c.in-Err-unmark.ensures.kept))),
)

pub returns-in-Err-Disk-clause-works : goal.returns-in-Err-Disk-clause-works
returns-in-Err-Disk-clause-works g c = (
  _,
  by_text _ _ _ _ _ _ _ _ c.in-Ok.ensures.text
      (works_unsettled _ _ _ _ _ _ (λ no. absurd no) (works_on _ _ _ _ _ _ _ _ (our_mark _ _ c.in-Ok.mark.path.list c.in-Ok.mark.text.list (Ok c.in-Ok-Made.field-0) _ _ c.in-Ok-Made.ensures.kept) tt (our_marked _ _ c.in-Ok.mark.text.list _ _ _ _ c.in-Err-Disk.ensures.works.1))),
)

pub returns-in-Err-Read-clause-works : goal.returns-in-Err-Read-clause-works
returns-in-Err-Read-clause-works g c = (
  _,
  by_text _ _ _ _ _ _ _ _ c.in-Ok.ensures.text
      (works_unsettled _ _ _ _ _ _ (λ no. absurd no) (works_on _ _ _ _ _ _ _ _ (our_mark _ _ c.in-Ok.mark.path.list c.in-Ok.mark.text.list (Ok c.in-Ok-Made.field-0) _ _ c.in-Ok-Made.ensures.kept) tt (our_marked _ _ c.in-Ok.mark.text.list _ _ _ _ c.in-Err-Read.ensures.works.1))),
)

pub returns-in-Err-Full-clause-works : goal.returns-in-Err-Full-clause-works
returns-in-Err-Full-clause-works g c = (
  _,
  by_text _ _ _ _ _ _ _ _ c.in-Ok.ensures.text
      (works_between _ _ c.in-Ok.mark.text.list _ _ _ _ _ _ (our_mark _ _ c.in-Ok.mark.path.list c.in-Ok.mark.text.list (Ok c.in-Ok-Made.field-0) _ _ c.in-Ok-Made.ensures.kept)
      (works_unsettled _ _ (Unit {0}) _ _ _ (λ u. settled_at _ _ c.in-Err-Full.field-0-is tt) (our_marked _ _ c.in-Ok.mark.text.list _ _ _ _ c.in-Err-Full.ensures.works.1)) c.unmarked.ensures.works),
)

pub returns-in-Err-Full-clause-mark : goal.returns-in-Err-Full-clause-mark
returns-in-Err-Full-clause-mark g c =
    subst (λ (p : List ℕ). EndsMark p (Err c.unmarked.result) (told (g.S.Outgoing.stand c.args.store.now)) (told (g.S.Outgoing.stand c.unmarked.new.store))) c.in-Ok.ensures.path
    (ends_own c.in-Ok.mark.path.list c.unmarked.result _ _ c.unmarked.ensures.fault
    (λ settled. c.unmarked.ensures.frees settled
    (mark_stands c.in-Ok.mark.path.list c.in-Ok.mark.text.list _ _ _ (is_made c.in-Ok.mark.path.list c.in-Ok.mark.text.list _ _ _ c.in-Ok-Made.field-0-is c.in-Ok-Made.ensures.kept) c.in-Err-Full.ensures.works.1.silent (files_spared _ _ _ _ _ _ c.in-Err-Full.ensures.works.1 (settled_at _ _ c.in-Err-Full.field-0-is tt)))))

pub returns-clause-works : goal.returns-clause-works
returns-clause-works g c = (
  _,
  by_text _ _ _ _ _ _ _ _ c.in-Ok.ensures.text
      (works_between _ _ c.in-Ok.mark.text.list _ _ _ _ _ _ (our_mark _ _ c.in-Ok.mark.path.list c.in-Ok.mark.text.list (Ok c.in-Ok-Made.field-0) _ _ c.in-Ok-Made.ensures.kept)
      (works_unsettled _ _ (Unit {0}) _ _ _ (λ u. settled_at _ _ c.in-Err-NoMemory.field-0-is tt) (our_marked _ _ c.in-Ok.mark.text.list _ _ _ _ c.in-Err-NoMemory.ensures.works.1)) c.unmarked-in-Err-NoMemory.ensures.works),
)

pub returns-clause-mark : goal.returns-clause-mark
returns-clause-mark g c =
    subst (λ (p : List ℕ). EndsMark p (Err c.unmarked-in-Err-NoMemory.result) (told (g.S.Outgoing.stand c.args.store.now)) (told (g.S.Outgoing.stand c.unmarked-in-Err-NoMemory.new.store))) c.in-Ok.ensures.path
    (ends_own c.in-Ok.mark.path.list c.unmarked-in-Err-NoMemory.result _ _ c.unmarked-in-Err-NoMemory.ensures.fault
    (λ settled. c.unmarked-in-Err-NoMemory.ensures.frees settled
    (mark_stands c.in-Ok.mark.path.list c.in-Ok.mark.text.list _ _ _ (is_made c.in-Ok.mark.path.list c.in-Ok.mark.text.list _ _ _ c.in-Ok-Made.field-0-is c.in-Ok-Made.ensures.kept) c.in-Err-NoMemory.ensures.works.1.silent (files_spared _ _ _ _ _ _ c.in-Err-NoMemory.ensures.works.1 (settled_at _ _ c.in-Err-NoMemory.field-0-is tt)))))

pub returns-in-Err-mark-clause-breaks : goal.returns-in-Err-mark-clause-breaks
returns-in-Err-mark-clause-breaks g c = broke_at Marking c.in-Err-mark.field-0 _ c.in-Err-mark.ensures.fault c.in-Err-mark.ensures.breaks

pub returns-in-Ok-unmark-clause-ruled : goal.returns-in-Ok-unmark-clause-ruled
returns-in-Ok-unmark-clause-ruled g c = ruled_call _ _ _ _ (ruled_on _ _ _ _ (ruled_one _ _ _ c.in-Ok-Made.ensures.rule) c.in-Ok-take_all.ensures.ruled) c.in-Ok-unmark.ensures.rule

pub returns-in-Ok-take_all-clause-ruled : goal.returns-in-Ok-take_all-clause-ruled
returns-in-Ok-take_all-clause-ruled g c = ruled_call _ _ _ _ (ruled_on _ _ _ _ (ruled_one _ _ _ c.in-Ok-Made.ensures.rule) c.in-Ok-take_all.ensures.ruled) c.in-Err-unmark.ensures.rule

pub returns-in-Ok-take_all-clause-breaks : goal.returns-in-Ok-take_all-clause-breaks
returns-in-Ok-take_all-clause-breaks g c = broke_at (Unit {0}) c.in-Err-unmark.field-0 _ c.in-Err-unmark.ensures.fault c.in-Err-unmark.ensures.breaks

pub returns-in-Err-Disk-clause-ruled : goal.returns-in-Err-Disk-clause-ruled
returns-in-Err-Disk-clause-ruled g c = ruled_on _ _ _ _ (ruled_one _ _ _ c.in-Ok-Made.ensures.rule) c.in-Err-Disk.ensures.ruled

pub returns-in-Err-Disk-clause-breaks : goal.returns-in-Err-Disk-clause-breaks
returns-in-Err-Disk-clause-breaks g c = broke_at Taken c.in-Err-Disk.field-0 _ c.in-Err-Disk.field-0-is c.in-Err-Disk.ensures.breaks

pub returns-in-Err-Read-clause-ruled : goal.returns-in-Err-Read-clause-ruled
returns-in-Err-Read-clause-ruled g c = ruled_on _ _ _ _ (ruled_one _ _ _ c.in-Ok-Made.ensures.rule) c.in-Err-Read.ensures.ruled

pub returns-in-Err-Read-clause-breaks : goal.returns-in-Err-Read-clause-breaks
returns-in-Err-Read-clause-breaks g c = absurd (never_read Taken c.in-Err-Read.field-0 _ c.in-Err-Read.field-0-is c.in-Err-Read.ensures.breaks)

pub returns-in-Err-Full-clause-ruled : goal.returns-in-Err-Full-clause-ruled
returns-in-Err-Full-clause-ruled g c = ruled_on _ _ _ _ (ruled_on _ _ _ _ (ruled_one _ _ _ c.in-Ok-Made.ensures.rule) c.in-Err-Full.ensures.ruled) c.unmarked.ensures.ruled

pub returns-clause-ruled : goal.returns-clause-ruled
returns-clause-ruled g c = ruled_on _ _ _ _ (ruled_on _ _ _ _ (ruled_one _ _ _ c.in-Ok-Made.ensures.rule) c.in-Err-NoMemory.ensures.ruled) c.unmarked-in-Err-NoMemory.ensures.ruled
