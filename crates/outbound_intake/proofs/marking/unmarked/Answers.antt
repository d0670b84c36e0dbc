use Rattle.std.proofs.Common.{Err, Ok}
use Rattle.outbound_take.proofs.OurLemmas.{our_unmark}
use Rattle.outbound_intake.proofs.FaultLemmas.{broke_at, settled_breaks}
use Rattle.outbound_intake.proofs.MarkLemmas.{unmark_frees, works_unsettled}
use Rattle.outbound_intake.proofs.marking.unmarked.Goals as goal

pub returns-in-Ok-clause-works : goal.returns-in-Ok-clause-works
returns-in-Ok-clause-works g c = works_unsettled _ (Unit {0}) _ _ _ _ (λ settled. tt) (our_unmark _ _ c.args.mark.now.path.list c.args.mark.now.text.list (Ok tt) _ _ c.in-Ok.ensures.kept)

pub returns-in-Ok-clause-frees : goal.returns-in-Ok-clause-frees
returns-in-Ok-clause-frees g c = λ settled marked. unmark_frees c.args.mark.now.path.list c.args.mark.now.text.list _ _ c.in-Ok.ensures.kept marked

pub returns-in-Err-clause-works : goal.returns-in-Err-clause-works
returns-in-Err-clause-works g c = works_unsettled _ _ _ _ _ _ (λ no. absurd no) (our_unmark _ _ c.args.mark.now.path.list c.args.mark.now.text.list (Err c.in-Err.field-0) _ _ c.in-Err.ensures.kept)

pub returns-in-Ok-clause-breaks : goal.returns-in-Ok-clause-breaks
returns-in-Ok-clause-breaks g c = settled_breaks c.args.fault _ c.requires.settles

pub returns-in-Err-clause-breaks : goal.returns-in-Err-clause-breaks
returns-in-Err-clause-breaks g c = broke_at (Unit {0}) c.in-Err.field-0 _ c.in-Err.ensures.fault c.in-Err.ensures.breaks
