use Rattle.std.proofs.Common.{◌∙◌, []}
use Rattle.outbound_take.proofs.OurLemmas.{our_on, our_calm}
use Rattle.outbound_take.proofs.PlanLemmas.{plan_more_fate, plan_more_file, new_fate, new_file, like_on}
use Rattle.outbound_take.proofs.RuledLemmas.{ruled_on}
use Rattle.outbound_take.proofs.lines.plan_lines.Goals as goal

pub plan_line-requires-clause-calm : goal.plan_line-requires-clause-calm
plan_line-requires-clause-calm g c = our_calm _ _ _ _ _ _ c.loop-line.invariant.works tt

pub returns-in-Err-add_fate-clause-works : goal.returns-in-Err-add_fate-clause-works
returns-in-Err-add_fate-clause-works g c = ([], our_on _ _ _ _ _ _ _ _ _ c.loop-line.invariant.works tt c.in-Ok-Is.ensures.works)

pub returns-in-Err-add_file-clause-works : goal.returns-in-Err-add_file-clause-works
returns-in-Err-add_file-clause-works g c = ([], our_on _ _ _ _ _ _ _ _ _ c.loop-line.invariant.works tt c.in-Ok-File.ensures.works)

pub returns-in-Err-clause-works : goal.returns-in-Err-clause-works
returns-in-Err-clause-works g c = (c.in-Err.ensures.works.0, our_on _ _ _ _ _ _ _ _ _ c.loop-line.invariant.works tt c.in-Err.ensures.works.1)

pub loop-line-preserved-in_default : goal.loop-line-preserved-in_default
loop-line-preserved-in_default g c = record {
  works = our_on _ _ _ _ _ _ _ _ _ c.loop-line.invariant.works tt c.in-Ok-Is.ensures.works;
  told_same = c.in-Ok-Is.ensures.told tt ∙ c.loop-line.invariant.told_same;
  memory = like_on _ _ _ c.loop-line.invariant.memory (c.in-Ok-Is.ensures.memory tt);
  staged = new_fate _ _ c.in-Ok-Is.fate _ _ c.loop-line.invariant.staged (rw c.in-Ok-Is.field-0-is at c.in-Ok-Is.ensures.stages) c.in_default.ensures.files;
  planned = λ s tells. plan_more_fate _ _ s.outside (g.S.Outgoing.stand c.loop-line.store).content (g.S.Outgoing.stand c.plan_line.new.store).content c.loop-line.yielded c.in-Some.line _ _ _ _ _ c.in-Ok-Is.fate (c.loop-line.invariant.planned s tells) c.unless_mark.ensures (rw c.in-Ok-Is.field-0-is at (c.in-Ok-Is.ensures.planned s (c.loop-line.invariant.told_same ∙ tells))) c.in_default.ensures.lines c.in_default.ensures.files;
  ruled = ruled_on _ _ _ _ c.loop-line.invariant.ruled c.in-Ok-Is.ensures.ruled;
}

pub loop-line-preserved : goal.loop-line-preserved
loop-line-preserved g c = record {
  works = our_on _ _ _ _ _ _ _ _ _ c.loop-line.invariant.works tt c.in-Ok-File.ensures.works;
  told_same = c.in-Ok-File.ensures.told tt ∙ c.loop-line.invariant.told_same;
  memory = like_on _ _ _ c.loop-line.invariant.memory (c.in-Ok-File.ensures.memory tt);
  staged = new_file _ _ c.in-Ok-File.file _ _ c.loop-line.invariant.staged (rw c.in-Ok-File.field-0-is at c.in-Ok-File.ensures.stages) c.in_default-add_file.ensures.files;
  planned = λ s tells. plan_more_file _ _ s.outside (g.S.Outgoing.stand c.loop-line.store).content (g.S.Outgoing.stand c.plan_line.new.store).content _ _ c.loop-line.yielded c.in-Some.line _ _ _ _ _ c.in-Ok-File.file (c.loop-line.invariant.planned s tells) c.loop-line.invariant.staged (rw c.in-Ok-File.field-0-is at c.in-Ok-File.ensures.stages) c.unless_mark.ensures (rw c.in-Ok-File.field-0-is at (c.in-Ok-File.ensures.planned s (c.loop-line.invariant.told_same ∙ tells))) c.in_default-add_file.ensures.lines c.in_default-add_file.ensures.files;
  ruled = ruled_on _ _ _ _ c.loop-line.invariant.ruled c.in-Ok-File.ensures.ruled;
}
