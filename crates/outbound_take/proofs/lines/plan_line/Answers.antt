use Rattle.std.proofs.Common.{ap, []}
use Rattle.ftn_addr.specs.Address.{address}
use Rattle.flow_file.specs.Views.{item}
use Rattle.outbound_take.proofs.OurLemmas.{our_same}
use Rattle.outbound_take.proofs.PlanLemmas.{plan_absent, plan_over, plan_copied, can_be}
use Rattle.outbound_take.proofs.lines.plan_line.Goals as goal

pub returns-in-Ok-Absent-clause-works : goal.returns-in-Ok-Absent-clause-works
returns-in-Ok-Absent-clause-works g c = our_same _ _ _ _ _ c.in-Ok-Absent.ensures.kept

pub returns-in-Ok-Absent-clause-planned : goal.returns-in-Ok-Absent-clause-planned
returns-in-Ok-Absent-clause-planned g c = λ s tells. plan_absent (address c.args.dest.now) c.args.flavour s (item c.args.line) c.in-Send.action c.in-Send.path.list _ _ (ap item c.in-Send.is) (rw c.in-Ok-Absent.field-0-is at (c.in-Ok-Absent.ensures.told s tells))

pub returns-in-Ok-Over-clause-works : goal.returns-in-Ok-Over-clause-works
returns-in-Ok-Over-clause-works g c = our_same _ _ _ _ _ c.in-Ok-Over.ensures.kept

pub returns-in-Ok-Over-clause-planned : goal.returns-in-Ok-Over-clause-planned
returns-in-Ok-Over-clause-planned g c = λ s tells. plan_over (address c.args.dest.now) c.args.flavour s (item c.args.line) c.in-Send.action c.in-Send.path.list _ _ (ap item c.in-Send.is) (can_be _ _ _ c.as_slice.ensures c.if-not-can_queue.false c.can_queue.ensures) (rw c.in-Ok-Over.field-0-is at (c.in-Ok-Over.ensures.told s tells))

pub returns-in-Ok-clause-works : goal.returns-in-Ok-clause-works
returns-in-Ok-clause-works g c = our_same _ _ _ _ _ c.in-Ok-Copied.ensures.kept

pub returns-in-Ok-clause-planned : goal.returns-in-Ok-clause-planned
returns-in-Ok-clause-planned g c = λ s tells. plan_copied (address c.args.dest.now) c.args.flavour s (item c.args.line) c.in-Send.action c.in-Send.path.list c.in-Ok-Copied.number c.in-Ok-Copied.stat c.in-Ok.file _ _ (ap item c.in-Send.is) (can_be _ _ _ c.as_slice.ensures c.if-not-can_queue.false c.can_queue.ensures) (rw c.in-Ok-Copied.field-0-is at (c.in-Ok-Copied.ensures.told s tells)) c.in-Ok.ensures

pub returns-in-Err-file_of-clause-works : goal.returns-in-Err-file_of-clause-works
returns-in-Err-file_of-clause-works g c = ([], our_same _ _ _ _ _ c.in-Ok-Copied.ensures.kept)

pub returns-in-Err-clause-works : goal.returns-in-Err-clause-works
returns-in-Err-clause-works g c = ([], our_same _ _ _ _ _ c.in-Err.ensures.kept)
