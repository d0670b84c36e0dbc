use Rattle.std.proofs.Common.{◌∙◌, List, [], map, subst}
use Rattle.ftn_addr.specs.Address.{address}
use Rattle.flow_file.specs.Item.{FlowItem}
use Rattle.node_model.specs.StoreWords.{entry_of}
use Rattle.outbound_take.specs.Calls.{bodies_of}
use Rattle.outbound_take.specs.Plans.{Planned}
use Rattle.outbound_take.proofs.OurLemmas.{our_on, our_calm, our_same}
use Rattle.outbound_take.proofs.PlanLemmas.{lines_read}
use Rattle.outbound_take.proofs.QueueLemmas.{flow_plan}
use Rattle.outbound_take.proofs.RuledLemmas.{ruled_on, ruled_one}
use Rattle.outbound_take.proofs.WorkLemmas.{same_told}
use Rattle.outbound_take.proofs.queueing.plan_flow.Goals as goal

pub returns-in-Err-clause-works : goal.returns-in-Err-clause-works
returns-in-Err-clause-works g c = ([], our_same _ _ _ _ _ c.in-Err.ensures.kept)

pub returns-in-Err-clause-told : goal.returns-in-Err-clause-told
returns-in-Err-clause-told g c = λ u. same_told _ _ _ c.in-Err.ensures.kept u

pub returns-in-Err-read_flow-clause-works : goal.returns-in-Err-read_flow-clause-works
returns-in-Err-read_flow-clause-works g c = ([], our_same _ _ _ _ _ c.in-Ok.ensures.kept)

pub returns-in-Err-read_flow-clause-told : goal.returns-in-Err-read_flow-clause-told
returns-in-Err-read_flow-clause-told g c = λ u. same_told _ _ _ c.in-Ok.ensures.kept u

pub plan_lines-requires-clause-calm : goal.plan_lines-requires-clause-calm
plan_lines-requires-clause-calm g c = our_calm (address c.args.dest.now) c.args.now _ _ _ _ (our_same _ _ _ _ _ c.in-Ok.ensures.kept) tt

pub returns-clause-works : goal.returns-clause-works
returns-clause-works g c = (c.in-Err-plan_lines.ensures.works.0, our_on _ _ _ _ _ _ _ _ _ (our_same _ _ _ _ _ c.in-Ok.ensures.kept) tt c.in-Err-plan_lines.ensures.works.1)

pub returns-clause-told : goal.returns-clause-told
returns-clause-told g c = λ u. c.in-Err-plan_lines.ensures.told u ∙ same_told _ _ _ c.in-Ok.ensures.kept tt

pub returns-in-Ok-plan_lines-clause-works : goal.returns-in-Ok-plan_lines-clause-works
returns-in-Ok-plan_lines-clause-works g c = our_on _ _ _ _ _ _ _ _ _ (our_same _ _ _ _ _ c.in-Ok.ensures.kept) tt c.in-Ok-plan_lines.ensures.works

pub returns-in-Ok-plan_lines-clause-told : goal.returns-in-Ok-plan_lines-clause-told
returns-in-Ok-plan_lines-clause-told g c = λ u. c.in-Ok-plan_lines.ensures.told tt ∙ same_told _ _ _ c.in-Ok.ensures.kept tt

pub returns-in-Ok-plan_lines-clause-planned : goal.returns-in-Ok-plan_lines-clause-planned
returns-in-Ok-plan_lines-clause-planned g c = λ s tells.
    flow_plan (address c.args.dest.now) c.args.flavour c.args.now c.args.own.now c.in-Ok.bytes.list s (bodies_of (g.S.Outgoing.stand c.plan_lines.new.store).content) c.in-Ok-plan_lines.plans.lines.items (map entry_of c.in-Ok-plan_lines.plans.files.items)
    (c.in-Ok.ensures.told s tells)
    (subst (λ (is : List FlowItem). Planned (address c.args.dest.now) c.args.flavour s.outside (bodies_of (g.S.Outgoing.stand c.plan_lines.new.store).content) is c.in-Ok-plan_lines.plans.lines.items (map entry_of c.in-Ok-plan_lines.plans.files.items))
    (lines_read c.in-Ok-read_flow.lines.items c.in-Ok.bytes.list _ c.in-Ok-read_flow.ensures c.as_slice.ensures)
    (c.in-Ok-plan_lines.ensures.planned s (same_told _ _ _ c.in-Ok.ensures.kept tt ∙ tells)))

pub returns-in-Err-clause-ruled : goal.returns-in-Err-clause-ruled
returns-in-Err-clause-ruled g c = ruled_one _ _ _ c.in-Err.ensures.rule

pub returns-in-Err-read_flow-clause-ruled : goal.returns-in-Err-read_flow-clause-ruled
returns-in-Err-read_flow-clause-ruled g c = ruled_one _ _ _ c.in-Ok.ensures.rule

pub returns-clause-ruled : goal.returns-clause-ruled
returns-clause-ruled g c = ruled_on _ _ _ _ (ruled_one _ _ _ c.in-Ok.ensures.rule) c.in-Err-plan_lines.ensures.ruled

pub returns-in-Ok-plan_lines-clause-ruled : goal.returns-in-Ok-plan_lines-clause-ruled
returns-in-Ok-plan_lines-clause-ruled g c = ruled_on _ _ _ _ (ruled_one _ _ _ c.in-Ok.ensures.rule) c.in-Ok-plan_lines.ensures.ruled
