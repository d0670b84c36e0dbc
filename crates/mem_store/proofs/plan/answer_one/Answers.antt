use Rattle.std.proofs.Common.{◌==◌, position, sym, ◌∙◌, ap}
use Rattle.node_model.specs.Items.{Receipt}
use Rattle.mem_store.proofs.Answering.{none_answered, one_answered}
use Rattle.mem_store.proofs.plan.answer_one.Goals as goal

pub returns-in_default-clause-items : goal.returns-in_default-clause-items
returns-in_default-clause-items c =
    none_answered c.args.number c.args.inbox.now.items (ap (position (λ (r : Receipt). r.number == c.args.number)) (sym c.as_slice.ensures.value) ∙ (sym c.position_of_receipt.ensures ∙ c.in_default.is))

pub returns-clause-items : goal.returns-clause-items
returns-clause-items c =
    one_answered c.args.number c.in-Some.place c.args.inbox.now.items c.index_mut.result.now c.answer.new.self c.requires (ap (position (λ (r : Receipt). r.number == c.args.number)) (sym c.as_slice.ensures.value) ∙ (sym c.position_of_receipt.ensures ∙ c.in-Some.is)) c.index_mut.ensures.value c.answer.ensures
