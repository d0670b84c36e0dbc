use Rattle.std.proofs.Common.{◌∙◌, None, Option, sym, subst}
use Rattle.node_model.specs.StoreStates.{StoreStand}
use Rattle.node_store.specs.Stored.{Holding, stand_of}
use Rattle.outbound_desk.proofs.EachPeer.{none_is}
use Rattle.take_steps.specs.declared.wanting.Wanting.{Wanting}
use Rattle.outbound_desk.specs.Lines.{TakesIn}
use Rattle.outbound_desk.proofs.AnswerKept.{answers_takes}
use Rattle.outbound_desk.proofs.Taking.{takes_none, takes_then}
use Rattle.outbound_desk.proofs.requests.answer_sender.Goals as goal

pub loop-receipt-init : goal.loop-receipt-init
loop-receipt-init g c =
    let St : Holding g.row.D.Denot → StoreStand = λ s. stand_of g.D.Disk.tells g.D.Disk.content g.D.Disk.fault_count g.D.Disk.moment g.D.Disk.images s in
    record { takes = takes_none (St c.args.store.now) c.requires.whole; whole = c.requires.whole }

pub returns-in-Err : goal.returns-in-Err
returns-in-Err g c =
    let St : Holding g.row.D.Denot → StoreStand = λ s. stand_of g.D.Disk.tells g.D.Disk.content g.D.Disk.fault_count g.D.Disk.moment g.D.Disk.images s in
    subst (λ (o : Option Wanting). TakesIn (St c.args.store.now) (St c.answer.new.store) o) (sym c.want_of.ensures) (takes_then (St c.args.store.now) (St c.loop-receipt.store) (St c.answer.new.store) _ c.loop-receipt.invariant.whole c.loop-receipt.invariant.takes (answers_takes (St c.loop-receipt.store) (St c.answer.new.store) _ c.in-Err.ensures.answers))

pub returns-then-is_some : goal.returns-then-is_some
returns-then-is_some g c =
    let St : Holding g.row.D.Denot → StoreStand = λ s. stand_of g.D.Disk.tells g.D.Disk.content g.D.Disk.fault_count g.D.Disk.moment g.D.Disk.images s in
    takes_then (St c.args.store.now) (St c.loop-receipt.store) (St c.answer.new.store) None c.loop-receipt.invariant.whole c.loop-receipt.invariant.takes (answers_takes (St c.loop-receipt.store) (St c.answer.new.store) None c.in-Ok.ensures.answers)

pub loop-receipt-preserved : goal.loop-receipt-preserved
loop-receipt-preserved g c =
    let St : Holding g.row.D.Denot → StoreStand = λ s. stand_of g.D.Disk.tells g.D.Disk.content g.D.Disk.fault_count g.D.Disk.moment g.D.Disk.images s in
    record { takes = takes_then (St c.args.store.now) (St c.loop-receipt.store) (St c.answer.new.store) None c.loop-receipt.invariant.whole c.loop-receipt.invariant.takes (answers_takes (St c.loop-receipt.store) (St c.answer.new.store) None c.in-Ok.ensures.answers); whole = sym c.broken.ensures ∙ none_is c.broken.result (sym c.is_some.ensures ∙ c.if-is_some.false) }
