use Rattle.std.proofs.Common.{◌∙◌, None, Option, sym, subst}
use Rattle.ftn_addr.specs.Address.{address}
use Rattle.node_model.specs.StoreStates.{StoreStand}
use Rattle.node_store.specs.Stored.{Holding, stand_of}
use Rattle.outbound_desk.proofs.EachPeer.{none_is, none_unless}
use Rattle.take_steps.specs.declared.wanting.Wanting.{Wanting}
use Rattle.outbound_desk.specs.Lines.{TakesIn}
use Rattle.outbound_desk.proofs.Taking.{takes_none, takes_then}
use Rattle.ftn_addr.specs.Limits.{IsAddress}
use Rattle.outbound_desk.proofs.EachPeer.{first_there}
use Rattle.outbound_desk.proofs.requests.answer_senders.Goals as goal

pub returns-in_default : goal.returns-in_default
returns-in_default g c =
    let St : Holding g.row.D.Denot → StoreStand = λ s. stand_of g.D.Disk.tells g.D.Disk.content g.D.Disk.fault_count g.D.Disk.moment g.D.Disk.images s in
    takes_none (St c.args.store.now) c.requires.whole

pub loop-from-init : goal.loop-from-init
loop-from-init g c =
    let St : Holding g.row.D.Denot → StoreStand = λ s. stand_of g.D.Disk.tells g.D.Disk.content g.D.Disk.fault_count g.D.Disk.moment g.D.Disk.images s in
    record { takes = takes_none (St c.args.store.now) c.requires.whole; whole = c.requires.whole }

pub answer_sender-requires-clause-dest : goal.answer_sender-requires-clause-dest
answer_sender-requires-clause-dest g c =
    first_there address IsAddress c.args.senders.now c.in-Some.dest.now c.requires.limits c.in-Some.ensures.value

pub returns-in-Some-answer_sender : goal.returns-in-Some-answer_sender
returns-in-Some-answer_sender g c =
    let St : Holding g.row.D.Denot → StoreStand = λ s. stand_of g.D.Disk.tells g.D.Disk.content g.D.Disk.fault_count g.D.Disk.moment g.D.Disk.images s in
    takes_then (St c.args.store.now) (St c.loop-from.store) (St c.answer_sender.new.store) _ c.loop-from.invariant.whole c.loop-from.invariant.takes (subst (λ (o : Option Wanting). TakesIn (St c.loop-from.store) (St c.answer_sender.new.store) o) c.in-Some-answer_sender.is c.answer_sender.ensures)

pub returns-then-is_some : goal.returns-then-is_some
returns-then-is_some g c =
    let St : Holding g.row.D.Denot → StoreStand = λ s. stand_of g.D.Disk.tells g.D.Disk.content g.D.Disk.fault_count g.D.Disk.moment g.D.Disk.images s in
    takes_then (St c.args.store.now) (St c.loop-from.store) (St c.answer_sender.new.store) None c.loop-from.invariant.whole c.loop-from.invariant.takes (subst (λ (o : Option Wanting). TakesIn (St c.loop-from.store) (St c.answer_sender.new.store) o) (none_unless c.answer_sender.result c.in_default-answer_sender.not-Some) c.answer_sender.ensures)

pub loop-from-preserved : goal.loop-from-preserved
loop-from-preserved g c =
    let St : Holding g.row.D.Denot → StoreStand = λ s. stand_of g.D.Disk.tells g.D.Disk.content g.D.Disk.fault_count g.D.Disk.moment g.D.Disk.images s in
    record { takes = takes_then (St c.args.store.now) (St c.loop-from.store) (St c.answer_sender.new.store) None c.loop-from.invariant.whole c.loop-from.invariant.takes (subst (λ (o : Option Wanting). TakesIn (St c.loop-from.store) (St c.answer_sender.new.store) o) (none_unless c.answer_sender.result c.in_default-answer_sender.not-Some) c.answer_sender.ensures); whole = sym c.broken.ensures ∙ none_is c.broken.result (sym c.is_some.ensures ∙ c.if-is_some.false) }
