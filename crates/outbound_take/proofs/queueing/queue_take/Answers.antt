use Rattle.std.proofs.Common.{◌∙◌, List, [], ◌∷◌, Some, Ok, Err, map, ap, sym}
use Rattle.ftn_addr.specs.Address.{address}
use Rattle.node_model.specs.StoreWords.{entry_of, slot_of}
use Rattle.outbound_model.specs.declared.fate.Fate.{Fate}
use Rattle.outbound_take.specs.Calls.{bodies_of}
use Rattle.outbound_take.proofs.OurLemmas.{our_on, our_files, match_none, match_some}
use Rattle.outbound_take.proofs.QueueLemmas.{our_queue, plan_of_slice, fates_are}
use Rattle.outbound_take.proofs.RuledLemmas.{ruled_call}
use Rattle.outbound_take.proofs.SpareLemmas.{queued_spare, so_none}
use Rattle.outbound_take.proofs.queueing.queue_take.Goals as goal

pub returns-in-Err-clause-works : goal.returns-in-Err-clause-works
returns-in-Err-clause-works g c = (c.in-Err.ensures.works.0, c.in-Err.ensures.works.1)

pub returns-in-Ok-None-clause-works : goal.returns-in-Ok-None-clause-works
returns-in-Ok-None-clause-works g c = c.in-Ok-None.ensures.works

pub returns-in-Ok-None-clause-spares : goal.returns-in-Ok-None-clause-spares
returns-in-Ok-None-clause-spares g c = so_none _ _ (c.in-Ok-None.ensures.told tt)

pub returns-in-Ok-None-clause-over : goal.returns-in-Ok-None-clause-over
returns-in-Ok-None-clause-over g c = record { whole = match_none _ _ _ c.in-Ok-None.field-0-is c.in-Ok-None.ensures.over; over = λ s tells. match_none _ _ _ c.in-Ok-None.field-0-is (c.in-Ok-None.ensures.planned s (sym (c.in-Ok-None.ensures.told tt) ∙ tells)) }

pub returns-in-Ok-fates_of-clause-spares : goal.returns-in-Ok-fates_of-clause-spares
returns-in-Ok-fates_of-clause-spares g c =
    queued_spare (bodies_of (g.S.Outgoing.stand c.plan_take.new.store).content) c.args.own.now (map entry_of c.as_slice.result.now) (map slot_of c.in-Ok.slots.items) _ _ _ (c.in-Ok-Some.ensures.told tt) c.in-Ok.ensures.kept

pub returns-in-Err-queue_all-clause-works : goal.returns-in-Err-queue_all-clause-works
returns-in-Err-queue_all-clause-works g c =
    let q = our_queue (address c.args.dest.now) c.args.now c.args.kind c.args.own.now (bodies_of (g.S.Outgoing.stand c.plan_take.new.store).content) c.in-Ok-Some.plans.lines.items (map entry_of c.as_slice.result.now) (Err c.in-Err-queue_all.fault) _ _ c.requires.named
    (plan_of_slice c.args.kind (address c.args.dest.now) c.args.now c.args.own.now _ _ (bodies_of (g.S.Outgoing.stand c.plan_take.new.store).content) c.in-Ok-Some.plans.lines.items c.in-Ok-Some.plans.files.items c.as_slice.result.now (c.in-Ok-Some.ensures.told tt) c.as_slice.ensures.value (λ s tells. match_some _ _ _ _ c.in-Ok-Some.field-0-is (c.in-Ok-Some.ensures.planned s tells)))
    c.in-Err-queue_all.ensures.kept in
    (q.0, our_on _ _ _ _ _ _ _ _ _ c.in-Ok-Some.ensures.works tt q.1)

pub returns-in-Ok-fates_of-clause-works : goal.returns-in-Ok-fates_of-clause-works
returns-in-Ok-fates_of-clause-works g c =
    let q = our_queue (address c.args.dest.now) c.args.now c.args.kind c.args.own.now (bodies_of (g.S.Outgoing.stand c.plan_take.new.store).content) c.in-Ok-Some.plans.lines.items (map entry_of c.as_slice.result.now) (Ok (map slot_of c.in-Ok.slots.items)) _ _ c.requires.named
    (plan_of_slice c.args.kind (address c.args.dest.now) c.args.now c.args.own.now _ _ (bodies_of (g.S.Outgoing.stand c.plan_take.new.store).content) c.in-Ok-Some.plans.lines.items c.in-Ok-Some.plans.files.items c.as_slice.result.now (c.in-Ok-Some.ensures.told tt) c.as_slice.ensures.value (λ s tells. match_some _ _ _ _ c.in-Ok-Some.field-0-is (c.in-Ok-Some.ensures.planned s tells)))
    c.in-Ok.ensures.kept in
    our_files _ _ _ _ _ _ _
    (ap (λ (fs : List Fate). (Some c.args.kind, fs) ∷ []) (sym (fates_are c.in-Ok-fates_of.fates.items _ c.in-Ok-Some.plans.lines.items _ c.in-Ok.slots.items c.in-Ok-fates_of.ensures c.as_slice-2.ensures.value c.as_slice-3.ensures.value)))
    (our_on _ _ _ _ _ _ _ _ _ c.in-Ok-Some.ensures.works tt q)

pub returns-clause-works : goal.returns-clause-works
returns-clause-works g c =
    let q = our_queue (address c.args.dest.now) c.args.now c.args.kind c.args.own.now (bodies_of (g.S.Outgoing.stand c.plan_take.new.store).content) c.in-Ok-Some.plans.lines.items (map entry_of c.as_slice.result.now) (Ok (map slot_of c.in-Ok.slots.items)) _ _ c.requires.named
    (plan_of_slice c.args.kind (address c.args.dest.now) c.args.now c.args.own.now _ _ (bodies_of (g.S.Outgoing.stand c.plan_take.new.store).content) c.in-Ok-Some.plans.lines.items c.in-Ok-Some.plans.files.items c.as_slice.result.now (c.in-Ok-Some.ensures.told tt) c.as_slice.ensures.value (λ s tells. match_some _ _ _ _ c.in-Ok-Some.field-0-is (c.in-Ok-Some.ensures.planned s tells)))
    c.in-Ok.ensures.kept in
    (_, our_on _ _ _ _ _ _ _ _ _ c.in-Ok-Some.ensures.works tt q)

pub returns-in-Err-queue_all-clause-ruled : goal.returns-in-Err-queue_all-clause-ruled
returns-in-Err-queue_all-clause-ruled g c = ruled_call _ _ _ _ c.in-Ok-Some.ensures.ruled c.in-Err-queue_all.ensures.rule

pub returns-in-Ok-fates_of-clause-ruled : goal.returns-in-Ok-fates_of-clause-ruled
returns-in-Ok-fates_of-clause-ruled g c = ruled_call _ _ _ _ c.in-Ok-Some.ensures.ruled c.in-Ok.ensures.rule

pub returns-clause-ruled : goal.returns-clause-ruled
returns-clause-ruled g c = ruled_call _ _ _ _ c.in-Ok-Some.ensures.ruled c.in-Ok.ensures.rule
