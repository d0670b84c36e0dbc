use Rattle.std.proofs.Common.{◌≡◌, ℕ, List, ◌++◌, length, map, ◌∙◌, ap, subst, arith}
use Rattle.std.proofs.lemmas.List.{length-map}
use Rattle.node_model.specs.declared.store.StoreFault.TheVariants.{Full}
use Rattle.node_model.specs.Durable.{all_answered}
use Rattle.node_model.specs.Lists.{without}
use Rattle.node_model.specs.Node.{Record}
use Rattle.node_model.specs.Rows.{all_by}
use Rattle.node_model.specs.Stocks.{StagedOf, entry_records, is_listed, queue_each, slots_of}
use Rattle.node_model.specs.Stores.{StoreKept, Queue_all, Refuses, with_take}
use Rattle.node_model.specs.StoreWords.{entry_of, slot_of}
use Rattle.mem_store.specs.ListStates.{ListState, found_full, stand_of}
use Rattle.mem_store.specs.contracts.list_store.ListStore.{the_view}
use Rattle.mem_store.proofs.Kept.{from_called}
use Rattle.mem_store.proofs.QueueCall.{records_for, queues, queues_full, order_queue, fresh_joined, seen_batch, keys_fit, records_are}
use Rattle.mem_store.proofs.store_calls.ListStoreStore.queue_all.Goals as goal

pub plan_all-requires : goal.plan_all-requires
plan_all-requires c = keys_fit _ _ _ _ c.requires.batch

pub returns-then-held-len-clause-kept : goal.returns-then-held-len-clause-kept
returns-then-held-len-clause-kept c =
    let s = the_view c.self.inside in
    let files = map entry_of c.args.files.now in
    let records = records_are s c.args.take c.args.answered files c.in_ok-slots.field-0.records.items c.record_take.new.records.items c.record_answer.new.records.items (c.in_ok-slots.ensures.records ∙ (λ j. all_by s.seat (entry_records files (slots_of files (c.as_slice-staged.ensures.value j) (c.as_slice-queue.ensures.value j))))) c.in_ok-record_take.ensures c.in_ok-record_answer.ensures in
    let long : length c.record_answer.new.records.items ≡ length (records_for c.args.take c.args.answered files s) = ap length records ∙ length-map (records_for c.args.take c.args.answered files s) (λ (r : Record). record { seat = s.seat; entry = r }) in
    rw (c.find_full.ensures.full, c.find_full.ensures.after) (subst (λ (z : ListState). StoreKept (stand_of c.args.self.now) (Queue_all c.args.take c.args.answered files) (Refuses Full) (stand_of (found_full z))) c.self.view_is (from_called _ _ _ _ _ (c.self.view_is ∙ c.in_ok-count_call.ensures.ok) (queues_full s c.args.take c.args.answered files (omega (arith, c.if-held-len.true, c.len.ensures, c.len-2.ensures, c.from.ensures, c.from-2.ensures, long, c.self.inside.log.ok.0, c.record_answer.new.records.ok.0)))))

pub invariant_of-self-2 : goal.invariant_of-self-2
invariant_of-self-2 c =
    let s = the_view c.self.inside in
    let files = map entry_of c.args.files.now in
    let queue : c.put_all.new.list.items ≡ queue_each files s.staged s.queue = fresh_joined files s.staged c.as_slice-staged.result.now s.queue c.as_slice-queue.result.now c.make_room.new.list.items c.put_all.new.list.items c.in_ok-slots.field-0.fresh.items c.as_slice-staged.ensures.value c.as_slice-queue.ensures.value c.make_room.ensures.items c.put_all.ensures.items c.in_ok-slots.ensures.fresh in
    let inbox : c.answer.new.inbox.items ≡ all_answered c.args.answered s.inbox = c.answer.ensures.items in (
      rw (queue, inbox) (order_queue s c.args.take c.args.answered files c.self.invariant.0 (seen_batch _ _ c.args.take c.args.answered files (c.self.view_is ∙ c.in_ok-count_call.ensures.ok) c.requires.batch)),
      record {
        receipts = omega (arith, c.self.invariant.1.receipts, c.answer.ensures.len, c.answer.ensures.capacity);
        records = omega (arith, c.self.invariant.1.records, c.put_all-2.ensures.len, c.put_all-2.ensures.capacity, c.in_ok-make_room-3.ensures.ok, c.len-4.ensures);
        places_left = c.self.invariant.1.places_left;
      },
    )

pub returns-clause-kept : goal.returns-clause-kept
returns-clause-kept c =
    let s = the_view c.self.inside in
    let files = map entry_of c.args.files.now in
    let records = records_are s c.args.take c.args.answered files c.in_ok-slots.field-0.records.items c.record_take.new.records.items c.record_answer.new.records.items (c.in_ok-slots.ensures.records ∙ (λ j. all_by s.seat (entry_records files (slots_of files (c.as_slice-staged.ensures.value j) (c.as_slice-queue.ensures.value j))))) c.in_ok-record_take.ensures c.in_ok-record_answer.ensures in
    let long : length c.record_answer.new.records.items ≡ length (records_for c.args.take c.args.answered files s) = ap length records ∙ length-map (records_for c.args.take c.args.answered files s) (λ (r : Record). record { seat = s.seat; entry = r }) in
    let slots : map slot_of c.in_ok-slots.field-0.slots.items ≡ slots_of files s.staged s.queue = c.in_ok-slots.ensures.slots ∙ (λ j. slots_of files (c.as_slice-staged.ensures.value j) (c.as_slice-queue.ensures.value j)) in
    let queue : c.put_all.new.list.items ≡ queue_each files s.staged s.queue = fresh_joined files s.staged c.as_slice-staged.result.now s.queue c.as_slice-queue.result.now c.make_room.new.list.items c.put_all.new.list.items c.in_ok-slots.field-0.fresh.items c.as_slice-staged.ensures.value c.as_slice-queue.ensures.value c.make_room.ensures.items c.put_all.ensures.items c.in_ok-slots.ensures.fresh in
    let inbox : c.answer.new.inbox.items ≡ all_answered c.args.answered s.inbox = c.answer.ensures.items in
    let log : c.put_all-2.new.list.items ≡ s.log ++ all_by s.seat (records_for c.args.take c.args.answered files s) = c.put_all-2.ensures.items ∙ (λ j. c.make_room-3.ensures.items j ++ records j) in
    let recorded : c.note_take.new.recorded.items ≡ with_take c.args.take s.recorded = c.note_take.ensures ∙ ap (with_take c.args.take) c.make_room-2.ensures.items in
    let staged : c.unstage.new.staged.items ≡ without (λ (x : StagedOf (List ℕ)). is_listed files x) s.staged = c.unstage.ensures in
    rw (queue, inbox, log, recorded, staged, slots) (from_called _ _ _ _ _ (c.self.view_is ∙ c.in_ok-count_call.ensures.ok) (queues s c.args.take c.args.answered files (omega (arith, c.if-held-len.false, c.len.ensures, c.len-2.ensures, c.from.ensures, c.from-2.ensures, long, c.self.inside.log.ok.0, c.record_answer.new.records.ok.0))))
