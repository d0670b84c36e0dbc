use Rattle.std.proofs.Common.{◌≡◌, None, List, map, rules, subst}
use Rattle.node_model.specs.declared.store.NewFile.{NewFile}
use Rattle.node_model.specs.StoreWords.{entry_of, slot_of}
use Rattle.node_model.specs.Stores.{StoreKept, Queue_all, Slots}
use Rattle.mem_store.specs.ListStates.{stand_of}
use Rattle.mem_store.proofs.QueuedStores.{queued_whole}
use Rattle.test_shared.proofs.hubs.queue_staged.Goals as goal

pub returns : goal.returns
returns c =
    let old = stand_of c.args.store.now in
    let new = stand_of c.queue_all.new.self in
    let slots = map slot_of c.in_ok-slots.slots.items in
    let unbroken : old.state.counts.broken ≡ None = search rules in
    let batch = c.is_batch.ensures c.if-not-is_batch.false in
    let kept = subst (λ (fs : List NewFile). StoreKept old (Queue_all None None (map entry_of fs)) (Slots slots) new) c.from_ref.ensures.value c.in_ok-slots.ensures.kept in
    λ few fits settings. queued_whole settings old new (entry_of c.args.file.now) slots unbroken batch few kept (fits settings)
