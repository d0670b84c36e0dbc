use Rattle.std.proofs.Common.{◌≡◌, ◌≤◌, None, rules}
use Rattle.std.proofs.lemmas.Result.{IfOk-weaker}
use Rattle.mem_store.specs.ListStates.{stand_of}
use Rattle.mem_store.proofs.QueuedStores.{staged_whole}
use Rattle.test_shared.proofs.hubs.queue_bytes.Goals as goal

pub returns : goal.returns
returns c =
    let old = stand_of c.args.store.now in
    let mid = stand_of c.stage.new.self in
    let number = c.in_ok-file.field-0 in
    let unbroken : old.state.counts.broken ≡ None = search rules in
    let few : number ≤ mid.state.staged = search rules in
    IfOk-weaker c.queue_staged.result _ _ (λ slots stays fits. stays few (λ settings. staged_whole settings old mid _ number unbroken c.in_ok-file.ensures.kept (fits settings))) c.queue_staged.ensures
