use Rattle.std.proofs.Common.{◌≡◌, ◌+◌, ◌<◌, suc, length, subst, add-one, drop-cons, List, ◌∷◌, ◌++◌, map, drop, sym, ap}
use Rattle.ftn_addr.specs.Limits.{IsKey}
use Rattle.node_model.specs.declared.store.NewFile.{NewFile}
use Rattle.node_model.specs.Stocks.{NewEntry}
use Rattle.node_model.specs.StoreWords.{entry_of, slot_of}
use Rattle.mem_store.proofs.Places.{each_seen_at}
use Rattle.mem_store.proofs.Queueing.{Planned, planned_more}
use Rattle.mem_store.proofs.plan.plan_all.Goals as goal

pub add-requires : goal.add-requires
add-requires c =
    each_seen_at (λ (f : NewEntry). IsKey f.key) entry_of c.args.files.now c.loop-file.file-index c.file-item.result c.requires c.loop-file-test.true c.file-item.is

pub loop-file-preserved : goal.loop-file-preserved
loop-file-preserved c =
    let files = c.args.files.now in
    let i = c.loop-file.file-index in
    let item = c.file-item.result in
    let lt : i < length files = c.loop-file-test.true in
    let head : drop i files ≡ item ∷ drop (i + 1) files = rw (add-one, drop-cons files i item) (ap (λ (x : NewFile). x ∷ drop (suc i) files) (sym c.file-item.is)) in
    let before : Planned c.args.seat (map entry_of files) (entry_of item ∷ map entry_of (drop (i + 1) files)) c.args.staged.now c.args.queue.now (c.args.queue.now ++ c.loop-file.plan.fresh.items) (map slot_of c.loop-file.plan.slots.items) c.loop-file.plan.records.items =
    subst (λ (rest : List NewEntry). Planned c.args.seat (map entry_of files) rest c.args.staged.now c.args.queue.now (c.args.queue.now ++ c.loop-file.plan.fresh.items) (map slot_of c.loop-file.plan.slots.items) c.loop-file.plan.records.items) (ap (map entry_of) head) c.loop-file.invariant in
    planned_more _ _ _ _ _ _ _ _ _ _ _ _ before c.in_ok-add.ensures.fresh c.in_ok-add.ensures.slots c.in_ok-add.ensures.records
