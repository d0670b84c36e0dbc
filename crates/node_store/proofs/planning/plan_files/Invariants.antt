use Rattle.std.proofs.Common.{◌≡◌, ◌++◌, map, drop}
use Rattle.ledger_file.specs.Text.{lists}
use Rattle.ledger_rec.specs.Batch.{queue_records}
use Rattle.ledger_rec.specs.Fold.{new_entry}
use Rattle.ledger_rec.specs.Record.{new_file}
use Rattle.ledger_rec.specs.Spelling.{AreRecords, spelling}
use Rattle.node_model.specs.StoreWords.{entry_of, slot_of}
use Rattle.node_store.specs.Planned.{HasFiles, fresh_in, slots_in}
use Rattle.node_store.proofs.planning.plan_files.Given as goal

abbrev pub invariant-loop-file : goal.invariant-loop-file
invariant-loop-file l =
    (map slot_of l.plan.slots.items ++ slots_in (map entry_of (drop l.file-index l.files)) (l.folded.state.queue ++ map new_entry (map new_file l.plan.fresh.items)) ≡ slots_in (map entry_of l.files) (l.folded.state.queue))
    × (map new_file l.plan.fresh.items ++ fresh_in (map entry_of (drop l.file-index l.files)) (l.folded.state.queue ++ map new_entry (map new_file l.plan.fresh.items)) ≡ fresh_in (map entry_of l.files) (l.folded.state.queue))
    × (lists l.plan.payloads.items ≡ map spelling (queue_records (map new_file l.plan.fresh.items)))
    × AreRecords (queue_records (map new_file l.plan.fresh.items))
    × HasFiles l.index (map new_file l.plan.fresh.items)
