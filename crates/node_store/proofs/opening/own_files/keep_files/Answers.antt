use Rattle.std.proofs.Common.{inr, map}
use Rattle.disk_model.specs.Changes.{Every}
use Rattle.ledger_rec.specs.Items.{entry, part_mark, receipt}
use Rattle.node_store.specs.Keeping.{HasBadEntry, HasBadMark, HasBadReceipt}
use Rattle.node_store.specs.Worlds.{IsBadFile}
use Rattle.node_store.proofs.Kept.{finds_map, or_memory}
use Rattle.node_store.proofs.Looked.{bad_entry, bad_marked, bad_received}
use Rattle.node_store.proofs.opening.own_files.keep_files.Goals as goal

pub returns-in-Err-clause-bad : goal.returns-in-Err-clause-bad
returns-in-Err-clause-bad g c =
    let read = g.D.Disk.files c.keep_queue.new.disk in
    let s = c.args.folded.now.state in
    let es = map entry c.queue.result.now in
    inr (finds_map (HasBadEntry read es) (λ n. Every read (λ f. IsBadFile s f n)) (λ n. bad_entry read s es n c.queue.ensures) c.in-Err.fault c.in-Err.ensures.bad)

pub returns-in-Err-keep_marks-clause-bad : goal.returns-in-Err-keep_marks-clause-bad
returns-in-Err-keep_marks-clause-bad g c =
    let read = g.D.Disk.files c.keep_marks.new.disk in
    let s = c.args.folded.now.state in
    let ms = map part_mark c.marks.result.now in
    inr (finds_map (HasBadMark read ms) (λ n. Every read (λ f. IsBadFile s f n)) (λ n. bad_marked read s ms n c.marks.ensures) c.in-Err-keep_marks.fault c.in-Err-keep_marks.ensures.bad)

pub returns-in-Err-keep_inbox-clause-bad : goal.returns-in-Err-keep_inbox-clause-bad
returns-in-Err-keep_inbox-clause-bad g c =
    let read = g.D.Disk.files c.keep_inbox.new.disk in
    let s = c.args.folded.now.state in
    let rs = map receipt c.inbox.result.now in
    or_memory (HasBadReceipt read rs) (λ n. Every read (λ f. IsBadFile s f n)) (λ n. bad_received read s rs n c.inbox.ensures) c.in-Err-keep_inbox.fault c.in-Err-keep_inbox.ensures.bad
