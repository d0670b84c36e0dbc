use Rattle.std.proofs.Common.{◌≡◌, ◌+◌, List, ℕ, [], ◌∷◌, ◌++◌, map, drop, refl, sym, ◌∙◌, ap, subst, arith}
use Rattle.std.proofs.lemmas.List.{append-nil, append_assoc, drop_all, drop_more}
use Rattle.ledger_rec.specs.Batch.{queue_records}
use Rattle.ledger_rec.specs.Fold.{new_entry}
use Rattle.ledger_rec.specs.Items.{Entry}
use Rattle.ledger_rec.specs.Record.{NewFileText, new_file}
use Rattle.ledger_rec.specs.Spelling.{AreRecords, spelling}
use Rattle.node_model.specs.declared.store.NewFile.{NewFile}
use Rattle.node_model.specs.SendRows.{Slot}
use Rattle.node_model.specs.StoreWords.{FitsQueue, entry_of, slot_of}
use Rattle.node_store.specs.Planned.{fresh_in, queue_with, slots_in, queued_in, slot_with, fresh_with}
use Rattle.node_store.proofs.PlanLemmas.{all_at, next_queue, spelled_both, records_both}
use Rattle.node_store.proofs.Syncing.{all_mapped}
use Rattle.node_store.proofs.planning.plan_files.Goals as goal

pub add-requires-clause-fits : goal.add-requires-clause-fits
add-requires-clause-fits c =
    all_at (λ (f : NewFile). FitsQueue (entry_of f)) c.args.files.now c.loop-file.file-index c.file-item.result (all_mapped FitsQueue entry_of c.args.files.now c.requires) c.loop-file-test.true c.file-item.is

pub loop-file-init : goal.loop-file-init
loop-file-init c =
    let files = map entry_of c.args.files.now in
    let q = c.args.folded.now.state.queue in
    rw (c.new.ensures.items, c.new-2.ensures.items, c.new-3.ensures.items) (ap (slots_in files) (append-nil q), ap (fresh_in files) (append-nil q), refl, tt, c.new-index.ensures)

pub loop-file-preserved : goal.loop-file-preserved
loop-file-preserved c =
    let files = c.args.files.now in
    let i = c.loop-file.file-index in
    let x = c.file-item.result in
    let f = entry_of x in
    let inv = c.loop-file.invariant in
    let q = c.args.folded.now.state.queue in
    let fresh = map new_file c.loop-file.plan.fresh.items in
    let now = q ++ map new_entry fresh in
    let o = queued_in f.dest f.key now in
    let slots = map slot_of c.loop-file.plan.slots.items in
    let rest = map entry_of (drop (i + 1) files) in
    let left : map entry_of (drop i files) ≡ f ∷ rest = ap (map entry_of) (drop_more files i x c.loop-file-test.true ∙ ap (λ (y : NewFile). y ∷ drop (i + 1) files) (sym c.file-item.is)) in
    let more = c.in_ok-add.ensures.fresh in
    let next = next_queue f o q fresh in (
      ap (λ (l : List Slot). l ++ slots_in rest (q ++ map new_entry (map new_file c.add.new.self.fresh.items))) c.in_ok-add.ensures.slots
          ∙ ap (λ (l : List NewFileText). (slots ++ slot_with f o ∷ []) ++ slots_in rest (q ++ map new_entry l)) more
          ∙ ap (λ (l : List Entry). (slots ++ slot_with f o ∷ []) ++ slots_in rest l) (sym next)
          ∙ append_assoc slots (slot_with f o ∷ []) (slots_in rest (queue_with f o now))
          ∙ ap (λ l. slots ++ slots_in l now) (sym left) ∙ inv.0,
      ap (λ (l : List NewFileText). l ++ fresh_in rest (q ++ map new_entry l)) more
          ∙ ap (λ (l : List Entry). (fresh ++ fresh_with f o) ++ fresh_in rest l) (sym next)
          ∙ append_assoc fresh (fresh_with f o) (fresh_in rest (queue_with f o now))
          ∙ ap (λ l. fresh ++ fresh_in l now) (sym left) ∙ inv.1,
      c.in_ok-add.ensures.payloads ∙ ap (λ (l : List (List ℕ)). l ++ map spelling (queue_records (fresh_with f o))) inv.2 ∙ sym (spelled_both fresh (fresh_with f o)) ∙ ap (λ (l : List NewFileText). map spelling (queue_records l)) (sym more),
      subst (λ (l : List NewFileText). AreRecords (queue_records l)) (sym more) (records_both fresh (fresh_with f o) inv.3 c.in_ok-add.ensures.numbers),
      c.in_ok-add.ensures.index,
    )

pub returns-clause-slots : goal.returns-clause-slots
returns-clause-slots c =
    let now = c.args.folded.now.state.queue ++ map new_entry (map new_file c.loop-file.plan.fresh.items) in
    let slots = map slot_of c.loop-file.plan.slots.items in
    sym (append-nil slots) ∙ ap (λ (l : List NewFile). slots ++ slots_in (map entry_of l) now) (sym (drop_all c.loop-file.file-index c.args.files.now (omega arith))) ∙ c.loop-file.invariant.0

pub returns-clause-fresh : goal.returns-clause-fresh
returns-clause-fresh c =
    let fresh = map new_file c.loop-file.plan.fresh.items in
    let now = c.args.folded.now.state.queue ++ map new_entry fresh in
    sym (append-nil fresh) ∙ ap (λ (l : List NewFile). fresh ++ fresh_in (map entry_of l) now) (sym (drop_all c.loop-file.file-index c.args.files.now (omega arith))) ∙ c.loop-file.invariant.1
