use Rattle.std.proofs.Common.{List, map, sym, ◌∙◌, ap}
use Rattle.std.specs.Prelude.{find, option_map}
use Rattle.ftn_addr.specs.Address.{address}
use Rattle.ftn_addr.specs.Files.{is_same}
use Rattle.ftn_addr.specs.Key.{key_of}
use Rattle.ledger_rec.specs.Fold.{new_entry}
use Rattle.ledger_rec.specs.Indexed.{is_queued}
use Rattle.ledger_rec.specs.Items.{Entry}
use Rattle.ledger_rec.specs.Record.{new_file}
use Rattle.node_store.proofs.PlanLemmas.{found_behind, found_in_front, not_found}
use Rattle.node_store.proofs.planning.number_in.Goals as goal

pub returns-then-is_queued : goal.returns-then-is_queued
returns-then-is_queued c =
    let q = c.args.folded.now.state.queue in
    let more = map new_entry (map new_file c.args.fresh.now) in
    let p = λ (e : Entry). is_same (address c.args.file.now.dest) (key_of c.args.file.now.key) e.dest e.key in
    c.number_queued.ensures
    ∙ ap (λ (l : List Entry). option_map (λ (e : Entry). e.number) (find p l)) c.queue.ensures
    ∙ ap (option_map (λ (e : Entry). e.number)) (found_in_front p q more (sym c.is_queued.ensures ∙ c.if-is_queued.true))

pub returns-in-Some-false : goal.returns-in-Some-false
returns-in-Some-false c =
    let q = c.args.folded.now.state.queue in
    let more = map new_entry (map new_file c.args.fresh.now) in
    let p = λ (e : Entry). is_same (address c.args.file.now.dest) (key_of c.args.file.now.key) e.dest e.key in
    let planned = c.in-Some-false.ensures (λ dest key. is_queued dest key more) c.requires in
    ap (option_map (λ (e : Entry). e.number)) (not_found p more (sym planned ∙ c.in-Some-false.field-0-test) ∙ sym (found_behind p q more (sym (not_found p q (sym c.is_queued.ensures ∙ c.if-is_queued.false)))))

pub returns-in-Some-true : goal.returns-in-Some-true
returns-in-Some-true c =
    let q = c.args.folded.now.state.queue in
    let more = map new_entry (map new_file c.args.fresh.now) in
    let p = λ (e : Entry). is_same (address c.args.file.now.dest) (key_of c.args.file.now.key) e.dest e.key in
    c.number_fresh.ensures ∙ ap (option_map (λ (e : Entry). e.number)) (sym (found_behind p q more (sym (not_found p q (sym c.is_queued.ensures ∙ c.if-is_queued.false)))))
