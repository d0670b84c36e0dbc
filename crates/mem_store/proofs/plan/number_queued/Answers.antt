use Rattle.std.proofs.Common.{Some, None, option_map, sym, ◌∙◌, ap}
use Rattle.ftn_addr.specs.Address.{address}
use Rattle.ftn_addr.specs.Files.{is_same}
use Rattle.ftn_addr.specs.Key.{key_of}
use Rattle.node_model.specs.Items.{Entry}
use Rattle.mem_store.proofs.Places.{found_at, found_none}
use Rattle.mem_store.proofs.Queueing.{queued_first, queued_second}
use Rattle.mem_store.proofs.plan.number_queued.Goals as goal

pub returns-in-Some : goal.returns-in-Some
returns-in-Some c =
    let dest = address c.args.file.now.dest in
    let key = key_of c.args.file.now.key in
    let x = c.index-queue-place.result in
    let found = found_at (λ (e : Entry). is_same dest key e.dest e.key) c.args.queue.now c.in-Some.place x (sym c.place_queued.ensures ∙ c.in-Some.is) c.index-queue-place.is in
    ap Some c.number.ensures ∙ ap (option_map (λ (e : Entry). e.number)) (sym (queued_first dest key c.args.queue.now c.args.fresh.now x found))

pub returns-in-Some-place_queued : goal.returns-in-Some-place_queued
returns-in-Some-place_queued c =
    let dest = address c.args.file.now.dest in
    let key = key_of c.args.file.now.key in
    let x = c.index-fresh-place.result in
    let none = found_none (λ (e : Entry). is_same dest key e.dest e.key) c.args.queue.now (sym c.place_queued.ensures ∙ c.in_default.is) in
    let found = found_at (λ (e : Entry). is_same dest key e.dest e.key) c.args.fresh.now c.in-Some-place_queued.place x (sym c.place_queued-2.ensures ∙ c.in-Some-place_queued.is) c.index-fresh-place.is in
    ap Some c.number-in-Some-place_queued.ensures ∙ ap (option_map (λ (e : Entry). e.number)) (sym (queued_second dest key c.args.queue.now c.args.fresh.now (Some x) none found))

pub returns-in-None : goal.returns-in-None
returns-in-None c =
    let dest = address c.args.file.now.dest in
    let key = key_of c.args.file.now.key in
    let none = found_none (λ (e : Entry). is_same dest key e.dest e.key) c.args.queue.now (sym c.place_queued.ensures ∙ c.in_default.is) in
    let none_fresh = found_none (λ (e : Entry). is_same dest key e.dest e.key) c.args.fresh.now (sym c.place_queued-2.ensures ∙ c.in-None.is) in
    ap (option_map (λ (e : Entry). e.number)) (sym (queued_second dest key c.args.queue.now c.args.fresh.now None none none_fresh))
