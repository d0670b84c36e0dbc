use Rattle.std.proofs.Common.{arith, ◌≡◌, ◌+◌, ◌<◌, List, ◌∷◌, length, drop, sym, ◌∙◌, ap, length-append}
use Rattle.std.proofs.lemmas.List.{drop_more, length-map}
use Rattle.ftn_addr.specs.Content.{Content}
use Rattle.ledger_file.specs.Text.{lists, records}
use Rattle.ledger_file.proofs.RecordLemmas.{length-records}
use Rattle.ledger_file.proofs.records.bytes_of.Goals as goal

pub overflow_add-bytes-in-loop-payload : goal.overflow_add-bytes-in-loop-payload
overflow_add-bytes-in-loop-payload c =
    let xs = c.args.payloads.now in
    let i = c.loop-payload.payload-index in
    let x = c.payload-item.result in
    let within : i < length xs = omega arith in
    let split : drop i xs ≡ x ∷ drop (i + 1) xs = drop_more xs i x within ∙ ap (λ (y : Content). y ∷ drop (i + 1) xs) (sym c.payload-item.is) in
    let left = ap (λ (l : List Content). length (records (lists l))) split in
    omega (arith, left, c.loop-payload.invariant.sum, c.len.ensures, length-append x.list (records (lists (drop (i + 1) xs))), length-records (lists xs) c.requires.sizes, length-map xs (λ (b : Content). b.list), c.requires.few)
