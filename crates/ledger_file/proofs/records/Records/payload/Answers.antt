use Rattle.std.proofs.Common.{rules, arith, ◌≡◌, ℕ, List, length, map, sym, ◌∙◌, ap}
use Rattle.std.specs.Prelude.{slice_get}
use Rattle.ledger_file.specs.Records.{payload_at}
use Rattle.ledger_file.proofs.RecordLemmas.{stands_there, payload_there}
use Rattle.ledger_file.proofs.records.Records.payload.Goals as goal

pub overflow_add-len : goal.overflow_add-len
overflow_add-len c =
    let ps = map (payload_at c.self.inside.text.list) c.self.inside.gates.items in
    let view : ps ≡ c.args.self.now.payloads = search rules in
    let there = stands_there ps c.self.inside.text.list c.self.inside.gates.items c.as_slice-text.result.now c.args.i c.index.result.now c.self.invariant (omega (arith, c.requires, ap length view)) c.index.ensures c.as_slice-text.ensures in
    grind (arith, there.high, there.low, there.whole, there.short)

pub bounds-text-gate : goal.bounds-text-gate
bounds-text-gate c =
    let ps = map (payload_at c.self.inside.text.list) c.self.inside.gates.items in
    let view : ps ≡ c.args.self.now.payloads = search rules in
    let there = stands_there ps c.self.inside.text.list c.self.inside.gates.items c.as_slice-text.result.now c.args.i c.index.result.now c.self.invariant (omega (arith, c.requires, ap length view)) c.index.ensures c.as_slice-text.ensures in
    grind (arith, there.high, there.low, there.whole, there.short)

pub overflow_add-len-2 : goal.overflow_add-len-2
overflow_add-len-2 c =
    let ps = map (payload_at c.self.inside.text.list) c.self.inside.gates.items in
    let view : ps ≡ c.args.self.now.payloads = search rules in
    let there = stands_there ps c.self.inside.text.list c.self.inside.gates.items c.as_slice-text.result.now c.args.i c.index.result.now c.self.invariant (omega (arith, c.requires, ap length view)) c.index.ensures c.as_slice-text.ensures in
    grind (arith, there.high, there.low, there.whole, there.short)

pub bounds-text-gate-2 : goal.bounds-text-gate-2
bounds-text-gate-2 c =
    let ps = map (payload_at c.self.inside.text.list) c.self.inside.gates.items in
    let view : ps ≡ c.args.self.now.payloads = search rules in
    let there = stands_there ps c.self.inside.text.list c.self.inside.gates.items c.as_slice-text.result.now c.args.i c.index.result.now c.self.invariant (omega (arith, c.requires, ap length view)) c.index.ensures c.as_slice-text.ensures in
    grind (arith, there.high, there.low, there.whole, there.short)

pub overflow_add-result : goal.overflow_add-result
overflow_add-result c =
    let ps = map (payload_at c.self.inside.text.list) c.self.inside.gates.items in
    let view : ps ≡ c.args.self.now.payloads = search rules in
    let there = stands_there ps c.self.inside.text.list c.self.inside.gates.items c.as_slice-text.result.now c.args.i c.index.result.now c.self.invariant (omega (arith, c.requires, ap length view)) c.index.ensures c.as_slice-text.ensures in
    grind (arith, there.high, there.low, there.whole, there.short)

pub overflow_add-result-2 : goal.overflow_add-result-2
overflow_add-result-2 c =
    let ps = map (payload_at c.self.inside.text.list) c.self.inside.gates.items in
    let view : ps ≡ c.args.self.now.payloads = search rules in
    let there = stands_there ps c.self.inside.text.list c.self.inside.gates.items c.as_slice-text.result.now c.args.i c.index.result.now c.self.invariant (omega (arith, c.requires, ap length view)) c.index.ensures c.as_slice-text.ensures in
    grind (arith, there.high, there.low, there.whole, there.short)

pub overflow_add-result-3 : goal.overflow_add-result-3
overflow_add-result-3 c =
    let ps = map (payload_at c.self.inside.text.list) c.self.inside.gates.items in
    let view : ps ≡ c.args.self.now.payloads = search rules in
    let there = stands_there ps c.self.inside.text.list c.self.inside.gates.items c.as_slice-text.result.now c.args.i c.index.result.now c.self.invariant (omega (arith, c.requires, ap length view)) c.index.ensures c.as_slice-text.ensures in
    grind (arith, there.high, there.low, there.whole, there.short)

pub slice_bounds-result-end : goal.slice_bounds-result-end
slice_bounds-result-end c =
    let ps = map (payload_at c.self.inside.text.list) c.self.inside.gates.items in
    let view : ps ≡ c.args.self.now.payloads = search rules in
    let there = stands_there ps c.self.inside.text.list c.self.inside.gates.items c.as_slice-text.result.now c.args.i c.index.result.now c.self.invariant (omega (arith, c.requires, ap length view)) c.index.ensures c.as_slice-text.ensures in
    grind (arith, there.high, there.low, there.whole, there.short)

pub returns : goal.returns
returns c =
    let ps = map (payload_at c.self.inside.text.list) c.self.inside.gates.items in
    let view : ps ≡ c.args.self.now.payloads = search rules in
    ap (λ (l : List (List ℕ)). slice_get l c.args.i) (sym view) ∙ payload_there ps c.self.inside.text.list c.self.inside.gates.items c.as_slice-text.result.now c.args.i c.index.result.now c.self.invariant (omega (arith, c.requires, ap length view)) c.index.ensures c.as_slice-text.ensures
